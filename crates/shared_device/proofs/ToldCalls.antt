-- Calls are told apart by numbers.
use Rattle.std.proofs.Common.{◌≡◌, ℕ, List, [], ◌∷◌, length, refl, ap, arith}
use Rattle.cci_codec.specs.declared.messages.{Request.Request, Response.Response}
use Rattle.dcd_base.specs.declared.failures.AccessFault.{AccessFault}
use Rattle.block_shard.specs.journal_core.specs.{declared.acts.Act.Act, declared.acts.Reply.Reply, declared.entries.Entry.Entry, Merging.call_of}

-- all numbers of a and b are the same
abbrev pub Alike : {X : Type 0} → X → X → Type 0
Alike {X} a b = (h : X → ℕ) → h a ≡ h b

abbrev head_of : List ℕ → ℕ
head_of [] = 0
head_of (x ∷ xs) = x

abbrev rest_of : List ℕ → List ℕ
rest_of [] = []
rest_of (x ∷ xs) = xs

same_list : (xs ys : List ℕ) → Alike xs ys → xs ≡ ys
same_list [] [] k = refl
same_list [] (y ∷ ys) k = absurd (let q = k length in omega (arith, q))
same_list (x ∷ xs) [] k = absurd (let q = k length in omega (arith, q))
same_list (x ∷ xs) (y ∷ ys) k = λ i. k head_of i ∷ same_list xs ys (λ h. k (λ l. h (rest_of l))) i

same_request : (a b : Request) → Alike a b → a ≡ b
same_request a b k = λ i. record { tag = k (λ q. q.tag) i; opcode = k (λ q. q.opcode) i; payload = same_list a.payload b.payload (λ h. k (λ q. h q.payload)) i }

same_response : (a b : Response) → Alike a b → a ≡ b
same_response a b k = λ i. record { tag = k (λ q. q.tag) i; opcode = k (λ q. q.opcode) i; code = k (λ q. q.code) i; payload = same_list a.payload b.payload (λ h. k (λ q. h q.payload)) i }

-- the number of a variant, and what it holds
abbrev act_kind : Act → ℕ
act_kind (Act.Command q) = 0
act_kind (Act.Load d) = 1
act_kind (Act.Store d v) = 2
act_kind (Act.Scrub n) = 3

abbrev in_command : (Request → ℕ) → Act → ℕ
in_command h (Act.Command q) = h q
in_command h a = 0

abbrev first_of_act : Act → ℕ
first_of_act (Act.Load d) = d
first_of_act (Act.Store d v) = d
first_of_act (Act.Scrub n) = n
first_of_act a = 0

abbrev second_of_act : Act → ℕ
second_of_act (Act.Store d v) = v
second_of_act a = 0

same_act : (a b : Act) → Alike a b → a ≡ b
same_act (Act.Command q) (Act.Command r) k = ap Act.Command (same_request q r (λ h. k (in_command h)))
same_act (Act.Load d) (Act.Load e) k = ap Act.Load (k first_of_act)
same_act (Act.Store d v) (Act.Store e w) k = λ i. Act.Store (k first_of_act i) (k second_of_act i)
same_act (Act.Scrub n) (Act.Scrub m) k = ap Act.Scrub (k first_of_act)
same_act (Act.Command q) (Act.Load e) k = absurd (let z = k act_kind in omega (arith, z))
same_act (Act.Command q) (Act.Store e w) k = absurd (let z = k act_kind in omega (arith, z))
same_act (Act.Command q) (Act.Scrub m) k = absurd (let z = k act_kind in omega (arith, z))
same_act (Act.Load d) (Act.Command r) k = absurd (let z = k act_kind in omega (arith, z))
same_act (Act.Load d) (Act.Store e w) k = absurd (let z = k act_kind in omega (arith, z))
same_act (Act.Load d) (Act.Scrub m) k = absurd (let z = k act_kind in omega (arith, z))
same_act (Act.Store d v) (Act.Command r) k = absurd (let z = k act_kind in omega (arith, z))
same_act (Act.Store d v) (Act.Load e) k = absurd (let z = k act_kind in omega (arith, z))
same_act (Act.Store d v) (Act.Scrub m) k = absurd (let z = k act_kind in omega (arith, z))
same_act (Act.Scrub n) (Act.Command r) k = absurd (let z = k act_kind in omega (arith, z))
same_act (Act.Scrub n) (Act.Load e) k = absurd (let z = k act_kind in omega (arith, z))
same_act (Act.Scrub n) (Act.Store e w) k = absurd (let z = k act_kind in omega (arith, z))

abbrev fault_kind : AccessFault → ℕ
fault_kind AccessFault.Misaligned = 0
fault_kind AccessFault.OutsideRegions = 1
fault_kind AccessFault.NotGranted = 2

same_fault : (a b : AccessFault) → fault_kind a ≡ fault_kind b → a ≡ b
same_fault AccessFault.Misaligned AccessFault.Misaligned k = refl
same_fault AccessFault.OutsideRegions AccessFault.OutsideRegions k = refl
same_fault AccessFault.NotGranted AccessFault.NotGranted k = refl
same_fault AccessFault.Misaligned AccessFault.OutsideRegions k = absurd (omega (arith, k))
same_fault AccessFault.Misaligned AccessFault.NotGranted k = absurd (omega (arith, k))
same_fault AccessFault.OutsideRegions AccessFault.Misaligned k = absurd (omega (arith, k))
same_fault AccessFault.OutsideRegions AccessFault.NotGranted k = absurd (omega (arith, k))
same_fault AccessFault.NotGranted AccessFault.Misaligned k = absurd (omega (arith, k))
same_fault AccessFault.NotGranted AccessFault.OutsideRegions k = absurd (omega (arith, k))

abbrev reply_kind : Reply → ℕ
reply_kind (Reply.Answer r) = 0
reply_kind (Reply.Word v) = 1
reply_kind Reply.Stored = 2
reply_kind (Reply.Refused f) = 3
reply_kind (Reply.Scrubbed n) = 4

abbrev in_answer : (Response → ℕ) → Reply → ℕ
in_answer h (Reply.Answer r) = h r
in_answer h a = 0

abbrev first_of_reply : Reply → ℕ
first_of_reply (Reply.Word v) = v
first_of_reply (Reply.Refused f) = fault_kind f
first_of_reply (Reply.Scrubbed n) = n
first_of_reply a = 0

same_reply : (a b : Reply) → Alike a b → a ≡ b
same_reply (Reply.Answer r) (Reply.Answer s) k = ap Reply.Answer (same_response r s (λ h. k (in_answer h)))
same_reply (Reply.Word v) (Reply.Word w) k = ap Reply.Word (k first_of_reply)
same_reply Reply.Stored Reply.Stored k = refl
same_reply (Reply.Refused f) (Reply.Refused e) k = ap Reply.Refused (same_fault f e (k first_of_reply))
same_reply (Reply.Scrubbed n) (Reply.Scrubbed m) k = ap Reply.Scrubbed (k first_of_reply)
same_reply (Reply.Answer r) (Reply.Word w) k = absurd (let z = k reply_kind in omega (arith, z))
same_reply (Reply.Answer r) Reply.Stored k = absurd (let z = k reply_kind in omega (arith, z))
same_reply (Reply.Answer r) (Reply.Refused e) k = absurd (let z = k reply_kind in omega (arith, z))
same_reply (Reply.Answer r) (Reply.Scrubbed m) k = absurd (let z = k reply_kind in omega (arith, z))
same_reply (Reply.Word v) (Reply.Answer s) k = absurd (let z = k reply_kind in omega (arith, z))
same_reply (Reply.Word v) Reply.Stored k = absurd (let z = k reply_kind in omega (arith, z))
same_reply (Reply.Word v) (Reply.Refused e) k = absurd (let z = k reply_kind in omega (arith, z))
same_reply (Reply.Word v) (Reply.Scrubbed m) k = absurd (let z = k reply_kind in omega (arith, z))
same_reply Reply.Stored (Reply.Answer s) k = absurd (let z = k reply_kind in omega (arith, z))
same_reply Reply.Stored (Reply.Word w) k = absurd (let z = k reply_kind in omega (arith, z))
same_reply Reply.Stored (Reply.Refused e) k = absurd (let z = k reply_kind in omega (arith, z))
same_reply Reply.Stored (Reply.Scrubbed m) k = absurd (let z = k reply_kind in omega (arith, z))
same_reply (Reply.Refused f) (Reply.Answer s) k = absurd (let z = k reply_kind in omega (arith, z))
same_reply (Reply.Refused f) (Reply.Word w) k = absurd (let z = k reply_kind in omega (arith, z))
same_reply (Reply.Refused f) Reply.Stored k = absurd (let z = k reply_kind in omega (arith, z))
same_reply (Reply.Refused f) (Reply.Scrubbed m) k = absurd (let z = k reply_kind in omega (arith, z))
same_reply (Reply.Scrubbed n) (Reply.Answer s) k = absurd (let z = k reply_kind in omega (arith, z))
same_reply (Reply.Scrubbed n) (Reply.Word w) k = absurd (let z = k reply_kind in omega (arith, z))
same_reply (Reply.Scrubbed n) Reply.Stored k = absurd (let z = k reply_kind in omega (arith, z))
same_reply (Reply.Scrubbed n) (Reply.Refused e) k = absurd (let z = k reply_kind in omega (arith, z))

-- entries that are alike are the same call
pub same_call : (a b : Entry) → Alike a b → call_of a ≡ call_of b
same_call a b k = λ i. record {
  line = k (λ e. e.line) i;
  act = same_act a.act b.act (λ h. k (λ e. h e.act)) i;
  reply = same_reply a.reply b.reply (λ h. k (λ e. h e.reply)) i;
  stamp = record { number = k (λ e. e.stamp.number) i; count = k (λ e. e.stamp.count) i };
}
