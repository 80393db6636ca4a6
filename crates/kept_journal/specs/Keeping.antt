-- Entries as they are kept.
use Rattle.std.specs.Prelude.{◌≡◌, ◌≤◌, ◌<◌, ◌^◌, ℕ, ◌+◌, ◌-◌, ◌++◌, Bool, true, false, List, [], ◌∷◌, drop, length, take}
use Rattle.std.specs.{Global.Vec, Vec.vec_capacity, Vec.vec_len}
use Rattle.dcd_base.specs.declared.steps.Actor.{Actor}
use Rattle.journal_core.specs.{Entries.next_entry, Merging.Rising, declared.acts.Act.Act, declared.acts.Reply.Reply, declared.entries.Entry.Entry, declared.outcome.Effect.Effect}
use Rattle.kept_journal.specs.{Tokens.effects_told, declared.kept_steps.Exchange.Exchange, declared.kept_steps.Kept.Kept, declared.kept_steps.KeptStep.KeptStep}

-- The entries, and how many more there is room for.
pub record Keeping : Type 0 where
  pub entries : List Entry
  pub spare : ℕ

-- ---- how they are kept

-- the payload of a request
abbrev pub asked_of : Act → List ℕ
asked_of (Act.Command q) = q.payload
asked_of act = []

-- the payload of a response
abbrev pub replied_of : Reply → List ℕ
replied_of (Reply.Answer r) = r.payload
replied_of reply = []

-- the act of an exchange, with its payload
abbrev pub act_in : Exchange → List ℕ → Act
act_in (Exchange.Command c) payload = Act.Command (record { tag = c.tag; opcode = c.opcode; payload = payload })
act_in (Exchange.Scrub s) payload = Act.Scrub s.most

-- the reply of an exchange, with its payload
abbrev pub reply_in : Exchange → List ℕ → Reply
reply_in (Exchange.Command c) payload = Reply.Answer (record { tag = c.tag; opcode = c.opcode; code = c.code; payload = payload })
reply_in (Exchange.Scrub s) payload = Reply.Scrubbed s.zeroed

-- The exchange is that of the act and the reply.
abbrev pub IsExchangeOf : Exchange → Act → Reply → Type 0
IsExchangeOf exchange act reply = (act_in exchange (asked_of act) ≡ act) × (reply_in exchange (replied_of reply) ≡ reply)

-- the entry of a step with these bytes, by its number among the commands and scrubs
abbrev pub step_entry : ℕ → KeptStep → List ℕ → Entry
step_entry number step bytes = record {
  pass = step.pass;
  line = step.line;
  actor = step.actor;
  act = act_in step.exchange (take step.asked bytes);
  reply = reply_in step.exchange (take step.replied (drop step.asked bytes));
  effects = effects_told (drop step.replied (drop step.asked bytes));
  stamp = record { number = number; count = 0 };
}

-- Behind the old bytes come the payloads of a step, and what stands from this place on tells its effects.
pub record HoldsStep (old new : List ℕ) (payloads : List ℕ × List ℕ) (effects : List Effect) (at : ℕ) : Type 0 where
  pub within : at ≤ length new
  pub put : new ≡ old ++ (payloads.0 ++ (payloads.1 ++ drop at new))
  pub tells : effects_told (drop at new) ≡ effects

-- With these bytes the step is the next entry of what was asked and replied, wherever it comes.
pub record Keeps (step : KeptStep) (pass line : ℕ) (actor : Actor) (act : Act) (replied : Reply × List ℕ) (bytes : List ℕ) : Type 0 where
  pub width : step.width ≡ length bytes
  pub entry : (entries : List Entry) →
      step_entry (length entries + 1) step bytes ≡ next_entry entries pass line actor act (replied.0, effects_told replied.1)

-- how many bytes a kept one has
abbrev pub width_of : Kept → ℕ
width_of (Kept.Step step) = step.width
width_of (Kept.Apart e) = 0

-- the entry that a kept one is with its bytes
abbrev pub kept_entry : ℕ → Kept → List ℕ → Entry
kept_entry number (Kept.Step step) bytes = step_entry number step bytes
kept_entry number (Kept.Apart e) bytes = e

-- the entries behind so many: each takes its bytes from the front
unfoldable pub entries_of : ℕ → List Kept → List ℕ → List Entry
entries_of before [] bytes = []
entries_of before (k ∷ kept) bytes = kept_entry (before + 1) k (take (width_of k) bytes) ∷ entries_of (before + 1) kept (drop (width_of k) bytes)

-- how many bytes all of them have
abbrev pub widths : List Kept → ℕ
widths [] = 0
widths (k ∷ kept) = width_of k + widths kept

-- The bytes of these are there, their numbers are below 2 ^ 64, and their stamps rise.
pub record CanBeLent (before : ℕ) (kept : List Kept) (bytes : List ℕ) : Type 0 where
  pub within : widths kept ≤ length bytes
  pub numbers : before + length kept < 2 ^ 64
  pub rising : Rising (entries_of before kept bytes)

-- what contracts see of kept entries and their bytes
abbrev pub keeping_of : Vec Kept → Vec ℕ → Keeping
keeping_of kept bytes = record {
  entries = entries_of 0 kept.items bytes.items;
  spare = vec_capacity kept - vec_len kept;
}

-- The entry was put behind the others, or they and the room for more are as before.
abbrev pub PutOrNot : Keeping → Keeping → Entry → Bool → Type 0
PutOrNot old new e true = new.entries ≡ old.entries ++ e ∷ []
PutOrNot old new e false = (new.entries ≡ old.entries) × (new.spare ≡ old.spare)
