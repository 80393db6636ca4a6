-- What is read of bytes is read of them behind others, so many bytes further on.
use Rattle.std.proofs.Common.{◌≡◌, ℕ, zero, suc, ◌+◌, ◌/◌, ◌%◌, ◌≤◌, Bool, true, false, nat_lt, ◌==◌, List, [], ◌∷◌, ◌++◌, length, take, drop, Option, Some, None, Result, Ok, Err, inl, inr, refl, sym, ap, subst, ◌∙◌, zero-add, add-zero, arith, length-append}
use Rattle.std.proofs.{Math.Seq.drop-append_seam, lemmas.Bool.cases_lt, lemmas.Bool.le-ltb, lemmas.Bool.lt-ltb, lemmas.List.drop-drop, lemmas.List.length-take-le, lemmas.List.take-append-drop}
use Rattle.std.specs.{Int.Width, Int.from_le_bytes, Int.byte_len, Int.w8, Int.w16, Int.w64, Prelude.if◌then◌else◌}
use Rattle.cci_codec.specs.{dcd_base.specs.declared.steps.Actor.Actor, declared.faults.MessageFault.MessageFault, Messages.message_fault}
use Rattle.script_codec.specs.{Fields.◌>>=◌, Fields.skip, Fields.part, Fields.number_from, LineByLine.Begins, LineByLine.behind_head, Moving.moved, Moving.moved_fault, Reading.most_lines}
use Rattle.script_codec.specs.{Unread.Unread, declared.faults.ScriptFault.ScriptFault, declared.heads.Head.Head, declared.script_line.Line.Line}
use Rattle.script_codec.specs.Lines.{is_host_byte, host_of, commander_of, host_from, commander_from, sound_message, message_of, message_from, command_from, load_from, store_from, scrub_from, line_from, kind_from, end_from, lines_from}

-- a value, and the place behind it, so many bytes further on
abbrev shifted : {A : Type 0} → ℕ → Result (A × ℕ) ScriptFault → Result (A × ℕ) ScriptFault
shifted k (Ok x) = Ok (x.0, k + x.1)
shifted k (Err fault) = Err (moved_fault k fault)

-- a place alone
abbrev placed : ℕ → Result ℕ ScriptFault → Result ℕ ScriptFault
placed k (Ok place) = Ok (k + place)
placed k (Err fault) = Err (moved_fault k fault)

-- ---- one field behind another
module _ (k : ℕ) {B : Type 0} where
  then_placed : (r r' : Result ℕ ScriptFault) (f f' : ℕ → Result (B × ℕ) ScriptFault) → r' ≡ placed k r → ((place : ℕ) → f' (k + place) ≡ shifted k (f place)) → (r' >>= f') ≡ shifted k (r >>= f)
  then_placed r r' f f' is next = ap (λ s. s >>= f') is ∙ by r
    where
      by : (r : Result ℕ ScriptFault) → (placed k r >>= f') ≡ shifted k (r >>= f)
      by (Ok place) = next place
      by (Err fault) = refl

module _ (k : ℕ) {A B : Type 0} where
  then_moved : (r r' : Result (A × ℕ) ScriptFault) (f f' : A × ℕ → Result (B × ℕ) ScriptFault) → r' ≡ shifted k r → ((x : A × ℕ) → f' (x.0, k + x.1) ≡ shifted k (f x)) → (r' >>= f') ≡ shifted k (r >>= f)
  then_moved r r' f f' is next = ap (λ s. s >>= f') is ∙ by r
    where
      by : (r : Result (A × ℕ) ScriptFault) → (shifted k r >>= f') ≡ shifted k (r >>= f)
      by (Ok x) = next x
      by (Err fault) = refl

  then_value : (r r' : Result A ScriptFault) (f f' : A → Result (B × ℕ) ScriptFault) → r' ≡ moved k r → ((x : A) → f' x ≡ shifted k (f x)) → (r' >>= f') ≡ shifted k (r >>= f)
  then_value r r' f f' is next = ap (λ s. s >>= f') is ∙ by r
    where
      by : (r : Result A ScriptFault) → (moved k r >>= f') ≡ shifted k (r >>= f)
      by (Ok x) = next x
      by (Err fault) = refl

  -- the last of them
  last_moved : (r r' : Result (A × ℕ) ScriptFault) (f f' : A × ℕ → Result B ScriptFault) → r' ≡ shifted k r → ((x : A × ℕ) → f' (x.0, k + x.1) ≡ moved k (f x)) → (r' >>= f') ≡ moved k (r >>= f)
  last_moved r r' f f' is next = ap (λ s. s >>= f') is ∙ by r
    where
      by : (r : Result (A × ℕ) ScriptFault) → (shifted k r >>= f') ≡ moved k (r >>= f)
      by (Ok x) = next x
      by (Err fault) = refl

  last_value : (r r' : Result A ScriptFault) (f f' : A → Result B ScriptFault) → r' ≡ moved k r → ((x : A) → f' x ≡ moved k (f x)) → (r' >>= f') ≡ moved k (r >>= f)
  last_value r r' f f' is next = ap (λ s. s >>= f') is ∙ by r
    where
      by : (r : Result A ScriptFault) → (moved k r >>= f') ≡ moved k (r >>= f)
      by (Ok x) = next x
      by (Err fault) = refl

either_moved : {A : Type 0} (k : ℕ) (b : Bool) (x y : Result A ScriptFault) → (if b then moved k x else moved k y) ≡ moved k (if b then x else y)
either_moved k true x y = refl
either_moved k false x y = refl

either_shifted : {A : Type 0} (k : ℕ) (b : Bool) (x y : Result (A × ℕ) ScriptFault) → (if b then shifted k x else shifted k y) ≡ shifted k (if b then x else y)
either_shifted k true x y = refl
either_shifted k false x y = refl

-- ---- bytes behind others
module _ (front bytes : List ℕ) where
  abbrev k : ℕ
  k = length front

  long : length (front ++ bytes) ≡ k + length bytes
  long = length-append front bytes

  same_test : (a b : ℕ) → nat_lt (k + a) (k + b) ≡ nat_lt a b
  same_test a b = elim (cases_lt a b) [
    | inl less ↦ lt-ltb (k + a) (k + b) (omega (arith, less)) ∙ sym (lt-ltb a b less)
    | inr most ↦ le-ltb (k + a) (k + b) (omega (arith, most)) ∙ sym (le-ltb a b most)
  ]

  skip_moved : (n at : ℕ) → skip n (front ++ bytes) (k + at) ≡ placed k (skip n bytes at)
  unfolding skip
  skip_moved n at =
      (λ i. if nat_lt (long i) (far i) then Err (ScriptFault.Truncated (long i)) else Ok (far i))
      ∙ ap (λ b. if b then Err (ScriptFault.Truncated (k + length bytes)) else Ok (k + (at + n))) (same_test (length bytes) (at + n))
      ∙ by (nat_lt (length bytes) (at + n))
    where
      far : (k + at) + n ≡ k + (at + n)
      far = omega arith

      by : (b : Bool) → (if b then Err (ScriptFault.Truncated (k + length bytes)) else Ok (k + (at + n))) ≡ placed k (if b then Err (ScriptFault.Truncated (length bytes)) else Ok (at + n))
      by true = refl
      by false = refl

  part_moved : (n at : ℕ) → part n (front ++ bytes) (k + at) ≡ part n bytes at
  part_moved n at = ap (take n) (sym (drop-drop at k (front ++ bytes)) ∙ ap (drop at) (drop-append_seam front bytes))

  number_moved : (w : Width) (at : ℕ) → number_from w (front ++ bytes) (k + at) ≡ shifted k (number_from w bytes at)
  unfolding number_from
  number_moved w at =
      ap (λ xs. skip (byte_len w) (front ++ bytes) (k + at) >>= (λ next. Ok (from_le_bytes w xs, next))) (part_moved (byte_len w) at)
      ∙ then_placed k (skip (byte_len w) bytes at) (skip (byte_len w) (front ++ bytes) (k + at)) (λ next. Ok (from_le_bytes w (part (byte_len w) bytes at), next)) (λ next. Ok (from_le_bytes w (part (byte_len w) bytes at), next))
      (skip_moved (byte_len w) at) (λ place. refl)

  host_of_moved : (hosts lanes at byte : ℕ) → host_of hosts lanes (k + at) byte ≡ moved k (host_of hosts lanes at byte)
  host_of_moved hosts lanes at byte = either_moved k (is_host_byte hosts lanes byte) (Ok (byte % 16, byte / 16)) (Err (ScriptFault.UnknownActor at))

  host_moved : (hosts lanes at : ℕ) → host_from hosts lanes (front ++ bytes) (k + at) ≡ shifted k (host_from hosts lanes bytes at)
  unfolding host_from
  host_moved hosts lanes at =
      then_moved k (number_from w8 bytes at) _ _ _ (number_moved w8 at) (λ byte.
      then_value k (host_of hosts lanes at byte.0) _ _ _ (host_of_moved hosts lanes at byte.0) (λ host. refl))

  commander_of_moved : (hosts lanes at byte : ℕ) → commander_of hosts lanes (k + at) byte ≡ moved k (commander_of hosts lanes at byte)
  commander_of_moved hosts lanes at byte = by (is_host_byte hosts lanes byte) (byte == 0xFE) (Actor.Host (byte % 16), byte / 16) (Actor.Manager, 0)
    where
      by : (a b : Bool) (host manager : Actor × ℕ) → (if a then Ok host else if b then Ok manager else Err (ScriptFault.UnknownActor (k + at))) ≡ moved k (if a then Ok host else if b then Ok manager else Err (ScriptFault.UnknownActor at))
      by true b host manager = refl
      by false true host manager = refl
      by false false host manager = refl

  commander_moved : (hosts lanes at : ℕ) → commander_from hosts lanes (front ++ bytes) (k + at) ≡ shifted k (commander_from hosts lanes bytes at)
  unfolding commander_from
  commander_moved hosts lanes at =
      then_moved k (number_from w8 bytes at) _ _ _ (number_moved w8 at) (λ byte.
      then_value k (commander_of hosts lanes at byte.0) _ _ _ (commander_of_moved hosts lanes at byte.0) (λ actor. refl))

  message_of_moved : (at : ℕ) (xs : List ℕ) → message_of (k + at) xs ≡ moved k (message_of at xs)
  message_of_moved at xs = by (message_fault xs)
    where
      by : (found : Option MessageFault) → sound_message (k + at) xs found ≡ moved k (sound_message at xs found)
      by None = refl
      by (Some fault) = refl

  message_moved : (n at : ℕ) → message_from n (front ++ bytes) (k + at) ≡ shifted k (message_from n bytes at)
  unfolding message_from
  message_moved n at =
      ap (λ xs. skip n (front ++ bytes) (k + at) >>= (λ next. message_of (k + at) xs >>= (λ request. Ok (request, next)))) (part_moved n at)
      ∙ then_placed k (skip n bytes at) (skip n (front ++ bytes) (k + at))
      (λ next. message_of at (part n bytes at) >>= (λ request. Ok (request, next))) (λ next. message_of (k + at) (part n bytes at) >>= (λ request. Ok (request, next)))
      (skip_moved n at) (λ place. then_value k (message_of at (part n bytes at)) (message_of (k + at) (part n bytes at)) (λ request. Ok (request, place)) (λ request. Ok (request, k + place)) (message_of_moved at (part n bytes at)) (λ request. refl))

  command_moved : (hosts lanes at : ℕ) → command_from hosts lanes (front ++ bytes) (k + at) ≡ shifted k (command_from hosts lanes bytes at)
  unfolding command_from
  command_moved hosts lanes at =
      then_moved k (commander_from hosts lanes bytes at) _ _ _ (commander_moved hosts lanes at) (λ actor.
      then_moved k (number_from w16 bytes actor.1) _ _ _ (number_moved w16 actor.1) (λ size.
      then_moved k (message_from size.0 bytes size.1) _ _ _ (message_moved size.0 size.1) (λ request. refl)))

  load_moved : (hosts lanes at : ℕ) → load_from hosts lanes (front ++ bytes) (k + at) ≡ shifted k (load_from hosts lanes bytes at)
  unfolding load_from
  load_moved hosts lanes at =
      then_moved k (host_from hosts lanes bytes at) _ _ _ (host_moved hosts lanes at) (λ host.
      then_moved k (number_from w64 bytes host.1) _ _ _ (number_moved w64 host.1) (λ dpa. refl))

  store_moved : (hosts lanes at : ℕ) → store_from hosts lanes (front ++ bytes) (k + at) ≡ shifted k (store_from hosts lanes bytes at)
  unfolding store_from
  store_moved hosts lanes at =
      then_moved k (host_from hosts lanes bytes at) _ _ _ (host_moved hosts lanes at) (λ host.
      then_moved k (number_from w64 bytes host.1) _ _ _ (number_moved w64 host.1) (λ dpa.
      then_moved k (number_from w64 bytes dpa.1) _ _ _ (number_moved w64 dpa.1) (λ value. refl)))

  scrub_moved : (at : ℕ) → scrub_from (front ++ bytes) (k + at) ≡ shifted k (scrub_from bytes at)
  unfolding scrub_from
  scrub_moved at = then_moved k (number_from w16 bytes at) _ _ _ (number_moved w16 at) (λ most. refl)

  line_moved : (kind hosts lanes at : ℕ) → line_from kind hosts lanes (front ++ bytes) (k + at) ≡ shifted k (line_from kind hosts lanes bytes at)
  line_moved kind hosts lanes at =
      (λ i. if kind == 1 then command_moved hosts lanes at i else if kind == 2 then load_moved hosts lanes at i
      else if kind == 3 then store_moved hosts lanes at i else if kind == 4 then scrub_moved at i else Ok (Line.Mark, k + at))
      ∙ by (kind == 1) (kind == 2) (kind == 3) (kind == 4)
      (command_from hosts lanes bytes at) (load_from hosts lanes bytes at) (store_from hosts lanes bytes at) (scrub_from bytes at)
    where
      by : (a b c d : Bool) (w x y z : Result (Line × ℕ) ScriptFault) →
          (if a then shifted k w else if b then shifted k x else if c then shifted k y else if d then shifted k z else Ok (Line.Mark, k + at))
          ≡ shifted k (if a then w else if b then x else if c then y else if d then z else Ok (Line.Mark, at))
      by true b c d w x y z = refl
      by false true c d w x y z = refl
      by false false true d w x y z = refl
      by false false false true w x y z = refl
      by false false false false w x y z = refl

  kind_moved : (at : ℕ) → kind_from (front ++ bytes) (k + at) ≡ shifted k (kind_from bytes at)
  unfolding kind_from
  kind_moved at = then_moved k (number_from w8 bytes at) _ _ _ (number_moved w8 at) (λ kind. either_shifted k (nat_lt 5 kind.0) (Err (ScriptFault.UnknownKind at)) (Ok kind))

  end_moved : (at : ℕ) → end_from (front ++ bytes) (k + at) ≡ moved k (end_from bytes at)
  end_moved at =
      (λ i. if nat_lt (k + at) (long i) then Err (ScriptFault.AfterEnd (k + at)) else Ok [])
      ∙ ap (λ b. if b then Err (ScriptFault.AfterEnd (k + at)) else Ok []) (same_test at (length bytes))
      ∙ either_moved k (nat_lt at (length bytes)) (Err (ScriptFault.AfterEnd at)) (Ok [])

  -- a line, and those behind it
  abbrev line_and_rest : List ℕ → ℕ → ℕ → ℕ → ℕ × ℕ → Result (List Line) ScriptFault
  line_and_rest xs left hosts lanes kind = line_from kind.0 hosts lanes xs kind.1 >>= (λ line. lines_from left hosts lanes xs line.1 >>= (λ lines. Ok (line.0 ∷ lines)))

  rest_moved : (left hosts lanes : ℕ) → ((at : ℕ) → lines_from left hosts lanes (front ++ bytes) (k + at) ≡ moved k (lines_from left hosts lanes bytes at)) →
      (kind : ℕ × ℕ) → line_and_rest (front ++ bytes) left hosts lanes (kind.0, k + kind.1) ≡ moved k (line_and_rest bytes left hosts lanes kind)
  rest_moved left hosts lanes behind kind =
      last_moved k (line_from kind.0 hosts lanes bytes kind.1) _ _ _ (line_moved kind.0 hosts lanes kind.1) (λ line.
      last_value k (lines_from left hosts lanes bytes line.1) _ _ _ (behind line.1) (λ lines. refl))

  pub lines_moved : (left hosts lanes at : ℕ) → lines_from left hosts lanes (front ++ bytes) (k + at) ≡ moved k (lines_from left hosts lanes bytes at)
  unfolding lines_from
  lines_moved zero hosts lanes at =
      last_moved k (kind_from bytes at) _ _ _ (kind_moved at) (λ kind.
      (λ i. if kind.0 == 0 then end_moved kind.1 i else Err (ScriptFault.TooManyLines (k + at)))
      ∙ either_moved k (kind.0 == 0) (end_from bytes kind.1) (Err (ScriptFault.TooManyLines at)))
  lines_moved (suc left) hosts lanes at =
      last_moved k (kind_from bytes at) _ _ _ (kind_moved at) (λ kind.
      (λ i. if kind.0 == 0 then end_moved kind.1 i else rest_moved left hosts lanes (lines_moved left hosts lanes) kind i)
      ∙ either_moved k (kind.0 == 0) (end_from bytes kind.1) (line_and_rest bytes left hosts lanes kind))

-- ---- faults that are moved twice, or not at all

fault_twice : (a b : ℕ) (fault : ScriptFault) → moved_fault a (moved_fault b fault) ≡ moved_fault (a + b) fault
fault_twice a b ScriptFault.BadMagic = refl
fault_twice a b (ScriptFault.BadVersion version) = refl
fault_twice a b (ScriptFault.BadConfig fault) = refl
fault_twice a b (ScriptFault.Truncated count) = ap ScriptFault.Truncated (omega arith)
fault_twice a b (ScriptFault.UnknownKind at) = ap ScriptFault.UnknownKind (omega arith)
fault_twice a b (ScriptFault.UnknownActor at) = ap ScriptFault.UnknownActor (omega arith)
fault_twice a b (ScriptFault.BadMessage at fault) = ap (λ place. ScriptFault.BadMessage place fault) (omega arith)
fault_twice a b ScriptFault.TooLong = refl
fault_twice a b (ScriptFault.AfterEnd at) = ap ScriptFault.AfterEnd (omega arith)
fault_twice a b (ScriptFault.TooManyLines at) = ap ScriptFault.TooManyLines (omega arith)
fault_twice a b (ScriptFault.BadLanes lanes) = refl
fault_twice a b ScriptFault.NoMemory = refl

fault_still : (fault : ScriptFault) → moved_fault 0 fault ≡ fault
fault_still ScriptFault.BadMagic = refl
fault_still (ScriptFault.BadVersion version) = refl
fault_still (ScriptFault.BadConfig fault) = refl
fault_still (ScriptFault.Truncated count) = ap ScriptFault.Truncated (zero-add count)
fault_still (ScriptFault.UnknownKind at) = ap ScriptFault.UnknownKind (zero-add at)
fault_still (ScriptFault.UnknownActor at) = ap ScriptFault.UnknownActor (zero-add at)
fault_still (ScriptFault.BadMessage at fault) = ap (λ place. ScriptFault.BadMessage place fault) (zero-add at)
fault_still ScriptFault.TooLong = refl
fault_still (ScriptFault.AfterEnd at) = ap ScriptFault.AfterEnd (zero-add at)
fault_still (ScriptFault.TooManyLines at) = ap ScriptFault.TooManyLines (zero-add at)
fault_still (ScriptFault.BadLanes lanes) = refl
fault_still ScriptFault.NoMemory = refl

moved_twice : {A : Type 0} (a b : ℕ) (r : Result A ScriptFault) → moved a (moved b r) ≡ moved (a + b) r
moved_twice a b (Ok x) = refl
moved_twice a b (Err fault) = ap Err (fault_twice a b fault)

moved_still : {A : Type 0} (r : Result A ScriptFault) → moved 0 r ≡ r
moved_still (Ok x) = refl
moved_still (Err fault) = ap Err (fault_still fault)

rest_same : (before left hosts lanes place : ℕ) (bytes : List ℕ) → place ≤ length bytes → moved (before + place) (lines_from left hosts lanes (drop place bytes) 0) ≡ moved before (lines_from left hosts lanes bytes place)
rest_same before left hosts lanes place bytes within =
    let size : length (take place bytes) ≡ place = length-take-le place bytes within in
    sym (moved_twice before place (lines_from left hosts lanes (drop place bytes) 0))
    ∙ ap (moved before) (
    sym (ap (λ n. moved n (lines_from left hosts lanes (drop place bytes) 0)) size)
    ∙ sym (lines_moved (take place bytes) (drop place bytes) left hosts lanes 0)
    ∙ (λ i. lines_from left hosts lanes (take-append-drop place bytes i) ((add-zero (length (take place bytes)) ∙ size) i)))

-- what is still to come, from a place on of bytes behind others
abbrev unread : ℕ → ℕ → ℕ → ℕ → List ℕ → ℕ → Unread
unread before left hosts lanes bytes place = record { hosts = hosts; lanes = lanes; left = left; rest = moved before (lines_from left hosts lanes bytes place) }

-- where the bytes before a place are let go, the same lines are still to come
pub let_go_same : (before left hosts lanes place : ℕ) (bytes rest : List ℕ) → rest ≡ drop place bytes → place ≤ length bytes → unread (before + place) left hosts lanes rest 0 ≡ unread before left hosts lanes bytes place
let_go_same before left hosts lanes place bytes rest is within =
    ap (λ xs. unread (before + place) left hosts lanes xs 0) is
    ∙ (λ i. record { hosts = hosts; lanes = lanes; left = left; rest = rest_same before left hosts lanes place bytes within i })

-- what is still to come behind the head, of bytes behind no others
pub begins_own : (bytes read : List ℕ) (head : Head) (place hosts : ℕ) → read ≡ bytes → hosts ≡ head.config.hosts → Begins read head (behind_head head read place) → Begins bytes head (unread 0 most_lines hosts head.lanes bytes place)
begins_own bytes read head place hosts read_is hosts_are begins =
    subst (λ h. Begins bytes head (unread 0 most_lines h head.lanes bytes place)) (sym hosts_are)
    (subst (λ r. Begins bytes head (record { hosts = head.config.hosts; lanes = head.lanes; left = most_lines; rest = r })) (sym (moved_still (lines_from most_lines head.config.hosts head.lanes bytes place)))
    (subst (λ xs. Begins xs head (behind_head head xs place)) read_is begins))
