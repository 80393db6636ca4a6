-- The stamps of a journal rise as it grows.
use Rattle.std.proofs.Common.{◌≡◌, ℕ, ◌+◌, ◌&&◌, ◌||◌, ◌==◌, true, ltb, List, [], ◌∷◌, ◌++◌, sym, ap, inl, inr, arith}
use Rattle.std.proofs.lemmas.{Bool.and_left, Bool.and_right, Bool.cases_eq, Bool.le-ltb, Bool.lt-ltb, Bool.ne_eqb, Bool.or_from, List.Elements.filter-append, List.Sums.fold_push}
use Rattle.std.specs.Prelude.{IsFalse, if◌then◌else◌, not}
use Rattle.dcd_base.specs.declared.steps.Stamp.{Stamp}
use Rattle.journal_core.specs.{declared.entries.Entry.Entry, Entries.is_control, Merging.is_later}
use Rattle.device_plain.specs.Numbering.{IsReachedBy, accesses_of, accesses_since, commands_of}

-- the next command or scrub has a later stamp, and so has the next access
pub before_command : (n since : ℕ) (s : Stamp) → IsReachedBy n since s → IsFalse (is_later s (record { number = n + 1; count = 0 }))
before_command n since s r =
    or_from (ltb (n + 1) s.number) (((n + 1) == s.number) && ltb 0 s.count)
    (le-ltb (n + 1) s.number (omega (arith, r.below)))
    (and_left ((n + 1) == s.number) (ltb 0 s.count) (ne_eqb (n + 1) s.number (λ e. absurd (omega (arith, e, r.below)))))

-- the next command is later than all of them
pub command_behind : (n since : ℕ) (s : Stamp) → IsReachedBy n since s → is_later (record { number = n + 1; count = 0 }) s ≡ true
command_behind n since s r =
    ap (λ b. b || ((s.number == (n + 1)) && ltb s.count 0)) (lt-ltb s.number (n + 1) (omega (arith, r.below)))

pub before_access : (n since : ℕ) (s : Stamp) → IsReachedBy n since s → IsFalse (is_later s (record { number = n; count = since + 1 }))
before_access n since s r =
    or_from (ltb n s.number) ((n == s.number) && ltb (since + 1) s.count)
    (le-ltb n s.number r.below)
    (elim (cases_eq s.number n) [
      | inl same ↦ and_right (n == s.number) (ltb (since + 1) s.count) (le-ltb (since + 1) s.count (omega (arith, r.count same)))
      | inr other ↦ and_left (n == s.number) (ltb (since + 1) s.count) (ne_eqb n s.number (λ e. other (sym e)))
    ])

-- so it is behind them
pub reached_command : (n since : ℕ) (s : Stamp) → IsReachedBy n since s → IsReachedBy (n + 1) 0 s
reached_command n since s r = record { below = omega (arith, r.below); count = λ e. absurd (omega (arith, e, r.below)) }

pub reached_access : (n since : ℕ) (s : Stamp) → IsReachedBy n since s → IsReachedBy n (since + 1) s
reached_access n since s r = record { below = r.below; count = λ e. omega (arith, r.count e) }

-- what one more entry makes of the commands, of the accesses, and of those since
pub commands-push : (journal : List Entry) (e : Entry) → commands_of (journal ++ e ∷ []) ≡ commands_of journal ++ (if is_control e.act then e ∷ [] else [])
commands-push journal e = filter-append (λ (x : Entry). is_control x.act) journal (e ∷ [])

pub accesses-push : (journal : List Entry) (e : Entry) → accesses_of (journal ++ e ∷ []) ≡ accesses_of journal ++ (if not (is_control e.act) then e ∷ [] else [])
accesses-push journal e = filter-append (λ (x : Entry). not (is_control x.act)) journal (e ∷ [])

pub since-push : (journal : List Entry) (e : Entry) → accesses_since (journal ++ e ∷ []) ≡ (if is_control e.act then 0 else accesses_since journal + 1)
since-push journal e = fold_push (λ n (x : Entry). if is_control x.act then 0 else n + 1) 0 journal e
