-- A text tells its journal.
use Rattle.std.proofs.Common.{◌≡◌, Bool, true, false, ◌&&◌, ℕ, ◌+◌, List, [], ◌∷◌, ◌++◌, length, map, refl, sym, ap, ◌∙◌, arith}
use Rattle.std.{specs.Prelude.nat_le, specs.Prelude.◌==◌, specs.Prelude.if◌then◌else◌, proofs.lemmas.Bool.and_parts, proofs.lemmas.Bool.eqb-true}
use Rattle.region_config.proofs.Faultless
use Rattle.journal_core.{specs.declared.entries.Entry.Entry, specs.Entries.EachFrom, specs.Entries.is_control, specs.Merging.IsStamped, specs.Merging.commands_in, proofs.JournalSteps.commands_in-push}
use Rattle.report.specs.script_codec.specs.{declared.scripts.Script.Script, Scripts.IsScript}
use Rattle.journal_check.{specs.FirstWrong.IsJournalOf, specs.FirstWrong.SameButCounts, specs.FirstWrong.without_count, proofs.Deciding.one_text, proofs.Unstamped.unstamped}

-- the number of a stamp, by the commands before it
stamp_number : (b : Bool) (number count before : ℕ)
    → (if b then (number == before + 1) && (count == 0) else (number == before) && nat_le 1 count) ≡ true → number ≡ (if b then before + 1 else before)
stamp_number true number count before is = eqb-true number (before + 1) (and_parts (number == before + 1) (count == 0) is).0
stamp_number false number count before is = eqb-true number before (and_parts (number == before) (nat_le 1 count) is).0

abbrev first_of : Entry → List Entry → Entry
first_of d [] = d
first_of d (e ∷ es) = e

abbrev rest_of : List Entry → List Entry
rest_of [] = []
rest_of (e ∷ es) = es

same_numbers : (before behind a b : List Entry) → commands_in before ≡ commands_in behind → EachFrom before IsStamped a → EachFrom behind IsStamped b → map unstamped a ≡ map unstamped b
    → map without_count a ≡ map without_count b
same_numbers before behind [] [] count stamped numbered same = refl
same_numbers before behind [] (f ∷ b) count stamped numbered same = absurd (omega (arith, ap length same))
same_numbers before behind (e ∷ a) [] count stamped numbered same = absurd (omega (arith, ap length same))
same_numbers before behind (e ∷ a) (f ∷ b) count stamped numbered same =
    let head : unstamped e ≡ unstamped f = ap (first_of (unstamped e)) same in
    let control : is_control e.act ≡ is_control f.act = ap (λ (x : Entry). is_control x.act) head in
    let number : e.stamp.number ≡ f.stamp.number =
    stamp_number (is_control e.act) e.stamp.number e.stamp.count (commands_in before) stamped.0
    ∙ (λ i. if control i then count i + 1 else count i)
    ∙ sym (stamp_number (is_control f.act) f.stamp.number f.stamp.count (commands_in behind) numbered.0) in
    let next : commands_in (before ++ e ∷ []) ≡ commands_in (behind ++ f ∷ []) =
    commands_in-push before e ∙ (λ i. count i + (if control i then 1 else 0)) ∙ sym (commands_in-push behind f) in
    let rest : map without_count a ≡ map without_count b =
    same_numbers (before ++ e ∷ []) (behind ++ f ∷ []) a b next stamped.1 numbered.1 (ap rest_of same) in
    λ i. record (head i) { stamp = record { number = number i; count = 0 } } ∷ rest i

pub one_journal : (s : Script) → IsScript s → (text : List ℕ) (a b : List Entry) → IsJournalOf s text a → IsJournalOf s text b → SameButCounts a b
one_journal s is text a b one other =
    same_numbers [] [] a b refl one.numbered.stamped other.numbered.stamped
    (one_text s (Faultless.sound s.config is.configured) is.sound is.few text a b one.legal one.covers one.is other.legal other.covers other.is)
