-- What is decided upon an input, or upon a seed.
use Rattle.std.proofs.Common.{◌≡◌, ℕ, ◌<◌, ◌≤◌, List, Option, Some, None, Ok, Err, length, take, refl, sym, ap, subst, ◌∙◌, arith}
use Rattle.std.{proofs.lemmas.List.length-take, proofs.lemmas.List.take_all, proofs.lemmas.Option.none-some, proofs.lemmas.Option.same_Some, specs.Option.IfSome, specs.Prelude.IfOk}
use Rattle.std.specs.declared.result.Result.{Result}
use Rattle.dcd_base.specs.declared.failures.NoMemory.{NoMemory}
use Rattle.edge_io.specs.Meanings.{Decides}
use Rattle.report.specs.Refusals.{refusal_line}
use Rattle.script_gen.specs.script_codec.{proofs.Beginnings.too_long, specs.Reading.fault_of, specs.Reading.first_fault, specs.Reading.most_bytes, specs.Reading.script_in}
use Rattle.script_gen.specs.script_codec.specs.declared.{faults.ScriptFault.ScriptFault, scripts.Script.Script}
use Rattle.script_runner.specs.declared.{outcome.Printed.Printed, status.Status.Status, words.Choice.Choice, words.Mode.Mode}
use Rattle.script_runner.specs.Planning.{IsFaultLine, IsPrintable, IsSoundFor, IsSummaryOf, IsTextOf, bytes_of, most_for, most_read, runner}

abbrev Decided : Type 0
Decided = Result (Status × Printed) NoMemory

pub text_decides : (mode : Mode) (input printed : List ℕ) → IsTextOf mode input printed → Decides runner (record { mode = mode; seed = None }) input Status.Done printed
text_decides mode input printed t = record { plan = t; decided = tt }

-- without a seed
pub input_decides : (choice : Choice) (input : List ℕ) → choice.seed ≡ None → (decided : Decided) → IfOk decided (λ end. Decides runner (record { mode = choice.mode; seed = None }) input end.0 (bytes_of end.1))
    → IfOk decided (λ end. Decides runner choice input end.0 (bytes_of end.1))
input_decides choice input is decided d =
    subst (λ seed. IfOk decided (λ end. Decides runner (record { mode = choice.mode; seed = seed }) input end.0 (bytes_of end.1))) (sym is) d

pub input_short : (choice : Choice) (input : List ℕ) → choice.seed ≡ None → IfSome (most_for choice.seed) (λ most. length input ≤ most) → length input ≤ most_bytes
input_short choice input is short = subst (λ seed. IfSome (most_for seed) (λ most. length input ≤ most)) is short

-- with one
pub summary_decides : (choice : Choice) (seed : ℕ) (input printed : List ℕ) → choice.seed ≡ Some seed → IsSummaryOf choice.mode seed printed → Decides runner choice input Status.Done printed
summary_decides choice seed input printed is t =
    subst (λ s. Decides runner (record { mode = choice.mode; seed = s }) input Status.Done printed) (sym is) (record { plan = t; decided = tt })

not_sound : (input : List ℕ) (fault : ScriptFault) → first_fault (take most_read input) ≡ Some fault → (script : Script) × (script_in (take most_read input) ≡ Ok script) → ⊥
not_sound input fault bad sound = none-some fault (sym (ap fault_of sound.1) ∙ bad)

pub fault_decides : (mode : Mode) (input : List ℕ) (fault : ScriptFault) → length input ≤ most_bytes → first_fault input ≡ Some fault
    → Decides runner (record { mode = mode; seed = None }) input (Status.ScriptRefused fault) (refusal_line fault)
fault_decides mode input fault short bad =
    let here : first_fault (take most_read input) ≡ Some fault = ap first_fault (take_all most_read input (omega (arith, short))) ∙ bad in
    record { plan = (here, refl); decided = not_sound input fault here }

-- one that is longer than a script
long_fault : (input : List ℕ) → most_bytes < length input → first_fault (take most_read input) ≡ Some ScriptFault.TooLong
long_fault input long = ap fault_of (too_long (take most_read input) (omega (arith, length-take most_read input, long))).1

pub long_decides : (choice : Choice) (input : List ℕ) (most : ℕ) → most_for choice.seed ≡ Some most → most < length input → Decides runner choice input (Status.ScriptRefused ScriptFault.TooLong) (refusal_line ScriptFault.TooLong)
long_decides choice input most same below = record { plan = line choice.seed same; decided = refused choice.seed same }
  where
    long : Some most_bytes ≡ Some most → most_bytes < length input
    long is = subst (λ n. n < length input) (sym (same_Some most_bytes most is)) below

    line : (seed : Option ℕ) → most_for seed ≡ Some most → IsFaultLine seed input ScriptFault.TooLong (refusal_line ScriptFault.TooLong)
    line None is = (long_fault input (long is), refl)
    line (Some n) is = none-some most is

    refused : (seed : Option ℕ) → most_for seed ≡ Some most → IsSoundFor seed input → ⊥
    refused None is = not_sound input ScriptFault.TooLong (long_fault input (long is))
    refused (Some n) is = absurd (none-some most is)

-- ---- what a closure that decides says

abbrev IsDecided : Choice → List ℕ → Decided → Type 0
IsDecided choice input decided = IfOk decided (λ end. Decides runner choice input end.0 (bytes_of end.1) × IsPrintable end.1)

pub decides_of : (choice : Choice) (input : List ℕ) (decided : Decided) → IsDecided choice input decided → IfOk decided (λ end. Decides runner choice input end.0 (bytes_of end.1))
decides_of choice input (Ok end) both = both.0
decides_of choice input (Err e) both = tt

pub printable_of : (choice : Choice) (input : List ℕ) (decided : Decided) → IsDecided choice input decided → IfOk decided (λ end. IsPrintable end.1)
printable_of choice input (Ok end) both = both.1
printable_of choice input (Err e) both = tt
