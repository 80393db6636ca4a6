-- Words ask for one thing.
use Rattle.std.proofs.Common.{◌≡◌, ℕ, List, Option, Some, None, refl, ap}
use Rattle.script_runner.{specs.declared.words.Choice.Choice, specs.Words.IsChoice, proofs.WordItems.one_choice}

pub one_answer : (words : List (List ℕ)) (found other : Option Choice) → IsChoice words found → IsChoice words other → other ≡ found
one_answer words None None is too = refl
one_answer words (Some a) (Some b) is too = ap (λ c. Some c) (one_choice words b a too is)
one_answer words None (Some b) is too = absurd (is b too)
one_answer words (Some a) None is too = absurd (too a is)
