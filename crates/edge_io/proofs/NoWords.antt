-- Words where none is taken.
use Rattle.std.proofs.Common.{◌≡◌, ℕ, List, [], ◌∷◌, Option, Some, None, length, refl, arith}
use Rattle.std.specs.Prelude.{◌≢◌, String}
use Rattle.edge_io.specs.{Words.words_of, Meanings.asks_nothing}

pub none_taken : {Z : Type 0} (words : List (String Z)) → length words ≡ 0 → words_of words ≡ []
none_taken [] none = refl
none_taken (word ∷ words) none = absurd (omega (arith, none))

pub some_taken : {Z : Type 0} (words : List (String Z)) → (length words ≡ 0 → ⊥) → words_of words ≢ []
some_taken [] some = absurd (some refl)
some_taken (word ∷ words) some = λ e. cc

pub one_answer : (words : List (List ℕ)) (found other : Option (Unit {0})) → asks_nothing words found → asks_nothing words other → other ≡ found
one_answer words None None is too = refl
one_answer words (Some a) (Some b) is too = refl
one_answer words None (Some b) is too = absurd (is too)
one_answer words (Some a) None is too = absurd (too is)
