-- How far characters pass a test, by the first place where one does not.
use Rattle.std.proofs.Common.{◌≡◌, ℕ, zero, suc, ◌<◌, Bool, true, false, List, [], ◌∷◌, length, get_or, refl, ap, ◌∙◌, arith}
use Rattle.text_lines.{specs.Characters.passed_from, proofs.WordLaws.front_more, proofs.WordLaws.front_none}

pub passed_all : (test : ℕ → Bool) (bytes : List ℕ) → ((j : ℕ) → j < length bytes → test (get_or bytes j 0) ≡ true) → passed_from test 0 bytes ≡ length bytes
passed_all test [] each = refl
passed_all test (c ∷ cs) each = front_more test c cs (each 0 (omega arith)) ∙ ap suc (passed_all test cs (λ j less. each (suc j) (omega (arith, less))))

pub passed_to : (test : ℕ → Bool) (bytes : List ℕ) (k : ℕ) → k < length bytes → ((j : ℕ) → j < k → test (get_or bytes j 0) ≡ true) → test (get_or bytes k 0) ≡ false → passed_from test 0 bytes ≡ k
passed_to test [] k within each stops = absurd (omega (arith, within))
passed_to test (c ∷ cs) zero within each stops = front_none test c cs stops
passed_to test (c ∷ cs) (suc k) within each stops =
    front_more test c cs (each 0 (omega arith)) ∙ ap suc (passed_to test cs k (omega (arith, within)) (λ j less. each (suc j) (omega (arith, less))) stops)
