-- Extents as a word says them.
use Rattle.std.proofs.Common.{◌≡◌, ℕ, ◌+◌, ◌-◌, ◌^◌, Bool, true, false, cond, ◌&&◌, nat_le, List, [], length, Option, Some, None, Ok, Err, refl, sym, ap, ◌∙◌, arith}
use Rattle.std.proofs.lemmas.List.{drop_all}
use Rattle.text_lines.specs.{Characters.passed_from, Characters.is_other, Extents.after, Extents.before, Extents.extent_of_parts, Extents.extent_said, Extents.limited_extent, Extents.untagged}
use Rattle.text_lines.specs.{Numbers.limited, Numbers.number_said, WordChains.◌>>?◌ as ◌>>=◌, declared.word_faults.NumberFault.NumberFault}

-- nothing says no number
pub nothing_said : number_said [] ≡ None
unfolding number_said
nothing_said = refl

no_end : (start : Option ℕ) → (start >>= (λ a. None >>= (λ b. Some (untagged a b)))) ≡ None
no_end None = refl
no_end (Some a) = refl

-- without a plus sign there is no length
pub no_sign : (word : List ℕ) → passed_from (is_other 43) 0 word ≡ length word → extent_said word ≡ None
unfolding extent_said
no_sign word none =
    let e : after 43 word ≡ [] = drop_all (passed_from (is_other 43) 0 word + 1) word (omega (arith, none)) in
    ap (λ (size : Option ℕ). number_said (before 43 word) >>= (λ a. size >>= (λ b. Some (untagged a b)))) (ap number_said e ∙ nothing_said) ∙ no_end (number_said (before 43 word))

large_then_none : (test : Bool) (a : ℕ) → Err NumberFault.NoNumber ≡ extent_of_parts (cond test (Ok a) (Err NumberFault.TooLarge)) (Err NumberFault.NoNumber)
large_then_none true a = refl
large_then_none false a = refl

both_tests : (p q : Bool) (a b : ℕ) → extent_of_parts (cond p (Ok a) (Err NumberFault.TooLarge)) (cond q (Ok b) (Err NumberFault.TooLarge)) ≡ cond (p && q) (Ok (untagged a b)) (Err NumberFault.TooLarge)
both_tests true true a b = refl
both_tests true false a b = refl
both_tests false true a b = refl
both_tests false false a b = refl

-- both numbers within their room are the extent within its room
pub parts_limited : (x y : Option ℕ) → extent_of_parts (limited (2 ^ 64 - 1) x) (limited (2 ^ 64 - 1) y) ≡ limited_extent (x >>= (λ a. y >>= (λ b. Some (untagged a b))))
parts_limited None y = refl
parts_limited (Some a) None = sym (large_then_none (nat_le a (2 ^ 64 - 1)) a)
parts_limited (Some a) (Some b) = both_tests (nat_le a (2 ^ 64 - 1)) (nat_le b (2 ^ 64 - 1)) a b
