-- The lines that are made draw by draw are those of the definition.
use Rattle.std.proofs.Common.{◌≡◌, ℕ, zero, suc, ◌+◌, ◌-◌, ◌*◌, ◌<◌, ◌≤◌, List, ◌∷◌, ◌++◌, take, drop, refl, sym, ap, ◌∙◌, arith}
use Rattle.std.specs.{Prelude.flat_map, List.range_with_len}
use Rattle.script_codec.specs.declared.script_line.Line.{Line}
use Rattle.script_gen.proofs.Stepping.{after_parts}
use Rattle.script_gen.specs.Drawing.{draws_after, access_by, accesses_by, use_by, round_by, rounds_by}
use Rattle.script_gen.specs.Generated.{next_draw, draws, accesses, use_lines, take_line, clear_line, offers_lines, end_lines, round_lines, generated_lines}

-- ---- a part of the draws
take_draws : (n r total x : ℕ) → total ≡ n + r → take n (draws x total) ≡ draws x n
unfolding draws
take_draws zero r total x is = refl
take_draws (suc n) r zero x is = absurd (omega (arith, is))
take_draws (suc n) r (suc total) x is = ap (λ rest. next_draw x ∷ rest) (take_draws n r total (next_draw x) (omega (arith, is)))

drop_draws : (n r total x : ℕ) → total ≡ n + r → drop n (draws x total) ≡ draws (draws_after x n) r
unfolding draws draws_after
drop_draws zero r total x is = let same : total ≡ r = omega (arith, is) in ap (draws x) same
drop_draws (suc n) r zero x is = absurd (omega (arith, is))
drop_draws (suc n) r (suc total) x is = drop_draws n r total (next_draw x) (omega (arith, is))

part_of_draws : (n m r total x : ℕ) → total ≡ n + (m + r) → take m (drop n (draws x total)) ≡ draws (draws_after x n) m
part_of_draws n m r total x is = ap (take m) (drop_draws n (m + r) total x is) ∙ take_draws m r (m + r) (draws_after x n) refl

-- ---- from the inside out
two_more : (x a : ℕ) → next_draw (next_draw (draws_after x (2 * a))) ≡ draws_after x (2 * (a + 1))
unfolding draws_after
two_more x a = sym (after_parts x (2 * a) 2 (2 * (a + 1)) (omega arith))

accesses_made : (k h x a n m : ℕ) → m ≡ 2 * n → accesses k h (draws (draws_after x (2 * a)) m) ≡ flat_map (λ i. access_by k h (draws_after x (2 * i))) (range_with_len a n)
unfolding accesses draws
accesses_made k h x a zero zero is = refl
accesses_made k h x a zero (suc m) is = absurd (omega (arith, is))
accesses_made k h x a (suc n) zero is = absurd (omega (arith, is))
accesses_made k h x a (suc n) (suc zero) is = absurd (omega (arith, is))
accesses_made k h x a (suc n) (suc (suc m)) is =
    ap (λ rest. access_by k h (draws_after x (2 * a)) ++ rest)
    (ap (λ state. accesses k h (draws state m)) (two_more x a) ∙ accesses_made k h x (a + 1) n m (omega (arith, is)))

all_accesses : (k h x : ℕ) → accesses k h (draws x 32) ≡ accesses_by k h x 16
unfolding draws_after
all_accesses k h x = accesses_made k h x 0 16 32 refl

use_made : (k h seed total : ℕ) → 128 * k + (32 * h + 32) ≤ total → use_lines k (draws seed total) h ≡ use_by k h (draws_after (draws_after seed (128 * k)) (32 * h))
unfolding use_by
use_made k h seed total enough =
    ap (λ numbers. take_line k h ∷ clear_line k h ∷ accesses k h numbers)
    (part_of_draws (32 * (4 * k + h)) 32 (total - (128 * k + (32 * h + 32))) total seed (omega (arith, enough))
    ∙ ap (λ state. draws state 32) (after_parts seed (128 * k) (32 * h) (32 * (4 * k + h)) (omega arith)))
    ∙ ap (λ made. take_line k h ∷ clear_line k h ∷ made) (all_accesses k h (draws_after (draws_after seed (128 * k)) (32 * h)))

-- a loop makes the same if each turn does
flat_map_same : {A : Type 0} (f g : ℕ → List A) (a n : ℕ) → ((i : ℕ) → a ≤ i → i < a + n → f i ≡ g i) → flat_map f (range_with_len a n) ≡ flat_map g (range_with_len a n)
flat_map_same f g a zero same = refl
flat_map_same f g a (suc n) same =
    ap (λ rest. f a ++ rest) (flat_map_same f g (a + 1) n (λ i from below. same i (omega (arith, from)) (omega (arith, below))))
    ∙ ap (λ one. one ++ flat_map g (range_with_len (a + 1) n)) (same a (omega arith) (omega arith))

round_made : (k seed total : ℕ) → 128 * k + 128 ≤ total → round_lines (draws seed total) k ≡ round_by k (draws_after seed (128 * k))
unfolding round_by
round_made k seed total enough =
    ap (λ uses. offers_lines k ++ Line.Mark ∷ uses ++ Line.Mark ∷ end_lines k)
    (flat_map_same (use_lines k (draws seed total)) (λ h. use_by k h (draws_after (draws_after seed (128 * k)) (32 * h))) 0 4 (λ h from below. use_made k h seed total (omega (arith, below, enough))))

pub lines_made : (seed : ℕ) → generated_lines seed ≡ rounds_by seed 256
unfolding generated_lines
lines_made seed = flat_map_same (round_lines (draws seed 32768)) (λ k. round_by k (draws_after seed (128 * k))) 0 256 (λ k from below. round_made k seed 32768 (omega (arith, below)))
