-- What a loop over numbers from 0 on has made so far, and the state of the generator.
use Rattle.std.proofs.Common.{◌≡◌, ℕ, zero, suc, ◌+◌, ◌*◌, List, [], ◌∷◌, ◌++◌, map, refl, sym, ap, ◌∙◌, arith, append_assoc, append-nil, zero-add}
use Rattle.std.{specs.Prelude.flat_map, specs.List.range_with_len, proofs.lemmas.List.FromFn.map-range_with_len_more, proofs.lemmas.Grind.flat_map-append}
use Rattle.script_gen.specs.{Drawing.draws_after, Generated.next_draw}

-- one more number at the end of a range
range_more : (a n : ℕ) (m : ℕ) → m ≡ n + 1 → range_with_len a m ≡ range_with_len a n ++ (a + n) ∷ []
range_more a n zero is = absurd (omega (arith, is))
range_more a zero (suc zero) is = ap (λ k. k ∷ []) (omega arith)
range_more a zero (suc (suc m)) is = absurd (omega (arith, is))
range_more a (suc n) (suc m) is =
    ap (λ rest. a ∷ rest) (range_more (a + 1) n m (omega (arith, is)) ∙ ap (λ k. range_with_len (a + 1) n ++ k ∷ []) (omega arith))

pub flat_map_more : {A : Type 0} (f : ℕ → List A) (n : ℕ) → flat_map f (range_with_len 0 (n + 1)) ≡ flat_map f (range_with_len 0 n) ++ f n
flat_map_more f n =
    ap (flat_map f) (range_more 0 n (n + 1) refl) ∙ flat_map-append f (range_with_len 0 n) ((0 + n) ∷ [])
    ∙ ap (λ last. flat_map f (range_with_len 0 n) ++ last) (append-nil (f (0 + n)) ∙ ap f (zero-add n))

-- a loop that puts the items of one more number at the end
pub puts_more : {A : Type 0} (f : ℕ → List A) (n : ℕ) (before old new : List A) → old ≡ before ++ flat_map f (range_with_len 0 n) → new ≡ old ++ f n → new ≡ before ++ flat_map f (range_with_len 0 (n + 1))
puts_more f n before old new so_far put =
    put ∙ ap (λ front. front ++ f n) so_far ∙ append_assoc before (flat_map f (range_with_len 0 n)) (f n) ∙ ap (λ made. before ++ made) (sym (flat_map_more f n))

-- a loop that puts the item of one more number at the end
pub puts_one_more : {A : Type 0} (f : ℕ → A) (n : ℕ) (before old new : List A) (x : A) → old ≡ before ++ map f (range_with_len 0 n) → x ≡ f n → new ≡ old ++ x ∷ [] → new ≡ before ++ map f (range_with_len 0 (n + 1))
puts_one_more f n before old new x so_far is put =
    put ∙ ap (λ front. front ++ x ∷ []) so_far ∙ ap (λ y. (before ++ map f (range_with_len 0 n)) ++ y ∷ []) is ∙ append_assoc before (map f (range_with_len 0 n)) (f n ∷ [])
    ∙ ap (λ made. before ++ made) (sym (map-range_with_len_more f 0 n n (zero-add n)))

pub after_parts : (x n m total : ℕ) → total ≡ n + m → draws_after x total ≡ draws_after (draws_after x n) m
unfolding draws_after
after_parts x zero m total is = let same : total ≡ m = omega (arith, is) in ap (draws_after x) same
after_parts x (suc n) m zero is = absurd (omega (arith, is))
after_parts x (suc n) m (suc total) is = after_parts (next_draw x) n m total (omega (arith, is))

-- a loop that takes so many draws each time
pub draws_more : (x each n : ℕ) (old new : ℕ) → old ≡ draws_after x (each * n) → new ≡ draws_after old each → new ≡ draws_after x (each * (n + 1))
draws_more x each n old new so_far drawn =
    drawn ∙ ap (λ state. draws_after state each) so_far ∙ sym (after_parts x (each * n) each (each * (n + 1)) (grind arith))
