-- What a filter keeps of a list, and of many lists.
use Rattle.std.proofs.Common.{◌≡◌, ◌≢◌, inl, inr, ℕ, zero, suc, Bool, true, false, cond, List, [], ◌∷◌, ◌++◌, refl, sym, ap, ◌∙◌, subst, append-nil, arith}
use Rattle.std.proofs.lemmas.{Bool.cases_Bool, List.Elements.All-append, List.Elements.All-head, List.Elements.All-nil, List.Elements.All-tail, List.Elements.filter-append}
use Rattle.std.specs.{List.filter, Prelude.flat_map, Prelude.All}
use mathlib.Core.Option.{some, some-injective, some-ne-none}
use lib.ListN.{get_elem?}

module _ {X : Type 0} where
  pub filter_kept : (p : X → Bool) (x : X) (xs : List X) → p x ≡ true → filter p (x ∷ xs) ≡ x ∷ filter p xs
  filter_kept p x xs is = ap (λ b. cond b (x ∷ filter p xs) (filter p xs)) is

  pub filter_dropped : (p : X → Bool) (x : X) (xs : List X) → p x ≡ false → filter p (x ∷ xs) ≡ filter p xs
  filter_dropped p x xs is = ap (λ b. cond b (x ∷ filter p xs) (filter p xs)) is

  -- two filters in either order
  pub filter_swapped : (p q : X → Bool) (xs : List X) → filter p (filter q xs) ≡ filter q (filter p xs)
  filter_swapped p q [] = refl
  filter_swapped p q (x ∷ xs) =
      elim (cases_Bool (p x)) [
        | inl fits ↦ elim (cases_Bool (q x)) [
          | inl too ↦ ap (filter p) (filter_kept q x xs too) ∙ filter_kept p x (filter q xs) fits ∙ ap (λ ys. x ∷ ys) (filter_swapped p q xs) ∙ sym (ap (filter q) (filter_kept p x xs fits) ∙ filter_kept q x (filter p xs) too)
          | inr not_too ↦ ap (filter p) (filter_dropped q x xs not_too) ∙ filter_swapped p q xs ∙ sym (ap (filter q) (filter_kept p x xs fits) ∙ filter_dropped q x (filter p xs) not_too)
        ]
        | inr not_it ↦ elim (cases_Bool (q x)) [
          | inl too ↦ ap (filter p) (filter_kept q x xs too) ∙ filter_dropped p x (filter q xs) not_it ∙ filter_swapped p q xs ∙ sym (ap (filter q) (filter_dropped p x xs not_it))
          | inr not_too ↦ ap (filter p) (filter_dropped q x xs not_too) ∙ filter_swapped p q xs ∙ sym (ap (filter q) (filter_dropped p x xs not_it))
        ]
      ]

  -- where all pass, and where none does
  pub filter_whole : (p : X → Bool) (xs : List X) → All (λ x. p x ≡ true) xs → filter p xs ≡ xs
  filter_whole p [] all = refl
  filter_whole p (x ∷ xs) all =
      filter_kept p x xs (All-head (λ x. p x ≡ true) x xs all) ∙ ap (λ ys. x ∷ ys) (filter_whole p xs (All-tail (λ x. p x ≡ true) x xs all))

  pub filter_empty : (p : X → Bool) (xs : List X) → All (λ x. p x ≡ false) xs → filter p xs ≡ []
  filter_empty p [] all = refl
  filter_empty p (x ∷ xs) all =
      filter_dropped p x xs (All-head (λ x. p x ≡ false) x xs all) ∙ filter_empty p xs (All-tail (λ x. p x ≡ false) x xs all)

  pub filter_split : (p : X → Bool) (a : List X) (x : X) (b : List X) → p x ≡ true → filter p (a ++ x ∷ b) ≡ filter p a ++ x ∷ filter p b
  filter_split p a x b is = filter-append p a (x ∷ b) ∙ ap (λ ys. filter p a ++ ys) (filter_kept p x b is)

  -- ---- many lists

  pub all_flat : (Q : X → Type 0) (lists : List (List X)) → ((i : ℕ) (xs : List X) → get_elem? lists i ≡ some xs → All Q xs) → All Q (flat_map (λ list. list) lists)
  all_flat Q [] each = All-nil Q
  all_flat Q (x ∷ lists) each = All-append Q x (flat_map (λ list. list) lists) (each 0 x refl) (all_flat Q lists (λ i xs at. each (suc i) xs at))

  -- one list alone passes, where no other has what passes
  pub filter_flat : (p : X → Bool) (lists : List (List X)) (i : ℕ) (own : List X) → get_elem? lists i ≡ some own →
      ((j : ℕ) (xs : List X) → j ≢ i → get_elem? lists j ≡ some xs → All (λ x. p x ≡ false) xs) → All (λ x. p x ≡ true) own → filter p (flat_map (λ list. list) lists) ≡ own
  filter_flat p [] i own at others all = absurd (some-ne-none own (sym at))
  filter_flat p (x ∷ lists) zero own at others all =
      filter-append p x (flat_map (λ list. list) lists)
      ∙ (λ i. filter_whole p x (subst (All (λ x. p x ≡ true)) (sym (some-injective x own at)) all) i
      ++ filter_empty p (flat_map (λ list. list) lists) (all_flat (λ x. p x ≡ false) lists (λ j xs. others (suc j) xs (λ q. omega (arith, q)))) i)
      ∙ append-nil x ∙ some-injective x own at
  filter_flat p (x ∷ lists) (suc i) own at others all =
      filter-append p x (flat_map (λ list. list) lists)
      ∙ (λ k. filter_empty p x (others 0 x (λ q. omega (arith, q)) refl) k
      ++ filter_flat p lists i own at (λ j xs ne. others (suc j) xs (λ q. ne (omega (arith, q)))) all k)
