-- Sorting by inserting, and that a stable sort has only one outcome.
use Rattle.std.proofs.Common.{◌≡◌, ℕ, suc, ◌<◌, ◌⊎◌, inl, inr, Bool, true, false, cond, ◌&&◌, not, List, [], ◌∷◌, ◌++◌, length, get_or, refl, sym, ap, ◌∙◌, subst, add-one, append-nil, length-append, append_assoc, arith}
use Rattle.std.{proofs.lemmas.List.Elements.filter-append, proofs.lemmas.List.Sorted.sorted_far, specs.Cmp.IsStrictWeakOrder, specs.List.filter}
use Rattle.std.specs.{List.Sorted.ties, List.Sorted.IsSortedBy, List.Sorted.IsStableBy, Prelude.fold}

pub two : (b : Bool) → (b ≡ true) ⊎ (b ≡ false)
two true = inl refl
two false = inr refl

first_not : (a b : Bool) → not a && not b ≡ true → a ≡ false
first_not false b e = refl
first_not true b e = cc

second_not : (a b : Bool) → not a && not b ≡ true → b ≡ false
second_not a false e = refl
second_not true true e = cc
second_not false true e = cc

-- no element is less than x
abbrev pub NoneBelow : {X : Type 0} → (X → X → Bool) → X → List X → Type 0
NoneBelow lt x [] = Unit {0}
NoneBelow lt x (y ∷ ys) = (lt y x ≡ false) × NoneBelow lt x ys

-- no element is less than one before it
abbrev pub Rises : {X : Type 0} → (X → X → Bool) → List X → Type 0
Rises lt [] = Unit {0}
Rises lt (x ∷ xs) = NoneBelow lt x xs × Rises lt xs

-- what a sort ensures, by recursion
rises_from : {X : Type 0} (lt : X → X → Bool) (x : X) (xs : List X) → ((j : ℕ) (d : X) → j < length xs → lt (get_or xs j d) x ≡ false) → NoneBelow lt x xs
rises_from lt x [] all = tt
rises_from lt x (y ∷ ys) all = (all 0 y (omega arith), rises_from lt x ys (λ j d under. all (suc j) d (omega (arith, under))))

pub rises_from_sorted : {X : Type 0} (lt : X → X → Bool) → IsStrictWeakOrder lt → (xs : List X) → IsSortedBy lt xs → Rises lt xs
rises_from_sorted lt o [] up = tt
rises_from_sorted lt o (x ∷ xs) up = (
  rises_from lt x xs (λ j d under. sorted_far lt o (x ∷ xs) up 0 (suc j) d (omega arith) (omega (arith, under))),
  rises_from_sorted lt o xs (λ k d low high. subst (λ n. lt (get_or (x ∷ xs) n d) (get_or xs k d) ≡ false) (add-one (suc k) ∙ ap suc (sym (add-one k))) (up (suc k) d (omega arith) (omega (arith, high)))),
)

-- an element goes behind all that are not above it
abbrev pub insert_by : {X : Type 0} → (X → X → Bool) → X → List X → List X
insert_by lt x [] = x ∷ []
insert_by lt x (y ∷ ys) = cond (lt x y) (x ∷ y ∷ ys) (y ∷ insert_by lt x ys)

abbrev pub insert_all : {X : Type 0} → (X → X → Bool) → List X → List X → List X
insert_all lt done xs = fold (λ ys x. insert_by lt x ys) done xs

insert_length : {X : Type 0} (lt : X → X → Bool) (x : X) (ys : List X) → length (insert_by lt x ys) ≡ suc (length ys)
insert_length lt x [] = refl
insert_length {X} lt x (y ∷ ys) =
    by (lt x y) (insert_length lt x ys)
  where
    by : (b : Bool) → length (insert_by lt x ys) ≡ suc (length ys) → length (cond b (x ∷ y ∷ ys) (y ∷ insert_by lt x ys)) ≡ suc (suc (length ys))
    by true later = refl
    by false later = ap suc later

pub insert_all_length : {X : Type 0} (lt : X → X → Bool) (done xs : List X) → length (insert_all lt done xs) ≡ length (done ++ xs)
insert_all_length lt done [] = ap length (sym (append-nil done))
insert_all_length lt done (x ∷ xs) =
    insert_all_length lt (insert_by lt x done) xs
    ∙ omega (arith, length-append (insert_by lt x done) xs, insert_length lt x done, length-append done (x ∷ xs))

module _ {X : Type 0} (lt : X → X → Bool) (o : IsStrictWeakOrder lt) where
  not_itself : (x : X) → lt x x ≡ false
  not_itself x = elim (two (lt x x)) [ inl less ↦ o.one_way x x less | inr not_less ↦ not_less ]

  tied_itself : (x : X) → ties lt x x ≡ true
  tied_itself x = ap (λ b. not b && not b) (not_itself x)

  tied : (x y : X) → lt x y ≡ false → lt y x ≡ false → ties lt x y ≡ true
  tied x y p q = (λ i. not (p i) && not (q i))

  -- what ties with y and is not below x: then y is not below x
  not_below : (x y w : X) → ties lt y w ≡ true → lt w x ≡ false → lt y x ≡ false
  not_below x y w t up = o.chain y w x (first_not (lt y w) (lt w y) t) up

  -- an element that stands among some that are not below x
  reaches : (x y : X) (zs rest : List X) → NoneBelow lt x zs → filter (ties lt y) zs ≡ y ∷ rest → lt y x ≡ false
  reaches x y [] rest all is = cc
  reaches x y (w ∷ ws) rest all is =
      elim (two (ties lt y w)) [
        | inl same ↦ not_below x y w same all.0
        | inr other ↦ reaches x y ws rest all.1 (sym (ap (λ b. cond b (w ∷ filter (ties lt y) ws) (filter (ties lt y) ws)) other) ∙ is)
      ]

  kept : (x y : X) (ys : List X) → ties lt x y ≡ true → filter (ties lt x) (y ∷ ys) ≡ y ∷ filter (ties lt x) ys
  kept x y ys t = ap (λ b. cond b (y ∷ filter (ties lt x) ys) (filter (ties lt x) ys)) t

  left_out : (x y : X) (ys : List X) → ties lt x y ≡ false → filter (ties lt x) (y ∷ ys) ≡ filter (ties lt x) ys
  left_out x y ys t = ap (λ b. cond b (y ∷ filter (ties lt x) ys) (filter (ties lt x) ys)) t

  tails : (x y : X) (ys zs : List X) → filter (ties lt x) (y ∷ ys) ≡ filter (ties lt x) (y ∷ zs) → filter (ties lt x) ys ≡ filter (ties lt x) zs
  tails x y ys zs same =
      elim (two (ties lt x y)) [
        | inl t ↦ let e : y ∷ filter (ties lt x) ys ≡ y ∷ filter (ties lt x) zs = sym (kept x y ys t) ∙ same ∙ kept x y zs t in cc
        | inr t ↦ sym (left_out x y ys t) ∙ same ∙ left_out x y zs t
      ]

  -- Two rising lists in which those that tie stand in one order are one list.
  pub sorted_once : (xs ys : List X) → Rises lt xs → Rises lt ys → ((x : X) → filter (ties lt x) xs ≡ filter (ties lt x) ys) → xs ≡ ys
  sorted_once [] [] up up' same = refl
  sorted_once [] (y ∷ ys) up up' same = let e : [] ≡ y ∷ filter (ties lt y) ys = same y ∙ kept y y ys (tied_itself y) in cc
  sorted_once (x ∷ xs) [] up up' same = let e : x ∷ filter (ties lt x) xs ≡ [] = sym (kept x x xs (tied_itself x)) ∙ same x in cc
  sorted_once (x ∷ xs) (y ∷ ys) up up' same =
      let low : lt x y ≡ false = reaches y x (y ∷ ys) (filter (ties lt x) xs) (not_itself y, up'.0) (sym (same x) ∙ kept x x xs (tied_itself x)) in
      let high : lt y x ≡ false = reaches x y (x ∷ xs) (filter (ties lt y) ys) (not_itself x, up.0) (same y ∙ kept y y ys (tied_itself y)) in
      let fronts : x ∷ filter (ties lt x) xs ≡ y ∷ filter (ties lt x) ys = sym (kept x x xs (tied_itself x)) ∙ same x ∙ kept x y ys (tied x y low high) in
      let front : x ≡ y = cc in
      let rest : xs ≡ ys = sorted_once xs ys up.1 up'.1 (λ z. tails z x xs ys (same z ∙ ap (λ w. filter (ties lt z) (w ∷ ys)) (sym front))) in
      cc

  -- what is above one of two is above the other
  above : (x y z : X) → lt x y ≡ true → lt z y ≡ false → lt x z ≡ true
  above x y z less up =
      elim (two (lt x z)) [
        | inl a ↦ a
        | inr b ↦ let c : lt x y ≡ false = o.chain x z y b up in cc
      ]

  none_below : (x y : X) (ys : List X) → lt x y ≡ true → NoneBelow lt y ys → NoneBelow lt x ys
  none_below x y [] less all = tt
  none_below x y (z ∷ zs) less all = (o.one_way x z (above x y z less all.0), none_below x y zs less all.1)

  insert_none_below : (x y : X) (ys : List X) → lt x y ≡ false → NoneBelow lt y ys → NoneBelow lt y (insert_by lt x ys)
  insert_none_below x y [] up all = (up, tt)
  insert_none_below x y (z ∷ zs) up all =
      by (lt x z) (all.0, insert_none_below x y zs up all.1)
    where
      by : (b : Bool) → NoneBelow lt y (z ∷ insert_by lt x zs) → NoneBelow lt y (cond b (x ∷ z ∷ zs) (z ∷ insert_by lt x zs))
      by true later = (up, all)
      by false later = later

  pub insert_rises : (x : X) (ys : List X) → Rises lt ys → Rises lt (insert_by lt x ys)
  insert_rises x [] up = (tt, tt)
  insert_rises x (y ∷ ys) up =
      by (lt x y) refl (insert_rises x ys up.1)
    where
      by : (b : Bool) → lt x y ≡ b → Rises lt (insert_by lt x ys) → Rises lt (cond b (x ∷ y ∷ ys) (y ∷ insert_by lt x ys))
      by true e later = ((o.one_way x y e, none_below x y ys e up.0), up)
      by false e later = (insert_none_below x y ys e up.0, later)

  tied_left : (x y : X) → ties lt x y ≡ true → lt x y ≡ false
  tied_left x y t = first_not (lt x y) (lt y x) t

  tied_right : (x y : X) → ties lt x y ≡ true → lt y x ≡ false
  tied_right x y t = second_not (lt x y) (lt y x) t

  -- what ties with x does not tie with what is above x
  no_tie : (z x y : X) → ties lt z x ≡ true → lt x y ≡ true → ties lt z y ≡ false
  no_tie z x y t less =
      elim (two (ties lt z y)) [
        | inl u ↦ let a : lt x y ≡ false = o.chain x z y (tied_right z x t) (tied_left z y u) in cc
        | inr u ↦ u
      ]

  none_tied : (z x y : X) (ys : List X) → ties lt z x ≡ true → lt x y ≡ true → NoneBelow lt y ys → filter (ties lt z) ys ≡ []
  none_tied z x y [] t less all = refl
  none_tied z x y (w ∷ ws) t less all =
      left_out z w ws (no_tie z x w t (above x y w less all.0)) ∙ none_tied z x y ws t less all.1

  -- an element goes behind those that it ties with
  insert_stable : (z x : X) (ys : List X) → Rises lt ys → filter (ties lt z) (insert_by lt x ys) ≡ filter (ties lt z) (ys ++ x ∷ [])
  insert_stable z x [] up = refl
  insert_stable z x (y ∷ ys) up =
      by (lt x y) refl (insert_stable z x ys up.1)
    where
      by : (b : Bool) → lt x y ≡ b → filter (ties lt z) (insert_by lt x ys) ≡ filter (ties lt z) (ys ++ x ∷ []) → filter (ties lt z) (cond b (x ∷ y ∷ ys) (y ∷ insert_by lt x ys)) ≡ filter (ties lt z) (y ∷ ys ++ x ∷ [])
      by false e later = ap (λ fs. cond (ties lt z y) (y ∷ fs) fs) later
      by true e later =
          elim (two (ties lt z x)) [
            | inl t ↦
                let none : filter (ties lt z) (y ∷ ys) ≡ [] = none_tied z x y (y ∷ ys) t e (not_itself y, up.0) in
                kept z x (y ∷ ys) t ∙ ap (λ fs. x ∷ fs) none
                ∙ sym (filter-append (ties lt z) (y ∷ ys) (x ∷ []) ∙ ap (λ fs. fs ++ filter (ties lt z) (x ∷ [])) none ∙ kept z x [] t)
            | inr t ↦
                left_out z x (y ∷ ys) t
                ∙ sym (filter-append (ties lt z) (y ∷ ys) (x ∷ []) ∙ ap (λ fs. filter (ties lt z) (y ∷ ys) ++ fs) (left_out z x [] t) ∙ append-nil (filter (ties lt z) (y ∷ ys)))
          ]

  pub insert_all_rises : (done xs : List X) → Rises lt done → Rises lt (insert_all lt done xs)
  insert_all_rises done [] up = up
  insert_all_rises done (x ∷ xs) up = insert_all_rises (insert_by lt x done) xs (insert_rises x done up)

  pub insert_all_stable : (z : X) (done xs : List X) → Rises lt done → filter (ties lt z) (insert_all lt done xs) ≡ filter (ties lt z) (done ++ xs)
  insert_all_stable z done [] up = ap (filter (ties lt z)) (sym (append-nil done))
  insert_all_stable z done (x ∷ xs) up =
      insert_all_stable z (insert_by lt x done) xs (insert_rises x done up)
      ∙ filter-append (ties lt z) (insert_by lt x done) xs
      ∙ ap (λ fs. fs ++ filter (ties lt z) xs) (insert_stable z x done up)
      ∙ sym (filter-append (ties lt z) (done ++ x ∷ []) xs)
      ∙ ap (filter (ties lt z)) (append_assoc done (x ∷ []) xs)

  -- What a stable sort of a list by this order gives: each element is put in behind all that are not above it.
  pub stable_sort : (xs ys : List X) → IsSortedBy lt ys → IsStableBy lt xs ys → ys ≡ fold (λ done x. insert_by lt x done) [] xs
  stable_sort xs ys up same =
      sorted_once ys (insert_all lt [] xs) (rises_from_sorted lt o ys up) (insert_all_rises [] xs tt)
      (λ z. same z ∙ sym (insert_all_stable z [] xs tt))
