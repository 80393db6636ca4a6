-- What a filter keeps, and how many.
use Rattle.std.proofs.Common.{◌≡◌, ◌≤◌, Bool, true, false, not, ◌&&◌, List, [], ◌∷◌, length, refl, ap, inl, inr, arith}
use Rattle.std.{specs.List.AllByRecursion, specs.List.filter, proofs.lemmas.Bool.cases_Bool}
use Rattle.isolation_laws.specs.device_rules.proofs.ListSteps.{many}

module _ {X : Type 0} where
  -- two tests one behind the other
  pub filter_both : (f g : X → Bool) (xs : List X) → filter g (filter f xs) ≡ filter (λ x. f x && g x) xs
  filter_both f g [] = refl
  filter_both f g (x ∷ xs) = elim (cases_Bool (f x)) [
    | inr fails ↦ rw fails (filter_both f g xs)
    | inl passes ↦ elim (cases_Bool (g x)) [
      | inl also ↦ rw (passes, also) (ap (λ ys. x ∷ ys) (filter_both f g xs))
      | inr but ↦ rw (passes, but) (filter_both f g xs)
    ]
  ]

  -- what passes has what each has
  pub each_filtered : (P : X → Type 0) (f : X → Bool) (xs : List X) → AllByRecursion P xs → AllByRecursion (λ x. P x × (f x ≡ true)) (filter f xs)
  each_filtered P f [] each = tt
  each_filtered P f (x ∷ xs) each = elim (cases_Bool (f x)) [
    | inl passes ↦ rw passes ((each.0, passes), each_filtered P f xs each.1)
    | inr fails ↦ rw fails (each_filtered P f xs each.1)
  ]

  -- where all pass, and where none does
  pub keeps_all : (f : X → Bool) (xs : List X) → AllByRecursion (λ x. f x ≡ true) xs → filter f xs ≡ xs
  keeps_all f [] each = refl
  keeps_all f (x ∷ xs) each = rw each.0 (ap (λ ys. x ∷ ys) (keeps_all f xs each.1))

  pub keeps_none : (f : X → Bool) (xs : List X) → AllByRecursion (λ x. f x ≡ false) xs → filter f xs ≡ []
  keeps_none f [] each = refl
  keeps_none f (x ∷ xs) each = rw each.0 (keeps_none f xs each.1)

  -- no more are kept
  pub fewer : (f : X → Bool) (xs : List X) → length (filter f xs) ≤ length xs
  fewer f [] = omega arith
  fewer f (x ∷ xs) = elim (cases_Bool (f x)) [
    | inl passes ↦ rw passes (omega (arith, fewer f xs))
    | inr fails ↦ rw fails (omega (arith, fewer f xs))
  ]

  -- nor more of those that pass another test
  pub many_filtered : (p f : X → Bool) (xs : List X) → many p (filter f xs) ≤ many p xs
  many_filtered p f [] = omega arith
  many_filtered p f (x ∷ xs) = elim (cases_Bool (f x)) [
    | inl stays ↦ elim (cases_Bool (p x)) [
      | inl here ↦ rw (stays, here) (omega (arith, many_filtered p f xs))
      | inr other ↦ rw (stays, other) (many_filtered p f xs)
    ]
    | inr goes ↦ elim (cases_Bool (p x)) [
      | inl here ↦ rw (goes, here) (omega (arith, many_filtered p f xs))
      | inr other ↦ rw (goes, other) (many_filtered p f xs)
    ]
  ]

  -- and all of those of which each passes it
  pub many_behind : (p f : X → Bool) (xs : List X) → AllByRecursion (λ x. p x ≡ true → f x ≡ true) xs → many p xs ≤ many p (filter f xs)
  many_behind p f [] each = omega arith
  many_behind p f (x ∷ xs) each = elim (cases_Bool (p x)) [
    | inl here ↦ rw (here, each.0 here, here) (omega (arith, many_behind p f xs each.1))
    | inr not_here ↦ elim (cases_Bool (f x)) [
      | inl stays ↦ rw (not_here, stays, not_here) (many_behind p f xs each.1)
      | inr goes ↦ rw (not_here, goes) (many_behind p f xs each.1)
    ]
  ]

  -- those that pass are gone, and those that pass another test are not
  pub none_stay : (f : X → Bool) (xs : List X) → filter f (filter (λ x. not (f x)) xs) ≡ []
  none_stay f [] = refl
  none_stay f (x ∷ xs) = elim (cases_Bool (f x)) [
    | inl passes ↦ rw passes (none_stay f xs)
    | inr fails ↦ rw (fails, fails) (none_stay f xs)
  ]

  pub others_stay : (f g : X → Bool) → ((x : X) → f x ≡ true → g x ≡ false) → (xs : List X) → filter g (filter (λ x. not (f x)) xs) ≡ filter g xs
  others_stay f g apart [] = refl
  others_stay f g apart (x ∷ xs) = elim (cases_Bool (f x)) [
    | inl mine ↦ (let fails = apart x mine in rw (mine, fails) (others_stay f g apart xs))
    | inr other ↦ elim (cases_Bool (g x)) [
      | inl passes ↦ rw (other, passes) (ap (λ ys. x ∷ ys) (others_stay f g apart xs))
      | inr fails ↦ rw (other, fails) (others_stay f g apart xs)
    ]
  ]
