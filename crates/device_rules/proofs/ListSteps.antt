-- What holds of each member of a list, and how many members of it pass a test.
use Rattle.std.proofs.Common.{◌≡◌, ℕ, suc, ◌+◌, ◌<◌, Bool, true, false, ◌||◌, List, [], ◌∷◌, ◌++◌, length, map, refl, ap, sym, ◌∙◌, inl, inr, arith, length-append, append_assoc}
use Rattle.std.proofs.lemmas.{Bool.and_from, Bool.cases_Bool, Bool.false≢true, Bool.or_parts, List.Elements.filter-append}
use Rattle.std.specs.{List.AllByRecursion, List.filter, List.list_all, List.list_any, Prelude.drop, Prelude.flat_map}

-- ---- of each

pub each-append : {X : Type 0} (P : X → Type 0) (xs ys : List X) → AllByRecursion P xs → AllByRecursion P ys → AllByRecursion P (xs ++ ys)
each-append P [] ys a b = b
each-append P (x ∷ xs) ys a b = (a.0, each-append P xs ys a.1 b)

pub each-front : {X : Type 0} (P : X → Type 0) (xs ys : List X) → AllByRecursion P (xs ++ ys) → AllByRecursion P xs
each-front P [] ys a = tt
each-front P (x ∷ xs) ys a = (a.0, each-front P xs ys a.1)

pub each-back : {X : Type 0} (P : X → Type 0) (xs ys : List X) → AllByRecursion P (xs ++ ys) → AllByRecursion P ys
each-back P [] ys a = a
each-back P (x ∷ xs) ys a = each-back P xs ys a.1

pub each-others : {X : Type 0} (P : X → Type 0) (xs : List X) → AllByRecursion P xs → AllByRecursion P (drop 1 xs)
each-others P [] a = tt
each-others P (x ∷ xs) a = a.1

pub each-all : {X : Type 0} (P : X → Type 0) → ((x : X) → P x) → (xs : List X) → AllByRecursion P xs
each-all P all [] = tt
each-all P all (x ∷ xs) = (all x, each-all P all xs)

pub each-change : {X : Type 0} (P Q : X → Type 0) → ((x : X) → P x → Q x) → (xs : List X) → AllByRecursion P xs → AllByRecursion Q xs
each-change P Q f [] a = tt
each-change P Q f (x ∷ xs) a = (f x a.0, each-change P Q f xs a.1)

pub each-both : {X : Type 0} (P Q R : X → Type 0) → ((x : X) → P x → Q x → R x) → (xs : List X) → AllByRecursion P xs → AllByRecursion Q xs → AllByRecursion R xs
each-both P Q R f [] a b = tt
each-both P Q R f (x ∷ xs) a b = (f x a.0 b.0, each-both P Q R f xs a.1 b.1)

pub each-map : {X Y : Type 0} (P : X → Type 0) (Q : Y → Type 0) (f : X → Y) → ((x : X) → P x → Q (f x)) → (xs : List X) → AllByRecursion P xs → AllByRecursion Q (map f xs)
each-map P Q f step [] a = tt
each-map P Q f step (x ∷ xs) a = (step x a.0, each-map P Q f step xs a.1)

pub each-list_all : {X : Type 0} (P : X → Type 0) (p : X → Bool) → ((x : X) → P x → p x ≡ true) → (xs : List X) → AllByRecursion P xs → list_all p xs ≡ true
each-list_all P p step [] a = refl
each-list_all P p step (x ∷ xs) a = and_from (p x) (list_all p xs) (step x a.0) (each-list_all P p step xs a.1)

-- a member that passes has it
pub each-at : {X : Type 0} (P : X → Type 0) (p : X → Bool) (xs : List X) → AllByRecursion P xs → list_any p xs ≡ true → (x : X) × (p x ≡ true) × P x
each-at P p [] a e = absurd (false≢true e)
each-at P p (x ∷ xs) a e = elim (cases_Bool (p x)) [
  | inl here ↦ (x, here, a.0)
  | inr other ↦ each-at P p xs a.1 (rw other at e)
]

-- ---- how many

abbrev pub many : {X : Type 0} → (X → Bool) → List X → ℕ
many p xs = length (filter p xs)

pub many-append : {X : Type 0} (p : X → Bool) (xs ys : List X) → many p (xs ++ ys) ≡ many p xs + many p ys
many-append p xs ys = ap length (filter-append p xs ys) ∙ length-append (filter p xs) (filter p ys)

pub many-any : {X : Type 0} (p : X → Bool) (xs : List X) → list_any p xs ≡ true → 0 < many p xs
many-any p [] e = absurd (false≢true e)
many-any p (x ∷ xs) e = elim (cases_Bool (p x)) [
  | inl here ↦ rw here (omega arith)
  | inr other ↦ rw other (many-any p xs (rw other at e))
]

pub many-none : {X : Type 0} (p : X → Bool) (xs : List X) → list_any p xs ≡ false → many p xs ≡ 0
many-none p [] e = refl
many-none p (x ∷ xs) e = let parts = or_parts (p x) (list_any p xs) e in rw parts.0 (many-none p xs parts.1)

-- the test after a map
pub any-map : {X Y : Type 0} (p : Y → Bool) (f : X → Y) (xs : List X) → list_any p (map f xs) ≡ list_any (λ x. p (f x)) xs
any-map p f [] = refl
any-map p f (x ∷ xs) = ap (λ b. p (f x) || b) (any-map p f xs)

pub many-map : {X Y : Type 0} (p : Y → Bool) (f : X → Y) (xs : List X) → many p (map f xs) ≡ many (λ x. p (f x)) xs
many-map p f [] = refl
many-map p f (x ∷ xs) = elim (cases_Bool (p (f x))) [
  | inl here ↦ rw here (ap suc (many-map p f xs))
  | inr other ↦ rw other (many-map p f xs)
]

-- the first of a list of lists, and the others
pub flat-push : {X : Type 0} (xss : List (List X)) (xs : List X) → flat_map (λ ys. ys) (xss ++ xs ∷ []) ≡ flat_map (λ ys. ys) xss ++ xs
flat-push [] [] = refl
flat-push [] (x ∷ xs) = ap (λ ys. x ∷ ys) (flat-push [] xs)
flat-push (ys ∷ xss) xs = ap (λ zs. ys ++ zs) (flat-push xss xs) ∙ sym (append_assoc ys (flat_map (λ zs. zs) xss) xs)
