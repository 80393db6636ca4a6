-- Bytes that agree with a layout: put together, taken apart, and spelled.
use Rattle.std.proofs.Common.{◌≡◌, ℕ, ◌+◌, ◌≤◌, List, [], ◌∷◌, ◌++◌, length, take, drop, refl, sym, subst, arith}
use Rattle.std.proofs.lemmas.List.{length-take, length-append, take-append-le, drop-append-le, take-take, drop-drop, drop-take}
use Rattle.std.specs.List.{AllByRecursion}
use Rattle.dcd_base.proofs.Fields.{length_of_field, fields_spelled}
use Rattle.dcd_base.specs.Layouts.{Field, FitsField, ReadsField, ReadsFields, spell, spelling}

-- The values have spellings, and the bytes agree with them.
pub record Agrees (bytes : List ℕ) (fields : List Field) : Type 0 where
  pub fits : AllByRecursion FitsField fields
  pub agrees : ReadsFields bytes fields

-- so many bytes there are
long_enough : (bytes : List ℕ) (f : Field) → ReadsField (take (length (spell f)) bytes) f → length (spell f) ≤ length bytes
long_enough bytes f r = omega (arith, length_of_field _ f r, length-take (length (spell f)) bytes)

ReadsFields-append : (xs ys : List ℕ) (fs gs : List Field) → ReadsFields xs fs → ReadsFields ys gs → ReadsFields (xs ++ ys) (fs ++ gs)
ReadsFields-append xs ys [] gs r s = subst (λ z. ReadsFields (z ++ ys) gs) (sym r) s
ReadsFields-append xs ys (f ∷ fs) gs r s =
    let long = long_enough xs f r.0 in
    (rw (take-append-le (length (spell f)) xs ys long) r.0, rw (drop-append-le (length (spell f)) xs ys long) (ReadsFields-append (drop (length (spell f)) xs) ys fs gs r.1 s))

ReadsFields-split : (bytes : List ℕ) (fs gs : List Field) → ReadsFields bytes (fs ++ gs) → ReadsFields (take (length (spelling fs)) bytes) fs × ReadsFields (drop (length (spelling fs)) bytes) gs
ReadsFields-split bytes [] gs r = (refl, r)
ReadsFields-split bytes (f ∷ fs) gs r =
    let n = length (spell f) in
    let m = length (spelling fs) in
    let rest = ReadsFields-split (drop n bytes) fs gs r.1 in
    let whole : length (spelling (f ∷ fs)) ≡ n + m = length-append (spell f) (spelling fs) in
    rw whole (
      (rw (take-take n (n + m) bytes (omega arith)) r.0, rw (drop-take n m bytes) rest.0),
      rw (← drop-drop m n bytes) rest.1,
    )

pub fits-append : (fs gs : List Field) → AllByRecursion FitsField fs → AllByRecursion FitsField gs → AllByRecursion FitsField (fs ++ gs)
fits-append [] gs p q = q
fits-append (f ∷ fs) gs p q = (p.0, fits-append fs gs p.1 q)

fits-split : (fs gs : List Field) → AllByRecursion FitsField (fs ++ gs) → AllByRecursion FitsField fs × AllByRecursion FitsField gs
fits-split [] gs p = (tt, p)
fits-split (f ∷ fs) gs p =
    let rest = fits-split fs gs p.1 in
    ((p.0, rest.0), rest.1)

pub Agrees-append : (xs ys : List ℕ) (fs gs : List Field) → Agrees xs fs → Agrees ys gs → Agrees (xs ++ ys) (fs ++ gs)
Agrees-append xs ys fs gs a b = record { fits = fits-append fs gs a.fits b.fits; agrees = ReadsFields-append xs ys fs gs a.agrees b.agrees }

pub Agrees-split : (bytes : List ℕ) (fs gs : List Field) → Agrees bytes (fs ++ gs) → Agrees (take (length (spelling fs)) bytes) fs × Agrees (drop (length (spelling fs)) bytes) gs
Agrees-split bytes fs gs a =
    let fits = fits-split fs gs a.fits in
    let parts = ReadsFields-split bytes fs gs a.agrees in
    (record { fits = fits.0; agrees = parts.0 }, record { fits = fits.1; agrees = parts.1 })

pub Agrees-spelled : (fs : List Field) → AllByRecursion FitsField fs → Agrees (spelling fs) fs
Agrees-spelled fs fits = record { fits = fits; agrees = fields_spelled fs fits }
