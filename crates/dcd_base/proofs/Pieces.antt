-- Lists of members of one size, read piece by piece and written one after another.
use Rattle.std.proofs.Common.{◌≡◌, ℕ, zero, suc, ◌+◌, ◌-◌, ◌*◌, ◌<◌, List, [], ◌∷◌, ◌++◌, length, map, flat_map, take, drop, refl, sym, ap, subst, ◌∙◌, append_assoc, arith}
use Rattle.std.proofs.lemmas.List.{length-take, length-drop, take-append-drop, nil_from_length, Concat.flat_map-append}
use Rattle.std.specs.List.{AllByRecursion}
use Rattle.dcd_base.proofs.{Agreement.Agrees, Agreement.Agrees-append, Agreement.Agrees-split, Fields.IsBytes, Fields.length_of_fields, Widths.IsBytes-take, Widths.IsBytes-drop}
use Rattle.dcd_base.specs.Layouts.{Field, pieces, spell, spelling}

-- one more piece is read
pub pieces-goes_on : {X : Type 0} (f : List ℕ → X) (size n i : ℕ) (done : List X) (rest : List ℕ) (all : List X) → i < n
    → done ++ map f (pieces size (n - i) rest) ≡ all → (done ++ f (take size rest) ∷ []) ++ map f (pieces size (n - (i + 1)) (drop size rest)) ≡ all
pieces-goes_on f size n i done rest all lt so_far =
    let more : n - i ≡ suc (n - (i + 1)) = omega arith in
    append_assoc done (f (take size rest) ∷ []) (map f (pieces size (n - (i + 1)) (drop size rest))) ∙ (rw more at so_far)

pub length-pieces : (size n : ℕ) (bytes : List ℕ) → length (pieces size n bytes) ≡ n
length-pieces size zero bytes = refl
length-pieces size (suc n) bytes = ap suc (length-pieces size n (drop size bytes))

-- pieces of one size that each agree are a list that agrees
pub pieces_found : {X : Type 0} (f : List ℕ → X) (fields : X → List Field) (size : ℕ) (each : (b : List ℕ) → length b ≡ size → IsBytes b → Agrees b (fields (f b))) (n : ℕ) (bytes : List ℕ) → length bytes ≡ size * n → IsBytes bytes
    → Agrees bytes (flat_map fields (map f (pieces size n bytes)))
pieces_found f fields size each zero bytes len small = record { fits = tt; agrees = nil_from_length bytes (omega (arith, len)) }
pieces_found f fields size each (suc n) bytes len small =
    let first = each (take size bytes) (omega (arith, len, length-take size bytes)) (IsBytes-take size bytes small) in
    let rest = pieces_found f fields size each n (drop size bytes) (omega (arith, len, length-drop size bytes)) (IsBytes-drop size bytes small) in
    subst (λ b. Agrees b (fields (f (take size bytes)) ++ flat_map fields (map f (pieces size n (drop size bytes))))) (take-append-drop size bytes) (Agrees-append _ _ _ _ first rest)

-- bytes that agree with a list are its pieces
pub pieces_only : {X : Type 0} (f : List ℕ → X) (fields : X → List Field) (size : ℕ) (Good : X → Type 0) (each : (x : X) → Good x → (b : List ℕ) → Agrees b (fields x) → (length b ≡ size) × (f b ≡ x)) (xs : List X) → AllByRecursion Good xs → (bytes : List ℕ) → Agrees bytes (flat_map fields xs)
    → (length bytes ≡ size * length xs) × (map f (pieces size (length xs) bytes) ≡ xs)
pieces_only f fields size Good each [] good bytes a = (omega (arith, ap length a.agrees), refl)
pieces_only f fields size Good each (x ∷ xs) good bytes a =
    let parts = Agrees-split bytes (fields x) (flat_map fields xs) a in
    let long = length (spelling (fields x)) in
    let first = each x good.0 (take long bytes) parts.0 in
    let size_is : long ≡ size = sym (length_of_fields (take long bytes) (fields x) parts.0.agrees) ∙ first.0 in
    let here : f (take size bytes) ≡ x = rw size_is at first.1 in
    let rest = pieces_only f fields size Good each xs good.1 (drop size bytes) (rw size_is at parts.1) in
    let front : length (take size bytes) ≡ size = rw size_is at first.0 in
    (omega (arith, rest.0, front, length-take size bytes, length-drop size bytes), ap (λ y. y ∷ map f (pieces size (length xs) (drop size bytes))) here ∙ ap (λ ys. x ∷ ys) rest.1)

-- where nothing is asked of a member, each is good
pub each_is_good : {X : Type 0} (xs : List X) → AllByRecursion (λ x. Unit {0}) xs
each_is_good [] = tt
each_is_good (x ∷ xs) = (tt, each_is_good xs)

-- a list of values, each spelled by its fields
pub spelling_each : {X : Type 0} (fields : X → List Field) (xs : List X) → spelling (flat_map fields xs) ≡ flat_map (λ x. spelling (fields x)) xs
spelling_each fields [] = refl
spelling_each fields (x ∷ xs) = flat_map-append spell (fields x) (flat_map fields xs) ∙ ap (λ rest. spelling (fields x) ++ rest) (spelling_each fields xs)
