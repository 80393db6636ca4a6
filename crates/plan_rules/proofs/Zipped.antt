-- What values state one by one.
use Rattle.std.proofs.Common.{◌≡◌, ℕ, zero, suc, ◌<◌, List, [], ◌∷◌, ◌++◌, length, map, take, get_or, sym, subst, arith}
use Rattle.std.specs.List.{AllZip}
use Rattle.serde_json.specs.{Data.Data, View.view, declared.value.Value.Value}

-- each value has something that it states
pub zipped_at : {X : Type 0} (States : Data → X → Type 0) (vs : List Value) (i : ℕ) (v : Value) → v ≡ get_or vs i v → i < length vs
    → (xs : List X) → AllZip States (map view vs) xs → (x : X) × States (view v) x
zipped_at States [] i v is within xs zipped = absurd (omega arith)
zipped_at States (w ∷ vs) i v is within [] zipped = absurd zipped
zipped_at States (w ∷ vs) zero v is within (x ∷ xs) zipped = (x, subst (λ y. States (view y) x) (sym is) zipped.0)
zipped_at States (w ∷ vs) (suc i) v is within (x ∷ xs) zipped = zipped_at States vs i v is (omega arith) xs zipped.1

-- what one more value states goes to the end
pub zipped_more : {X : Type 0} (States : Data → X → Type 0) (vs : List Value) (i : ℕ) (v : Value) → v ≡ get_or vs i v → i < length vs
    → (xs : List X) (x : X) → AllZip States (map view (take i vs)) xs → States (view v) x → AllZip States (map view (take (suc i) vs)) (xs ++ x ∷ [])
zipped_more States [] i v is within xs x zipped stated = absurd (omega arith)
zipped_more States (w ∷ vs) zero v is within [] x zipped stated = (subst (λ y. States (view y) x) is stated, tt)
zipped_more States (w ∷ vs) zero v is within (y ∷ ys) x zipped stated = absurd zipped
zipped_more States (w ∷ vs) (suc i) v is within [] x zipped stated = absurd zipped
zipped_more States (w ∷ vs) (suc i) v is within (y ∷ ys) x zipped stated = (zipped.0, zipped_more States vs i v is (omega arith) ys x zipped.1 stated)
