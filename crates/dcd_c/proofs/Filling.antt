-- Lists that are put into a caller's room item by item.
use Rattle.std.proofs.Common.{◌≡◌, ℕ, suc, ◌+◌, ◌<◌, List, [], ◌∷◌, ◌++◌, sym, ap, ◌∙◌, append-nil, arith, drop, flat_map, get_or, length, map, set, take}
use Rattle.std.proofs.lemmas.{Grind.flat_map-append, List.append_assoc, List.drop-drop, List.take-append-drop, List.drop-set-lt, List.map_push, List.take_more, List.take_more_set}
use Rattle.std.{proofs.lemmas.List.FromFn.map-range_with_len_more, proofs.lemmas.Option.get_or_from_slice_get, proofs.lemmas.Option.slice_get_within, specs.List.range_with_len}
use Rattle.std.specs.Prelude.{Some, slice_get}

-- what stands in front and behind is the whole
pub filled : {X : Type 0} (new old xs : List X) (n : ℕ) → take n new ≡ xs → drop n new ≡ drop n old → new ≡ xs ++ drop n old
filled new old xs n put rest = sym (take-append-drop n new) ∙ ap (λ ys. ys ++ drop n new) put ∙ ap (λ ys. xs ++ ys) rest

-- what is the same behind a place is so behind a later one
pub drop_on : {X : Type 0} (xs ys : List X) (n m : ℕ) → drop n xs ≡ drop n ys → drop (n + m) xs ≡ drop (n + m) ys
drop_on xs ys n m same = sym (drop-drop m n xs) ∙ ap (drop m) same ∙ drop-drop m n ys

-- a list at the start, and one more item behind it
pub with_end : {X : Type 0} (out mid all front : List X) (x : X) → take (0 + length front) mid ≡ front → drop (0 + length front) mid ≡ drop (0 + length front) out
    → take (length front + 1) all ≡ take (length front) mid ++ x ∷ [] → drop (length front + 1) all ≡ drop (length front + 1) mid
    → all ≡ front ++ x ∷ drop (suc (length front)) out
with_end out mid all front x put rest put_x rest_x =
    let n = length front in
    let same : 0 + n ≡ n = omega arith in
    let next : n + 1 ≡ suc n = omega arith in
    let before : take n mid ≡ front = ap (λ k. take k mid) (sym same) ∙ put in
    let behind : drop n mid ≡ drop n out = ap (λ k. drop k mid) (sym same) ∙ rest ∙ ap (λ k. drop k out) same in
    filled all out (front ++ x ∷ []) (n + 1) (put_x ∙ ap (λ xs. xs ++ x ∷ []) before) (rest_x ∙ drop_on mid out n 1 behind)
    ∙ append_assoc front (x ∷ []) (drop (n + 1) out) ∙ ap (λ k. front ++ x ∷ drop k out) next

-- one more item of a list, as f makes it
pub put_mapped : {X Y : Type 0} (f : Y → X) (room front : List X) (ys : List Y) (n m i : ℕ) (x : X) (d : Y) → m ≡ n + 1 → n < length room → i < length ys
    → take n room ≡ front ++ map f (take i ys) → x ≡ f (get_or ys i d) → take m (set room n x) ≡ front ++ map f (take (i + 1) ys)
put_mapped f room front ys n m i x d next within below so_far is =
    ap (λ k. take k (set room n x)) next ∙ take_more_set room n x within ∙ (λ j. so_far j ++ is j ∷ [])
    ∙ append_assoc front (map f (take i ys)) (f (get_or ys i d) ∷ [])
    ∙ ap (λ zs. front ++ zs) (sym (map_push f (take i ys) (get_or ys i d)) ∙ ap (map f) (sym (take_more ys i d below)))

-- one more item of those that f makes of the numbers
pub put_numbered : {X : Type 0} (f : ℕ → X) (room front : List X) (n m i : ℕ) (x : X) → m ≡ n + 1 → n < length room
    → take n room ≡ front ++ map f (range_with_len 0 i) → x ≡ f i → take m (set room n x) ≡ front ++ map f (range_with_len 0 (i + 1))
put_numbered f room front n m i x next within so_far is =
    let same : 0 + i ≡ i = omega arith in
    ap (λ k. take k (set room n x)) next ∙ take_more_set room n x within ∙ (λ j. so_far j ++ is j ∷ [])
    ∙ append_assoc front (map f (range_with_len 0 i)) (f i ∷ []) ∙ ap (λ zs. front ++ zs) (sym (map-range_with_len_more f 0 i i same))

-- what f makes of the first i + 1 items, one behind the other
pub flat_more : {X Y : Type 0} (f : X → List Y) (xs : List X) (i : ℕ) (x : X) → slice_get xs i ≡ Some x → flat_map f (take (i + 1) xs) ≡ flat_map f (take i xs) ++ f x
flat_more f xs i x is =
    ap (flat_map f) (take_more xs i x (slice_get_within xs i x is) ∙ ap (λ y. take i xs ++ y ∷ []) (get_or_from_slice_get xs i x x is))
    ∙ flat_map-append f (take i xs) (x ∷ []) ∙ ap (λ ys. flat_map f (take i xs) ++ ys) (append-nil (f x))

-- what stands behind it stays
pub put_behind : {X : Type 0} (room out : List X) (n m : ℕ) (x : X) → m ≡ n + 1 → drop n room ≡ drop n out → drop m (set room n x) ≡ drop m out
put_behind room out n m x next rest =
    let after : n < m = omega (arith, next) in
    drop-set-lt m room n x after ∙ ap (λ k. drop k room) next ∙ drop_on room out n 1 rest ∙ ap (λ k. drop k out) (sym next)
