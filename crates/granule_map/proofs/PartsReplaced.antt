-- A run of a list whose items are replaced one after another, and what they were.
use Rattle.std.proofs.Common.{◌≡◌, ℕ, zero, suc, ◌+◌, ◌-◌, ◌<◌, ◌≤◌, Bool, true, false, cond, List, [], ◌∷◌, ◌++◌, length, get_or, set, take, drop, replicate, refl, ap, sym, ◌∙◌, arith, append-nil, append_assoc, length-append, length-drop}
use Rattle.std.proofs.Math.{Nat.add-zero, Nat.zero-add, Seq.set-append_seam, Seq.take-append_seam}
use Rattle.std.proofs.lemmas.List.{drop_more, get_or-append_right, get_or-drop, length-replicate, length-take-le, replicate-append-replicate, take-append-drop, take_more}
use Rattle.std.{proofs.lemmas.List.Sums.sum_by-append, proofs.lemmas.List.Sums.sum_by-cons, proofs.lemmas.Slice.drop-append-drop, specs.Prelude.count_by}

-- the list with so many items from the first on replaced
abbrev pub replaced : {X : Type 0} → ℕ → ℕ → X → List X → List X
replaced first i x xs = take first xs ++ replicate i x ++ drop (first + i) xs

module _ {X : Type 0} (xs : List X) (first i : ℕ) (x : X) (within : first + i < length xs) where
  front : length (take first xs ++ replicate i x) ≡ first + i
  front = length-append (take first xs) (replicate i x) ∙ omega (arith, length-take-le first xs (omega (arith, within)), length-replicate i x)

  -- one item more
  pub replaced_more : set (replaced first i x xs) (first + i) x ≡ replaced first (i + 1) x xs
  replaced_more =
      let past = drop (first + i + 1) xs in
      let place : first + i + 1 ≡ first + (i + 1) = omega arith in
      ap (λ (ys : List X). set (take first xs ++ replicate i x ++ ys) (first + i) x) (drop_more xs (first + i) x within)
      ∙ ap (λ n. set (take first xs ++ replicate i x ++ get_or xs (first + i) x ∷ past) n x) (sym front)
      ∙ set-append_seam (take first xs ++ replicate i x) (get_or xs (first + i) x) past x
      ∙ sym (append_assoc (take first xs ++ replicate i x) (x ∷ []) past)
      ∙ ap (λ (ys : List X). ys ++ past) (append_assoc (take first xs) (replicate i x) (x ∷ []) ∙ ap (λ (ys : List X). take first xs ++ ys) (replicate-append-replicate i 1 x))
      ∙ ap (λ n. take first xs ++ replicate (i + 1) x ++ drop n xs) place

  -- the next item is as it was
  pub replaced_next : (d : X) → get_or (replaced first i x xs) (first + i) d ≡ get_or xs (first + i) d
  replaced_next d =
      let none : first + i + (first + i - (first + i)) ≡ first + i = omega arith in
      get_or-append_right (take first xs ++ replicate i x) (drop (first + i) xs) (first + i) (first + i) d front (omega arith)
      ∙ get_or-drop (first + i) xs (first + i - (first + i)) d
      ∙ ap (λ n. get_or xs n d) none

  -- the items behind are as they were
  pub replaced_past : (k : ℕ) (d : X) → first + i ≤ k → get_or (replaced first i x xs) k d ≡ get_or xs k d
  replaced_past k d past =
      let place : first + i + (k - (first + i)) ≡ k = omega (arith, past) in
      get_or-append_right (take first xs ++ replicate i x) (drop (first + i) xs) (first + i) k d front past
      ∙ get_or-drop (first + i) xs (k - (first + i)) d
      ∙ ap (λ n. get_or xs n d) place

pub replaced_none : {X : Type 0} (xs : List X) (first : ℕ) (x : X) → xs ≡ replaced first 0 x xs
replaced_none xs first x =
    let none : first ≡ first + 0 = omega arith in
    sym (take-append-drop first xs) ∙ ap (λ n. take first xs ++ drop n xs) none ∙ ap (λ (ys : List _). ys ++ drop (first + 0) xs) (sym (append-nil (take first xs)))

replaced_long : {X : Type 0} (xs : List X) (first i : ℕ) (x : X) → first + i ≤ length xs → length (replaced first i x xs) ≡ length xs
replaced_long xs first i x within =
    length-append (take first xs ++ replicate i x) (drop (first + i) xs)
    ∙ omega (arith, length-append (take first xs) (replicate i x), length-take-le first xs (omega (arith, within)), length-replicate i x, length-drop (first + i) xs, within)

-- as many items more at once
pub replaced_on : {X : Type 0} (xs : List X) (first i n : ℕ) (x : X) → first + i + n ≤ length xs → replaced (first + i) n x (replaced first i x xs) ≡ replaced first (i + n) x xs
replaced_on xs first i zero x within =
    let none : i ≡ i + 0 = omega arith in
    sym (replaced_none (replaced first i x xs) (first + i) x) ∙ ap (λ m. replaced first m x xs) none
replaced_on xs first i (suc n) x within =
    let one : n + 1 ≡ suc n = omega arith in
    let all : i + n + 1 ≡ i + suc n = omega arith in
    let place : first + i + n ≡ first + (i + n) = omega arith in
    let long = replaced_long xs first i x (omega (arith, within)) in
    ap (λ m. replaced (first + i) m x (replaced first i x xs)) (sym one)
    ∙ sym (replaced_more (replaced first i x xs) (first + i) n x (omega (arith, long, within)))
    ∙ ap (λ (ys : List _). set ys (first + i + n) x) (replaced_on xs first i n x (omega (arith, within)))
    ∙ ap (λ m. set (replaced first (i + n) x xs) m x) place
    ∙ replaced_more xs first (i + n) x (omega (arith, within))
    ∙ ap (λ m. replaced first m x xs) all

-- items that are replaced again are as if they were replaced once
replaced_over : {X : Type 0} (xs : List X) (first i n : ℕ) (x : X) → i ≤ n → first + n ≤ length xs → replaced first n x (replaced first i x xs) ≡ replaced first n x xs
replaced_over xs first i n x few within =
    let front_long : length (take first xs) ≡ first = length-take-le first xs (omega (arith, within)) in
    let both_long : length (take first xs ++ replicate i x) ≡ first + i = length-append (take first xs) (replicate i x) ∙ omega (arith, front_long, length-replicate i x) in
    let before : take first (replaced first i x xs) ≡ take first xs =
    ap (take first) (append_assoc (take first xs) (replicate i x) (drop (first + i) xs))
    ∙ ap (λ m. take m (take first xs ++ (replicate i x ++ drop (first + i) xs))) (sym front_long)
    ∙ take-append_seam (take first xs) (replicate i x ++ drop (first + i) xs) in
    let behind : drop (first + n) (replaced first i x xs) ≡ drop (first + n) xs =
    drop-append-drop (first + i) xs (take first xs ++ replicate i x) (first + n) (omega (arith, few)) both_long in
    ap (λ (ys : List _). ys ++ replicate n x ++ drop (first + n) (replaced first i x xs)) before
    ∙ ap (λ (ys : List _). take first xs ++ replicate n x ++ ys) behind

-- the first of so many items and the last of them are all of them, where they meet
pub replaced_ends : {X : Type 0} (xs : List X) (first n count : ℕ) (x : X) → n ≤ count → count ≤ n + n → first + count ≤ length xs
    → replaced (first + (count - n)) n x (replaced first n x xs) ≡ replaced first count x xs
replaced_ends xs first n count x least most within =
    let m = count - n in
    let split : m + (n - m) ≡ n = omega (arith, least, most) in
    let all : m + n ≡ count = omega (arith, least) in
    let long = replaced_long xs first m x (omega (arith, least, within)) in
    ap (λ k. replaced (first + m) n x (replaced first k x xs)) (sym split)
    ∙ ap (λ (ys : List _). replaced (first + m) n x ys) (sym (replaced_on xs first m (n - m) x (omega (arith, split, least, within))))
    ∙ replaced_over (replaced first m x xs) (first + m) (n - m) n x (omega arith) (omega (arith, long, least, within))
    ∙ replaced_on xs first m n x (omega (arith, least, within))
    ∙ ap (λ k. replaced first k x xs) all

-- one item more is counted
pub counted_more : (p : ℕ → Bool) (xs : List ℕ) (first i : ℕ) → first + i < length xs → count_by p (take (i + 1) (drop first xs)) ≡ count_by p (take i (drop first xs)) + cond (p (get_or xs (first + i) 0)) 1 0
counted_more p xs first i within =
    ap (count_by p) (take_more (drop first xs) i 0 (omega (arith, length-drop first xs, within)))
    ∙ sum_by-append (λ m. cond (p m) 1 0) (take i (drop first xs)) (get_or (drop first xs) i 0 ∷ [])
    ∙ ap (λ n. count_by p (take i (drop first xs)) + n) (sum_by-cons (λ m. cond (p m) 1 0) (get_or (drop first xs) i 0) [] ∙ add-zero _ ∙ ap (λ m. cond (p m) 1 0) (get_or-drop first xs i 0))

nothing_if : (b : Bool) → ◌≡◌ {A = ℕ} (cond b 0 0) 0
nothing_if true = refl
nothing_if false = refl

one_more_if : (b : Bool) (n : ℕ) → cond b n 0 + cond b 1 0 ≡ cond b (suc n) 0
one_more_if true n = omega arith
one_more_if false n = refl

-- as many items more as lie together and are alike
pub counted_alike : (p : ℕ → Bool) (xs : List ℕ) (first i n was : ℕ) → first + i + n ≤ length xs → ((k : ℕ) → first + i ≤ k → k < first + i + n → get_or xs k 0 ≡ was)
    → count_by p (take (i + n) (drop first xs)) ≡ count_by p (take i (drop first xs)) + cond (p was) n 0
counted_alike p xs first i zero was within alike =
    let none : i + 0 ≡ i = omega arith in
    ap (λ m. count_by p (take m (drop first xs))) none ∙ omega (arith, nothing_if (p was))
counted_alike p xs first i (suc n) was within alike =
    let here : get_or xs (first + (i + n)) 0 ≡ was = alike (first + (i + n)) (omega arith) (omega arith) in
    let place : i + suc n ≡ i + n + 1 = omega arith in
    let rest = counted_alike p xs first i n was (omega (arith, within)) (λ k low high. alike k low (omega (arith, high))) in
    let last = counted_more p xs first (i + n) (omega (arith, within)) ∙ ap (λ m. count_by p (take (i + n) (drop first xs)) + cond (p m) 1 0) here in
    ap (λ m. count_by p (take m (drop first xs))) place ∙ omega (arith, rest, last, one_more_if (p was) n)

-- so many that are alike
pub counted_all : (p : ℕ → Bool) (xs : List ℕ) (first n : ℕ) → first + n ≤ length xs → ((k : ℕ) → first ≤ k → k < first + n → get_or xs k 0 ≡ get_or xs first 0)
    → count_by p (take n (drop first xs)) ≡ cond (p (get_or xs first 0)) n 0
counted_all p xs first n within alike =
    let whole : n ≡ 0 + n = omega arith in
    ap (λ m. count_by p (take m (drop first xs))) whole
    ∙ counted_alike p xs first 0 n (get_or xs first 0) (omega (arith, within)) (λ k low high. alike k (omega (arith, low)) (omega (arith, high)))
    ∙ zero-add (cond (p (get_or xs first 0)) n 0)

pub most_if : (b : Bool) (n : ℕ) → cond b n 0 ≤ n
most_if true n = omega arith
most_if false n = omega arith
