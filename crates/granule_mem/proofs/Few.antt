-- A few words in a row: where a word stands, what a store makes of the row, and the row as a map.
use Rattle.std.proofs.Common.{◌≡◌, ℕ, zero, suc, ◌+◌, ◌-◌, ◌<◌, ◌≤◌, true, false, cond, List, [], ◌∷◌, ◌++◌, Some, None, length, get_or, set, take, drop, refl, ap, sym, ◌∙◌, eqb, eq-eqb, ne_eqb, inl, inr, arith}
use Rattle.std.{proofs.lemmas.Bool.cases_eq, proofs.lemmas.Bool.cases_order, proofs.lemmas.Bool.le-ltb, proofs.lemmas.Bool.lt-ltb, specs.BTreeMap.is_at, specs.Ordering.nat_cmp}
use Rattle.std.specs.Prelude.{unwrap_or}
use Rattle.granule_mem.specs.{Contents.word_among, Words.HasSameWords, Words.PutsWord, Words.found}

-- two numbers tie in the order of numbers exactly where they are equal
pub is_at_number : (a b : ℕ) → is_at (nat_cmp a) b ≡ eqb a b
is_at_number a b = elim (cases_order a b) [
  | inl same ↦ (let order : b ≤ a = omega (arith, same) in rw (le-ltb a b order, eq-eqb a b same) refl)
  | inr apart ↦ elim apart [
    | inl below ↦ rw (lt-ltb a b below, ne_eqb a b (λ e. omega (arith, e, below))) refl
    | inr above ↦ (let order : b ≤ a = omega (arith, above) in rw (le-ltb a b order, ne_eqb a b (λ e. omega (arith, e, above))) refl)
  ]
]

pub is_at_same : (a b : ℕ) → a ≡ b → is_at (nat_cmp a) b ≡ true
is_at_same a b same = is_at_number a b ∙ eq-eqb a b same

pub is_at_other : (a b : ℕ) → (a ≡ b → ⊥) → is_at (nat_cmp a) b ≡ false
is_at_other a b apart = is_at_number a b ∙ ne_eqb a b apart

-- ---- the first entry

found_head : (e : ℕ × ℕ) (es : List (ℕ × ℕ)) (w : ℕ) → e.0 ≡ w → found (e ∷ es) w ≡ Some e.1
found_head e es w same = ap (λ b. cond b (Some e.1) (found es w)) (is_at_same w e.0 (sym same))

found_tail : (e : ℕ × ℕ) (es : List (ℕ × ℕ)) (w : ℕ) → (e.0 ≡ w → ⊥) → found (e ∷ es) w ≡ found es w
found_tail e es w apart = ap (λ b. cond b (Some e.1) (found es w)) (is_at_other w e.0 (λ s. apart (sym s)))

some_is_none : (x : ℕ) → Some x ≡ None → ⊥
some_is_none x e = absurd cc

-- where nothing is found, neither the first entry nor a later one has the number
not_head : (e : ℕ × ℕ) (es : List (ℕ × ℕ)) (w : ℕ) → found (e ∷ es) w ≡ None → e.0 ≡ w → ⊥
not_head e es w none same = some_is_none e.1 (sym (found_head e es w same) ∙ none)

not_tail : (e : ℕ × ℕ) (es : List (ℕ × ℕ)) (w : ℕ) → found (e ∷ es) w ≡ None → found es w ≡ None
not_tail e es w none = sym (found_tail e es w (not_head e es w none)) ∙ none

-- ---- where a word stands

-- the entry at its place is the one that is found
pub found_at : (few : List (ℕ × ℕ)) (word place : ℕ) (d : ℕ × ℕ) → place < length few → (get_or few place d).0 ≡ word → found (take place few) word ≡ None
    → found few word ≡ Some (get_or few place d).1
found_at [] word place d known here none = absurd (omega (arith, known))
found_at (e ∷ es) word zero d known here none = found_head e es word here
found_at (e ∷ es) word (suc i) d known here none =
    found_tail e es word (not_head e (take i es) word none)
    ∙ found_at es word i d (omega (arith, known)) here (not_tail e (take i es) word none)

none_suc : (few : List (ℕ × ℕ)) (word place : ℕ) (d : ℕ × ℕ) → place < length few → ((get_or few place d).0 ≡ word → ⊥) → found (take place few) word ≡ None
    → found (take (suc place) few) word ≡ None
none_suc [] word place d known other none = absurd (omega (arith, known))
none_suc (e ∷ es) word zero d known other none = found_tail e [] word other
none_suc (e ∷ es) word (suc i) d known other none =
    found_tail e (take (suc i) es) word (not_head e (take i es) word none)
    ∙ none_suc es word i d (omega (arith, known)) other (not_tail e (take i es) word none)

one_more : (i : ℕ) → i + 1 ≡ suc i
one_more i = omega arith

-- one more entry without the number
pub none_more : (few : List (ℕ × ℕ)) (word place : ℕ) (d : ℕ × ℕ) → place < length few → ((get_or few place d).0 ≡ word → ⊥) → found (take place few) word ≡ None
    → found (take (place + 1) few) word ≡ None
none_more few word place d known other none =
    ap (λ n. found (take n few) word) (one_more place) ∙ none_suc few word place d known other none

-- ---- a store

-- at the place of the word
pub puts_at : (few : List (ℕ × ℕ)) (word value place : ℕ) (d : ℕ × ℕ) → place < length few → (get_or few place d).0 ≡ word → found (take place few) word ≡ None
    → PutsWord few (set few place (word, value)) word value
puts_at [] word value place d known here none w = absurd (omega (arith, known))
puts_at (e ∷ es) word value zero d known here none w = elim (cases_eq word w) [
  | inl same ↦ rw (eq-eqb word w same) (ap (λ o. unwrap_or o 0) (found_head (word, value) es w same))
  | inr apart ↦ rw (ne_eqb word w apart)
      (ap (λ o. unwrap_or o 0) (found_tail (word, value) es w apart ∙ sym (found_tail e es w (λ s. apart (sym here ∙ s)))))
]
puts_at (e ∷ es) word value (suc i) d known here none w = elim (cases_eq e.0 w) [
  | inl same ↦ (let other : word ≡ w → ⊥ = λ s. not_head e (take i es) word none (same ∙ sym s) in
      rw (ne_eqb word w other) (ap (λ o. unwrap_or o 0) (found_head e (set es i (word, value)) w same ∙ sym (found_head e es w same))))
  | inr apart ↦
      (ap (λ o. unwrap_or o 0) (found_tail e (set es i (word, value)) w apart)
      ∙ puts_at es word value i d (omega (arith, known)) here (not_tail e (take i es) word none) w
      ∙ ap (λ o. cond (eqb word w) value (unwrap_or o 0)) (sym (found_tail e es w apart)))
]

-- behind all, where the word is not there
pub puts_behind : (few : List (ℕ × ℕ)) (word value : ℕ) → found few word ≡ None → PutsWord few (few ++ (word, value) ∷ []) word value
puts_behind [] word value none w = elim (cases_eq word w) [
  | inl same ↦ rw (eq-eqb word w same) (ap (λ o. unwrap_or o 0) (found_head (word, value) [] w same))
  | inr apart ↦ rw (ne_eqb word w apart) (ap (λ o. unwrap_or o 0) (found_tail (word, value) [] w apart))
]
puts_behind (e ∷ es) word value none w = elim (cases_eq e.0 w) [
  | inl same ↦ (let other : word ≡ w → ⊥ = λ s. not_head e es word none (same ∙ sym s) in
      rw (ne_eqb word w other) (ap (λ o. unwrap_or o 0) (found_head e (es ++ (word, value) ∷ []) w same ∙ sym (found_head e es w same))))
  | inr apart ↦
      (ap (λ o. unwrap_or o 0) (found_tail e (es ++ (word, value) ∷ []) w apart)
      ∙ puts_behind es word value (not_tail e es word none) w
      ∙ ap (λ o. cond (eqb word w) value (unwrap_or o 0)) (sym (found_tail e es w apart)))
]

-- ---- the map of a row, made from its end on

-- what a store into a map leaves
pub puts_updated : (old new : List (ℕ × ℕ)) (word value : ℕ) → ((w : ℕ) → found new w ≡ cond (is_at (nat_cmp word) w) (Some value) (found old w)) → PutsWord old new word value
puts_updated old new word value updates w = ap (λ o. unwrap_or o 0) (updates w) ∙ elim (cases_eq word w) [
  | inl same ↦ rw (is_at_same word w same, eq-eqb word w same) refl
  | inr apart ↦ rw (is_at_other word w apart, ne_eqb word w apart) refl
]

-- a word in front of others counts before them
pub puts_front : (e : ℕ × ℕ) (es : List (ℕ × ℕ)) → PutsWord es (e ∷ es) e.0 e.1
puts_front e es w = elim (cases_eq e.0 w) [
  | inl same ↦ rw (eq-eqb e.0 w same) (ap (λ o. unwrap_or o 0) (found_head e es w same))
  | inr apart ↦ rw (ne_eqb e.0 w apart) (ap (λ o. unwrap_or o 0) (found_tail e es w apart))
]

drop_suc : (few : List (ℕ × ℕ)) (i : ℕ) (d : ℕ × ℕ) → i < length few → drop i few ≡ get_or few i d ∷ drop (suc i) few
drop_suc [] i d known = absurd (omega (arith, known))
drop_suc (e ∷ es) zero d known = refl
drop_suc (e ∷ es) (suc i) d known = drop_suc es i d (omega (arith, known))

drop_at : (few : List (ℕ × ℕ)) (i : ℕ) (d : ℕ × ℕ) → i < length few → drop i few ≡ get_or few i d ∷ drop (i + 1) few
drop_at few i d known = drop_suc few i d known ∙ ap (λ n. get_or few i d ∷ drop n few) (sym (one_more i))

-- one more word of the row is in the map, which has so many of its last words
pub same_more : (few old new : List (ℕ × ℕ)) (done : ℕ) (d : ℕ × ℕ) → done < length few → HasSameWords old (drop (length few - done) few)
    → PutsWord old new (get_or few (length few - 1 - done) d).0 (get_or few (length few - 1 - done) d).1 → HasSameWords new (drop (length few - (done + 1)) few)
same_more few old new done d known same puts w =
    let i = length few - 1 - done in
    let e = get_or few i d in
    let within : i < length few = omega (arith, known) in
    let here : length few - (done + 1) ≡ i = omega arith in
    let next : length few - done ≡ i + 1 = omega (arith, known) in
    puts w
    ∙ ap (λ x. cond (eqb e.0 w) e.1 x) (same w ∙ ap (λ n. word_among (drop n few) w) next)
    ∙ sym (puts_front e (drop (i + 1) few) w)
    ∙ ap (λ es. word_among es w) (sym (drop_at few i d within))
    ∙ ap (λ n. word_among (drop n few) w) (sym here)
