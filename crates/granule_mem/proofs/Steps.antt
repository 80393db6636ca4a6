-- What one store, one clearing and one change of a holder leave, granule by granule.
use Rattle.std.proofs.Common.{◌≡◌, ℕ, ◌+◌, ◌<◌, ◌≤◌, Bool, true, false, cond, List, [], length, get_or, set, refl, ap, sym, ◌∙◌, eqb, leb, ltb, inl, inr, arith}
use Rattle.std.proofs.lemmas.Bool.{cases_eq, cases_lt, eq-eqb, le-leb, le-ltb, lt-ltb, ne_eqb}
use Rattle.std.{proofs.lemmas.List.get_or_default, proofs.lemmas.List.get_or-set_other, proofs.lemmas.List.get_or-set_same, proofs.lemmas.List.set-get_or, specs.Prelude.◌&&◌}
use Rattle.granule_mem.specs.{Contents.word_among, Words.PutsWord}

-- after a change at one place, what stands at any place
pub get_or-set_cond : {X : Type 0} (xs : List X) (i g : ℕ) (x d : X) → i < length xs → get_or (set xs i x) g d ≡ cond (eqb i g) x (get_or xs g d)
get_or-set_cond xs i g x d known = elim (cases_eq i g) [
  | inl same ↦ rw (eq-eqb i g same) (ap (λ k. get_or (set xs i x) k d) (sym same) ∙ get_or-set_same xs i x d known)
  | inr apart ↦ rw (ne_eqb i g apart) (get_or-set_other xs i g x d (λ e. apart (sym e)))
]

cond_of : {X Y : Type 0} (f : X → Y) (b : Bool) (x y : X) → f (cond b x y) ≡ cond b (f x) (f y)
cond_of f b x y = elim b as (λ b. f (cond b x y) ≡ cond b (f x) (f y)) [ true ↦ refl | false ↦ refl ]

-- any word once the words of one granule are others
pub word_after_set : (all : List (List (ℕ × ℕ))) (i : ℕ) (new : List (ℕ × ℕ)) (g w : ℕ) → i < length all
    → word_among (get_or (set all i new) g []) w ≡ cond (eqb i g) (word_among new w) (word_among (get_or all g []) w)
word_after_set all i new g w known =
    ap (λ es. word_among es w) (get_or-set_cond all i g new [] known)
    ∙ cond_of (λ es. word_among es w) (eqb i g) new (get_or all g [])

-- what stands at a place is there whatever stands beyond the end
same_at : {X : Type 0} (xs : List X) (i : ℕ) (x d : X) → i < length xs → x ≡ get_or xs i x → get_or xs i d ≡ x
same_at xs i x d known is = get_or_default xs i d x known ∙ sym is

-- any word after a store
pub word_after_store : (all : List (List (ℕ × ℕ))) (i : ℕ) (old new : List (ℕ × ℕ)) (word value : ℕ) → i < length all → old ≡ get_or all i old
    → PutsWord old new word value → (g w : ℕ)
    → word_among (get_or (set all i new) g []) w ≡ cond (eqb i g && eqb word w) value (word_among (get_or all g []) w)
word_after_store all i old new word value known is puts g w =
    word_after_set all i new g w known ∙ elim (cases_eq i g) [
      | inl same ↦ (let before : get_or all g [] ≡ old = ap (λ k. get_or all k []) (sym same) ∙ same_at all i old [] known is in
          rw (eq-eqb i g same, before) (puts w))
      | inr apart ↦ rw (ne_eqb i g apart) refl
    ]

-- Where nothing was stored, the words are what they were.
pub words_kept : (all : List (List (ℕ × ℕ))) (i : ℕ) (old new : List (ℕ × ℕ)) → i < length all → old ≡ get_or all i old → new ≡ old → set all i new ≡ all
words_kept all i old new known is same = ap (set all i) (same ∙ sym (same_at all i old [] known is)) ∙ set-get_or all i []

-- one more place of a run has its new value
pub run_more : (first i g new old base : ℕ) → first ≤ i → old ≡ cond (leb first g && ltb g i) new base
    → cond (eqb i g) new old ≡ cond (leb first g && ltb g (i + 1)) new base
run_more first i g new old base from is = elim (cases_eq i g) [
  | inl same ↦ (let low : first ≤ g = omega (arith, from, same) in let high : g < i + 1 = omega (arith, same) in
      rw (eq-eqb i g same, le-leb first g low, lt-ltb g (i + 1) high) refl)
  | inr apart ↦ elim (cases_lt g i) [
    | inl below ↦ (let high : g < i + 1 = omega (arith, below) in rw (ne_eqb i g apart, lt-ltb g (i + 1) high) (rw (lt-ltb g i below) at is))
    | inr above ↦ (let past : i + 1 ≤ g = omega (arith, above, apart) in rw (ne_eqb i g apart, le-ltb g (i + 1) past) (rw (le-ltb g i above) at is))
  ]
]
