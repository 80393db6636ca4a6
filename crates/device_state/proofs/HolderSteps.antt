-- The holders of the granules, one by one.
use Rattle.std.proofs.Common.{◌≡◌, ℕ, ◌+◌, ◌<◌, ◌≤◌, Bool, true, false, cond, leb, ltb, List, length, get_or, set, min, refl, sym, ap, ◌∙◌, inl, inr, arith}
use Rattle.std.proofs.lemmas.Bool.{and_right, cases_eq, cases_lt, le-leb, le-ltb, lt-leb, lt-ltb}
use Rattle.std.proofs.lemmas.List.{ext_get_or, get_or-map, get_or-set_other, get_or-set_same, length-map, FromFn.get_or-enumerate_from, FromFn.length-enumerate_from}
use Rattle.std.specs.{List.enumerate_from, Prelude.◌&&◌, Prelude.if◌then◌else◌}
use Rattle.cci_codec.specs.dcd_base.specs.{Words.has_granule, declared.media.Run.Run}
use Rattle.device_state.specs.Entered.{held_in}

pub length-held_in : (change : ℕ → ℕ) (run : Run) (bits : List ℕ) → length (held_in change run bits) ≡ length bits
length-held_in change run bits = length-map (enumerate_from 0 bits) (λ b. if has_granule run b.0 then change b.1 else b.1) ∙ length-enumerate_from 0 bits

-- the bits of one granule
pub held_in-at : (change : ℕ → ℕ) (run : Run) (bits : List ℕ) (g : ℕ) → g < length bits →
    get_or (held_in change run bits) g 0 ≡ (if has_granule run g then change (get_or bits g 0) else get_or bits g 0)
held_in-at change run bits g below =
    let long = length-enumerate_from 0 bits in
    let zero : 0 + g ≡ g = omega arith in
    get_or-map (λ b. if has_granule run b.0 then change b.1 else b.1) (enumerate_from 0 bits) g (0, 0) 0 (omega (arith, long, below))
    ∙ ap (λ (b : ℕ × ℕ). if has_granule run b.0 then change b.1 else b.1) (get_or-enumerate_from 0 bits g (0, 0) below)
    ∙ ap (λ k. if has_granule run k then change (get_or bits g 0) else get_or bits g 0) zero

-- those between two numbers
abbrev pub between : ℕ → ℕ → ℕ → Bool
between first end g = leb first g && ltb g end

inside : (first end g : ℕ) → first ≤ g → g < end → between first end g ≡ true
inside first end g from below = rw (le-leb first g from, lt-ltb g end below) refl

before : (first end g : ℕ) → g < first → between first end g ≡ false
before first end g below = rw (lt-leb first g below) refl

behind : (first end g : ℕ) → end ≤ g → between first end g ≡ false
behind first end g past = rw (le-ltb g end past, and_right (leb first g) false refl) refl

pub none_between : (f : ℕ → ℕ) (first : ℕ) (bits : List ℕ) (g : ℕ) → get_or bits g 0 ≡ cond (between first first g) (f (get_or bits g 0)) (get_or bits g 0)
none_between f first bits g = elim (cases_lt g first) [
  | inl low ↦ rw (before first first g low) refl
  | inr high ↦ rw (behind first first g high) refl
]

-- one granule more
pub more_between : (f : ℕ → ℕ) (first k : ℕ) (old mid new : List ℕ) → first ≤ k → k < length mid →
    ((g : ℕ) → get_or mid g 0 ≡ cond (between first k g) (f (get_or old g 0)) (get_or old g 0)) →
    new ≡ set mid k (f (get_or mid k 0)) →
    (g : ℕ) → get_or new g 0 ≡ cond (between first (k + 1) g) (f (get_or old g 0)) (get_or old g 0)
more_between f first k old mid new from within so_far is g = elim (cases_eq g k) [
  | inl same ↦ rw (is, same, inside first (k + 1) k from (omega arith))
      (get_or-set_same mid k (f (get_or mid k 0)) 0 within ∙ ap f (so_far k ∙ ap (λ b. cond b (f (get_or old k 0)) (get_or old k 0)) (behind first k k (omega arith))))
  | inr other ↦ ap (λ bits. get_or bits g 0) is ∙ get_or-set_other mid k g (f (get_or mid k 0)) 0 other ∙ so_far g ∙ ap (λ b. cond b (f (get_or old g 0)) (get_or old g 0)) (same_side other)
]
  where
    same_side : (g ≡ k → ⊥) → between first k g ≡ between first (k + 1) g
    same_side other = elim (cases_lt g first) [
      | inl low ↦ before first k g low ∙ sym (before first (k + 1) g low)
      | inr high ↦ elim (cases_lt g k) [
        | inl early ↦ inside first k g high early ∙ sym (inside first (k + 1) g high (omega (arith, early)))
        | inr late ↦ behind first k g late ∙ sym (behind first (k + 1) g (omega (arith, late, other)))
      ]
    ]

-- the granules of a run that there are
pub run_between : (run : Run) (n g : ℕ) → g < n → between (min run.first n) (min (run.first + run.count) n) g ≡ has_granule run g
run_between run n g below = elim (cases_lt g run.first) [
  | inl low ↦ before (min run.first n) (min (run.first + run.count) n) g (omega (arith, low, below)) ∙ sym (rw (lt-leb run.first g low) refl)
  | inr high ↦ elim (cases_lt g (run.first + run.count)) [
    | inl within ↦ inside (min run.first n) (min (run.first + run.count) n) g (omega (arith, high)) (omega (arith, within, below)) ∙ sym (rw (le-leb run.first g high, lt-ltb g (run.first + run.count) within) refl)
    | inr past ↦ behind (min run.first n) (min (run.first + run.count) n) g (omega (arith, past)) ∙ sym (rw (le-ltb g (run.first + run.count) past, and_right (leb run.first g) false refl) refl)
  ]
]

pub whole_held : (f : ℕ → ℕ) (run : Run) (first end : ℕ) (old new : List ℕ) → first ≡ min run.first (length old) → end ≡ min (run.first + run.count) (length old) →
    length new ≡ length old → ((g : ℕ) → get_or new g 0 ≡ cond (between first end g) (f (get_or old g 0)) (get_or old g 0)) →
    new ≡ held_in f run old
whole_held f run first end old new first_is end_is long each =
    ext_get_or 0 new (held_in f run old) (long ∙ sym (length-held_in f run old))
    (λ g below. let inside_old : g < length old = omega (arith, below, long) in
    each g
    ∙ ap (λ b. cond b (f (get_or old g 0)) (get_or old g 0)) (rw (first_is, end_is) (run_between run (length old) g inside_old))
    ∙ sym (held_in-at f run old g inside_old))
