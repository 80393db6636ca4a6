-- The stamp of the next load or store, and stamps that are later than others.
use Rattle.std.proofs.Common.{◌≡◌, ◌⊎◌, inl, inr, ◌<◌, ◌≤◌, true, false, ◌&&◌, ◌==◌, arith}
use Rattle.std.{specs.Prelude.IsFalse, specs.Prelude.nat_lt, proofs.lemmas.Bool.Decides.nat_tests}
use Rattle.std.proofs.lemmas.Bool.{and_cases, and_parts, cases_Bool, cases_lt, eqb-false, eqb-true, ltb-false, ltb-true, or_cases, or_parts}
use Rattle.dcd_base.specs.declared.steps.Stamp.{Stamp}
use Rattle.journal_core.specs.Merging.{is_later}
use Rattle.ruled_cells.specs.Stamps.{Below}
use Rattle.shard_laws.specs.Clocks.{next_stamp}

-- ---- later and below

later_below : (s t : Stamp) → is_later s t ≡ true → Below t s
later_below s t later = elim (or_cases (nat_lt t.number s.number) ((t.number == s.number) && nat_lt t.count s.count) later) [
  | inl less ↦ inl (ltb-true t.number s.number less)
  | inr at ↦ let parts = and_parts (t.number == s.number) (nat_lt t.count s.count) at in
      inr (eqb-true t.number s.number parts.0, ltb-true t.count s.count parts.1)
]

-- what is not later has a lower number, or the same and no higher count
not_later : (s t : Stamp) → is_later s t ≡ false → (s.number < t.number) ⊎ ((s.number ≡ t.number) × (s.count ≤ t.count))
not_later s t low =
    let parts = or_parts (nat_lt t.number s.number) ((t.number == s.number) && nat_lt t.count s.count) low in
    let number = ltb-false t.number s.number parts.0 in
    elim (cases_lt s.number t.number) [
      | inl less ↦ inl less
      | inr more ↦ elim (and_cases (t.number == s.number) (nat_lt t.count s.count) parts.1) [
        | inl other ↦ absurd (eqb-false t.number s.number other (omega (arith, number, more)))
        | inr not_less ↦ inr (omega (arith, number, more), ltb-false t.count s.count not_less)
      ]
    ]

below_from : (c e f : Stamp) → Below c e → (e.number < f.number) ⊎ ((e.number ≡ f.number) × (e.count ≤ f.count)) → Below c f
below_from c e f (inl less) (inl more) = inl (omega (arith, less, more))
below_from c e f (inl less) (inr at) = let same = at.0 in inl (omega (arith, less, same))
below_from c e f (inr own) (inl more) = let same = own.0 in inl (omega (arith, same, more))
below_from c e f (inr own) (inr at) =
    let same = own.0 in
    let less = own.1 in
    let too = at.0 in
    let low = at.1 in inr (omega (arith, same, too), omega (arith, less, low))

-- what is above the clock is later than what is not
pub later_than : (clock e f : Stamp) → ¬ Below clock f → Below clock e → is_later e f ≡ true
later_than clock e f tidy above = elim (cases_Bool (is_later e f)) [
  | inl later ↦ later
  | inr low ↦ absurd (tidy (below_from clock e f above (not_later e f low)))
]

pub one_way : (e f : Stamp) → is_later e f ≡ true → is_later f e ≡ false
one_way e f later = grind (arith, nat_tests)

-- what is later than an access and has the count 0 has a higher number
pub later_number : (e f : Stamp) → is_later e f ≡ true → e.count ≡ 0 → f.number < e.number
later_number e f later none = by (later_below e f later)
  where
    by : Below f e → f.number < e.number
    by (inl less) = less
    by (inr at) = let less = at.1 in absurd (omega (arith, less, none))

pub number_low : (s t : Stamp) → is_later s t ≡ false → s.number ≤ t.number
number_low s t low = ltb-false t.number s.number (or_parts (nat_lt t.number s.number) ((t.number == s.number) && nat_lt t.count s.count) low).0

pub below_not_later : (s t : Stamp) → Below s t → IsFalse (is_later s t)
below_not_later s t (inl less) = grind (arith, nat_tests)
below_not_later s t (inr at) = let same = at.0 in let less = at.1 in grind (arith, nat_tests)

-- ---- the next one

pub next_counted : (seen clock : Stamp) → 0 < (next_stamp seen clock).count
next_counted seen clock = omega arith
