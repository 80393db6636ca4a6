-- The blocks of an area by its granules.
use Rattle.std.proofs.Common.{◌≡◌, ℕ, ◌+◌, ◌-◌, ◌*◌, ◌<◌, ◌≤◌, false, List, arith, inl, inr}
use Rattle.dcd_base.specs.declared.media.Run.{Run}
use Rattle.std.proofs.{lemmas.Bool.cases_lt, lemmas.Bool.not-false, lemmas.Bool.not-true, Math.Nat.div-mul-le_self, Math.Nat.le-div_iff_mul-le, Math.Nat.mod-eq-sub-div-mul, Math.Nat.mul-le-mul_right}
use Rattle.granule_map.{proofs.Stretches.all_pass, proofs.Stretches.some_fails, specs.Blocks.IsArea, specs.Blocks.block_count, specs.Blocks.is_block_free, specs.StateLists.is_free_at}
use Rattle.granule_map.specs.{Stretches.AreWhole, Stretches.IsNext, Stretches.IsStretch, Stretches.fails, declared.states.GranuleState.GranuleState}

-- blocks below the limit end in the area
pub block_end : (states : List GranuleState) (area : Run) (per_block k : ℕ) → IsArea states area per_block → k ≤ block_count area per_block → k * per_block ≤ area.count
block_end states area per_block k is below =
    let whole = div-mul-le_self area.count per_block in
    let most = mul-le-mul_right per_block below in
    omega (arith, whole, most)

module _ (states : List GranuleState) (area : Run) (per_block : ℕ) where
  pub block_taken : (k g : ℕ) → area.first + k * per_block ≤ g → g < area.first + k * per_block + per_block → is_free_at states g ≡ false → is_block_free states area per_block k ≡ false
  block_taken k g low high taken = some_fails (is_free_at states) (area.first + k * per_block) per_block g low high taken

-- blocks that begin below a product begin before its factor
pub below_by : (k n m : ℕ) → k * m < n * m → k < n
below_by k n m less = elim (cases_lt k n) [
  | inl below ↦ below
  | inr past ↦ (let far = mul-le-mul_right m past in absurd (omega (arith, far, less)))
]

-- Free granules of an area and those that are not before them, behind blocks none of which is free.
pub record IsReached (states : List GranuleState) (area : Run) (per_block from at free taken : ℕ) : Type 0 where
  pub area_is : IsArea states area per_block
  pub low : area.first + from * per_block ≤ at
  pub passed : (k : ℕ) → from ≤ k → area.first + k * per_block < at → is_block_free states area per_block k ≡ false
  pub found : IsNext (is_free_at states) at (area.first + area.count) free
  pub ends : IsNext (fails (is_free_at states)) free (area.first + area.count) taken

module _ (states : List GranuleState) (area : Run) (per_block from at free taken : ℕ) (r : IsReached states area per_block from at free taken) where
  starts_taken : (k : ℕ) → from ≤ k → area.first + k * per_block < free → is_block_free states area per_block k ≡ false
  starts_taken k low before = elim (cases_lt (area.first + k * per_block) at) [
    | inl passed ↦ r.passed k low passed
    | inr behind ↦ block_taken states area per_block k (area.first + k * per_block) (omega arith) (omega (arith, r.area_is.some)) (r.found.none_before (area.first + k * per_block) behind before)
  ]

  whole : area.count ≡ block_count area per_block * per_block
  whole = omega (arith, mod-eq-sub-div-mul area.count per_block, r.area_is.whole, div-mul-le_self area.count per_block)

  block_below : (k : ℕ) → k < block_count area per_block → k * per_block + per_block ≤ area.count
  block_below k below = let next : k + 1 ≤ block_count area per_block = omega (arith, below) in omega (arith, block_end states area per_block (k + 1) r.area_is next)

  pub stretch_between : (first count : ℕ) → AreWhole per_block (free - area.first) (taken - area.first) first count
      → IsStretch (is_block_free states area per_block) (block_count area per_block) from first count
  stretch_between first count between = record {
    from_below = elim (cases_lt first from) [
      | inr low ↦ low
      | inl below ↦ (let next : first + 1 ≤ from = omega (arith, below) in
          let far = mul-le-mul_right per_block next in
          absurd (omega (arith, far, between.reaches, r.low, r.found.from_below, r.area_is.some)))
    ];
    some = between.some;
    within = (le-div_iff_mul-le r.area_is.some).1 (omega (arith, between.fits, r.ends.within));
    none_before = λ k low below. starts_taken k low (omega (arith, between.lowest k below));
    each = λ k low below.
        let start = mul-le-mul_right per_block low in
        let next : k + 1 ≤ first + count = omega (arith, below) in
        let far = mul-le-mul_right per_block next in
        all_pass (is_free_at states) (area.first + k * per_block) per_block (λ g at_least high.
        not-false (is_free_at states g) (r.ends.none_before g (omega (arith, start, between.reaches, at_least)) (omega (arith, far, between.fits, high, r.area_is.some))));
    ends = λ short.
        let before : taken < area.first + area.count = omega (arith, between.most, block_below (first + count) short) in
        block_taken states area per_block (first + count) taken (omega (arith, between.fits, r.low, r.found.from_below, r.ends.from_below)) (omega (arith, between.most))
        (not-true (is_free_at states taken) (r.ends.passes before));
  }

  pub none_between : ((k : ℕ) → free - area.first ≤ k * per_block → taken - area.first < k * per_block + per_block)
      → (k : ℕ) → from ≤ k → area.first + k * per_block < taken → is_block_free states area per_block k ≡ false
  none_between none k low before = elim (cases_lt (area.first + k * per_block) free) [
    | inl early ↦ starts_taken k low early
    | inr behind ↦ (let past = none k (omega (arith, behind)) in elim (cases_lt taken (area.first + area.count)) [
      | inl inner ↦ block_taken states area per_block k taken (omega (arith, before)) (omega (arith, past)) (not-true (is_free_at states taken) (r.ends.passes inner))
      | inr at_end ↦ (let inside : k < block_count area per_block = below_by k (block_count area per_block) per_block (omega (arith, before, r.ends.within, whole)) in
          absurd (omega (arith, block_below k inside, past, at_end)))
    ])
  ]
