-- A region without fault is made of whole blocks.
use Rattle.std.proofs.Common.{◌≡◌, ℕ, zero, suc, ◌+◌, ◌-◌, ◌*◌, ◌/◌, ◌%◌, ◌^◌, ◌<◌, ◌≤◌, length, None, sym, ap, ◌∙◌, arith, inl, inr, div-add-mod'}
use Rattle.std.proofs.{Math.Nat.mul-div_cancel, Math.Nat.mul_assoc, Math.Nat.pow-suc, Math.Nat.zero-mul, lemmas.Bool.cases_lt, lemmas.Nat.leading_top, lemmas.Nat.pow-add, lemmas.Nat.pow_pos}
use Rattle.std.{proofs.lemmas.Nat.Bits.bit_at_above, specs.Int.trailing_zeros, specs.Int.w64}
use Rattle.region_config.proofs.{Faultless.faultless, Faultless.good_length, Faultless.good_sizes, Faultless.lowest, Powers.largest_is, Powers.supported}
use Rattle.region_config.specs.{Configurations.Configuration, Granules.granule_size, Granules.region_granules, Granules.region_spec, Setups.config_fault, Setups.largest_size}
use Rattle.region_config.specs.declared.region_spec.RegionSpec.{RegionSpec}

-- how many granules a block has, and how many blocks the region
pub record IsWhole (c : Configuration) (r : ℕ) : Type 0 where
  pub per : ℕ
  pub blocks : ℕ
  pub per_is : (region_spec c r).block / granule_size c r ≡ per
  pub some : 0 < per
  pub granules : region_granules c r ≡ blocks * per
  pub length_is : (region_spec c r).length ≡ blocks * (region_spec c r).block

pub whole_blocks : (c : Configuration) (r : ℕ) → r < length c.regions → config_fault c ≡ None → IsWhole c r
whole_blocks c r known fine =
    let spec : RegionSpec = region_spec c r in
    let f = faultless c fine in
    let sizes = good_sizes spec (f.sized r known) in
    let long = good_length spec (f.long r known) in
    let of = (supported spec spec.block).0 sizes.block in
    let e : ℕ = of.exponent in
    let t : ℕ = trailing_zeros w64 spec.sizes in
    let low = lowest spec sizes in
    let top = leading_top 64 spec.sizes sizes.some (omega (arith, sizes.high)) in
    let k : ℕ = top.0 in
    let high : spec.sizes < 2 * 2 ^ k = omega (arith, top.3, pow-suc 2 k) in
    let largest : largest_size spec ≡ 2 ^ k = largest_is spec k top.2 high (omega (arith, top.1)) in
    let above : t ≤ e = elim (cases_lt e t) [
      | inl less ↦ absurd (omega (arith, of.set, low.below e less))
      | inr more ↦ more
    ] in
    let below : e ≤ k = elim (cases_lt k e) [
      | inl more ↦ absurd (omega (arith, of.set, bit_at_above spec.sizes (suc k) e (omega (arith, high, pow-suc 2 k)) (omega (arith, more))))
      | inr less ↦ less
    ] in
    let upper : 2 ^ k ≡ 2 ^ (k - e) * 2 ^ e = ap (λ n. 2 ^ n) (let a : k ≡ k - e + e = omega (arith, below) in a) ∙ pow-add 2 (k - e) e in
    let lower : 2 ^ e ≡ 2 ^ (e - t) * 2 ^ t = ap (λ n. 2 ^ n) (let a : e ≡ e - t + t = omega (arith, above) in a) ∙ pow-add 2 (e - t) t in
    let m : ℕ = spec.length / 2 ^ k in
    let wholes : spec.length ≡ m * 2 ^ k = omega (arith, div-add-mod' spec.length (2 ^ k), sym (ap (λ n. spec.length % n) largest) ∙ long.whole) in
    let of_blocks : spec.length ≡ m * 2 ^ (k - e) * 2 ^ e = wholes ∙ ap (λ n. m * n) upper ∙ sym (mul_assoc m (2 ^ (k - e)) (2 ^ e)) in
    let of_granules : spec.length ≡ m * 2 ^ (k - e) * 2 ^ (e - t) * 2 ^ t = of_blocks ∙ ap (λ n. m * 2 ^ (k - e) * n) lower ∙ sym (mul_assoc (m * 2 ^ (k - e)) (2 ^ (e - t)) (2 ^ t)) in
    record {
      per = 2 ^ (e - t);
      blocks = m * 2 ^ (k - e);
      per_is = ap (λ n. n / 2 ^ t) (of.is ∙ lower) ∙ mul-div_cancel (2 ^ (e - t)) (pow_pos t);
      some = pow_pos (e - t);
      granules = ap (λ n. n / 2 ^ t) of_granules ∙ mul-div_cancel (m * 2 ^ (k - e) * 2 ^ (e - t)) (pow_pos t);
      length_is = of_blocks ∙ ap (λ n. m * 2 ^ (k - e) * n) (sym of.is);
    }

-- a block has no more granules than the region
pub few_in_block : (c : Configuration) (r : ℕ) → 0 < region_granules c r → (w : IsWhole c r) → w.per ≤ region_granules c r
few_in_block c r some w = by w.blocks w.granules
  where
    by : (n : ℕ) → region_granules c r ≡ n * w.per → w.per ≤ region_granules c r
    by zero is = absurd (omega (arith, some, is, zero-mul w.per))
    by (suc n) is = omega (arith, is)
