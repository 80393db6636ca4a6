-- What the absence of each fault means, and that it makes a configuration sound.
use Rattle.std.proofs.Common.{◌≡◌, ℕ, zero, suc, ◌+◌, ◌-◌, ◌*◌, ◌/◌, ◌%◌, ◌^◌, ◌<◌, ◌≤◌, Bool, true, false, not, eqb, ltb, leb, length, Some, None, refl, ap, subst, sym, ◌∙◌, inl, inr, arith, div-add-mod'}
use Rattle.std.proofs.Math.{Nat.zero-mod, Nat.zero-mul, Nat.mul-mod_left, Nat.pow-suc, Pow.mod-mod-pow, Pow.pow_mono}
use Rattle.std.proofs.lemmas.{Bool.or_parts, Bool.not-false, Bool.eqb-true, Bool.eqb-false, Bool.ltb-false, Bool.leb-false, Bool.cases_eq, Bool.cases_lt, Nat.pow-add, Nat.leading_top}
use Rattle.std.proofs.lemmas.Nat.Bits.{bit_at-zero, bit_at_above, bit_at_cat_low, bit_at-trailing_zeros}
use Rattle.std.specs.Int.{w64, trailing_zeros, bit_at}
use Rattle.dcd_base.specs.Words.{◌or◌}
use Rattle.region_config.proofs.{Powers.largest_is, Powers.supported, Powers.top_bit, Searches.fails, Searches.no_fault, Searches.none_at, Searches.none_from, Searches.or_parts as neither}
use Rattle.region_config.specs.Configurations.{Configuration}
use Rattle.region_config.specs.Granules.{base_of, first_granule, granule_size, granule_total, region_granules, is_supported, region_spec}
use Rattle.region_config.specs.{Soundness.IsSound, Soundness.IsSoundRegion, Soundness.IsSoundSeat, declared.faults.ConfigFault.ConfigFault, declared.region_spec.RegionSpec.RegionSpec}
use Rattle.region_config.specs.Setups.{bad_base, bad_count, bad_length, bad_order, bad_sizes, base_fault, config_fault, count_fault, decode_end, each_region, each_seat, faults, largest_size, length_fault, order_fault, sizes_fault, total_fault, unit}

-- a configuration in which no test finds a fault
pub record Faultless (c : Configuration) : Type 0 where
  pub count : bad_count c.hosts (length c.regions) ≡ false
  pub based : (h r : ℕ) → h < c.hosts → r < length c.regions → bad_base c h r ≡ false
  pub sized : (r : ℕ) → r < length c.regions → bad_sizes (region_spec c r) ≡ false
  pub long : (r : ℕ) → r < length c.regions → bad_length (region_spec c r) ≡ false
  pub ordered : (h r : ℕ) → h < c.hosts → r < length c.regions → bad_order c h r ≡ false
  pub total : ltb 4096 (granule_total c) ≡ false

pub seats_pass : (c : Configuration) (test : ℕ → ℕ → Bool) (fault : ℕ → ℕ → ConfigFault) → each_seat c (λ h r. faults (test h r) (fault h r)) ≡ None → (h r : ℕ) → h < c.hosts → r < length c.regions → test h r ≡ false
seats_pass c test fault none h r host region =
    fails (test h r) (fault h r) (none_at (λ r. faults (test h r) (fault h r)) (length c.regions) r
    (none_at (λ h. each_region c (λ r. faults (test h r) (fault h r))) c.hosts h none host) region)

pub seats_from : (c : Configuration) (test : ℕ → ℕ → Bool) (fault : ℕ → ℕ → ConfigFault) → ((h r : ℕ) → h < c.hosts → r < length c.regions → test h r ≡ false) → each_seat c (λ h r. faults (test h r) (fault h r)) ≡ None
seats_from c test fault pass =
    none_from (λ h. each_region c (λ r. faults (test h r) (fault h r))) c.hosts (λ h host.
    none_from (λ r. faults (test h r) (fault h r)) (length c.regions) (λ r region. no_fault (test h r) (fault h r) (pass h r host region)))

pub regions_pass : (c : Configuration) (test : ℕ → Bool) (fault : ℕ → ConfigFault) → each_region c (λ r. faults (test r) (fault r)) ≡ None → (r : ℕ) → r < length c.regions → test r ≡ false
regions_pass c test fault none r region = fails (test r) (fault r) (none_at (λ r. faults (test r) (fault r)) (length c.regions) r none region)

pub regions_from : (c : Configuration) (test : ℕ → Bool) (fault : ℕ → ConfigFault) → ((r : ℕ) → r < length c.regions → test r ≡ false) → each_region c (λ r. faults (test r) (fault r)) ≡ None
regions_from c test fault pass = none_from (λ r. faults (test r) (fault r)) (length c.regions) (λ r region. no_fault (test r) (fault r) (pass r region))

pub faultless : (c : Configuration) → config_fault c ≡ None → Faultless c
unfolding config_fault
faultless c none =
    let p5 = neither _ (total_fault c) none in
    let p4 = neither _ (order_fault c) p5.0 in
    let p3 = neither _ (length_fault c) p4.0 in
    let p2 = neither _ (sizes_fault c) p3.0 in
    let p1 = neither (count_fault c) (base_fault c) p2.0 in
    record {
      count = fails _ ConfigFault.Count p1.0;
      based = seats_pass c (bad_base c) ConfigFault.Base p1.1;
      sized = regions_pass c (λ r. bad_sizes (region_spec c r)) ConfigFault.BlockSize p2.1;
      long = regions_pass c (λ r. bad_length (region_spec c r)) ConfigFault.Length p3.1;
      ordered = seats_pass c (bad_order c) ConfigFault.Overlap p4.1;
      total = fails _ (ConfigFault.TooManyGranules (granule_total c)) p5.1;
    }

pub no_fault_in : (c : Configuration) → Faultless c → config_fault c ≡ None
unfolding config_fault
no_fault_in c f =
    let e0 : count_fault c ≡ None = no_fault _ ConfigFault.Count f.count in
    let e1 : base_fault c ≡ None = seats_from c (bad_base c) ConfigFault.Base f.based in
    let e2 : sizes_fault c ≡ None = regions_from c (λ r. bad_sizes (region_spec c r)) ConfigFault.BlockSize f.sized in
    let e3 : length_fault c ≡ None = regions_from c (λ r. bad_length (region_spec c r)) ConfigFault.Length f.long in
    let e4 : order_fault c ≡ None = seats_from c (bad_order c) ConfigFault.Overlap f.ordered in
    let e5 : total_fault c ≡ None = no_fault _ (ConfigFault.TooManyGranules (granule_total c)) f.total in
    rw (e0, e1, e2, e3, e4, e5) refl

-- the first fault, once the count is known to be good or bad
pub count_found : (c : Configuration) → bad_count c.hosts (length c.regions) ≡ true → config_fault c ≡ Some ConfigFault.Count
unfolding config_fault
count_found c bad = rw bad refl

pub after_count : (c : Configuration) → bad_count c.hosts (length c.regions) ≡ false → config_fault c ≡ base_fault c or sizes_fault c or length_fault c or order_fault c or total_fault c
unfolding config_fault
after_count c good = rw good refl

pub record GoodCount (hosts regions : ℕ) : Type 0 where
  pub some_host : 0 < hosts
  pub few_hosts : hosts ≤ 16
  pub some_region : 0 < regions
  pub few_regions : regions ≤ 8

pub good_count : (hosts regions : ℕ) → bad_count hosts regions ≡ false → GoodCount hosts regions
good_count hosts regions good =
    let p2 = or_parts _ (ltb 8 regions) good in
    let p1 = or_parts _ (ltb regions 1) p2.0 in
    let p0 = or_parts (ltb hosts 1) (ltb 16 hosts) p1.0 in
    record { some_host = ltb-false _ _ p0.0; few_hosts = ltb-false _ _ p0.1; some_region = ltb-false _ _ p1.1; few_regions = ltb-false _ _ p2.1 }

pub record GoodSizes (spec : RegionSpec) : Type 0 where
  pub some : 0 < spec.sizes
  pub low : spec.sizes % 64 ≡ 0
  pub high : spec.sizes < 2 ^ 41
  pub block : is_supported spec spec.block ≡ true

pub good_sizes : (spec : RegionSpec) → bad_sizes spec ≡ false → GoodSizes spec
good_sizes spec good =
    let p2 = or_parts _ (not (is_supported spec spec.block)) good in
    let p1 = or_parts _ (leb (2 ^ 41) spec.sizes) p2.0 in
    let p0 = or_parts (eqb spec.sizes 0) (not (eqb (spec.sizes % 64) 0)) p1.0 in
    let nonzero = eqb-false _ _ p0.0 in
    record { some = omega (arith, nonzero); low = eqb-true _ _ (not-false _ p0.1); high = leb-false _ _ p1.1; block = not-false _ p2.1 }

pub record GoodLength (spec : RegionSpec) : Type 0 where
  pub some : 0 < spec.length
  pub whole : spec.length % largest_size spec ≡ 0
  pub decoded : spec.length ≤ spec.decode_units * unit

pub good_length : (spec : RegionSpec) → bad_length spec ≡ false → GoodLength spec
good_length spec good =
    let p1 = or_parts _ (ltb (spec.decode_units * unit) spec.length) good in
    let p0 = or_parts (eqb spec.length 0) (not (eqb (spec.length % largest_size spec) 0)) p1.0 in
    let nonzero = eqb-false _ _ p0.0 in
    record { some = omega (arith, nonzero); whole = eqb-true _ _ (not-false _ p0.1); decoded = ltb-false _ _ p1.1 }

pub good_base : (c : Configuration) (h r : ℕ) → bad_base c h r ≡ false → IsSoundSeat c h r
good_base c h r good =
    let p = or_parts (not (eqb (base_of c h r % unit) 0)) (ltb (2 ^ 52) (decode_end c h r)) good in
    record { aligned = eqb-true _ _ (not-false _ p.0); ends = ltb-false _ _ p.1 }

-- the lowest bit of the mask, which is the granule's
pub record Lowest (spec : RegionSpec) (k : ℕ) : Type 0 where
  pub from : 6 ≤ k
  pub to : k ≤ 40
  pub below : (i : ℕ) → i < k → bit_at spec.sizes i ≡ 0

pub lowest : (spec : RegionSpec) → GoodSizes spec → Lowest spec (trailing_zeros w64 spec.sizes)
lowest spec g =
    let k : ℕ = trailing_zeros w64 spec.sizes in
    let bits = bit_at-trailing_zeros w64 spec.sizes g.some (omega (arith, g.high)) in
    let set : bit_at spec.sizes k ≡ 1 = bits.1 in
    let whole : spec.sizes ≡ spec.sizes / 64 * 2 ^ 6 + 0 = omega (arith, div-add-mod' spec.sizes 64, g.low) in
    let low : (i : ℕ) → i < 6 → bit_at spec.sizes i ≡ 0 = λ i less. ap (λ n. bit_at n i) whole ∙ bit_at_cat_low (spec.sizes / 64) 6 0 i less ∙ bit_at-zero i in
    record {
      from = elim (cases_lt k 6) [
        | inl less ↦ absurd (omega (arith, set, low k less))
        | inr more ↦ more
      ];
      to = elim (cases_lt k 41) [
        | inl less ↦ omega (arith, less)
        | inr more ↦ absurd (omega (arith, set, bit_at_above spec.sizes 41 k g.high more))
      ];
      below = bits.2;
    }

-- what is made of a power of two is made of a lower one
lower : (n k j : ℕ) → k ≤ j → n % 2 ^ j ≡ 0 → n % 2 ^ k ≡ 0
lower n k j less whole =
    let sum : j - k + k ≡ j = omega (arith, less) in
    sym (mod-mod-pow n (j - k) k) ∙ ap (λ e. n % 2 ^ e % 2 ^ k) sum ∙ ap (λ m. m % 2 ^ k) whole ∙ zero-mod (2 ^ k)

of_lower : (k j : ℕ) → k ≤ j → 2 ^ j % 2 ^ k ≡ 0
of_lower k j less =
    let sum : j - k + k ≡ j = omega (arith, less) in
    ap (λ e. 2 ^ e % 2 ^ k) (sym sum) ∙ ap (λ m. m % 2 ^ k) (pow-add 2 (j - k) k) ∙ mul-mod_left (2 ^ (j - k)) (2 ^ k)

-- a set bit is no lower than the lowest
no_lower : (spec : RegionSpec) (k j : ℕ) → Lowest spec k → bit_at spec.sizes j ≡ 1 → k ≤ j
no_lower spec k j l set = elim (cases_lt j k) [
  | inl less ↦ absurd (omega (arith, set, l.below j less))
  | inr more ↦ more
]

pub whole_length : (spec : RegionSpec) → GoodSizes spec → GoodLength spec → spec.length % 2 ^ trailing_zeros w64 spec.sizes ≡ 0
whole_length spec g l =
    let k : ℕ = trailing_zeros w64 spec.sizes in
    let top = leading_top 64 spec.sizes g.some (omega (arith, g.high)) in
    let above : spec.sizes < 2 * 2 ^ top.0 = omega (arith, top.3, pow-suc 2 top.0) in
    let largest = largest_is spec top.0 top.2 above (omega (arith, top.1)) in
    lower spec.length k top.0 (no_lower spec k top.0 (lowest spec g) (top_bit spec.sizes top.0 top.2 above)) (ap (λ m. spec.length % m) (sym largest) ∙ l.whole)

pub sound_region : (c : Configuration) (r : ℕ) → GoodSizes (region_spec c r) → GoodLength (region_spec c r) → IsSoundRegion c r
sound_region c r g l =
    let spec : RegionSpec = region_spec c r in
    let k : ℕ = trailing_zeros w64 spec.sizes in
    let low = lowest spec g in
    let size = (supported spec spec.block).0 g.block in
    let above = no_lower spec k size.exponent low size.set in
    record {
      sizes = g.some;
      exponent = k;
      from = low.from;
      to = low.to;
      granule = refl;
      some = l.some;
      decoded = l.decoded;
      whole = whole_length spec g l;
      supported = g.block;
      block = subst (λ b. 2 ^ k ≤ b) (sym size.is) (pow_mono above);
      whole_block = ap (λ b. b % 2 ^ k) size.is ∙ of_lower k size.exponent above;
    }

-- a region has at least one granule
pub some_granules : (c : Configuration) (r : ℕ) → IsSoundRegion c r → 0 < region_granules c r
some_granules c r s =
    let size : ℕ = granule_size c r in
    let split = div-add-mod' (region_spec c r).length size in
    elim (cases_eq (region_granules c r) 0) [
      | inl none ↦ absurd (omega (arith, split, ap (λ n. n * size) none, zero-mul size, s.whole, s.some))
      | inr some ↦ omega (arith, some)
    ]

pub granules_rise : (c : Configuration) (k r : ℕ) → k ≤ r → first_granule c k ≤ first_granule c r
granules_rise c zero zero h = omega arith
granules_rise c (suc k) zero h = absurd (omega (arith, h))
granules_rise c k (suc r) h = elim (cases_lt r k) [
  | inl above ↦ (let same : k ≡ suc r = omega (arith, h, above) in rw same (omega arith))
  | inr below ↦ omega (arith, granules_rise c k r below)
]

pub region_of_faultless : (c : Configuration) → Faultless c → (r : ℕ) → r < length c.regions → IsSoundRegion c r
region_of_faultless c f r known = sound_region c r (good_sizes (region_spec c r) (f.sized r known)) (good_length (region_spec c r) (f.long r known))

-- A configuration without fault is sound.
pub sound : (c : Configuration) → config_fault c ≡ None → IsSound c
sound c none =
    let f = faultless c none in
    let count = good_count c.hosts (length c.regions) f.count in
    let each = region_of_faultless c f in
    record {
      some_host = count.some_host;
      hosts = count.few_hosts;
      some_region = count.some_region;
      regions = count.few_regions;
      each = each;
      seats = λ h r host region. good_base c h r (f.based h r host region);
      rising = λ h r host region. ltb-false _ _ (f.ordered h (suc r) host region);
      some_granule = omega (arith, some_granules c 0 (each 0 count.some_region), granules_rise c 1 (length c.regions) count.some_region);
      granules = ltb-false _ _ f.total;
    }

-- what a region has of the device's granules
pub granules_within : (c : Configuration) (r : ℕ) → r < length c.regions → first_granule c r + region_granules c r ≤ granule_total c
granules_within c r known = granules_rise c (suc r) (length c.regions) known

-- where the faults of sizes, lengths and bases are absent, no sum of granules overflows
pub some_sizes : (c : Configuration) → sizes_fault c ≡ None → (r : ℕ) → r < length c.regions → 0 < (region_spec c r).sizes
some_sizes c none r known = (good_sizes (region_spec c r) (regions_pass c (λ r. bad_sizes (region_spec c r)) ConfigFault.BlockSize none r known)).some

pub short_lengths : (c : Configuration) → base_fault c ≡ None → length_fault c ≡ None → 0 < c.hosts → (r : ℕ) → r < length c.regions → (region_spec c r).length ≤ 2 ^ 52
short_lengths c based long host r known =
    let seat = good_base c 0 r (seats_pass c (bad_base c) ConfigFault.Base based 0 r host known) in
    let l = good_length (region_spec c r) (regions_pass c (λ r. bad_length (region_spec c r)) ConfigFault.Length long r known) in
    omega (arith, seat.ends, l.decoded)

-- the same of a sound configuration
pub sizes_of_sound : (c : Configuration) → IsSound c → (r : ℕ) → r < length c.regions → 0 < (region_spec c r).sizes
sizes_of_sound c s r known = (s.each r known).sizes

pub lengths_of_sound : (c : Configuration) → IsSound c → (r : ℕ) → r < length c.regions → (region_spec c r).length ≤ 2 ^ 52
lengths_of_sound c s r known = omega (arith, (s.each r known).decoded, (s.seats 0 r s.some_host known).ends)

pub region_ends : (c : Configuration) (h r : ℕ) → IsSound c → h < c.hosts → r < length c.regions → base_of c h r + (region_spec c r).length ≤ 2 ^ 52
region_ends c h r s host known = omega (arith, (s.each r known).decoded, (s.seats h r host known).ends)

-- a granule has at least 64 bytes and at most 2 ^ 40
pub granule_from : (c : Configuration) (r : ℕ) → IsSoundRegion c r → 64 ≤ granule_size c r
granule_from c r s = rw s.granule (pow_mono s.from)

pub granule_to : (c : Configuration) (r : ℕ) → IsSoundRegion c r → granule_size c r ≤ 2 ^ 40
granule_to c r s = rw s.granule (pow_mono s.to)
