-- An extent that is made of present blocks: its region, its run, and the same with the configuration of the present blocks.
use Rattle.std.proofs.Common.{◌≡◌, ℕ, zero, suc, ◌+◌, ◌-◌, ◌*◌, ◌/◌, ◌%◌, ◌^◌, ◌<◌, ◌≤◌, true, ◌&&◌, List, [], ◌∷◌, length, get_or, refl, ap, sym, subst, ◌∙◌, inl, inr, arith, leb, ltb, div-add-mod'}
use Rattle.std.proofs.{Math.Nat.mul-mod_left, lemmas.Bool.and_parts, lemmas.Bool.cases_lt, lemmas.Bool.leb-true, lemmas.Bool.ltb-true, lemmas.List.length-map, lemmas.List.FromFn.length-enumerate_from}
use Rattle.std.proofs.lemmas.Nat.{pow-add, pow_pos, Bits.bit_at-suc, Bits.bit_at_lowest}
use Rattle.std.specs.{Int.bit_at, Int.w64, Int.trailing_zeros, List.enumerate_from, List.find, List.range_with_len, Prelude.slice_index, Prelude.unwrap_or}
use lib.Count.{count_trailing_zeros, under}
use Rattle.extent_list.specs.media_map.proofs.{PlaceLemmas.has, RunLemmas.IsGranular, RunLemmas.is_run, RunLemmas.region_at_is, RunLemmas.run_bytes, RunLemmas.run_fits, RunLemmas.run_starts}
use Rattle.extent_list.specs.media_map.specs.Places.{IsRun, bytes_of_run, extent_of, has_address, region_at, run_of, start_of}
use Rattle.extent_list.specs.media_map.specs.region_config.proofs.{GranuleLemmas.region_is, Powers.supported, PresentBlocks.first_granule-with_blocks, PresentBlocks.region_spec-with_blocks}
use Rattle.extent_list.specs.media_map.specs.region_config.specs.Configurations.{Configuration}
use Rattle.extent_list.specs.media_map.specs.region_config.specs.Granules.{base_of, first_granule, granule_size, is_supported, no_region, region_of, region_spec, with_blocks}
use Rattle.extent_list.specs.media_map.specs.region_config.specs.{Soundness.IsSound, declared.region_spec.RegionSpec.RegionSpec}
use Rattle.cci_codec.specs.dcd_base.specs.{declared.capacity.Extent.Extent, declared.capacity.Tag.Tag, declared.ids.HostId.HostId, declared.media.Run.Run, Words.has_granule}
use Rattle.selection.proofs.Placed.{IsPlaced, of_parts}
use Rattle.device_rules.specs.Standing.{IsMade}

module _ (c : Configuration) (h : HostId) (s : IsSound c) (host : h < c.hosts) (size r : ℕ) (x : Extent) (whole : size % granule_size c r ≡ 0) (m : IsMade c size h r x) where
  pub made_region : region_at c h x.start ≡ r
  made_region = region_at_is c h s host x.start r m.known (has c h x.start r m.from (omega (arith, m.some, m.within)))

  pub made_granular : IsGranular c h x.start x.length r
  made_granular = record {
    some = m.some;
    from = m.from;
    within = m.within;
    begins = of_parts (x.start - base_of c h r) size (granule_size c r) whole m.begins;
    ends = of_parts x.length size (granule_size c r) whole m.ends;
  }

  -- its run
  pub made_run : run_of c h x ≡ record { first = first_granule c r + (x.start - base_of c h r) / granule_size c r; count = x.length / granule_size c r }
  made_run = rw made_region refl

  pub made_is_run : IsRun c (run_of c h x)
  made_is_run = subst (λ run. IsRun c run) (sym made_run) (is_run c h s host x.start x.length r m.known made_granular)

  -- a granule of it is one of its region's
  pub made_of_region : (g : ℕ) → has_granule (run_of c h x) g ≡ true → region_of c g ≡ r
  made_of_region g has_g =
      let here = subst (λ run. has_granule run g ≡ true) made_run has_g in
      let first : ℕ = first_granule c r + (x.start - base_of c h r) / granule_size c r in
      let parts = and_parts (leb first g) (ltb g (first + x.length / granule_size c r)) here in
      region_is c g r m.known (omega (arith, leb-true _ _ parts.0)) (omega (arith, ltb-true _ _ parts.1, run_fits c h s host x.start x.length r m.known made_granular))

  -- where the run begins, and how many bytes it has
  pub made_starts : start_of c h (run_of c h x) ≡ x.start
  made_starts = ap (start_of c h) made_run ∙ run_starts c h s host x.start x.length r m.known made_granular

  pub made_bytes : bytes_of_run c (run_of c h x) ≡ x.length
  made_bytes = ap (bytes_of_run c) made_run ∙ run_bytes c h s host x.start x.length r m.known made_granular

  pub made_begins : (x.start - base_of c h r) / granule_size c r * granule_size c r ≡ x.start - base_of c h r
  made_begins = omega (arith, div-add-mod' (x.start - base_of c h r) (granule_size c r), made_granular.begins)

  pub made_long : x.length / granule_size c r * granule_size c r ≡ x.length
  made_long = omega (arith, div-add-mod' x.length (granule_size c r), made_granular.ends)

-- ---- the configuration with the present blocks

module _ (c : Configuration) (b : ℕ → ℕ) where
  get_past : (specs : List RegionSpec) (r : ℕ) → length specs ≤ r → get_or specs r no_region ≡ no_region
  get_past [] r past = refl
  get_past (spec ∷ specs) zero past = absurd (omega (arith, past))
  get_past (spec ∷ specs) (suc r) past = get_past specs r (omega (arith, past))

  pub regions_same : length (with_blocks c b).regions ≡ length c.regions
  regions_same = length-map (enumerate_from 0 c.regions) (λ spec. record spec.1 { block = b spec.0 }) ∙ length-enumerate_from 0 c.regions

  past_spec : (r : ℕ) → length c.regions ≤ r → region_spec (with_blocks c b) r ≡ region_spec c r
  past_spec r past = get_past (with_blocks c b).regions r (omega (arith, past, regions_same)) ∙ sym (get_past c.regions r past)

  pub blind : {A : Type 0} (of : RegionSpec → A) → ((spec : RegionSpec) (n : ℕ) → of (record spec { block = n }) ≡ of spec) → (r : ℕ) → of (region_spec (with_blocks c b) r) ≡ of (region_spec c r)
  blind of looks r = elim (cases_lt r (length c.regions)) [
    | inl known ↦ ap of (region_spec-with_blocks c b r known) ∙ looks (region_spec c r) (b r)
    | inr past ↦ ap of (past_spec r past)
  ]

  pub length_same : (r : ℕ) → (region_spec (with_blocks c b) r).length ≡ (region_spec c r).length
  length_same r = blind (λ spec. spec.length) (λ _ _. refl) r

  pub shareable_same : (r : ℕ) → (region_spec (with_blocks c b) r).shareable ≡ (region_spec c r).shareable
  shareable_same r = blind (λ spec. spec.shareable) (λ _ _. refl) r

  pub size_same : (r : ℕ) → granule_size (with_blocks c b) r ≡ granule_size c r
  size_same r = blind (λ spec. 2 ^ trailing_zeros w64 spec.sizes) (λ _ _. refl) r

  pub base_same : (h : HostId) (r : ℕ) → base_of (with_blocks c b) h r ≡ base_of c h r
  base_same h r = ap (λ n. slice_index c.bases (h * n + r)) regions_same

  pub has_address_same : (h : HostId) (d r : ℕ) → has_address (with_blocks c b) h d r ≡ has_address c h d r
  has_address_same h d r = λ i. leb (base_same h r i) d && ltb d (base_same h r i + length_same r i)

  pub region_at_same : (h : HostId) (d : ℕ) → region_at (with_blocks c b) h d ≡ region_at c h d
  region_at_same h d = λ i. unwrap_or (find (λ r. has_address_same h d r i) (range_with_len 0 (regions_same i))) 0

  pub first_same : (r : ℕ) → first_granule (with_blocks c b) r ≡ first_granule c r
  first_same r = first_granule-with_blocks c b r

  pub region_of_same : (g : ℕ) → region_of (with_blocks c b) g ≡ region_of c g
  region_of_same g = λ i. unwrap_or (find (λ r. ltb g (first_same (suc r) i)) (range_with_len 0 (regions_same i))) 0

  pub run_same : (h : HostId) (x : Extent) → run_of (with_blocks c b) h x ≡ run_of c h x
  run_same h x = λ i. let r = region_at_same h x.start i in record {
    first = first_same r i + (x.start - base_same h r i) / size_same r i;
    count = x.length / size_same r i;
  }

  pub start_same : (h : HostId) (run : Run) → start_of (with_blocks c b) h run ≡ start_of c h run
  start_same h run = λ i. let r = region_of_same run.first i in base_same h r i + (run.first - first_same r i) * size_same r i

  pub bytes_same : (run : Run) → bytes_of_run (with_blocks c b) run ≡ bytes_of_run c run
  bytes_same run = λ i. run.count * size_same (region_of_same run.first i) i

  pub extent_same : (h : HostId) (run : Run) (t : Tag) (n : ℕ) → extent_of (with_blocks c b) h run t n ≡ extent_of c h run t n
  extent_same h run t n = λ i. record { start = start_same h run i; length = bytes_same run i; tag = t; sequence = n }

-- no bit below the number of trailing zeros is set
below_by : (n t d i : ℕ) → n % 2 ≡ d → ((j : ℕ) → j < t → bit_at (n / 2) j ≡ 0) → i < under d t → bit_at n i ≡ 0
below_by n t (suc d) i odd half less = absurd (omega (arith, less))
below_by n t zero zero even half less = bit_at_lowest n ∙ even
below_by n t zero (suc i) even half less = bit_at-suc n i ∙ half i (omega (arith, less))

below_trailing : (k n i : ℕ) → i < count_trailing_zeros k n → bit_at n i ≡ 0
unfolding count_trailing_zeros
below_trailing zero n i less = absurd (omega (arith, less))
below_trailing (suc k) n i less = below_by n (count_trailing_zeros k (n / 2)) (n % 2) i refl (below_trailing k (n / 2)) less

-- a supported size is a power of two, no lower than the granule
record IsPower (c : Configuration) (r size : ℕ) : Type 0 where
  exponent : ℕ
  is : size ≡ 2 ^ exponent
  above : trailing_zeros w64 (region_spec c r).sizes ≤ exponent

power_of : (c : Configuration) (r size : ℕ) → is_supported (region_spec c r) size ≡ true → IsPower c r size
power_of c r size supports =
    let spec : RegionSpec = region_spec c r in
    let k : ℕ = trailing_zeros w64 spec.sizes in
    let of = (supported spec size).0 supports in
    record {
      exponent = of.exponent;
      is = of.is;
      above = elim (cases_lt of.exponent k) [
        | inr it ↦ it
        | inl less ↦ absurd (omega (arith, of.set, below_trailing 64 spec.sizes of.exponent less))
      ];
    }

-- a supported size is made of whole granules
pub supported_whole : (c : Configuration) (r size : ℕ) → is_supported (region_spec c r) size ≡ true → size % granule_size c r ≡ 0
supported_whole c r size supports =
    let k : ℕ = trailing_zeros w64 (region_spec c r).sizes in
    let p = power_of c r size supports in
    let sum : p.exponent - k + k ≡ p.exponent = omega (arith, p.above) in
    ap (λ n. n % 2 ^ k) (p.is ∙ ap (λ e. 2 ^ e) (sym sum) ∙ pow-add 2 (p.exponent - k) k) ∙ mul-mod_left (2 ^ (p.exponent - k)) (2 ^ k)

-- and some bytes long
pub supported_some : (c : Configuration) (r size : ℕ) → is_supported (region_spec c r) size ≡ true → 0 < size
supported_some c r size supports = let p = power_of c r size supports in omega (arith, p.is, pow_pos p.exponent)

-- what lies in a region of that configuration, made of its blocks, is made of present blocks
pub placed_made : (c : Configuration) (b : ℕ → ℕ) (h : HostId) (r : ℕ) (x : Extent) → IsPlaced (with_blocks c b) h r x → IsMade c (b r) h r x
placed_made c b h r x a =
    let known : r < length c.regions = subst (λ n. r < n) (regions_same c b) a.known in
    let block : (region_spec (with_blocks c b) r).block ≡ b r = ap (λ spec. spec.block) (region_spec-with_blocks c b r known) in
    let end : base_of (with_blocks c b) h r + (region_spec (with_blocks c b) r).length ≡ base_of c h r + (region_spec c r).length = λ i. base_same c b h r i + length_same c b r i in
    record {
      known = known;
      some = a.some;
      from = subst (λ n. n ≤ x.start) (base_same c b h r) a.from;
      within = subst (λ n. x.start + x.length ≤ n) end a.within;
      begins = sym (λ i. (x.start - base_same c b h r i) % block i) ∙ a.begins;
      ends = sym (λ i. x.length % block i) ∙ a.ends;
    }
