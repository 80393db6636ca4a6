-- A range of whole granules and its run determine each other.
use Rattle.std.proofs.Common.{◌≡◌, ℕ, suc, ◌+◌, ◌-◌, ◌*◌, ◌/◌, ◌%◌, ◌^◌, ◌<◌, ◌≤◌, Bool, true, false, not, ◌&&◌, eqb, leb, length, Option, Some, None, unwrap_or, IfSome, refl, ap, subst, sym, ◌∙◌, inl, inr, arith, div-add-mod'}
use Rattle.std.proofs.lemmas.Bool.{and_from, and_parts, cases_eq, cases_lt, cases_Bool, eq-eqb, eqb-true, eqb-false, false≢true, le-leb, leb-true, ne_eqb, not-true, not_from_false}
use Rattle.std.proofs.{Math.Nat.mul-div_cancel, Math.Nat.mul-le-mul_right, Math.Nat.mul-mod_left, Math.Nat.zero-mul, lemmas.Option.none-some, lemmas.Option.same_Some}
use Rattle.std.specs.List.{find}
use Rattle.region_config.{proofs.Faultless.granule_from, proofs.Faultless.granules_within, proofs.Faultless.region_ends, proofs.GranuleLemmas.region_is, specs.Configurations.Configuration}
use Rattle.region_config.specs.Granules.{base_of, first_granule, granule_size, region_granules, region_of, region_spec, regions_of}
use Rattle.region_config.specs.{Soundness.IsSound, dcd_base.specs.declared.ids.HostId.HostId, dcd_base.specs.declared.media.Run.Run}
use Rattle.media_map.proofs.PlaceLemmas.{find_holds, found_at, has, none_found, reach}
use Rattle.media_map.specs.Places.{IsRun, IsRunOf, bytes_of_run, has_address, is_granular, region_at, run_in, start_of}

-- a range of whole granules of a region
pub record IsGranular (c : Configuration) (h : HostId) (start bytes r : ℕ) : Type 0 where
  pub some : 0 < bytes
  pub from : base_of c h r ≤ start
  pub within : start + bytes ≤ base_of c h r + (region_spec c r).length
  pub begins : (start - base_of c h r) % granule_size c r ≡ 0
  pub ends : bytes % granule_size c r ≡ 0

pub granular_parts : (c : Configuration) (h : HostId) (start bytes : ℕ) → is_granular c h start bytes ≡ true → IsGranular c h start bytes (region_at c h start)
granular_parts c h start bytes holds =
    let r : ℕ = region_at c h start in
    let some : Bool = not (eqb bytes 0) in
    let from : Bool = leb (base_of c h r) start in
    let within : Bool = leb (start + bytes) (base_of c h r + (region_spec c r).length) in
    let begins : Bool = eqb ((start - base_of c h r) % granule_size c r) 0 in
    let p3 = and_parts (some && from && within && begins) (eqb (bytes % granule_size c r) 0) holds in
    let p2 = and_parts (some && from && within) begins p3.0 in
    let p1 = and_parts (some && from) within p2.0 in
    let p0 = and_parts some from p1.0 in
    let nonzero = eqb-false bytes 0 (not-true (eqb bytes 0) p0.0) in
    record {
      some = omega (arith, nonzero);
      from = leb-true (base_of c h r) start p0.1;
      within = leb-true (start + bytes) (base_of c h r + (region_spec c r).length) p1.1;
      begins = eqb-true ((start - base_of c h r) % granule_size c r) 0 p2.1;
      ends = eqb-true (bytes % granule_size c r) 0 p3.1;
    }

pub granular_from : (c : Configuration) (h : HostId) (start bytes r : ℕ) → region_at c h start ≡ r → IsGranular c h start bytes r → is_granular c h start bytes ≡ true
granular_from c h start bytes r at g =
    subst (λ k. IsGranular c h start bytes k → is_granular c h start bytes ≡ true) at
    (λ i. and_from _ _ (and_from _ _ (and_from _ _ (and_from _ _ (not_from_false _ (ne_eqb _ _ (λ e. absurd (omega (arith, e, i.some))))) (le-leb _ _ i.from)) (le-leb _ _ i.within)) (eq-eqb _ _ i.begins)) (eq-eqb _ _ i.ends))
    g

pub run_found : (c : Configuration) (h : HostId) (start bytes r : ℕ) → region_at c h start ≡ r → is_granular c h start bytes ≡ true →
    run_in c h start bytes ≡ Some (record { first = first_granule c r + (start - base_of c h r) / granule_size c r; count = bytes / granule_size c r })
run_found c h start bytes r at holds = rw (holds, at) refl

pub run_refused : (c : Configuration) (h : HostId) (start bytes : ℕ) → is_granular c h start bytes ≡ false → run_in c h start bytes ≡ None
run_refused c h start bytes fails = rw fails refl

module _ (c : Configuration) (h : HostId) (s : IsSound c) (host : h < c.hosts) where
  pub region_at_is : (d r : ℕ) → r < length c.regions → has_address c h d r ≡ true → region_at c h d ≡ r
  region_at_is d r known holds = ap (λ o. unwrap_or o 0) (found_at c h d r s host known holds)

  -- where no region has the start, no range begins there
  pub no_run : (start bytes : ℕ) → find (has_address c h start) (regions_of c) ≡ None → run_in c h start bytes ≡ None
  no_run start bytes none = elim (cases_Bool (is_granular c h start bytes)) [
    | inr fails ↦ run_refused c h start bytes fails
    | inl holds ↦ (let first : region_at c h start ≡ 0 = ap (λ o. unwrap_or o 0) none in
        let g = subst (λ r. IsGranular c h start bytes r) first (granular_parts c h start bytes holds) in
        let outside = none_found (has_address c h start) 0 (length c.regions) none 0 (omega arith) (omega (arith, s.some_region)) in
        absurd (false≢true (sym outside ∙ has c h start 0 g.from (omega (arith, g.some, g.within)))))
  ]

  module _ (start bytes r : ℕ) (known : r < length c.regions) (g : IsGranular c h start bytes r) where
    behind : (start - base_of c h r) / granule_size c r * granule_size c r ≡ start - base_of c h r
    behind = omega (arith, div-add-mod' (start - base_of c h r) (granule_size c r), g.begins)

    many : bytes / granule_size c r * granule_size c r ≡ bytes
    many = omega (arith, div-add-mod' bytes (granule_size c r), g.ends)

    -- the range ends with the region's last granule at most
    pub run_fits : (start - base_of c h r) / granule_size c r + bytes / granule_size c r ≤ region_granules c r
    run_fits = elim (cases_lt (region_granules c r) ((start - base_of c h r) / granule_size c r + bytes / granule_size c r)) [
      | inl more ↦ absurd (omega (arith, mul-le-mul_right (granule_size c r) more, behind, many, reach c h s host r known, granule_from c r (s.each r known), g.from, g.within))
      | inr fits ↦ fits
    ]

    pub run_some : 0 < bytes / granule_size c r
    run_some = elim (cases_eq (bytes / granule_size c r) 0) [
      | inl none ↦ absurd (omega (arith, many, ap (λ n. n * granule_size c r) none, zero-mul (granule_size c r), g.some))
      | inr some ↦ omega (arith, some)
    ]

    its_region : region_of c (first_granule c r + (start - base_of c h r) / granule_size c r) ≡ r
    its_region = region_is c (first_granule c r + (start - base_of c h r) / granule_size c r) r known (omega arith) (omega (arith, run_fits, run_some))

    pub is_run : IsRun c (record { first = first_granule c r + (start - base_of c h r) / granule_size c r; count = bytes / granule_size c r })
    is_run = record {
      some = run_some;
      known = omega (arith, run_fits, run_some, granules_within c r known);
      within = rw its_region (omega (arith, run_fits));
    }

    pub run_starts : start_of c h (record { first = first_granule c r + (start - base_of c h r) / granule_size c r; count = bytes / granule_size c r }) ≡ start
    run_starts =
        let q : ℕ = (start - base_of c h r) / granule_size c r in
        let back : first_granule c r + q - first_granule c r ≡ q = omega arith in
        rw (its_region, back) (omega (arith, behind, g.from))

    pub run_bytes : bytes_of_run c (record { first = first_granule c r + (start - base_of c h r) / granule_size c r; count = bytes / granule_size c r }) ≡ bytes
    run_bytes = rw its_region many

  -- a run of a region, and the range that it is for the host
  module _ (run : Run) (r : ℕ) (known : r < length c.regions) (at : region_of c run.first ≡ r) (from : first_granule c r ≤ run.first) (is : IsRun c run) where
    reaches : run.first - first_granule c r + run.count ≤ region_granules c r
    reaches = omega (arith, from, (subst (λ k. run.first + run.count ≤ first_granule c (suc k)) at is.within))

    start_is : start_of c h run ≡ base_of c h r + (run.first - first_granule c r) * granule_size c r
    start_is = rw at refl

    bytes_are : bytes_of_run c run ≡ run.count * granule_size c r
    bytes_are = rw at refl

    size_some : 0 < granule_size c r
    size_some = omega (arith, granule_from c r (s.each r known))

    bytes_some : 0 < bytes_of_run c run
    bytes_some = omega (arith, bytes_are, mul-le-mul_right (granule_size c r) is.some, size_some)

    pub ends_within : start_of c h run + bytes_of_run c run ≤ base_of c h r + (region_spec c r).length
    ends_within = omega (arith, start_is, bytes_are, mul-le-mul_right (granule_size c r) reaches, reach c h s host r known)

    pub ends_below : start_of c h run + bytes_of_run c run ≤ 2 ^ 52
    ends_below = omega (arith, ends_within, region_ends c h r s host known)

    offset : start_of c h run - base_of c h r ≡ (run.first - first_granule c r) * granule_size c r
    offset = omega (arith, start_is)

    pub range_back : run_in c h (start_of c h run) (bytes_of_run c run) ≡ Some run
    range_back =
        let holds = has c h (start_of c h run) r (omega (arith, start_is)) (omega (arith, ends_within, bytes_some)) in
        let here = region_at_is (start_of c h run) r known holds in
        let size : ℕ = granule_size c r in
        let g : IsGranular c h (start_of c h run) (bytes_of_run c run) r = record {
          some = bytes_some;
          from = omega (arith, start_is);
          within = ends_within;
          begins = ap (λ n. n % size) offset ∙ mul-mod_left (run.first - first_granule c r) size;
          ends = ap (λ n. n % size) bytes_are ∙ mul-mod_left run.count size;
        } in
        let quotient : (start_of c h run - base_of c h r) / size ≡ run.first - first_granule c r = ap (λ n. n / size) offset ∙ mul-div_cancel (run.first - first_granule c r) size_some in
        let first : first_granule c r + (start_of c h run - base_of c h r) / size ≡ run.first = omega (arith, quotient, from) in
        let count : bytes_of_run c run / size ≡ run.count = ap (λ n. n / size) bytes_are ∙ mul-div_cancel run.count size_some in
        run_found c h (start_of c h run) (bytes_of_run c run) r here (granular_from c h (start_of c h run) (bytes_of_run c run) r here g)
        ∙ (λ i. Some (record { first = first i; count = count i }))

-- what the answer for a range tells
pub run_told : (c : Configuration) (h : HostId) (start bytes : ℕ) → IsSound c → h < c.hosts → (answer : Option Run) → answer ≡ run_in c h start bytes → IfSome answer (IsRunOf c h start bytes)
run_told c h start bytes s host None is = tt
run_told c h start bytes s host (Some run) is = elim (cases_Bool (is_granular c h start bytes)) [
  | inr fails ↦ absurd (none-some run (sym (run_refused c h start bytes fails) ∙ sym is))
  | inl holds ↦ told (find (has_address c h start) (regions_of c)) refl holds
]
  where
    told : (found : Option ℕ) → find (has_address c h start) (regions_of c) ≡ found → is_granular c h start bytes ≡ true → IsRunOf c h start bytes run
    told None none holds = absurd (none-some run (sym (no_run c h s host start bytes none) ∙ sym is))
    told (Some r) found holds =
        let at : region_at c h start ≡ r = ap (λ o. unwrap_or o 0) found in
        let known = (find_holds (has_address c h start) 0 (length c.regions) r found).below in
        let g = subst (λ k. IsGranular c h start bytes k) at (granular_parts c h start bytes holds) in
        let same = same_Some _ _ (sym (run_found c h start bytes r at holds) ∙ sym is) in
        subst (λ x. IsRunOf c h start bytes x) same (record {
          run = is_run c h s host start bytes r (omega (arith, known)) g;
          start = run_starts c h s host start bytes r (omega (arith, known)) g;
          bytes = run_bytes c h s host start bytes r (omega (arith, known)) g;
        })
