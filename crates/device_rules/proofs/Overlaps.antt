-- Extents that share a granule share an address, and what lies in an extent has granules of it alone.
use Rattle.std.proofs.Common.{◌≡◌, ℕ, ◌+◌, ◌-◌, ◌*◌, ◌/◌, ◌%◌, ◌<◌, ◌≤◌, Bool, true, false, List, [], ◌∷◌, ◌++◌, length, None, refl, sym, subst, ◌∙◌, inl, inr, arith, leb, ltb, append_assoc, mul-le-mul_right, add-mul, zero-mul}
use Rattle.std.proofs.lemmas.{Iterator.Adapters.position_from-zero, List.Folds.list_any-append, Option.none-some}
use Rattle.std.specs.{List.AllByRecursion, List.list_any, List.position_from, Prelude.Option, Prelude.position}
use Rattle.std.proofs.lemmas.Bool.{and_from, and_parts, cases_Bool, cases_lt, false≢true, false_from_ne_true, le-leb, leb-true, lt-ltb, ltb-true, or_from, or_parts}
use Rattle.cci_codec.specs.dcd_base.specs.{declared.capacity.Extent.Extent, declared.ids.HostId.HostId, Words.has_granule}
use Rattle.extent_list.specs.{ExtentLists.lies_in, ExtentLists.overlaps, Listing.overlapping, dcd_codes.specs.Rules.◌breaks◌, dcd_codes.specs.Rules.first_by, dcd_codes.specs.declared.rules.Rule.Rule}
use Rattle.extent_list.specs.media_map.{proofs.PlaceLemmas.has, proofs.RunLemmas.region_at_is, specs.Places.region_at, specs.Places.run_of, specs.region_config.proofs.Faultless.granule_from}
use Rattle.extent_list.specs.media_map.specs.region_config.specs.{Configurations.Configuration, Granules.base_of, Granules.first_granule, Granules.granule_size, Granules.region_of, Soundness.IsSound}
use Rattle.device_rules.proofs.{Homes.made_begins, Homes.made_long, Homes.made_of_region, Homes.made_run, ListSteps.many-none, OneOffer.reaches}
use Rattle.device_rules.specs.{Pictures.count_on, Standing.IsMade}
use Rattle.selection.proofs.Prescribed.{neither, option_none}

-- ---- rows

pub not_broken : (b : Bool) (rule : Rule) → (b breaks rule) ≡ None → b ≡ false
not_broken false rule none = refl
not_broken true rule none = absurd (none-some rule (sym none))

none_passes : (p : Extent → Bool) (i : ℕ) (xs : List Extent) → position_from p i xs ≡ None → list_any p xs ≡ false
none_passes p i [] none = refl
none_passes p i (x ∷ xs) none = elim (cases_Bool (p x)) [
  | inl here ↦ absurd (none-some i (sym (rw here at none)))
  | inr fails ↦ or_from (p x) (list_any p xs) fails (none_passes p (i + 1) xs (rw fails at none))
]

pub no_overlap : (before : List Extent) (x : Extent) → overlapping before x ≡ None → list_any (overlaps x) before ≡ false
no_overlap before x none = none_passes (overlaps x) 0 before (sym (position_from-zero (overlaps x) before) ∙ option_none (λ j. Rule.Overlap (length before) j) (position (overlaps x) before) none)

-- no extent shares an address with one before it
abbrev pub Spread : List Extent → List Extent → Type 0
Spread before [] = Unit {0}
Spread before (x ∷ xs) = (list_any (overlaps x) before ≡ false) × Spread (before ++ x ∷ []) xs

-- what a row over a list says of its members
pub row_each : (check : List Extent → Extent → Option Rule) (P : Extent → Type 0) → ((before : List Extent) (x : Extent) → check before x ≡ None → P x) → (before xs : List Extent) → first_by check before xs ≡ None → AllByRecursion P xs
row_each check P step before [] none = tt
row_each check P step before (x ∷ xs) none =
    let parts = neither (check before x) (first_by check (before ++ x ∷ []) xs) none in
    (step before x parts.0, row_each check P step (before ++ x ∷ []) xs parts.1)

pub row_spread : (check : List Extent → Extent → Option Rule) → ((before : List Extent) (x : Extent) → check before x ≡ None → overlapping before x ≡ None) → (before xs : List Extent) → first_by check before xs ≡ None → Spread before xs
row_spread check step before [] none = tt
row_spread check step before (x ∷ xs) none =
    let parts = neither (check before x) (first_by check (before ++ x ∷ []) xs) none in
    (no_overlap before x (step before x parts.0), row_spread check step (before ++ x ∷ []) xs parts.1)

-- ---- granules

-- one more granule is as many bytes more
pub reach_bytes : (size m n : ℕ) → 0 < size → m < n → m * size < n * size
reach_bytes size m n some less = omega (arith, mul-le-mul_right size less, add-mul m 1 size, some)

pub back_bytes : (size m n : ℕ) → 0 < size → m * size ≤ n * size → m ≤ n
back_bytes size m n some less = elim (cases_lt n m) [
  | inl more ↦ absurd (omega (arith, reach_bytes size n m some more, less))
  | inr fits ↦ fits
]

-- the granule has this place behind the region's first
pub record IsBetween (first from many g : ℕ) : Type 0 where
  pub low : first + from ≤ g
  pub high : g < first + from + many

module _ (c : Configuration) (h : HostId) (s : IsSound c) (host : h < c.hosts) where
  pub between : (size r : ℕ) (x : Extent) → size % granule_size c r ≡ 0 → IsMade c size h r x → (g : ℕ) → has_granule (run_of c h x) g ≡ true →
      IsBetween (first_granule c r) ((x.start - base_of c h r) / granule_size c r) (x.length / granule_size c r) g
  between size r x whole m g has_g =
      let here = subst (λ run. has_granule run g ≡ true) (made_run c h s host size r x whole m) has_g in
      let first : ℕ = first_granule c r + (x.start - base_of c h r) / granule_size c r in
      let parts = and_parts (leb first g) (ltb g (first + x.length / granule_size c r)) here in
      record { low = leb-true _ _ parts.0; high = ltb-true _ _ parts.1 }

  pub from_between : (size r : ℕ) (x : Extent) → size % granule_size c r ≡ 0 → IsMade c size h r x → (g : ℕ) →
      IsBetween (first_granule c r) ((x.start - base_of c h r) / granule_size c r) (x.length / granule_size c r) g → has_granule (run_of c h x) g ≡ true
  from_between size r x whole m g b =
      let first : ℕ = first_granule c r + (x.start - base_of c h r) / granule_size c r in
      subst (λ run. has_granule run g ≡ true) (sym (made_run c h s host size r x whole m))
      (and_from (leb first g) (ltb g (first + x.length / granule_size c r)) (le-leb _ _ b.low) (lt-ltb _ _ b.high))

  -- in one region, what shares a granule shares an address
  share : (size r : ℕ) (x y : Extent) → size % granule_size c r ≡ 0 → IsMade c size h r x → IsMade c size h r y → (g : ℕ) →
      has_granule (run_of c h x) g ≡ true → has_granule (run_of c h y) g ≡ true → overlaps y x ≡ true
  share size r x y whole m n g has_x has_y =
      let gs : ℕ = granule_size c r in
      let some : 0 < granule_size c r = omega (arith, granule_from c r (s.each r m.known)) in
      let a = between size r x whole m g has_x in
      let b = between size r y whole n g has_y in
      let qx : ℕ = (x.start - base_of c h r) / gs in
      let nx : ℕ = x.length / gs in
      let qy : ℕ = (y.start - base_of c h r) / gs in
      let ny : ℕ = y.length / gs in
      let bx = made_begins c h s host size r x whole m in
      let lx = made_long c h s host size r x whole m in
      let by_ = made_begins c h s host size r y whole n in
      let ly = made_long c h s host size r y whole n in
      let one = reach_bytes gs qy (qx + nx) some (omega (arith, a.high, b.low)) in
      let two = reach_bytes gs qx (qy + ny) some (omega (arith, b.high, a.low)) in
      and_from (ltb y.start (x.start + x.length)) (ltb x.start (y.start + y.length))
      (lt-ltb _ _ (omega (arith, one, add-mul qx nx gs, bx, lx, by_, m.from, n.from)))
      (lt-ltb _ _ (omega (arith, two, add-mul qy ny gs, bx, ly, by_, m.from, n.from)))

  -- extents of present blocks that share no address share no granule
  module _ (b : ℕ → ℕ) (whole : (r : ℕ) → r < length c.regions → b r % granule_size c r ≡ 0) where
    abbrev pub IsMadeSomewhere : Extent → Type 0
    IsMadeSomewhere x = IsMade c (b (region_at c h x.start)) h (region_at c h x.start) x

    pub no_common : (x y : Extent) → IsMadeSomewhere x → IsMadeSomewhere y → overlaps y x ≡ false → (g : ℕ) → has_granule (run_of c h x) g ≡ true → has_granule (run_of c h y) g ≡ false
    no_common x y m n apart g has_x = false_from_ne_true (has_granule (run_of c h y) g) (λ has_y.
        let rx : ℕ = region_at c h x.start in
        let ry : ℕ = region_at c h y.start in
        let one : region_of c g ≡ rx = made_of_region c h s host (b rx) rx x (whole rx m.known) m g has_x in
        let two : region_of c g ≡ ry = made_of_region c h s host (b ry) ry y (whole ry n.known) n g has_y in
        let n' = subst (λ r. IsMade c (b r) h r y) (sym two ∙ one) n in
        absurd (false≢true (sym apart ∙ share (b rx) rx x y (whole rx m.known) m n' g has_x has_y)))

    later_apart : (x : Extent) → IsMadeSomewhere x → (front back ys : List Extent) → AllByRecursion IsMadeSomewhere ys → Spread (front ++ x ∷ back) ys → (g : ℕ) → has_granule (run_of c h x) g ≡ true → reaches c h ys g ≡ false
    later_apart x m front back [] made spread g has_x = refl
    later_apart x m front back (y ∷ ys) made spread g has_x =
        let split = or_parts (list_any (overlaps y) front) (list_any (overlaps y) (x ∷ back)) (sym (list_any-append (overlaps y) front (x ∷ back)) ∙ spread.0) in
        let beside = (or_parts (overlaps y x) (list_any (overlaps y) back) split.1).0 in
        or_from (has_granule (run_of c h y) g) (reaches c h ys g) (no_common x y m made.0 beside g has_x)
        (later_apart x m front (back ++ y ∷ []) ys made.1 (subst (λ l. Spread l ys) (append_assoc front (x ∷ back) (y ∷ [])) spread.1) g has_x)

    -- so of a spread list one extent at most has a granule
    pub spread_once : (before xs : List Extent) → AllByRecursion IsMadeSomewhere xs → Spread before xs → (g : ℕ) → count_on c h g xs ≤ 1
    spread_once before [] made spread g = omega arith
    spread_once before (x ∷ xs) made spread g = elim (cases_Bool (has_granule (run_of c h x) g)) [
      | inr other ↦ rw other (spread_once (before ++ x ∷ []) xs made.1 spread.1 g)
      | inl here ↦ rw here (omega (arith, many-none (λ y. has_granule (run_of c h y) g) xs (later_apart x made.0 before [] xs made.1 spread.1 g here)))
    ]

    -- what lies in an extent has granules of it alone
    pub inside_has : (x y : Extent) → IsMadeSomewhere x → IsMadeSomewhere y → lies_in x y ≡ true → (g : ℕ) → has_granule (run_of c h x) g ≡ true → has_granule (run_of c h y) g ≡ true
    inside_has x y m n inside g has_x =
        let parts = and_parts (leb y.start x.start) (leb (x.start + x.length) (y.start + y.length)) inside in
        let low : y.start ≤ x.start = leb-true _ _ parts.0 in
        let high : x.start + x.length ≤ y.start + y.length = leb-true _ _ parts.1 in
        let ry : ℕ = region_at c h y.start in
        let same : region_at c h x.start ≡ ry = region_at_is c h s host x.start ry n.known (has c h x.start ry (omega (arith, n.from, low)) (omega (arith, high, m.some, n.within))) in
        let m' : IsMade c (b ry) h ry x = subst (λ r. IsMade c (b r) h r x) same m in
        let w = whole ry n.known in
        let gs : ℕ = granule_size c ry in
        let some : 0 < granule_size c ry = omega (arith, granule_from c ry (s.each ry n.known)) in
        let a = between (b ry) ry x w m' g has_x in
        let qx : ℕ = (x.start - base_of c h ry) / gs in
        let nx : ℕ = x.length / gs in
        let qy : ℕ = (y.start - base_of c h ry) / gs in
        let ny : ℕ = y.length / gs in
        let bx = made_begins c h s host (b ry) ry x w m' in
        let lx = made_long c h s host (b ry) ry x w m' in
        let by_ = made_begins c h s host (b ry) ry y w n in
        let ly = made_long c h s host (b ry) ry y w n in
        let one = back_bytes gs qy qx some (omega (arith, bx, by_, low, n.from)) in
        let two = back_bytes gs (qx + nx) (qy + ny) some (omega (arith, add-mul qx nx gs, add-mul qy ny gs, bx, lx, by_, ly, high, m'.from, n.from)) in
        from_between (b ry) ry y w n g (record { low = omega (arith, a.low, one); high = omega (arith, a.high, two) })

    -- and extents that share an address share a granule: the first of the one that begins later
    common_from : (x y : Extent) → IsMadeSomewhere x → IsMadeSomewhere y → x.start ≤ y.start → y.start < x.start + x.length → (g : ℕ) × (has_granule (run_of c h x) g ≡ true) × (has_granule (run_of c h y) g ≡ true)
    common_from x y m n low high =
        let r : ℕ = region_at c h x.start in
        let same : region_at c h y.start ≡ r = region_at_is c h s host y.start r m.known (has c h y.start r (omega (arith, m.from, low)) (omega (arith, high, m.within))) in
        let n' : IsMade c (b r) h r y = subst (λ k. IsMade c (b k) h k y) same n in
        let w = whole r m.known in
        let gs : ℕ = granule_size c r in
        let some : 0 < granule_size c r = omega (arith, granule_from c r (s.each r m.known)) in
        let qx : ℕ = (x.start - base_of c h r) / gs in
        let nx : ℕ = x.length / gs in
        let qy : ℕ = (y.start - base_of c h r) / gs in
        let ny : ℕ = y.length / gs in
        let bx = made_begins c h s host (b r) r x w m in
        let lx = made_long c h s host (b r) r x w m in
        let by_ = made_begins c h s host (b r) r y w n' in
        let ly = made_long c h s host (b r) r y w n' in
        let from = back_bytes gs qx qy some (omega (arith, bx, by_, low, m.from)) in
        let to : qy < qx + nx = elim (cases_lt qy (qx + nx)) [
          | inl less ↦ less
          | inr more ↦ absurd (omega (arith, mul-le-mul_right gs more, add-mul qx nx gs, bx, lx, by_, high, m.from, n'.from))
        ] in
        let long : 0 < ny = elim (cases_lt 0 ny) [
          | inl it ↦ it
          | inr none ↦ absurd (omega (arith, mul-le-mul_right gs none, ly, n.some, zero-mul gs))
        ] in (
          first_granule c r + qy,
          from_between (b r) r x w m (first_granule c r + qy) (record { low = omega (arith, from); high = omega (arith, to) }),
          from_between (b r) r y w n' (first_granule c r + qy) (record { low = omega arith; high = omega (arith, long) }),
        )

    pub common : (x y : Extent) → IsMadeSomewhere x → IsMadeSomewhere y → overlaps y x ≡ true → (g : ℕ) × (has_granule (run_of c h x) g ≡ true) × (has_granule (run_of c h y) g ≡ true)
    common x y m n shares =
        let parts = and_parts (ltb y.start (x.start + x.length)) (ltb x.start (y.start + y.length)) shares in
        elim (cases_lt y.start x.start) [
          | inr low ↦ common_from x y m n low (ltb-true _ _ parts.0)
          | inl before ↦ (let both = common_from y x n m (omega (arith, before)) (ltb-true _ _ parts.1) in (both.0, both.2, both.1))
        ]
