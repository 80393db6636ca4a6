-- What is left of a host's extents once one has left them.
use Rattle.std.proofs.Common.{◌≡◌, ◌⊎◌, ℕ, ◌+◌, ◌-◌, ◌*◌, ◌/◌, ◌%◌, ◌<◌, ◌≤◌, Bool, true, false, ◌||◌, List, [], ◌∷◌, length, refl, ap, sym, subst, ◌∙◌, inl, inr, arith, leb, ltb, add-mul, div-add-mod', mul-le-mul_right, zero-mul}
use Rattle.std.{specs.Prelude.if◌then◌else◌, specs.List.AllByRecursion, specs.List.list_any, proofs.lemmas.List.Folds.list_any-append, proofs.Math.Nat.mul-mod_left}
use Rattle.std.proofs.lemmas.Bool.{and_from, and_parts, cases_Bool, cases_lt, false≢true, false_from_ne_true, le-leb, le-ltb, leb-true, lt-ltb, ltb-true, or_from, or_left, or_right}
use Rattle.cci_codec.specs.dcd_base.specs.{declared.capacity.Extent.Extent, declared.capacity.Tag.Tag, declared.ids.HostId.HostId, Words.has_granule, Words.same_tag}
use Rattle.extent_list.specs.ExtentLists.{cut, has_extent_of, has_range, is_in, lies_in, overlaps, piece, without}
use Rattle.extent_list.specs.media_map.{proofs.PlaceLemmas.has, proofs.RunLemmas.region_at_is, specs.Places.region_at, specs.Places.run_of, specs.region_config.proofs.Faultless.granule_from}
use Rattle.extent_list.specs.media_map.specs.region_config.specs.{Configurations.Configuration, Granules.base_of, Granules.first_granule, Granules.granule_size, Soundness.IsSound}
use Rattle.device_rules.proofs.Homes.{made_begins, made_long, made_region}
use Rattle.device_rules.proofs.ListSteps.{each-append, each-at, each-both, each-change, many, many-any, many-append, many-none}
use Rattle.device_rules.proofs.{OneOffer.reaches, Overlaps.back_bytes, Overlaps.between, Overlaps.from_between, Overlaps.inside_has, Overlaps.no_common, Overlaps.reach_bytes}
use Rattle.device_rules.specs.{Pictures.count_on, Standing.IsMade}

-- ---- addresses

-- x lies in y
pub record LiesIn (x y : Extent) : Type 0 where
  pub begins : y.start ≤ x.start
  pub ends : x.start + x.length ≤ y.start + y.length

pub lies : (x y : Extent) → lies_in x y ≡ true → LiesIn x y
lies x y inside = let parts = and_parts (leb y.start x.start) (leb (x.start + x.length) (y.start + y.length)) inside in record { begins = leb-true _ _ parts.0; ends = leb-true _ _ parts.1 }

pub lies-from : (x y : Extent) → LiesIn x y → lies_in x y ≡ true
lies-from x y l = and_from (leb y.start x.start) (leb (x.start + x.length) (y.start + y.length)) (le-leb _ _ l.begins) (le-leb _ _ l.ends)

-- two extents that share no address: one ends where the other begins, or before
beside_from : (x y : Extent) → overlaps x y ≡ false → (y.start + y.length ≤ x.start) ⊎ (x.start + x.length ≤ y.start)
beside_from x y none = elim (cases_lt x.start (y.start + y.length)) [
  | inl less ↦ elim (cases_lt y.start (x.start + x.length)) [
    | inl other ↦ absurd (false≢true (sym none ∙ and_from (ltb x.start (y.start + y.length)) (ltb y.start (x.start + x.length)) (lt-ltb _ _ less) (lt-ltb _ _ other)))
    | inr above ↦ inr above
  ]
  | inr above ↦ inl above
]

-- where x lies in an extent, it lies in a piece that remains without y
in_piece : (x y z : Extent) → 0 < x.length → overlaps x y ≡ false → lies_in x z ≡ true → is_in (without z y.start y.length) x ≡ true
in_piece x y z some none inside =
    let p : Extent → Bool = λ a. lies_in x a in
    let l = lies x z inside in
    elim (beside_from x y none) [
      | inl above ↦
          let there : ltb (y.start + y.length) (z.start + z.length) ≡ true = lt-ltb _ _ (omega (arith, above, l.ends, some)) in
          let from : leb (y.start + y.length) x.start ≡ true = le-leb _ _ above in
          let to : leb (x.start + x.length) (y.start + y.length + (z.start + z.length - (y.start + y.length))) ≡ true = le-leb _ _ (omega (arith, above, l.ends, some)) in
          list_any-append p (piece z z.start y.start) (piece z (y.start + y.length) (z.start + z.length))
          ∙ or_right (list_any p (piece z z.start y.start)) _ (rw (there, from, to) refl)
      | inr below ↦
          let there : ltb z.start y.start ≡ true = lt-ltb _ _ (omega (arith, below, l.begins, some)) in
          let from : leb z.start x.start ≡ true = le-leb _ _ l.begins in
          let to : leb (x.start + x.length) (z.start + (y.start - z.start)) ≡ true = le-leb _ _ (omega (arith, below, l.begins, some)) in
          list_any-append p (piece z z.start y.start) (piece z (y.start + y.length) (z.start + z.length))
          ∙ or_left (list_any p (piece z z.start y.start)) _ (rw (there, from, to) refl)
    ]

-- a cut of y leaves x in an extent, or in a piece of one
pub in_cut : (x y : Extent) (xs : List Extent) → 0 < x.length → overlaps x y ≡ false → is_in xs x ≡ true → is_in (cut y.start y.length xs) x ≡ true
in_cut x y [] some none inside = inside
in_cut x y (z ∷ xs) some none inside =
    let p : Extent → Bool = λ a. lies_in x a in
    elim (cases_Bool (has_range y.start y.length z)) [
      | inl gives ↦ rw gives (list_any-append p (without z y.start y.length) xs ∙ elim (cases_Bool (lies_in x z)) [
        | inl here ↦ or_left (list_any p (without z y.start y.length)) _ (in_piece x y z some none here)
        | inr other ↦ or_right (list_any p (without z y.start y.length)) _ (rw other at inside)
      ])
      | inr stays ↦ rw stays (elim (cases_Bool (lies_in x z)) [
        | inl here ↦ rw here refl
        | inr other ↦ rw other (in_cut x y xs some none (rw other at inside))
      ])
    ]

-- the tag of an extent that gives way may go, and no other
pub tag_stays : (x : Extent) (t u : Tag) (xs : List Extent) → same_tag u t ≡ false → AllByRecursion (λ a. lies_in x a ≡ true → a.tag ≡ u) xs → has_extent_of t xs ≡ true → has_extent_of t (cut x.start x.length xs) ≡ true
tag_stays x t u [] other each e = e
tag_stays x t u (a ∷ xs) other each e = elim (cases_Bool (has_range x.start x.length a)) [
  | inl gives ↦ (let gone : same_tag a.tag t ≡ false = ap (λ v. same_tag v t) (each.0 gives) ∙ other in
      rw gives (list_any-append (λ y. same_tag y.tag t) (without a x.start x.length) xs ∙ or_right (has_extent_of t (without a x.start x.length)) (has_extent_of t xs) (rw gone at e)))
  | inr stays ↦ rw stays (elim (cases_Bool (same_tag a.tag t)) [
    | inl here ↦ or_left (same_tag a.tag t) (has_extent_of t (cut x.start x.length xs)) here
    | inr not_here ↦ or_right (same_tag a.tag t) (has_extent_of t (cut x.start x.length xs)) (tag_stays x t u xs other each.1 (rw not_here at e))
  ])
]

-- ---- pieces

difference : (m n size : ℕ) → m ≤ n → m % size ≡ 0 → n % size ≡ 0 → (n - m) % size ≡ 0
difference m n size less a b =
    let qm : m / size * size ≡ m = omega (arith, div-add-mod' m size, a) in
    let qn : n / size * size ≡ n = omega (arith, div-add-mod' n size, b) in
    let gap : n - m ≡ (n / size - m / size) * size = elim (cases_lt (n / size) (m / size)) [
      | inl more ↦ (let up = mul-le-mul_right size more in
          let none : n / size - m / size ≡ 0 = omega (arith, more) in
          omega (arith, up, qm, qn, less, add-mul (n / size) 1 size, ap (λ k. k * size) none, zero-mul size))
      | inr fits ↦ (let sum : n / size - m / size + m / size ≡ n / size = omega (arith, fits) in
          omega (arith, qm, qn, add-mul (n / size - m / size) (m / size) size, ap (λ k. k * size) sum))
    ] in
    ap (λ k. k % size) gap ∙ mul-mod_left (n / size - m / size) size

sum_whole : (m n size : ℕ) → m % size ≡ 0 → n % size ≡ 0 → (m + n) % size ≡ 0
sum_whole m n size a b =
    let qm : m / size * size ≡ m = omega (arith, div-add-mod' m size, a) in
    let qn : n / size * size ≡ n = omega (arith, div-add-mod' n size, b) in
    let whole : m + n ≡ (m / size + n / size) * size = omega (arith, qm, qn, add-mul (m / size) (n / size) size) in
    ap (λ k. k % size) whole ∙ mul-mod_left (m / size + n / size) size

module _ (c : Configuration) (h : HostId) (s : IsSound c) (host : h < c.hosts) (b : ℕ → ℕ) (whole : (r : ℕ) → r < length c.regions → b r % granule_size c r ≡ 0) where
  abbrev pub Made : Extent → Type 0
  Made x = IsMade c (b (region_at c h x.start)) h (region_at c h x.start) x

  -- y is a piece of a without x
  pub record IsPiece (x a y : Extent) : Type 0 where
    pub tag : y.tag ≡ a.tag
    pub made : IsMade c (b (region_at c h y.start)) h (region_at c h y.start) y
    pub region : region_at c h y.start ≡ region_at c h a.start
    pub low : a.start ≤ y.start
    pub high : y.start + y.length ≤ a.start + a.length
    pub beside : (y.start + y.length ≤ x.start) ⊎ (x.start + x.length ≤ y.start)
    pub inside : LiesIn x a
    pub its_region : region_at c h x.start ≡ region_at c h a.start

  same_region : (x a : Extent) → Made x → Made a → LiesIn x a → region_at c h x.start ≡ region_at c h a.start
  same_region x a m n l = region_at_is c h s host x.start (region_at c h a.start) n.known (has c h x.start (region_at c h a.start) (omega (arith, n.from, l.begins)) (omega (arith, l.ends, m.some, n.within)))

  home_from : (r : ℕ) (y : Extent) → IsMade c (b r) h r y → Made y
  home_from r y m = subst (λ k. IsMade c (b k) h k y) (sym (made_region c h s host (b r) r y (whole r m.known) m)) m

  -- the part below what left, and the part above
  abbrev below_of : Extent → Extent → Extent
  below_of x a = record a { start = a.start; length = x.start - a.start }

  abbrev above_of : Extent → Extent → Extent
  above_of x a = record a { start = x.start + x.length; length = a.start + a.length - (x.start + x.length) }

  in_region : (x a : Extent) → Made x → Made a → LiesIn x a → IsMade c (b (region_at c h a.start)) h (region_at c h a.start) x
  in_region x a m n l = subst (λ k. IsMade c (b k) h k x) (same_region x a m n l) m

  below_made : (x a : Extent) → Made x → Made a → LiesIn x a → a.start < x.start → IsMade c (b (region_at c h a.start)) h (region_at c h a.start) (record a { start = a.start; length = x.start - a.start })
  below_made x a m n l some =
      let r : ℕ = region_at c h a.start in
      let m' = in_region x a m n l in
      let gap : x.start - a.start ≡ (x.start - base_of c h r) - (a.start - base_of c h r) = omega (arith, n.from) in
      record {
        known = n.known;
        some = omega (arith, some);
        from = n.from;
        within = omega (arith, some, l.ends, n.within, m.some);
        begins = n.begins;
        ends = ap (λ k. k % b r) gap ∙ difference (a.start - base_of c h r) (x.start - base_of c h r) (b r) (omega (arith, some)) n.begins m'.begins;
      }

  above_made : (x a : Extent) → Made x → Made a → LiesIn x a → x.start + x.length < a.start + a.length → IsMade c (b (region_at c h a.start)) h (region_at c h a.start) (record a { start = x.start + x.length; length = a.start + a.length - (x.start + x.length) })
  above_made x a m n l some =
      let r : ℕ = region_at c h a.start in
      let m' = in_region x a m n l in
      let off : x.start + x.length - base_of c h r ≡ (x.start - base_of c h r) + x.length = omega (arith, m'.from) in
      let end : a.start + a.length - base_of c h r ≡ (a.start - base_of c h r) + a.length = omega (arith, n.from) in
      let gap : a.start + a.length - (x.start + x.length) ≡ (a.start + a.length - base_of c h r) - (x.start + x.length - base_of c h r) = omega (arith, m'.from, n.from) in
      let begins : (x.start + x.length - base_of c h r) % b r ≡ 0 = ap (λ k. k % b r) off ∙ sum_whole (x.start - base_of c h r) x.length (b r) m'.begins m'.ends in
      let ends : (a.start + a.length - base_of c h r) % b r ≡ 0 = ap (λ k. k % b r) end ∙ sum_whole (a.start - base_of c h r) a.length (b r) n.begins n.ends in
      record {
        known = n.known;
        some = omega (arith, some);
        from = omega (arith, m'.from);
        within = omega (arith, some, n.within);
        begins = begins;
        ends = ap (λ k. k % b r) gap ∙ difference (x.start + x.length - base_of c h r) (a.start + a.length - base_of c h r) (b r) (omega (arith, some)) begins ends;
      }

  lower_each : (x a : Extent) → Made x → Made a → LiesIn x a → AllByRecursion (IsPiece x a) (piece a a.start x.start)
  lower_each x a m n l = elim (cases_lt a.start x.start) [
    | inr none ↦ rw (le-ltb _ _ none) tt
    | inl some ↦ rw (lt-ltb _ _ some) (
      record {
        tag = refl;
        made = home_from (region_at c h a.start) (below_of x a) (below_made x a m n l some);
        region = refl;
        low = omega arith;
        high = omega (arith, some, l.ends, m.some);
        beside = inl (omega (arith, some));
        inside = l;
        its_region = same_region x a m n l;
      },
      tt,
    )
  ]

  upper_each : (x a : Extent) → Made x → Made a → LiesIn x a → AllByRecursion (IsPiece x a) (piece a (x.start + x.length) (a.start + a.length))
  upper_each x a m n l = elim (cases_lt (x.start + x.length) (a.start + a.length)) [
    | inr none ↦ rw (le-ltb _ _ none) tt
    | inl some ↦ (let r : ℕ = region_at c h a.start in let made = above_made x a m n l some in
        rw (lt-ltb _ _ some) (
          record {
            tag = refl;
            made = home_from r (above_of x a) made;
            region = made_region c h s host (b r) r (above_of x a) (whole r n.known) made;
            low = omega (arith, l.begins);
            high = omega (arith, some);
            beside = inr (omega arith);
            inside = l;
            its_region = same_region x a m n l;
          },
          tt,
        ))
  ]

  pieces_each : (x a : Extent) → Made x → Made a → LiesIn x a → AllByRecursion (IsPiece x a) (without a x.start x.length)
  pieces_each x a m n l = each-append (IsPiece x a) (piece a a.start x.start) (piece a (x.start + x.length) (a.start + a.length)) (lower_each x a m n l) (upper_each x a m n l)

  -- what each extent has and each piece of one gets, each has after the cut
  pub cut_each : (P : Extent → Type 0) (x : Extent) → Made x → ((a y : Extent) → P a → IsPiece x a y → P y) → (xs : List Extent) → AllByRecursion Made xs → AllByRecursion P xs → AllByRecursion P (cut x.start x.length xs)
  cut_each P x m step [] made each = tt
  cut_each P x m step (a ∷ xs) made each = elim (cases_Bool (has_range x.start x.length a)) [
    | inl gives ↦ rw gives (each-append P (without a x.start x.length) xs (each-change (IsPiece x a) P (λ y i. step a y each.0 i) (without a x.start x.length) (pieces_each x a m made.0 (lies x a gives))) each.1)
    | inr stays ↦ rw stays (each.0, cut_each P x m step xs made.1 each.1)
  ]

  -- ---- granules

  -- a piece has granules of the whole, and none of what left
  piece_of : (x a y : Extent) → Made a → IsPiece x a y → (g : ℕ) → has_granule (run_of c h y) g ≡ true → has_granule (run_of c h a) g ≡ true
  piece_of x a y n i g has_y = inside_has c h s host b whole y a i.made n (lies-from y a (record { begins = i.low; ends = i.high })) g has_y

  apart_from : (x y : Extent) → (y.start + y.length ≤ x.start) ⊎ (x.start + x.length ≤ y.start) → overlaps y x ≡ false
  apart_from x y (inl below) = false_from_ne_true (overlaps y x) (λ e. let parts = and_parts (ltb y.start (x.start + x.length)) (ltb x.start (y.start + y.length)) e in absurd (omega (arith, below, ltb-true _ _ parts.1)))
  apart_from x y (inr above) = false_from_ne_true (overlaps y x) (λ e. let parts = and_parts (ltb y.start (x.start + x.length)) (ltb x.start (y.start + y.length)) e in absurd (omega (arith, above, ltb-true _ _ parts.0)))

  piece_not : (x a y : Extent) → Made x → IsPiece x a y → (g : ℕ) → has_granule (run_of c h x) g ≡ true → has_granule (run_of c h y) g ≡ false
  piece_not x a y m i g has_x = no_common c h s host b whole x y m i.made (apart_from x y i.beside) g has_x

  none_each : (g : ℕ) (ys : List Extent) → AllByRecursion (λ y. has_granule (run_of c h y) g ≡ false) ys → list_any (λ y. has_granule (run_of c h y) g) ys ≡ false
  none_each g [] each = refl
  none_each g (y ∷ ys) each = or_from (has_granule (run_of c h y) g) (list_any (λ z. has_granule (run_of c h z) g) ys) each.0 (none_each g ys each.1)

  -- where the whole has not the granule, no piece has
  pieces_none : (x a : Extent) → Made x → Made a → LiesIn x a → (g : ℕ) → has_granule (run_of c h a) g ≡ false → reaches c h (without a x.start x.length) g ≡ false
  pieces_none x a m n l g not_a = none_each g (without a x.start x.length) (each-change (IsPiece x a) (λ y. has_granule (run_of c h y) g ≡ false)
      (λ y i. false_from_ne_true (has_granule (run_of c h y) g) (λ has_y. false≢true (sym not_a ∙ piece_of x a y n i g has_y))) (without a x.start x.length) (pieces_each x a m n l))

  pieces_gone : (x a : Extent) → Made x → Made a → LiesIn x a → (g : ℕ) → has_granule (run_of c h x) g ≡ true → reaches c h (without a x.start x.length) g ≡ false
  pieces_gone x a m n l g has_x = none_each g (without a x.start x.length) (each-change (IsPiece x a) (λ y. has_granule (run_of c h y) g ≡ false)
      (λ y i. piece_not x a y m i g has_x) (without a x.start x.length) (pieces_each x a m n l))

  -- the lower piece ends before what left, and the upper begins behind it
  lower_side : (x a : Extent) → LiesIn x a → AllByRecursion (λ y. y.start + y.length ≤ x.start) (piece a a.start x.start)
  lower_side x a l = elim (cases_lt a.start x.start) [
    | inr none ↦ rw (le-ltb _ _ none) tt
    | inl some ↦ rw (lt-ltb _ _ some) (omega (arith, some), tt)
  ]

  upper_side : (x a : Extent) → LiesIn x a → AllByRecursion (λ y. x.start + x.length ≤ y.start) (piece a (x.start + x.length) (a.start + a.length))
  upper_side x a l = elim (cases_lt (x.start + x.length) (a.start + a.length)) [
    | inr none ↦ rw (le-ltb _ _ none) tt
    | inl some ↦ rw (lt-ltb _ _ some) (omega arith, tt)
  ]

  one_piece : (p : Extent → Bool) (a : Extent) (from to : ℕ) → many p (piece a from to) ≤ 1
  one_piece p a from to = elim (cases_lt from to) [
    | inr none ↦ rw (le-ltb _ _ none) (omega arith)
    | inl some ↦ rw (lt-ltb _ _ some) (one_of (p (record a { start = from; length = to - from })))
  ]
    where
      one_of : (t : Bool) → length (if t then record a { start = from; length = to - from } ∷ [] else []) ≤ 1
      one_of true = omega arith
      one_of false = omega arith

  -- one piece at most has a granule
  pieces_once : (x a : Extent) → Made x → Made a → LiesIn x a → (g : ℕ) → count_on c h g (without a x.start x.length) ≤ 1
  pieces_once x a m n l g =
      let low : List Extent = piece a a.start x.start in
      let up : List Extent = piece a (x.start + x.length) (a.start + a.length) in
      let test : Extent → Bool = λ y. has_granule (run_of c h y) g in
      elim (cases_Bool (reaches c h low g)) [
        | inr none ↦ omega (arith, many-append test low up, many-none test low none, one_piece test a (x.start + x.length) (a.start + a.length))
        | inl in_low ↦ elim (cases_Bool (reaches c h up g)) [
          | inr none ↦ omega (arith, many-append test low up, many-none test up none, one_piece test a a.start x.start)
          | inl in_up ↦ (let y = each-at (λ y. IsPiece x a y × (y.start + y.length ≤ x.start)) test low (each-both (IsPiece x a) (λ y. y.start + y.length ≤ x.start) (λ y. IsPiece x a y × (y.start + y.length ≤ x.start)) (λ y i k. (i, k)) low (lower_each x a m n l) (lower_side x a l)) in_low in
              let z = each-at (λ y. IsPiece x a y × (x.start + x.length ≤ y.start)) test up (each-both (IsPiece x a) (λ y. x.start + x.length ≤ y.start) (λ y. IsPiece x a y × (x.start + x.length ≤ y.start)) (λ y i k. (i, k)) up (upper_each x a m n l) (upper_side x a l)) in_up in
              absurd (false≢true (sym (no_common c h s host b whole y.0 z.0 y.2.0.made z.2.0.made (apart_from y.0 z.0 (inr (omega (arith, y.2.1, z.2.1)))) g y.1) ∙ z.1)))
        ]
      ]

  -- what the whole has and did not leave, a piece has
  pieces_keep : (x a : Extent) → Made x → Made a → LiesIn x a → (g : ℕ) → has_granule (run_of c h a) g ≡ true → has_granule (run_of c h x) g ≡ false → reaches c h (without a x.start x.length) g ≡ true
  pieces_keep x a m n l g has_a not_x =
      let r : ℕ = region_at c h a.start in
      let w = whole r n.known in
      let gs : ℕ = granule_size c r in
      let some_size : 0 < granule_size c r = omega (arith, granule_from c r (s.each r n.known)) in
      let m' = in_region x a m n l in
      let first : ℕ = first_granule c r in
      let at_a = between c h s host (b r) r a w n g has_a in
      let qa : ℕ = (a.start - base_of c h r) / gs in
      let na : ℕ = a.length / gs in
      let qx : ℕ = (x.start - base_of c h r) / gs in
      let nx : ℕ = x.length / gs in
      let ba = made_begins c h s host (b r) r a w n in
      let la = made_long c h s host (b r) r a w n in
      let bx = made_begins c h s host (b r) r x w m' in
      let lx = made_long c h s host (b r) r x w m' in
      let low : List Extent = piece a a.start x.start in
      let up : List Extent = piece a (x.start + x.length) (a.start + a.length) in
      let test : Extent → Bool = λ y. has_granule (run_of c h y) g in
      list_any-append test low up ∙ elim (cases_lt g (first + qx)) [
        | inl before ↦ (let less = reach_bytes gs qa qx some_size (omega (arith, before, at_a.low)) in
            let some : a.start < x.start = omega (arith, less, ba, bx, n.from, m'.from) in
            let y : Extent = below_of x a in
            let made = below_made x a m n l some in
            let ly = made_long c h s host (b r) r (below_of x a) w made in
            let ny : ℕ = (x.start - a.start) / gs in
            let far = back_bytes gs qx (qa + ny) some_size (omega (arith, add-mul qa ny gs, bx, ba, ly, some, n.from)) in
            let has_y : has_granule (run_of c h (below_of x a)) g ≡ true = from_between c h s host (b r) r (below_of x a) w made g (record { low = at_a.low; high = omega (arith, before, far) }) in
            or_left (list_any test low) (list_any test up) (rw (lt-ltb _ _ some) (or_left (has_granule (run_of c h (below_of x a)) g) false has_y)))
        | inr behind ↦ (let past : first + qx + nx ≤ g = elim (cases_lt g (first + qx + nx)) [
          | inl within ↦ absurd (false≢true (sym not_x ∙ from_between c h s host (b r) r x w m' g (record { low = behind; high = within })))
          | inr it ↦ it
        ] in
            let less = reach_bytes gs (qx + nx) (qa + na) some_size (omega (arith, past, at_a.high)) in
            let some : x.start + x.length < a.start + a.length = omega (arith, less, add-mul qx nx gs, add-mul qa na gs, ba, la, bx, lx, n.from, m'.from) in
            let made = above_made x a m n l some in
            let by_ = made_begins c h s host (b r) r (above_of x a) w made in
            let ly = made_long c h s host (b r) r (above_of x a) w made in
            let qy : ℕ = (x.start + x.length - base_of c h r) / gs in
            let ny : ℕ = (a.start + a.length - (x.start + x.length)) / gs in
            let near = back_bytes gs qy (qx + nx) some_size (omega (arith, add-mul qx nx gs, by_, bx, lx, m'.from)) in
            let far = back_bytes gs (qa + na) (qy + ny) some_size (omega (arith, add-mul qa na gs, add-mul qy ny gs, by_, ly, ba, la, some, n.from, m'.from)) in
            let has_y : has_granule (run_of c h (above_of x a)) g ≡ true = from_between c h s host (b r) r (above_of x a) w made g (record { low = omega (arith, near, past); high = omega (arith, at_a.high, far) }) in
            or_right (list_any test low) (list_any test up) (rw (lt-ltb _ _ some) (or_left (has_granule (run_of c h (above_of x a)) g) false has_y)))
      ]

  -- ---- the whole list

  -- no granule is had more often after a cut
  pub cut_fewer : (x : Extent) → Made x → (xs : List Extent) → AllByRecursion Made xs → (g : ℕ) → count_on c h g (cut x.start x.length xs) ≤ count_on c h g xs
  cut_fewer x m [] made g = omega arith
  cut_fewer x m (a ∷ xs) made g = elim (cases_Bool (has_range x.start x.length a)) [
    | inl gives ↦ rw gives (let test : Extent → Bool = λ y. has_granule (run_of c h y) g in
        elim (cases_Bool (has_granule (run_of c h a) g)) [
          | inl has_a ↦ rw has_a (omega (arith, many-append test (without a x.start x.length) xs, pieces_once x a m made.0 (lies x a gives) g))
          | inr not_a ↦ rw not_a (omega (arith, many-append test (without a x.start x.length) xs, many-none test (without a x.start x.length) (pieces_none x a m made.0 (lies x a gives) g not_a)))
        ])
    | inr stays ↦ rw stays (elim (cases_Bool (has_granule (run_of c h a) g)) [
      | inl has_a ↦ rw has_a (omega (arith, cut_fewer x m xs made.1 g))
      | inr not_a ↦ rw not_a (cut_fewer x m xs made.1 g)
    ])
  ]

  -- what lies in an extent of the list has granules of the list
  pub in_has : (x : Extent) → Made x → (xs : List Extent) → AllByRecursion Made xs → is_in xs x ≡ true → (g : ℕ) → has_granule (run_of c h x) g ≡ true → reaches c h xs g ≡ true
  in_has x m [] made inside g has_x = absurd (false≢true inside)
  in_has x m (a ∷ xs) made inside g has_x = elim (cases_Bool (lies_in x a)) [
    | inl here ↦ or_left (has_granule (run_of c h a) g) (reaches c h xs g) (inside_has c h s host b whole x a m made.0 here g has_x)
    | inr other ↦ or_right (has_granule (run_of c h a) g) (reaches c h xs g) (in_has x m xs made.1 (rw other at inside) g has_x)
  ]

  -- what left is gone, where it was once
  pub cut_gone : (x : Extent) → Made x → (xs : List Extent) → AllByRecursion Made xs → is_in xs x ≡ true → (g : ℕ) → has_granule (run_of c h x) g ≡ true → count_on c h g xs ≤ 1 → reaches c h (cut x.start x.length xs) g ≡ false
  cut_gone x m [] made inside g has_x once = refl
  cut_gone x m (a ∷ xs) made inside g has_x once = elim (cases_Bool (has_range x.start x.length a)) [
    | inl gives ↦ rw gives (let test : Extent → Bool = λ y. has_granule (run_of c h y) g in
        let has_a = inside_has c h s host b whole x a m made.0 gives g has_x in
        list_any-append test (without a x.start x.length) xs
        ∙ or_from (list_any test (without a x.start x.length)) (list_any test xs) (pieces_gone x a m made.0 (lies x a gives) g has_x)
        (false_from_ne_true (list_any test xs) (λ more. absurd (omega (arith, many-any test xs more, rw has_a at once)))))
    | inr stays ↦ rw stays (let test : Extent → Bool = λ y. has_granule (run_of c h y) g in
        let rest : is_in xs x ≡ true = rw stays at inside in
        let some = many-any test xs (in_has x m xs made.1 rest g has_x) in
        let not_a : has_granule (run_of c h a) g ≡ false = false_from_ne_true (has_granule (run_of c h a) g) (λ has_a. absurd (omega (arith, some, rw has_a at once))) in
        or_from (has_granule (run_of c h a) g) (reaches c h (cut x.start x.length xs) g) not_a (cut_gone x m xs made.1 rest g has_x (rw not_a at once)))
  ]

  -- and what did not leave stays
  pub cut_stays : (x : Extent) → Made x → (xs : List Extent) → AllByRecursion Made xs → (g : ℕ) → has_granule (run_of c h x) g ≡ false → reaches c h (cut x.start x.length xs) g ≡ reaches c h xs g
  cut_stays x m [] made g not_x = refl
  cut_stays x m (a ∷ xs) made g not_x = elim (cases_Bool (has_range x.start x.length a)) [
    | inl gives ↦ rw gives (let test : Extent → Bool = λ y. has_granule (run_of c h y) g in
        list_any-append test (without a x.start x.length) xs ∙ ap (λ t. t || list_any test xs) (same a gives made.0))
    | inr stays ↦ rw stays (ap (λ t. has_granule (run_of c h a) g || t) (cut_stays x m xs made.1 g not_x))
  ]
    where
      same : (a : Extent) → has_range x.start x.length a ≡ true → Made a → reaches c h (without a x.start x.length) g ≡ has_granule (run_of c h a) g
      same a gives n = elim (cases_Bool (has_granule (run_of c h a) g)) [
        | inl has_a ↦ pieces_keep x a m n (lies x a gives) g has_a not_x ∙ sym has_a
        | inr not_a ↦ pieces_none x a m n (lies x a gives) g not_a ∙ sym not_a
      ]
