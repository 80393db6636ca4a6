-- Extents of which each lies in an accepted one can leave, and those of one tag can.
use Rattle.std.proofs.Common.{◌≡◌, ℕ, ◌+◌, ◌%◌, ◌<◌, ◌≤◌, Bool, true, false, List, [], ◌∷◌, length, refl, ap, sym, ◌∙◌, inl, inr, arith, eqb, leb}
use Rattle.std.specs.List.{AllByRecursion, filter, list_any}
use Rattle.std.proofs.lemmas.Bool.{and_from, and_parts, cases_Bool, eq-eqb, eqb-true, false≢true, false_from_ne_true, le-leb, or_left, or_right}
use Rattle.cci_codec.specs.dcd_base.specs.{declared.capacity.Extent.Extent, declared.ids.HostId.HostId, Words.has_granule}
use Rattle.extent_list.specs.{ExtentLists.is_in, ExtentLists.is_whole, ExtentLists.lies_in, ExtentLists.overlaps, ExtentLists.owner_of, media_map.specs.Places.region_at, media_map.specs.Places.run_of}
use Rattle.extent_list.specs.media_map.specs.region_config.specs.{Configurations.Configuration, Granules.granule_size, Granules.region_spec, Soundness.IsSound}
use Rattle.device_rules.proofs.{AllLeave.Behind, AllLeave.IsOwner, AllLeave.IsReady, BlockRuns.block_run, CutSteps.in_has, Holding.in_run}
use Rattle.device_rules.proofs.{ListSteps.each-both, ListSteps.each-change, ListSteps.many-any, OneLeave.Loose, OneLeave.accepted_made, OneLeave.accepted_once, OneLeave.whole_blocks, OneOffer.reaches}
use Rattle.device_rules.{proofs.Overlaps.common, proofs.Overlaps.inside_has, specs.Pictures.Picture, specs.Pictures.count_on, specs.Standing.IsMade}

-- whether the extents may leave: each lies in an accepted one, no two share an address, and where the region is
-- shareable each is a whole accepted one
pub record IsGoing (c : Configuration) (p : Picture) (h : HostId) (ys : List Extent) : Type 0 where
  pub made : AllByRecursion (λ y. IsMade c (p.block (region_at c h y.start)) h (region_at c h y.start) y) ys
  pub inside : AllByRecursion (λ y. is_in (p.accepted h) y ≡ true) ys
  pub behind : Behind ys
  pub whole : AllByRecursion (λ y. (region_spec c (region_at c h y.start)).shareable ≡ true → is_whole (p.accepted h) y ≡ true) ys

-- nothing of a list passes
none_pass : (p : Extent → Bool) (P : Extent → Type 0) (xs : List Extent) → list_any p xs ≡ false → AllByRecursion (λ a. p a ≡ true → P a) xs
none_pass p P [] none = tt
none_pass p P (x ∷ xs) none = elim (cases_Bool (p x)) [
  | inl here ↦ absurd (false≢true (sym none ∙ or_left (p x) (list_any p xs) here))
  | inr fails ↦ ((λ e. absurd (false≢true (sym fails ∙ e))), none_pass p P xs (rw fails at none))
]

module _ (c : Configuration) (sound : IsSound c) (p : Picture) (s : Loose c p) (h : HostId) (host : h < c.hosts) where
  whole : (r : ℕ) → r < length c.regions → p.block r % granule_size c r ≡ 0
  whole = whole_blocks c sound p s

  -- an extent has a granule
  first_of : (y : Extent) → IsMade c (p.block (region_at c h y.start)) h (region_at c h y.start) y → (g : ℕ) × (has_granule (run_of c h y) g ≡ true)
  first_of y m =
      let r : ℕ = region_at c h y.start in
      let b = block_run c h sound host (p.block r) r y (whole r m.known) m in
      ((run_of c h y).first, in_run (run_of c h y) (run_of c h y).first (omega arith) (omega (arith, b.some)))

  -- in a list where no granule is had twice, an extent lies in one alone
  owned_alone : (y : Extent) → IsMade c (p.block (region_at c h y.start)) h (region_at c h y.start) y → (xs : List Extent) → AllByRecursion (λ x. IsMade c (p.block (region_at c h x.start)) h (region_at c h x.start) x) xs
      → ((g : ℕ) → count_on c h g xs ≤ 1) → AllByRecursion (λ a. lies_in y a ≡ true → a ≡ owner_of xs y) xs
  owned_alone y m [] made once = tt
  owned_alone y m (a ∷ xs) made once = elim (cases_Bool (lies_in y a)) [
    | inl here ↦ (let it : owner_of (a ∷ xs) y ≡ a = rw here refl in
        let test : Extent → Bool = λ z. lies_in y z in
        let first = first_of y m in
        let g : ℕ = first.0 in
        let has_a = inside_has c h sound host p.block whole y a m made.0 here g first.1 in
        let nowhere : is_in xs y ≡ false = false_from_ne_true (is_in xs y) (λ more.
        absurd (omega (arith, once_behind a xs g has_a (once g), many-any (λ z. has_granule (run_of c h z) g) xs (in_has c h sound host p.block whole y m xs made.1 more g first.1)))) in
        ((λ e. sym it), none_pass test (λ b. b ≡ owner_of (a ∷ xs) y) xs nowhere))
    | inr other ↦ (let it : owner_of (a ∷ xs) y ≡ owner_of xs y = rw other refl in (
      (λ e. absurd (false≢true (sym other ∙ e))),
      each-change (λ b. lies_in y b ≡ true → b ≡ owner_of xs y) (λ b. lies_in y b ≡ true → b ≡ owner_of (a ∷ xs) y) (λ b f e. f e ∙ sym it) xs
          (owned_alone y m xs made.1 (λ g. fewer a xs g (once g))),
    ))
  ]
    where
      once_behind : (a : Extent) (xs : List Extent) (g : ℕ) → has_granule (run_of c h a) g ≡ true → count_on c h g (a ∷ xs) ≤ 1 → count_on c h g xs ≡ 0
      once_behind a xs g has once = omega (arith, rw has at once)

      fewer : (a : Extent) (xs : List Extent) (g : ℕ) → count_on c h g (a ∷ xs) ≤ 1 → count_on c h g xs ≤ 1
      fewer a xs g once = elim (cases_Bool (has_granule (run_of c h a) g)) [
        | inl has ↦ omega (arith, rw has at once)
        | inr none_here ↦ rw none_here at once
      ]

  -- ---- what may leave is ready to

  pub going_ready : (W : Extent → Type 0) (ys : List Extent) → IsGoing c p h ys → AllByRecursion (λ y. W y → is_whole (p.accepted h) y ≡ true) ys
      → (of_shared : (y : Extent) → (region_spec c (region_at c h y.start)).shareable ≡ true → W y) → IsReady c sound h host (λ y. (owner_of (p.accepted h) y).tag) W of_shared p ys
  going_ready W ys g wholes of_shared = record {
    made = g.made;
    inside = g.inside;
    behind = g.behind;
    owned = each-both (λ y. IsMade c (p.block (region_at c h y.start)) h (region_at c h y.start) y) (λ y. W y → is_whole (p.accepted h) y ≡ true)
        (λ y. AllByRecursion (λ a. lies_in y a ≡ true → IsOwner (λ y. (owner_of (p.accepted h) y).tag) W y a) (p.accepted h))
        (λ y m w. each-change (λ a. lies_in y a ≡ true → a ≡ owner_of (p.accepted h) y) (λ a. lies_in y a ≡ true → IsOwner (λ y. (owner_of (p.accepted h) y).tag) W y a)
        (λ a f e. owner y a (f e) w) (p.accepted h) (owned_alone y m (p.accepted h) (accepted_made c sound p s h host) (accepted_once c sound p s h))) ys g.made wholes;
  }
    where
      owner : (y a : Extent) → a ≡ owner_of (p.accepted h) y → (W y → is_whole (p.accepted h) y ≡ true) → IsOwner (λ y. (owner_of (p.accepted h) y).tag) W y a
      owner y a is w = record {
        tag = ap (λ (z : Extent). z.tag) is;
        whole = λ asked. let o : Extent = owner_of (p.accepted h) y in
            let parts = and_parts (eqb y.start o.start) (eqb y.length o.length) (w asked) in
            (eqb-true y.start o.start parts.0 ∙ sym (ap (λ (z : Extent). z.start) is), eqb-true y.length o.length parts.1 ∙ sym (ap (λ (z : Extent). z.length) is));
      }

  -- ---- the extents of one tag

  -- each of a list lies in itself
  self_in : (y : Extent) → lies_in y y ≡ true
  self_in y = and_from (leb y.start y.start) (leb (y.start + y.length) (y.start + y.length)) (le-leb _ _ (omega arith)) (le-leb _ _ (omega arith))

  in_self : (xs : List Extent) → AllByRecursion (λ y. is_in xs y ≡ true) xs
  in_self [] = tt
  in_self (x ∷ xs) = (
    or_left (lies_in x x) (is_in xs x) (self_in x),
    each-change (λ y. is_in xs y ≡ true) (λ y. is_in (x ∷ xs) y ≡ true) (λ y e. or_right (lies_in y x) (is_in xs y) e) xs (in_self xs),
  )

  each_reached : (xs : List Extent) → AllByRecursion (λ y. (g : ℕ) → has_granule (run_of c h y) g ≡ true → reaches c h xs g ≡ true) xs
  each_reached [] = tt
  each_reached (x ∷ xs) = (
    (λ g e. or_left (has_granule (run_of c h x) g) (reaches c h xs g) e),
    each-change (λ y. (g : ℕ) → has_granule (run_of c h y) g ≡ true → reaches c h xs g ≡ true) (λ y. (g : ℕ) → has_granule (run_of c h y) g ≡ true → reaches c h (x ∷ xs) g ≡ true)
        (λ y f g e. or_right (has_granule (run_of c h x) g) (reaches c h xs g) (f g e)) xs (each_reached xs),
  )

  -- an extent's first granule and those behind it
  twice : (x : Extent) (xs : List Extent) (g : ℕ) → count_on c h g (x ∷ xs) ≤ 1 → has_granule (run_of c h x) g ≡ true → reaches c h xs g ≡ true → ⊥
  twice x xs g once has more = absurd (omega (arith, rw has at once, many-any (λ y. has_granule (run_of c h y) g) xs more))

  once_rest : (x : Extent) (xs : List Extent) (g : ℕ) → count_on c h g (x ∷ xs) ≤ 1 → count_on c h g xs ≤ 1
  once_rest x xs g once = elim (cases_Bool (has_granule (run_of c h x) g)) [
    | inl has ↦ omega (arith, rw has at once)
    | inr none_here ↦ rw none_here at once
  ]

  -- each is its own owner
  own_owner : (xs : List Extent) → AllByRecursion (λ x. IsMade c (p.block (region_at c h x.start)) h (region_at c h x.start) x) xs → ((g : ℕ) → count_on c h g xs ≤ 1) → AllByRecursion (λ y. owner_of xs y ≡ y) xs
  own_owner [] made once = tt
  own_owner (x ∷ xs) made once = (
    rw (self_in x) refl,
    each-both (λ y. IsMade c (p.block (region_at c h y.start)) h (region_at c h y.start) y × ((g : ℕ) → has_granule (run_of c h y) g ≡ true → reaches c h xs g ≡ true)) (λ y. owner_of xs y ≡ y) (λ y. owner_of (x ∷ xs) y ≡ y)
        (λ y m e. skip y m.0 m.1 ∙ e) xs
        (each-both (λ y. IsMade c (p.block (region_at c h y.start)) h (region_at c h y.start) y) (λ y. (g : ℕ) → has_granule (run_of c h y) g ≡ true → reaches c h xs g ≡ true)
        (λ y. IsMade c (p.block (region_at c h y.start)) h (region_at c h y.start) y × ((g : ℕ) → has_granule (run_of c h y) g ≡ true → reaches c h xs g ≡ true)) (λ y a b. (a, b)) xs made.1 (each_reached xs))
        (own_owner xs made.1 (λ g. once_rest x xs g (once g))),
  )
    where
      skip : (y : Extent) → IsMade c (p.block (region_at c h y.start)) h (region_at c h y.start) y → ((g : ℕ) → has_granule (run_of c h y) g ≡ true → reaches c h xs g ≡ true) → owner_of (x ∷ xs) y ≡ owner_of xs y
      skip y m reached = elim (cases_Bool (lies_in y x)) [
        | inr other ↦ rw other refl
        | inl inside ↦ (let first = first_of y m in
            absurd (twice x xs first.0 (once first.0) (inside_has c h sound host p.block whole y x m made.0 inside first.0 first.1) (reached first.0 first.1)))
      ]

  -- and no two share an address, since that would be a granule
  pub all_behind : (xs : List Extent) → AllByRecursion (λ x. IsMade c (p.block (region_at c h x.start)) h (region_at c h x.start) x) xs → ((g : ℕ) → count_on c h g xs ≤ 1) → Behind xs
  all_behind [] made once = tt
  all_behind (x ∷ xs) made once = (
    each-both (λ y. IsMade c (p.block (region_at c h y.start)) h (region_at c h y.start) y) (λ y. (g : ℕ) → has_granule (run_of c h y) g ≡ true → reaches c h xs g ≡ true) (λ y. overlaps y x ≡ false)
        (λ y m reached. false_from_ne_true (overlaps y x) (λ shares. let both = common c h sound host p.block whole x y made.0 m shares in twice x xs both.0 (once both.0) both.1 (reached both.0 both.2)))
        xs made.1 (each_reached xs),
    all_behind xs made.1 (λ g. once_rest x xs g (once g)),
  )

  -- those of a list that pass a test
  each-filter : (P : Extent → Type 0) (test : Extent → Bool) (xs : List Extent) → AllByRecursion P xs → AllByRecursion P (filter test xs)
  each-filter P test [] each = tt
  each-filter P test (x ∷ xs) each = elim (cases_Bool (test x)) [
    | inl passes ↦ rw passes (each.0, each-filter P test xs each.1)
    | inr fails ↦ rw fails (each-filter P test xs each.1)
  ]

  behind-filter : (test : Extent → Bool) (xs : List Extent) → Behind xs → Behind (filter test xs)
  behind-filter test [] behind = tt
  behind-filter test (x ∷ xs) behind = elim (cases_Bool (test x)) [
    | inl passes ↦ rw passes (each-filter (λ y. overlaps y x ≡ false) test xs behind.0, behind-filter test xs behind.1)
    | inr fails ↦ rw fails (behind-filter test xs behind.1)
  ]

  pub own_whole : (y : Extent) → owner_of (p.accepted h) y ≡ y → is_whole (p.accepted h) y ≡ true
  own_whole y is = and_from (eqb y.start (owner_of (p.accepted h) y).start) (eqb y.length (owner_of (p.accepted h) y).length)
      (eq-eqb _ _ (sym (ap (λ (z : Extent). z.start) is))) (eq-eqb _ _ (sym (ap (λ (z : Extent). z.length) is)))

  -- accepted extents that pass a test can leave, and leave whole
  pub some_owned : (test : Extent → Bool) → AllByRecursion (λ y. owner_of (p.accepted h) y ≡ y) (filter test (p.accepted h))
  some_owned test = each-filter (λ y. owner_of (p.accepted h) y ≡ y) test (p.accepted h) (own_owner (p.accepted h) (accepted_made c sound p s h host) (accepted_once c sound p s h))

  pub some_going : (test : Extent → Bool) → IsGoing c p h (filter test (p.accepted h))
  some_going test = record {
    made = each-filter (λ y. IsMade c (p.block (region_at c h y.start)) h (region_at c h y.start) y) test (p.accepted h) (accepted_made c sound p s h host);
    inside = each-filter (λ y. is_in (p.accepted h) y ≡ true) test (p.accepted h) (in_self (p.accepted h));
    behind = behind-filter test (p.accepted h) (all_behind (p.accepted h) (accepted_made c sound p s h host) (accepted_once c sound p s h));
    whole = each-change (λ y. owner_of (p.accepted h) y ≡ y) (λ y. (region_spec c (region_at c h y.start)).shareable ≡ true → is_whole (p.accepted h) y ≡ true) (λ y is shared. own_whole y is) (filter test (p.accepted h)) (some_owned test);
  }
