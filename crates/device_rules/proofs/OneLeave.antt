-- An extent that leaves its host leaves what stands standing, but for the number of extents.
use Rattle.std.proofs.Common.{◌≡◌, ℕ, ◌%◌, ◌<◌, ◌≤◌, Bool, true, false, ◌&&◌, ◌==◌, List, [], ◌∷◌, ◌++◌, length, map, refl, ap, sym, subst, ◌∙◌, inl, inr, arith}
use Rattle.std.{proofs.lemmas.Bool.cases_Bool, proofs.lemmas.Bool.eq-eqb, proofs.lemmas.Bool.eqb-true, specs.List.AllByRecursion}
use Rattle.std.specs.Prelude.{count_by, flat_map, if◌then◌else◌}
use Rattle.cci_codec.specs.dcd_base.specs.{Limits.extents_supported, Words.has_granule, Words.has_in_runs, Words.has_tag, declared.capacity.Extent.Extent, declared.capacity.Tag.Tag}
use Rattle.cci_codec.specs.dcd_base.specs.declared.{ids.HostId.HostId, media.Run.Run}
use Rattle.extent_list.specs.ExtentLists.{cut, is_in, lies_in}
use Rattle.extent_list.specs.media_map.specs.{Places.bytes_of_run, Places.region_at, Places.run_of, Places.start_of, region_config.specs.Configurations.Configuration}
use Rattle.extent_list.specs.media_map.specs.region_config.specs.{Granules.granule_size, Granules.is_supported, Granules.region_of, Granules.region_spec, Soundness.IsSound}
use Rattle.journal_core.specs.declared.outcome.Effect.{Effect}
use Rattle.device_rules.proofs.CutSteps.{IsPiece, cut_each, cut_fewer, cut_gone, cut_stays, lies, lies-from}
use Rattle.device_rules.proofs.Homes.{made_bytes, made_region, made_starts, supported_whole}
use Rattle.device_rules.proofs.ListSteps.{any-map, each-append, each-back, each-both, each-change, each-front, many-append}
use Rattle.device_rules.{proofs.OneOffer.reaches, specs.Pictures.Picture, specs.Pictures.count_on, specs.Pictures.extents_at, specs.Pictures.picture_after}
use Rattle.device_rules.specs.{Standing.IsHome, Standing.IsMade, Standing.IsOpen, Standing.IsTogether, Standing.IsUnder, Standing.Stands, Tags.tag_runs}

-- what stands, but for the number of extents, which a command tries at its end
pub record Loose (c : Configuration) (p : Picture) : Type 0 where
  pub no_accepted : (h : HostId) → c.hosts ≤ h → p.accepted h ≡ []
  pub no_offers : (h : HostId) → c.hosts ≤ h → p.offers h ≡ []
  pub held : (h : HostId) (g : ℕ) → p.holds h g ≡ has_in_runs (map (run_of c h) (p.accepted h)) g
  pub once : (h : HostId) (g : ℕ) → count_on c h g (extents_at p h) ≤ 1
  pub one : (h k : HostId) (g : ℕ) → (region_spec c (region_of c g)).shareable ≡ false →
      0 < count_on c h g (extents_at p h) → 0 < count_on c k g (extents_at p k) → h ≡ k
  pub apart : (g : ℕ) → count_by (λ t. has_in_runs (tag_runs c (p.last t)) g) p.tags ≤ 1
  pub home : (h : HostId) → AllByRecursion (IsHome c p h) (extents_at p h)
  pub under : (h : HostId) → AllByRecursion (IsUnder c p h) (extents_at p h)
  pub together : (h : HostId) → AllByRecursion (IsTogether c h) (p.offers h)
  pub opened : (t : Tag) → has_tag p.tags t ≡ true → IsOpen c p t
  pub blocks : (r : ℕ) → r < length c.regions → is_supported (region_spec c r) (p.block r) ≡ true

pub loose : (c : Configuration) (p : Picture) → Stands c p → Loose c p
loose c p s = record {
  no_accepted = s.no_accepted;
  no_offers = s.no_offers;
  held = s.held;
  once = s.once;
  one = s.one;
  apart = s.apart;
  home = s.home;
  under = s.under;
  together = s.together;
  opened = s.opened;
  blocks = s.blocks;
}

pub stands_from : (c : Configuration) (p : Picture) → Loose c p → ((h : HostId) → length (extents_at p h) ≤ extents_supported) → Stands c p
stands_from c p s few = record {
  no_accepted = s.no_accepted;
  no_offers = s.no_offers;
  held = s.held;
  once = s.once;
  one = s.one;
  apart = s.apart;
  few = few;
  home = s.home;
  under = s.under;
  together = s.together;
  opened = s.opened;
  blocks = s.blocks;
}

module _ (c : Configuration) (sound : IsSound c) (p : Picture) (s : Loose c p) where
  pub whole_blocks : (r : ℕ) → r < length c.regions → p.block r % granule_size c r ≡ 0
  whole_blocks r known = supported_whole c r (p.block r) (s.blocks r known)

  -- each extent of a host is made of present blocks where it begins
  pub accepted_made : (h : HostId) → h < c.hosts → AllByRecursion (λ x. IsMade c (p.block (region_at c h x.start)) h (region_at c h x.start) x) (p.accepted h)
  accepted_made h host = each-change (IsHome c p h) (λ x. IsMade c (p.block (region_at c h x.start)) h (region_at c h x.start) x)
      (λ x a. subst (λ r. IsMade c (p.block r) h r x) (sym (made_region c h sound host (p.block a.region) a.region x (whole_blocks a.region a.made.known) a.made)) a.made)
      (p.accepted h) (each-front (IsHome c p h) (p.accepted h) (flat_map (λ xs. xs) (p.offers h)) (s.home h))

  -- and has its granules alone
  pub accepted_once : (h : HostId) (g : ℕ) → count_on c h g (p.accepted h) ≤ 1
  accepted_once h g = omega (arith, s.once h g, many-append (λ x. has_granule (run_of c h x) g) (p.accepted h) (flat_map (λ xs. xs) (p.offers h)))

module _ (c : Configuration) (sound : IsSound c) (p : Picture) (s : Loose c p) (h : HostId) (host : h < c.hosts) (x : Extent)
    (made : IsMade c (p.block (region_at c h x.start)) h (region_at c h x.start) x) (inside : is_in (p.accepted h) x ≡ true)
    (owned : AllByRecursion (λ a. lies_in x a ≡ true → (region_spec c (region_at c h x.start)).shareable ≡ true → (x.start ≡ a.start) × (x.length ≡ a.length)) (p.accepted h)) where
  abbrev pub q : Picture
  q = picture_after c p (Effect.Leave h (run_of c h x) ∷ [])

  whole : (r : ℕ) → r < length c.regions → p.block r % granule_size c r ≡ 0
  whole = whole_blocks c sound p s

  -- ---- the lists

  pub accepted_now : q.accepted h ≡ cut x.start x.length (p.accepted h)
  accepted_now =
      let r : ℕ = region_at c h x.start in
      ap (λ b. if b then cut (start_of c h (run_of c h x)) (bytes_of_run c (run_of c h x)) (p.accepted h) else p.accepted h) (eq-eqb h h refl)
      ∙ (λ i. cut (made_starts c h sound host (p.block r) r x (whole r made.known) made i) (made_bytes c h sound host (p.block r) r x (whole r made.known) made i) (p.accepted h))

  pub accepted_other : (k : HostId) → (h == k) ≡ false → q.accepted k ≡ p.accepted k
  accepted_other k other = ap (λ b. if b then cut (start_of c k (run_of c h x)) (bytes_of_run c (run_of c h x)) (p.accepted k) else p.accepted k) other

  at_host : extents_at q h ≡ cut x.start x.length (p.accepted h) ++ flat_map (λ xs. xs) (p.offers h)
  at_host = ap (λ ys. ys ++ flat_map (λ xs. xs) (p.offers h)) accepted_now

  at_other : (k : HostId) → (h == k) ≡ false → extents_at q k ≡ extents_at p k
  at_other k other = ap (λ ys. ys ++ flat_map (λ xs. xs) (p.offers k)) (accepted_other k other)

  each_host : (P : HostId → List Extent → Type 0) → P h (cut x.start x.length (p.accepted h) ++ flat_map (λ xs. xs) (p.offers h)) → ((k : HostId) → P k (extents_at p k)) → (k : HostId) → P k (extents_at q k)
  each_host P here others k = elim (cases_Bool (h == k)) [
    | inl same ↦ (let is : h ≡ k = eqb-true h k same in subst (λ l. P l (extents_at q l)) is (subst (P h) (sym at_host) here))
    | inr other ↦ subst (P k) (sym (at_other k other)) (others k)
  ]

  not_past : (k : HostId) → c.hosts ≤ k → (h == k) ≡ false
  not_past k past = elim (cases_Bool (h == k)) [
    | inr other ↦ other
    | inl same ↦ absurd (omega (arith, eqb-true h k same, host, past))
  ]

  -- ---- granules

  fewer : (g : ℕ) (k : HostId) → count_on c k g (extents_at q k) ≤ count_on c k g (extents_at p k)
  fewer g k = each_host (λ k ys. count_on c k g ys ≤ count_on c k g (extents_at p k)) here (λ l. omega arith) k
    where
      here : count_on c h g (cut x.start x.length (p.accepted h) ++ flat_map (λ xs. xs) (p.offers h)) ≤ count_on c h g (extents_at p h)
      here =
          let test : Extent → Bool = λ y. has_granule (run_of c h y) g in
          let rest : List Extent = flat_map (λ xs. xs) (p.offers h) in
          omega (
            arith,
            many-append test (cut x.start x.length (p.accepted h)) rest,
            many-append test (p.accepted h) rest,
            cut_fewer c h sound host p.block whole x made (p.accepted h) (accepted_made c sound p s h host) g,
          )

  held_here : (g : ℕ) → q.holds h g ≡ has_in_runs (map (run_of c h) (q.accepted h)) g
  held_here g =
      let test : Run → Bool = λ run. has_granule run g in
      let told : has_in_runs (map (run_of c h) (q.accepted h)) g ≡ reaches c h (cut x.start x.length (p.accepted h)) g =
      ap (λ ys. has_in_runs (map (run_of c h) ys) g) accepted_now ∙ any-map test (run_of c h) (cut x.start x.length (p.accepted h)) in
      let was : p.holds h g ≡ reaches c h (p.accepted h) g = s.held h g ∙ any-map test (run_of c h) (p.accepted h) in
      let now : q.holds h g ≡ (if has_granule (run_of c h x) g then false else p.holds h g) = ap (λ b. if b && has_granule (run_of c h x) g then false else p.holds h g) (eq-eqb h h refl) in
      elim (cases_Bool (has_granule (run_of c h x) g)) [
        | inl has ↦ now ∙ ap (λ b. if b then false else p.holds h g) has
            ∙ sym (told ∙ cut_gone c h sound host p.block whole x made (p.accepted h) (accepted_made c sound p s h host) inside g has (accepted_once c sound p s h g))
        | inr not_x ↦ now ∙ ap (λ b. if b then false else p.holds h g) not_x ∙ was
            ∙ sym (told ∙ cut_stays c h sound host p.block whole x made (p.accepted h) (accepted_made c sound p s h host) g not_x)
      ]

  held_now : (k : HostId) (g : ℕ) → q.holds k g ≡ has_in_runs (map (run_of c k) (q.accepted k)) g
  held_now k g = elim (cases_Bool (h == k)) [
    | inl same ↦ subst (λ l. q.holds l g ≡ has_in_runs (map (run_of c l) (q.accepted l)) g) (eqb-true h k same) (held_here g)
    | inr other ↦ ap (λ b. if b && has_granule (run_of c h x) g then false else p.holds k g) other ∙ s.held k g ∙ sym (ap (λ ys. has_in_runs (map (run_of c k) ys) g) (accepted_other k other))
  ]

  -- ---- each extent

  same_home : (k : HostId) (ys : List Extent) → AllByRecursion (IsHome c p k) ys → AllByRecursion (IsHome c q k) ys
  same_home k ys each = each-change (IsHome c p k) (IsHome c q k) (λ y e. record { region = e.region; made = e.made }) ys each

  same_under : (k : HostId) (ys : List Extent) → AllByRecursion (IsUnder c p k) ys → AllByRecursion (IsUnder c q k) ys
  same_under k ys each = each-change (IsUnder c p k) (IsUnder c q k) (λ y u shared. let e = u shared in record { open_tag = e.open_tag; covered = e.covered }) ys each

  cut_home : AllByRecursion (IsHome c q h) (cut x.start x.length (p.accepted h))
  cut_home = cut_each c h sound host p.block whole (IsHome c q h) x made (λ a y e i. record { region = region_at c h y.start; made = i.made }) (p.accepted h) (accepted_made c sound p s h host)
      (same_home h (p.accepted h) (each-front (IsHome c p h) (p.accepted h) (flat_map (λ xs. xs) (p.offers h)) (s.home h)))

  -- no piece remains of an extent that leaves whole
  no_piece : (a y : Extent) → IsPiece c h sound host p.block whole x a y → x.start ≡ a.start → x.length ≡ a.length → ⊥
  no_piece a y i start long = elim i.beside [
    | inl below ↦ absurd (omega (arith, below, i.low, start, i.made.some))
    | inr above ↦ absurd (omega (arith, above, i.high, start, long, i.made.some))
  ]

  -- and what left lies in no piece
  not_inside : (a y : Extent) → IsPiece c h sound host p.block whole x a y → lies_in x y ≡ true → ⊥
  not_inside a y i e = let l = lies x y e in elim i.beside [
    | inl below ↦ absurd (omega (arith, below, l.ends, made.some))
    | inr above ↦ absurd (omega (arith, above, l.begins, made.some))
  ]

  abbrev IsOwned : Extent → Type 0
  IsOwned a = lies_in x a ≡ true → (region_spec c (region_at c h x.start)).shareable ≡ true → (x.start ≡ a.start) × (x.length ≡ a.length)

  cut_under : AllByRecursion (IsUnder c q h) (cut x.start x.length (p.accepted h))
  cut_under = each-change (λ a. IsUnder c q h a × IsOwned a) (IsUnder c q h) (λ a e. e.0) (cut x.start x.length (p.accepted h))
      (cut_each c h sound host p.block whole (λ a. IsUnder c q h a × IsOwned a) x made piece_under (p.accepted h) (accepted_made c sound p s h host)
      (each-both (IsUnder c q h) IsOwned (λ a. IsUnder c q h a × IsOwned a) (λ a u w. (u, w)) (p.accepted h)
      (same_under h (p.accepted h) (each-front (IsUnder c p h) (p.accepted h) (flat_map (λ xs. xs) (p.offers h)) (s.under h))) owned))
    where
      piece_under : (a y : Extent) → IsUnder c q h a × (lies_in x a ≡ true → (region_spec c (region_at c h x.start)).shareable ≡ true → (x.start ≡ a.start) × (x.length ≡ a.length))
          → IsPiece c h sound host p.block whole x a y → IsUnder c q h y × (lies_in x y ≡ true → (region_spec c (region_at c h x.start)).shareable ≡ true → (x.start ≡ y.start) × (x.length ≡ y.length))
      piece_under a y e i = (
        (λ shared. let at_a : (region_spec c (region_at c h a.start)).shareable ≡ true = ap (λ r. (region_spec c r).shareable) (sym i.region) ∙ shared in
            let at_x : (region_spec c (region_at c h x.start)).shareable ≡ true = ap (λ r. (region_spec c r).shareable) i.its_region ∙ at_a in
            let same = e.1 (lies-from x a i.inside) at_x in
            absurd (no_piece a y i same.0 same.1)),
        (λ e shared. absurd (not_inside a y i e)),
      )

  -- the leave leaves what stands standing
  pub leave_loose : Loose c q
  leave_loose = record {
    no_accepted = λ k past. accepted_other k (not_past k past) ∙ s.no_accepted k past;
    no_offers = s.no_offers;
    held = held_now;
    once = λ k g. omega (arith, fewer g k, s.once k g);
    one = λ k l g private a b. s.one k l g private (omega (arith, a, fewer g k)) (omega (arith, b, fewer g l));
    apart = s.apart;
    home = each_host (λ k ys. AllByRecursion (IsHome c q k) ys)
        (each-append (IsHome c q h) (cut x.start x.length (p.accepted h)) (flat_map (λ xs. xs) (p.offers h)) cut_home
        (same_home h (flat_map (λ xs. xs) (p.offers h)) (each-back (IsHome c p h) (p.accepted h) (flat_map (λ xs. xs) (p.offers h)) (s.home h))))
        (λ k. same_home k (extents_at p k) (s.home k));
    under = each_host (λ k ys. AllByRecursion (IsUnder c q k) ys)
        (each-append (IsUnder c q h) (cut x.start x.length (p.accepted h)) (flat_map (λ xs. xs) (p.offers h)) cut_under
        (same_under h (flat_map (λ xs. xs) (p.offers h)) (each-back (IsUnder c p h) (p.accepted h) (flat_map (λ xs. xs) (p.offers h)) (s.under h))))
        (λ k. same_under k (extents_at p k) (s.under k));
    together = s.together;
    opened = λ t e. let o = s.opened t e in record {
      host = o.host;
      extents = o.extents;
      region = o.region;
      offer = o.offer;
      known = o.known;
      shareable = o.shareable;
      each = o.each;
      some = o.some;
      apart = o.apart;
      nonzero = o.nonzero;
    };
    blocks = s.blocks;
  }
