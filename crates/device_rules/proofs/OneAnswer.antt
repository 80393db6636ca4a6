-- An answer that takes parts of the oldest offer leaves what stands standing.
use Rattle.std.proofs.Common.{◌≡◌, ◌⊎◌, ℕ, ◌+◌, ◌-◌, ◌/◌, ◌%◌, ◌<◌, ◌≤◌, Bool, true, false, not, ◌&&◌, ◌||◌, ◌==◌, List, [], ◌∷◌, ◌++◌, length, map, refl, ap, sym, subst, ◌∙◌, inl, inr, arith, length-append, eqb}
use Rattle.std.proofs.lemmas.{Bool.and_from, Bool.and_parts, Bool.cases_Bool, Bool.eq-eqb, Bool.eqb-true, Bool.false≢true, Bool.or_left, Bool.or_right, List.length-map, List.map-append}
use Rattle.std.{proofs.lemmas.List.Concat.length-flat_map, proofs.lemmas.List.Folds.list_any-append, specs.List.AllByRecursion, specs.List.list_any}
use Rattle.std.specs.Prelude.{drop, flat_map, fold, if◌then◌else◌}
use Rattle.cci_codec.specs.dcd_base.specs.{Limits.extents_supported, Words.has_granule, Words.has_in_runs, Words.has_tag, Words.is_zero_tag, Words.same_tag, declared.capacity.Extent.Extent}
use Rattle.cci_codec.specs.dcd_base.specs.declared.{capacity.Tag.Tag, ids.HostId.HostId, media.Run.Run}
use Rattle.extent_list.specs.ExtentLists.{count_in, has_extent_of, is_in, is_whole, lies_in, marked, owner_of, tags_of}
use Rattle.extent_list.specs.media_map.specs.{Places.region_at, Places.run_of, region_config.specs.Configurations.Configuration}
use Rattle.extent_list.specs.media_map.specs.region_config.specs.{Granules.base_of, Granules.first_granule, Granules.granule_size, Granules.hosts_of, Granules.region_spec, Soundness.IsSound}
use Rattle.journal_core.specs.{declared.outcome.Effect.Effect, Holders.holding_after}
use Rattle.device_rules.proofs.{Holding.home_made, Holding.present_whole, OneOffer.any-implies, OneOffer.reaches, Overlaps.inside_has, TagSteps.same_tag-is, TagSteps.same_tag-self}
use Rattle.device_rules.specs.Hosts.{accepted_after, block_after, offers_after}
use Rattle.device_rules.specs.Pictures.{Picture, count_on, extents_at, is_with_a_host, lives, picture_after}
use Rattle.device_rules.specs.Standing.{IsHome, IsMade, IsTogether, IsUnder, IsUnderTag, Sound, Stands}
use Rattle.device_rules.specs.Tags.{last_offer_after, reference_after, tag_runs, tags_after}
use Rattle.device_rules.proofs.ListSteps.{each-append, each-at, each-back, each-both, each-change, each-front, each-map, each-others, many-any, many-append, many-map, many-none}

-- what the answer takes: parts of the offer that share no granule, and wholes where the region is shareable
pub record IsAnswer (c : Configuration) (p : Picture) (h : HostId) (offer : List Extent) (later : List (List Extent)) (all : List Extent) : Type 0 where
  pub inside : AllByRecursion (λ x. is_in offer x ≡ true) all
  pub made : AllByRecursion (λ x. IsMade c (p.block (region_at c h x.start)) h (region_at c h x.start) x) all
  pub apart : (g : ℕ) → count_on c h g all ≤ 1
  pub whole : AllByRecursion (λ x. (region_spec c (region_at c h x.start)).shareable ≡ true → is_whole offer x ≡ true) all
  pub few : length (p.accepted h) + length all + count_in later ≤ extents_supported

-- ---- small steps

pub any-of-each : {X : Type 0} (f g : X → Bool) (xs : List X) → AllByRecursion (λ x. f x ≡ true → g x ≡ true) xs → list_any f xs ≡ true → list_any g xs ≡ true
any-of-each f g [] step e = absurd (false≢true e)
any-of-each f g (x ∷ xs) step e = elim (cases_Bool (f x)) [
  | inl here ↦ or_left (g x) (list_any g xs) (step.0 here)
  | inr other ↦ or_right (g x) (list_any g xs) (any-of-each f g xs step.1 (rw other at e))
]

-- the owner of what lies in a list has what each of the list has
owner_has : (P : Extent → Type 0) (owners : List Extent) (x : Extent) → AllByRecursion P owners → is_in owners x ≡ true → P (owner_of owners x)
owner_has P [] x each e = absurd (false≢true e)
owner_has P (y ∷ owners) x each e = elim (cases_Bool (lies_in x y)) [
  | inl here ↦ rw here each.0
  | inr other ↦ rw other (owner_has P owners x each.1 (rw other at e))
]

-- the tags of a list have the tag of each of its extents
fold_keeps : (seen tags : List Tag) (t : Tag) → has_tag seen t ≡ true → has_tag (fold (λ seen t. if has_tag seen t then seen else seen ++ t ∷ []) seen tags) t ≡ true
fold_keeps seen [] t e = e
fold_keeps seen (u ∷ tags) t e = fold_keeps (if has_tag seen u then seen else seen ++ u ∷ []) tags t (kept (has_tag seen u))
  where
    kept : (b : Bool) → has_tag (if b then seen else seen ++ u ∷ []) t ≡ true
    kept true = e
    kept false = list_any-append (same_tag t) seen (u ∷ []) ∙ or_left (has_tag seen t) (has_tag (u ∷ []) t) e

fold_adds : (seen : List Tag) (xs : List Extent) (t : Tag) → has_extent_of t xs ≡ true → has_tag (fold (λ seen t. if has_tag seen t then seen else seen ++ t ∷ []) seen (map (λ x. x.tag) xs)) t ≡ true
fold_adds seen [] t e = absurd (false≢true e)
fold_adds seen (x ∷ xs) t e = elim (cases_Bool (same_tag x.tag t)) [
  | inr other ↦ fold_adds (if has_tag seen x.tag then seen else seen ++ x.tag ∷ []) xs t (rw other at e)
  | inl same ↦ (let is : x.tag ≡ t = same_tag-is x.tag t same in
      fold_keeps (if has_tag seen x.tag then seen else seen ++ x.tag ∷ []) (map (λ y. y.tag) xs) t (there is (has_tag seen x.tag) refl))
]
  where
    there : x.tag ≡ t → (b : Bool) → has_tag seen x.tag ≡ b → has_tag (if b then seen else seen ++ x.tag ∷ []) t ≡ true
    there is true has = ap (has_tag seen) (sym is) ∙ has
    there is false has = list_any-append (same_tag t) seen (x.tag ∷ []) ∙ or_right (has_tag seen t) (has_tag (x.tag ∷ []) t) (or_left (same_tag t x.tag) false (ap (same_tag t) is ∙ same_tag-self t))

pub tags_of-has : (xs : List Extent) (t : Tag) → has_extent_of t xs ≡ true → has_tag (tags_of xs) t ≡ true
tags_of-has xs t e = fold_adds [] xs t e

-- extents at the same addresses, with one tag
under_same : (c : Configuration) (p : Picture) (h : HostId) (x y : Extent) → x.start ≡ y.start → x.length ≡ y.length → x.tag ≡ y.tag → IsUnder c p h y → IsUnder c p h x
under_same c p h x y start long tag u shared =
    let run : run_of c h x ≡ run_of c h y = λ i. let r = region_at c h (start i) in record {
      first = first_granule c r + (start i - base_of c h r) / granule_size c r;
      count = long i / granule_size c r;
    } in
    let a : IsUnderTag c p h y = u (ap (λ d. (region_spec c (region_at c h d)).shareable) (sym start) ∙ shared) in record {
      open_tag = ap (has_tag p.tags) tag ∙ a.open_tag;
      covered = λ g e. ap (λ t. has_in_runs (tag_runs c (p.last t)) g) tag ∙ a.covered g (ap (λ r. has_granule r g) (sym run) ∙ e);
    }

module _ (c : Configuration) (sound : IsSound c) (p : Picture) (before : Sound c p) (h : HostId) (host : h < c.hosts)
    (offer : List Extent) (later : List (List Extent)) (offers : p.offers h ≡ offer ∷ later) (all : List Extent) (a : IsAnswer c p h offer later all) where
  s : Stands c p
  s = before.stands

  -- the picture then
  abbrev pub q : Picture
  q = record p {
    accepted = λ k. if h == k then p.accepted k ++ map (marked offer) all else p.accepted k;
    offers = λ k. if h == k then drop 1 (p.offers k) else p.offers k;
    holds = λ k g. ((h == k) && has_in_runs (map (run_of c h) all) g) || p.holds k g;
  }

  over_takes : {B : Type 0} (f : B → Effect → B) → ((b : B) (run : Run) → f b (Effect.Take h run) ≡ b) → (b : B) (xs : List Extent) → fold f b (map (λ x. Effect.Take h (run_of c h x)) xs) ≡ b
  over_takes f no_take b [] = refl
  over_takes f no_take b (x ∷ xs) = ap (λ a. fold f a (map (λ y. Effect.Take h (run_of c h y)) xs)) (no_take b (run_of c h x)) ∙ over_takes f no_take b xs

  held_step : (m has rest was : Bool) → ((m && rest) || (if m && has then true else was)) ≡ ((m && (has || rest)) || was)
  held_step false has rest was = refl
  held_step true false rest was = refl
  held_step true true true was = refl
  held_step true true false was = refl

  held_start : (m was : Bool) → was ≡ ((m && false) || was)
  held_start true was = refl
  held_start false was = refl

  over_held : (k : HostId) (g : ℕ) (was : Bool) (xs : List Extent) → fold (holding_after k g) was (map (λ x. Effect.Take h (run_of c h x)) xs) ≡ (((h == k) && has_in_runs (map (run_of c h) xs) g) || was)
  over_held k g was [] = held_start (h == k) was
  over_held k g was (x ∷ xs) =
      over_held k g (if (h == k) && has_granule (run_of c h x) g then true else was) xs
      ∙ held_step (h == k) (has_granule (run_of c h x) g) (has_in_runs (map (run_of c h) xs) g) was

  pub answer_picture : picture_after c p (Effect.Answer h (map (marked offer) all) ∷ map (λ x. Effect.Take h (run_of c h x)) all) ≡ q
  answer_picture = λ i. record {
    accepted = λ k. over_takes (accepted_after c k) (λ b run. refl) (if h == k then p.accepted k ++ map (marked offer) all else p.accepted k) all i;
    offers = λ k. over_takes (offers_after k) (λ b run. refl) (if h == k then drop 1 (p.offers k) else p.offers k) all i;
    holds = λ k g. over_held k g (p.holds k g) all i;
    block = λ r. over_takes (block_after r) (λ b run. refl) (p.block r) all i;
    tags = over_takes (tags_after c) (λ b run. refl) p.tags all i;
    last = λ t. over_takes (last_offer_after t) (λ b run. refl) (p.last t) all i;
    referenced = λ t. over_takes (reference_after t) (λ b run. refl) (p.referenced t) all i;
  }

  -- ---- the lists

  abbrev mine : List Extent
  mine = map (marked offer) all

  abbrev rest : List Extent
  rest = flat_map (λ xs. xs) later

  at_host : extents_at q h ≡ (p.accepted h ++ map (marked offer) all) ++ flat_map (λ xs. xs) later
  at_host =
      ap (λ b. (if b then p.accepted h ++ mine else p.accepted h) ++ flat_map (λ xs. xs) (if b then drop 1 (p.offers h) else p.offers h)) (eq-eqb h h refl)
      ∙ ap (λ os. (p.accepted h ++ mine) ++ flat_map (λ xs. xs) (drop 1 os)) offers

  was_host : extents_at p h ≡ p.accepted h ++ (offer ++ flat_map (λ xs. xs) later)
  was_host = ap (λ os. p.accepted h ++ flat_map (λ xs. xs) os) offers

  at_other : (k : HostId) → (h == k) ≡ false → extents_at q k ≡ extents_at p k
  at_other k other = ap (λ b. (if b then p.accepted k ++ mine else p.accepted k) ++ flat_map (λ xs. xs) (if b then drop 1 (p.offers k) else p.offers k)) other

  each_host : (P : HostId → List Extent → Type 0) → P h ((p.accepted h ++ map (marked offer) all) ++ flat_map (λ xs. xs) later) → ((k : HostId) → P k (extents_at p k)) → (k : HostId) → P k (extents_at q k)
  each_host P here others k = elim (cases_Bool (h == k)) [
    | inl same ↦ (let is : h ≡ k = eqb-true h k same in subst (λ l. P l (extents_at q l)) is (subst (P h) (sym at_host) here))
    | inr other ↦ subst (P k) (sym (at_other k other)) (others k)
  ]

  -- what holds of all the host's extents, by parts
  of_accepted : (P : Extent → Type 0) → AllByRecursion P (extents_at p h) → AllByRecursion P (p.accepted h)
  of_accepted P each = each-front P (p.accepted h) (flat_map (λ xs. xs) (p.offers h)) each

  of_offer : (P : Extent → Type 0) → AllByRecursion P (extents_at p h) → AllByRecursion P offer
  of_offer P each = each-front P offer rest (each-back P (p.accepted h) (offer ++ rest) (subst (AllByRecursion P) was_host each))

  of_rest : (P : Extent → Type 0) → AllByRecursion P (extents_at p h) → AllByRecursion P (flat_map (λ xs. xs) later)
  of_rest P each = each-back P offer rest (each-back P (p.accepted h) (offer ++ rest) (subst (AllByRecursion P) was_host each))

  -- ---- granules

  present : (r : ℕ) → r < length c.regions → p.block r % granule_size c r ≡ 0
  present = present_whole c sound p s

  -- what is taken has granules of the offer alone
  abbrev IsPart : Extent → Type 0
  IsPart x = (is_in offer x ≡ true) × IsMade c (p.block (region_at c h x.start)) h (region_at c h x.start) x

  parts : AllByRecursion IsPart all
  parts = each-both (λ x. is_in offer x ≡ true) (λ x. IsMade c (p.block (region_at c h x.start)) h (region_at c h x.start) x) IsPart (λ x e m. (e, m)) all a.inside a.made

  offer_homes : AllByRecursion (IsHome c p h) offer
  offer_homes = of_offer (IsHome c p h) (s.home h)

  part_reaches : (g : ℕ) (x : Extent) → IsPart x → has_granule (run_of c h x) g ≡ true → reaches c h offer g ≡ true
  part_reaches g x part has = any-of-each (lies_in x) (λ y. has_granule (run_of c h y) g) offer
      (each-change (IsHome c p h) (λ y. lies_in x y ≡ true → has_granule (run_of c h y) g ≡ true)
      (λ y home inside. inside_has c h sound host p.block present x y part.1 (home_made c sound p s h y host home) inside g has) offer offer_homes) part.0

  taken_reaches : (g : ℕ) → reaches c h all g ≡ true → reaches c h offer g ≡ true
  taken_reaches g has = let found = each-at IsPart (λ x. has_granule (run_of c h x) g) all parts has in part_reaches g found.0 found.2 found.1

  mine_count : (g : ℕ) → count_on c h g (map (marked offer) all) ≡ count_on c h g all
  mine_count g = many-map (λ x. has_granule (run_of c h x) g) (marked offer) all

  no_more : (g : ℕ) → count_on c h g all ≤ count_on c h g offer
  no_more g = elim (cases_Bool (reaches c h all g)) [
    | inr nothing ↦ omega (arith, many-none (λ x. has_granule (run_of c h x) g) all nothing)
    | inl has ↦ omega (arith, a.apart g, many-any (λ x. has_granule (run_of c h x) g) offer (taken_reaches g has))
  ]

  fewer : (g : ℕ) (k : HostId) → count_on c k g (extents_at q k) ≤ count_on c k g (extents_at p k)
  fewer g k = each_host (λ k ys. count_on c k g ys ≤ count_on c k g (extents_at p k)) here (λ l. omega arith) k
    where
      here : count_on c h g ((p.accepted h ++ map (marked offer) all) ++ flat_map (λ xs. xs) later) ≤ count_on c h g (extents_at p h)
      here =
          let test : Extent → Bool = λ x. has_granule (run_of c h x) g in
          omega (
            arith,
            many-append test (p.accepted h ++ mine) rest,
            many-append test (p.accepted h) mine,
            mine_count g,
            no_more g,
            ap (count_on c h g) was_host,
            many-append test (p.accepted h) (offer ++ rest),
            many-append test offer rest,
          )

  -- ---- each extent

  marked_home : AllByRecursion (IsHome c q h) (map (marked offer) all)
  marked_home = each-map (λ x. IsMade c (p.block (region_at c h x.start)) h (region_at c h x.start) x) (IsHome c q h) (marked offer) (λ x m. record {
    region = region_at c h x.start;
    made = record { known = m.known; some = m.some; from = m.from; within = m.within; begins = m.begins; ends = m.ends };
  }) all a.made

  same_home : (k : HostId) (ys : List Extent) → AllByRecursion (IsHome c p k) ys → AllByRecursion (IsHome c q k) ys
  same_home k ys each = each-change (IsHome c p k) (IsHome c q k) (λ y e. record { region = e.region; made = e.made }) ys each

  same_under : (k : HostId) (ys : List Extent) → AllByRecursion (IsUnder c p k) ys → AllByRecursion (IsUnder c q k) ys
  same_under k ys each = each-change (IsUnder c p k) (IsUnder c q k) (λ y u shared. let e = u shared in record { open_tag = e.open_tag; covered = e.covered }) ys each

  offer_under : AllByRecursion (IsUnder c p h) offer
  offer_under = of_offer (IsUnder c p h) (s.under h)

  one_under : (x : Extent) → is_in offer x ≡ true → ((region_spec c (region_at c h x.start)).shareable ≡ true → is_whole offer x ≡ true) → IsUnder c q h (marked offer x)
  one_under x inside whole shared =
      let y : Extent = owner_of offer x in
      let w = and_parts (eqb x.start y.start) (eqb x.length y.length) (whole shared) in
      let e = under_same c p h (marked offer x) y (eqb-true _ _ w.0) (eqb-true _ _ w.1) refl (owner_has (IsUnder c p h) offer x offer_under inside) shared in
      record { open_tag = e.open_tag; covered = e.covered }

  marked_under : AllByRecursion (IsUnder c q h) (map (marked offer) all)
  marked_under = each-map (λ x. (is_in offer x ≡ true) × ((region_spec c (region_at c h x.start)).shareable ≡ true → is_whole offer x ≡ true)) (IsUnder c q h) (marked offer)
      (λ x e. one_under x e.0 e.1) all
      (each-both (λ x. is_in offer x ≡ true) (λ x. (region_spec c (region_at c h x.start)).shareable ≡ true → is_whole offer x ≡ true)
      (λ x. (is_in offer x ≡ true) × ((region_spec c (region_at c h x.start)).shareable ≡ true → is_whole offer x ≡ true)) (λ x e w. (e, w)) all a.inside a.whole)

  by_parts : (P : Extent → Type 0) → AllByRecursion P (p.accepted h) → AllByRecursion P (map (marked offer) all) → AllByRecursion P (flat_map (λ xs. xs) later) → AllByRecursion P ((p.accepted h ++ map (marked offer) all) ++ flat_map (λ xs. xs) later)
  by_parts P one two three = each-append P (p.accepted h ++ mine) rest (each-append P (p.accepted h) mine one two) three

  -- ---- who holds

  or_comm : (x y : Bool) → (x || y) ≡ (y || x)
  or_comm true true = refl
  or_comm true false = refl
  or_comm false true = refl
  or_comm false false = refl

  mine_runs : (xs : List Extent) → map (run_of c h) (map (marked offer) xs) ≡ map (run_of c h) xs
  mine_runs [] = refl
  mine_runs (x ∷ xs) = ap (λ runs. run_of c h x ∷ runs) (mine_runs xs)

  held_now : (k : HostId) (g : ℕ) → q.holds k g ≡ has_in_runs (map (run_of c k) (q.accepted k)) g
  held_now k g = elim (cases_Bool (h == k)) [
    | inr other ↦ ap (λ b. (b && has_in_runs (map (run_of c h) all) g) || p.holds k g) other ∙ s.held k g
        ∙ sym (ap (λ b. has_in_runs (map (run_of c k) (if b then p.accepted k ++ mine else p.accepted k)) g) other)
    | inl same ↦ subst (λ l. q.holds l g ≡ has_in_runs (map (run_of c l) (q.accepted l)) g) (eqb-true h k same) here
  ]
    where
      here : q.holds h g ≡ has_in_runs (map (run_of c h) (q.accepted h)) g
      here =
          let test : Run → Bool = λ run. has_granule run g in
          ap (λ b. (b && has_in_runs (map (run_of c h) all) g) || p.holds h g) (eq-eqb h h refl)
          ∙ ap (λ b. has_in_runs (map (run_of c h) all) g || b) (s.held h g)
          ∙ or_comm (has_in_runs (map (run_of c h) all) g) (has_in_runs (map (run_of c h) (p.accepted h)) g)
          ∙ ap (λ runs. has_in_runs (map (run_of c h) (p.accepted h)) g || has_in_runs runs g) (sym (mine_runs all))
          ∙ sym (list_any-append test (map (run_of c h) (p.accepted h)) (map (run_of c h) mine))
          ∙ ap (λ runs. has_in_runs runs g) (sym (map-append (run_of c h) (p.accepted h) mine))
          ∙ sym (ap (λ b. has_in_runs (map (run_of c h) (if b then p.accepted h ++ mine else p.accepted h)) g) (eq-eqb h h refl))

  not_past : (k : HostId) → c.hosts ≤ k → (h == k) ≡ false
  not_past k past = elim (cases_Bool (h == k)) [
    | inr other ↦ other
    | inl same ↦ absurd (omega (arith, eqb-true h k same, host, past))
  ]

  fewer_together : (k : HostId) (b : Bool) → AllByRecursion (IsTogether c k) (if b then drop 1 (p.offers k) else p.offers k)
  fewer_together k true = each-others (IsTogether c k) (p.offers k) (s.together k)
  fewer_together k false = s.together k

  -- the answer leaves what stands standing
  pub answer_stands : Stands c q
  answer_stands = record {
    no_accepted = λ k past. ap (λ b. if b then p.accepted k ++ mine else p.accepted k) (not_past k past) ∙ s.no_accepted k past;
    no_offers = λ k past. ap (λ b. if b then drop 1 (p.offers k) else p.offers k) (not_past k past) ∙ s.no_offers k past;
    held = held_now;
    once = λ k g. omega (arith, fewer g k, s.once k g);
    one = λ k l g private one two. s.one k l g private (omega (arith, one, fewer g k)) (omega (arith, two, fewer g l));
    apart = s.apart;
    few = each_host (λ k ys. length ys ≤ extents_supported)
        (omega (arith, a.few, length-append (p.accepted h ++ mine) rest, length-append (p.accepted h) mine, length-map all (marked offer), length-flat_map (λ xs. xs) later)) s.few;
    home = each_host (λ k ys. AllByRecursion (IsHome c q k) ys)
        (by_parts (IsHome c q h) (same_home h (p.accepted h) (of_accepted (IsHome c p h) (s.home h))) marked_home (same_home h rest (of_rest (IsHome c p h) (s.home h))))
        (λ k. same_home k (extents_at p k) (s.home k));
    under = each_host (λ k ys. AllByRecursion (IsUnder c q k) ys)
        (by_parts (IsUnder c q h) (same_under h (p.accepted h) (of_accepted (IsUnder c p h) (s.under h))) marked_under (same_under h rest (of_rest (IsUnder c p h) (s.under h))))
        (λ k. same_under k (extents_at p k) (s.under k));
    together = λ k. fewer_together k (h == k);
    opened = λ t e. let o = s.opened t e in record {
      host = o.host;
      extents = o.extents;
      region = o.region;
      offer = o.offer;
      known = o.known;
      shareable = o.shareable;
      each = o.each;
      some = o.some;
      apart = o.apart;
      nonzero = o.nonzero;
    };
    blocks = s.blocks;
  }

  -- an open tag is live still, or one of the offer's
  more_hosts : (t : Tag) → has_extent_of t offer ≡ false → (k : HostId) → (has_extent_of t (p.accepted k) || list_any (has_extent_of t) (p.offers k)) ≡ true
      → (has_extent_of t (q.accepted k) || list_any (has_extent_of t) (q.offers k)) ≡ true
  more_hosts t not_offered k has = elim (cases_Bool (h == k)) [
    | inr other ↦ ap (λ b. has_extent_of t (if b then p.accepted k ++ mine else p.accepted k) || list_any (has_extent_of t) (if b then drop 1 (p.offers k) else p.offers k)) other ∙ has
    | inl same ↦ (let is : h ≡ k = eqb-true h k same in
        subst (λ l. (has_extent_of t (q.accepted l) || list_any (has_extent_of t) (q.offers l)) ≡ true) is
        (here (subst (λ l. (has_extent_of t (p.accepted l) || list_any (has_extent_of t) (p.offers l)) ≡ true) (sym is) has)))
  ]
    where
      accepted_more : has_extent_of t (p.accepted h) ≡ true → has_extent_of t (q.accepted h) ≡ true
      accepted_more e =
          ap (λ b. has_extent_of t (if b then p.accepted h ++ mine else p.accepted h)) (eq-eqb h h refl)
          ∙ list_any-append (λ x. same_tag x.tag t) (p.accepted h) mine ∙ or_left (has_extent_of t (p.accepted h)) (has_extent_of t mine) e

      offered_still : list_any (has_extent_of t) (p.offers h) ≡ true → list_any (has_extent_of t) (q.offers h) ≡ true
      offered_still e =
          let whole : (has_extent_of t offer || list_any (has_extent_of t) later) ≡ true = sym (ap (list_any (has_extent_of t)) offers) ∙ e in
          ap (λ b. list_any (has_extent_of t) (if b then drop 1 (p.offers h) else p.offers h)) (eq-eqb h h refl)
          ∙ ap (λ os. list_any (has_extent_of t) (drop 1 os)) offers ∙ (rw not_offered at whole)

      here : (has_extent_of t (p.accepted h) || list_any (has_extent_of t) (p.offers h)) ≡ true → (has_extent_of t (q.accepted h) || list_any (has_extent_of t) (q.offers h)) ≡ true
      here e = elim (cases_Bool (has_extent_of t (p.accepted h))) [
        | inl held ↦ or_left (has_extent_of t (q.accepted h)) (list_any (has_extent_of t) (q.offers h)) (accepted_more held)
        | inr not_held ↦ or_right (has_extent_of t (q.accepted h)) (list_any (has_extent_of t) (q.offers h)) (offered_still (rw not_held at e))
      ]

  pub answer_lives : (t : Tag) → has_tag p.tags t ≡ true → (lives c q t ≡ true) ⊎ (has_tag (tags_of offer) t ≡ true)
  answer_lives t open_tag = elim (cases_Bool (has_extent_of t offer)) [
    | inl has ↦ inr (tags_of-has offer t has)
    | inr not_offered ↦ (let sides = and_parts (not (is_zero_tag t)) (is_with_a_host c p t || p.referenced t) (before.live t open_tag) in
        inl (and_from (not (is_zero_tag t)) (is_with_a_host c q t || q.referenced t) sides.0 (elim (cases_Bool (is_with_a_host c p t)) [
          | inl hosts ↦ or_left (is_with_a_host c q t) (q.referenced t)
              (any-implies (λ k. has_extent_of t (p.accepted k) || list_any (has_extent_of t) (p.offers k)) (λ k. has_extent_of t (q.accepted k) || list_any (has_extent_of t) (q.offers k)) (hosts_of c) (more_hosts t not_offered) hosts)
          | inr nobody ↦ or_right (is_with_a_host c q t) (q.referenced t) (rw nobody at sides.1)
        ])))
  ]
