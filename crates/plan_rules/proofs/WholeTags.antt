-- A list of all extents of a region has each tag of a shareable region whole.
use Rattle.std.proofs.lemmas.{Bool.and_from, Bool.and_parts, Bool.cases_Bool, Bool.eq-eqb, Bool.eqb-true, Bool.false≢true, Bool.le-ltb, List.Elements.filter_agree, List.Sums.length-filter}
use Rattle.std.specs.{List.AllByRecursion, List.filter, List.list_any, Prelude.flat_map, Prelude.fold, Prelude.if◌then◌else◌, Prelude.Option}
use Rattle.plan_rules.proofs.{Allowed.share_same, ClosedTags.AreClosed, ClosedTags.IsClosed, Filters.each_filtered, Filters.filter_both, Filters.many_behind}
use Rattle.plan_rules.specs.Kept.{begins_in}
use Rattle.std.proofs.Common.{◌≡◌, ℕ, ◌<◌, Bool, true, false, ◌&&◌, List, [], ◌∷◌, ◌++◌, map, None, refl, ap, sym, ◌∙◌, inl, inr, arith, ltb}
use Rattle.dcd_base.specs.{Words.has_granule, Words.has_in_runs, Words.has_tag, Words.is_zero_tag, Words.same_tag, declared.capacity.Extent.Extent, declared.capacity.Tag.Tag}
use Rattle.dcd_base.specs.declared.{ids.HostId.HostId, media.Run.Run}
use Rattle.dcd_codes.specs.{Rules.first_by, declared.rules.Rule.Rule}
use Rattle.extent_list.specs.{ExtentLists.count_of_tag, ExtentLists.marked, ExtentLists.tags_of, Listing.incomplete, Listing.is_shareable_at, Listing.some_left, Listing.too_few_of}
use Rattle.media_map.specs.Places.{region_at, run_of}
use Rattle.region_config.specs.{Configurations.Configuration, Granules.region_spec, Granules.with_blocks, Soundness.IsSound}
use Rattle.isolation_laws.specs.device_rules.proofs.{AddChoices.reach_runs, BlockRuns.block_run, Holding.home_made, Holding.in_run, Holding.present_whole, Homes.made_of_region}
use Rattle.isolation_laws.specs.device_rules.proofs.{ListSteps.each-append, ListSteps.each-at, ListSteps.each-both, ListSteps.each-change, ListSteps.each-front, TagSteps.same_tag-is}
use Rattle.isolation_laws.specs.device_rules.specs.{Pictures.Picture, Pictures.extents_at, Standing.IsHome, Standing.IsMade, Standing.IsOpen, Standing.IsUnder, Standing.Stands, Tags.tag_runs}

-- ---- a row over tags

over_none : (check : Tag → Option Rule) (before tags : List Tag) → AllByRecursion (λ t. check t ≡ None) tags → first_by (λ b t. check t) before tags ≡ None
over_none check before [] each = refl
over_none check before (t ∷ tags) each = rw each.0 (over_none check (before ++ t ∷ []) tags each.1)

pub each_distinct : (P : Tag → Type 0) (seen tags : List Tag) → AllByRecursion P seen → AllByRecursion P tags → AllByRecursion P (fold (λ seen t. if has_tag seen t then seen else seen ++ t ∷ []) seen tags)
each_distinct P seen [] old each = old
each_distinct P seen (t ∷ tags) old each = each_distinct P (if has_tag seen t then seen else seen ++ t ∷ []) tags (one (has_tag seen t)) each.1
  where
    one : (b : Bool) → AllByRecursion P (if b then seen else seen ++ t ∷ [])
    one true = old
    one false = each-append P seen (t ∷ []) old (each.0, tt)

pub tags_each : (P : Tag → Type 0) (xs : List Extent) → AllByRecursion (λ x. P x.tag) xs → AllByRecursion P (map (λ x. x.tag) xs)
tags_each P [] each = tt
tags_each P (x ∷ xs) each = (each.0, tags_each P xs each.1)

-- ---- one region for a tag

module _ (c : Configuration) (sound : IsSound c) (p : Picture) (s : Stands c p) (h : HostId) (host : h < c.hosts) where
  -- an extent under an open tag begins in the region of the tag
  tag_place : (x : Extent) → IsMade c (p.block (region_at c h x.start)) h (region_at c h x.start) x → IsUnder c p h x → (region_spec c (region_at c h x.start)).shareable ≡ true
      → (o : IsOpen c p x.tag) → region_at c h x.start ≡ o.region
  tag_place x m under shared o =
      let r : ℕ = region_at c h x.start in
      let run : Run = run_of c h x in
      let block = block_run c h sound host (p.block r) r x (present_whole c sound p s r m.known) m in
      let g : ℕ = run.first in
      let has : has_granule (run_of c h x) (run_of c h x).first ≡ true = in_run run g (omega arith) (omega (arith, block.some)) in
      let covered : has_in_runs (tag_runs c (p.last x.tag)) g ≡ true = (under shared).covered g has in
      let reached : list_any (λ y. has_granule (run_of c o.host y) g) o.extents ≡ true = sym (reach_runs c o.host g o.extents) ∙ sym (ap (λ l. has_in_runs (tag_runs c l) g) o.offer) ∙ covered in
      let found = each-at (IsMade c (p.block o.region) o.host o.region) (λ y. has_granule (run_of c o.host y) g) o.extents o.each reached in
      sym (made_of_region c h sound host (p.block r) r x (present_whole c sound p s r m.known) m g has)
      ∙ made_of_region c o.host sound o.known (p.block o.region) o.region found.0 (present_whole c sound p s o.region found.2.known) found.2 g found.1

  record IsSettled (x : Extent) : Type 0 where
    made : IsMade c (p.block (region_at c h x.start)) h (region_at c h x.start) x
    under : IsUnder c p h x
    closed : IsClosed c p h x

  -- two extents of one tag, of which one is of a shareable region, begin in one region
  one_place : (x y : Extent) → IsSettled x → IsSettled y → (region_spec c (region_at c h y.start)).shareable ≡ true → same_tag x.tag y.tag ≡ true
      → (region_at c h x.start ≡ region_at c h y.start) × ((region_spec c (region_at c h x.start)).shareable ≡ true)
  one_place x y a b shared same =
      let is : x.tag ≡ y.tag = same_tag-is x.tag y.tag same in
      let opened : has_tag p.tags x.tag ≡ true = ap (has_tag p.tags) is ∙ (b.under shared).open_tag in
      let o = s.opened x.tag opened in
      elim (cases_Bool (region_spec c (region_at c h x.start)).shareable) [
        | inr private ↦ absurd (false≢true (sym (a.closed private) ∙ opened))
        | inl too ↦ (
          tag_place x a.made a.under too o
              ∙ sym (tag_place y b.made b.under shared (record {
                host = o.host;
                extents = o.extents;
                region = o.region;
                offer = ap p.last (sym is) ∙ o.offer;
                known = o.known;
                shareable = o.shareable;
                each = o.each;
                some = o.some;
                apart = o.apart;
                nonzero = ap is_zero_tag (sym is) ∙ o.nonzero;
              })),
          too,
        )
      ]

  settled : AreClosed c p → AllByRecursion IsSettled (p.accepted h)
  settled closed =
      let rest : List Extent = flat_map (λ xs. xs) (p.offers h) in
      let both = each-both (IsUnder c p h) (IsClosed c p h) (λ x. IsUnder c p h x × IsClosed c p h x) (λ x a b. (a, b)) (extents_at p h) (s.under h) (closed h) in
      each-front IsSettled (p.accepted h) rest (each-both (IsHome c p h) (λ x. IsUnder c p h x × IsClosed c p h x) IsSettled
      (λ x a b. record { made = home_made c sound p s h x host a; under = b.0; closed = b.1 }) (extents_at p h) (s.home h) both)

  -- so none of the region's tags is listed in part
  pub region_complete : (r : ℕ) → AreClosed c p → map (marked (p.accepted h)) (filter (begins_in c h r) (p.accepted h)) ≡ filter (begins_in c h r) (p.accepted h)
      → incomplete (with_blocks c p.block) h (p.accepted h) (filter (begins_in c h r) (p.accepted h)) ≡ None
  region_complete r closed marks =
      let acc : List Extent = p.accepted h in
      let w : Configuration = with_blocks c p.block in
      let share : Extent → Bool = λ x. (region_spec c (region_at c h x.start)).shareable in
      let both : Extent → Bool = λ x. begins_in c h r x && (region_spec c (region_at c h x.start)).shareable in
      let shared_list : filter (is_shareable_at (with_blocks c p.block) h) (map (marked (p.accepted h)) (filter (begins_in c h r) (p.accepted h))) ≡ filter (λ x. begins_in c h r x && (region_spec c (region_at c h x.start)).shareable) (p.accepted h) =
      ap (filter (is_shareable_at w h)) marks ∙ filter_agree (is_shareable_at w h) share (share_same c p h) (filter (begins_in c h r) acc) ∙ filter_both (begins_in c h r) share acc in
      ap (some_left acc) shared_list
      ∙ over_none (too_few_of acc (filter both acc)) [] (tags_of (filter both acc))
      (each_distinct (λ t. too_few_of acc (filter both acc) t ≡ None) [] (map (λ x. x.tag) (filter both acc)) tt
      (tags_each (λ t. too_few_of acc (filter both acc) t ≡ None) (filter both acc)
      (each-change (λ y. IsSettled y × (both y ≡ true)) (λ y. too_few_of acc (filter both acc) y.tag ≡ None) (λ y e. whole y e.0 e.1) (filter both acc) (each_filtered IsSettled both acc (settled closed)))))
    where
      whole : (y : Extent) → IsSettled y → (begins_in c h r y && (region_spec c (region_at c h y.start)).shareable) ≡ true
          → too_few_of (p.accepted h) (filter (λ x. begins_in c h r x && (region_spec c (region_at c h x.start)).shareable) (p.accepted h)) y.tag ≡ None
      whole y b e =
          let acc : List Extent = p.accepted h in
          let both : Extent → Bool = λ x. begins_in c h r x && (region_spec c (region_at c h x.start)).shareable in
          let parts = and_parts (begins_in c h r y) (region_spec c (region_at c h y.start)).shareable e in
          let test : Extent → Bool = λ x. same_tag x.tag y.tag in
          let few = many_behind test both acc (each-change IsSettled (λ x. same_tag x.tag y.tag ≡ true → (begins_in c h r x && (region_spec c (region_at c h x.start)).shareable) ≡ true)
          (λ x a same. let place = one_place x y a b parts.1 same in
          and_from (begins_in c h r x) (region_spec c (region_at c h x.start)).shareable (eq-eqb (region_at c h x.start) r (place.0 ∙ eqb-true (region_at c h y.start) r parts.0)) place.1) acc (settled closed)) in
          let none : ltb (count_of_tag y.tag (filter both acc)) (count_of_tag y.tag acc) ≡ false = le-ltb _ _ (omega (arith, few, length-filter test acc, length-filter test (filter both acc))) in
          rw none refl
