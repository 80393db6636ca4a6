-- The row of an add, and what is offered, by what is kept.
use Rattle.std.proofs.Common.{◌≡◌, ℕ, zero, suc, ◌+◌, ◌%◌, ◌/◌, ◌<◌, ◌≤◌, Bool, true, false, not, ◌==◌, ◌&&◌, ◌||◌, List, [], ◌∷◌, ◌++◌, map, length, Option, Some, None, inl, inr, refl, sym, ap, subst, ◌∙◌, arith, leb, ltb}
use Rattle.std.proofs.lemmas.{Bool.cases_Bool, Bool.eq-eqb, Bool.eqb-false, Bool.false≢true, Bool.leb-false, Bool.ltb-false, Bool.not-false, List.length-append, List.length-map}
use Rattle.std.proofs.lemmas.List.{Concat.length-flat_map, Folds.list_any-append, Sums.length-filter}
use Rattle.std.specs.{List.AllByRecursion, List.list_any, List.range_with_len, Option.is_some, Prelude.All, Prelude.count_by, Prelude.flat_map, Prelude.if◌then◌else◌}
use Rattle.event_records.specs.dcd_base.specs.{Words.◌or◌, Words.has_granule, Words.has_tag, Words.is_zero_tag, Words.same_tag, Words.where_true, declared.capacity.Extent.Extent}
use Rattle.event_records.specs.dcd_base.specs.declared.{capacity.Tag.Tag, ids.HostId.HostId, media.Run.Run, steps.LogId.LogId}
use Rattle.event_records.specs.declared.events.EventKind.{EventKind}
use Rattle.extent_list.specs.{ExtentLists.has_extent_of, ExtentLists.real_tags, HostLists.Lists, HostLists.extent_total, Listing.too_many_extents, dcd_codes.specs.Rules.◌breaks◌}
use Rattle.extent_list.specs.{dcd_codes.specs.declared.rules.Rule.Rule, media_map.specs.Places.IsRun, media_map.specs.Places.run_of, media_map.specs.region_config.proofs.Faultless.granules_within}
use Rattle.extent_list.specs.media_map.specs.region_config.specs.Configurations.{Configuration}
use Rattle.extent_list.specs.media_map.specs.region_config.specs.Granules.{first_granule, granule_size, granule_total, hosts_of, region_of, region_spec}
use Rattle.extent_list.specs.media_map.specs.region_config.specs.{Soundness.IsSound, declared.region_spec.RegionSpec.RegionSpec}
use Rattle.selection.proofs.Agreeing.{Agree, contiguous_runs_agree, free_blocks_agree, free_runs_agree, longest_free_agree, prescribed_rule_agree}
use Rattle.selection.specs.{Selections.prescribed_rule, Selections.too_few_free, granule_map.specs.StateLists.is_free_at}
use Rattle.device_commands.specs.{Drafts.Drafts, declared.draft.Draft.Draft}
use Rattle.device_state.specs.{Entered.runs_found, Entered.runs_in, StateAfter.IsStateAfter, StateAfter.part_of, declared.state.State.State}
use Rattle.device_state.specs.device_rules.proofs.{Homes.first_same, Homes.made_is_run, Homes.region_of_same, Homes.supported_whole, ListSteps.each-change, ListSteps.each-map, Overlaps.not_broken}
use Rattle.device_state.specs.device_rules.{proofs.TagSteps.same_tag-is, specs.Hosts.accepted_of, specs.Hosts.block_of, specs.Hosts.offers_of, specs.Legal.Legal}
use Rattle.device_state.specs.device_rules.specs.{Outcomes.log_full, Outcomes.records_of_extents, Pictures.picture_of, Standing.IsMade, Standing.Stands, TagTable.IsEntry}
use Rattle.device_state.specs.device_rules.specs.{Tags.last_offer, Tags.open_tags, Tags.tag_runs, Tags.is_live as is_tag_live, Views.lists_in, Views.extents_in, Views.view_after, Views.view_of}
use Rattle.journal_core.specs.{Entries.effects, declared.entries.Entry.Entry, declared.outcome.Effect.Effect}
use Rattle.tag_refs.specs.{Tables.entry_with, Tables.has_entry, Tables.passes, Tables.some_passes, declared.entries.TagEntry.TagEntry}
use Rattle.device_state.specs.device_rules.specs.Adding.{add_outcome, add_rule, area_of, by_length_rule, chosen, extents_of, region_free_blocks, is_free_now, is_open_in, region_longest_free, offered, per_block, present, with_tag, too_many_tags}
use Rattle.release_core.proofs.Members.{neither}
use Rattle.manager_commands.proofs.{CountedTags.HasOne, CountedTags.no_more, CountedTags.own_first, FreeGranules.free_at}
use Rattle.manager_commands.proofs.Reached.{hosts_kept, region_kept, regions_kept, stands_by, total_kept}
use Rattle.manager_commands.proofs.TagReadings.{tags_live, tags_open, tags_open_in}
use Rattle.manager_commands.specs.InitiateDynamicCapacityAdd.{DraftOffers, chosen_rule, is_used_tag, is_with_hosts, lists_have, target_rule, offered_now, room_rule, tag_rule}

-- ---- searches

any_agree : (p q : ℕ → Bool) (a n : ℕ) → Agree p q a (a + n) → list_any p (range_with_len a n) ≡ list_any q (range_with_len a n)
any_agree p q a zero agree = refl
any_agree p q a (suc n) agree =
    rw (agree a (omega arith) (omega arith), any_agree p q (a + 1) n (λ k low high. agree k (omega (arith, low)) (omega (arith, high)))) refl

any_flat : (p : Extent → Bool) (xss : List (List Extent)) → list_any p (flat_map (λ xs. xs) xss) ≡ list_any (list_any p) xss
any_flat p [] = refl
any_flat p (xs ∷ xss) = list_any-append p xs (flat_map (λ ys. ys) xss) ∙ ap (λ b. list_any p xs || b) (any_flat p xss)

-- the runs that are found are those of the tag
entry_runs : (c : Configuration) (past : List Effect) (entries : List TagEntry) → AllByRecursion (IsEntry c past) entries → (t : Tag) → has_entry t entries ≡ true →
    runs_found (entry_with t entries) ≡ tag_runs c (last_offer t past)
entry_runs c past [] each t live = absurd (false≢true live)
entry_runs c past (e ∷ entries) each t live = elim (cases_Bool (same_tag t e.tag)) [
  | inl here ↦ rw here (each.0.runs_are ∙ ap (λ u. tag_runs c (last_offer u past)) (sym (same_tag-is t e.tag here)))
  | inr other ↦ rw other (entry_runs c past entries each.1 t (rw other at live))
]

passed_some : (test : TagEntry → Bool) (found : Option TagEntry) → some_passes test found ≡ true → is_some found ≡ true
passed_some test None passed = absurd (false≢true passed)
passed_some test (Some e) passed = refl

-- ---- the runs of a tag

module _ (c : Configuration) (sound : IsSound c) (journal : List Entry) (legal : Legal c journal) (s : State) (kept : IsStateAfter c journal s) where
  abbrev past : List Effect
  past = effects journal

  stands : Stands c (picture_of c (effects journal))
  stands = stands_by c sound journal legal

  run_present : (run : Run) → IsRun c run → IsRun s.present run
  run_present run is =
      let b : ℕ → ℕ = λ k. block_of c k (effects journal) in
      let region : region_of s.present run.first ≡ region_of c run.first = ap (λ d. region_of d run.first) kept.present_is ∙ region_of_same c b run.first in
      let ends : first_granule s.present (suc (region_of s.present run.first)) ≡ first_granule c (suc (region_of c run.first)) =
      ap (λ k. first_granule s.present (suc k)) region ∙ ap (λ d. first_granule d (suc (region_of c run.first))) kept.present_is ∙ first_same c b (suc (region_of c run.first)) in
      record { some = is.some; known = omega (arith, is.known, total_kept c journal s kept); within = omega (arith, is.within, ends) }

  -- the runs are of the device, and no more than its granules
  record AreRuns (runs : List Run) : Type 0 where
    each : AllByRecursion (IsRun s.present) runs
    few : length runs ≤ 4096

  open_runs : (t : Tag) → has_tag (open_tags c (effects journal)) t ≡ true → AreRuns (tag_runs c (last_offer t (effects journal)))
  open_runs t open_tag =
      let o = stands.opened t open_tag in
      let Made : Extent → Type 0 = IsMade c (block_of c o.region (effects journal)) o.host o.region in
      let whole : (r : ℕ) → r < length c.regions → block_of c r (effects journal) % granule_size c r ≡ 0 = λ r known. supported_whole c r (block_of c r (effects journal)) (stands.blocks r known) in
      let runs : tag_runs c (last_offer t (effects journal)) ≡ map (run_of c o.host) o.extents = ap (tag_runs c) o.offer in
      let is_run : (x : Extent) → Made x → IsRun c (run_of c o.host x) = λ x m. made_is_run c o.host sound o.known (block_of c o.region (effects journal)) o.region x (whole o.region m.known) m in
      let one : (x : Extent) → Made x → HasOne (λ x g. has_granule (run_of c o.host x) g) (granule_total c) x =
      λ x m. ((run_of c o.host x).first, (is_run x m).known, own_first (run_of c o.host x) (is_run x m).some) in
      let apart : (g : ℕ) → count_by (λ x. has_granule (run_of c o.host x) g) o.extents ≤ 1 = λ g. omega (arith, o.apart g, length-filter (λ x. has_granule (run_of c o.host x) g) o.extents) in
      let few = no_more (λ x g. has_granule (run_of c o.host x) g) (granule_total c) o.extents (each-change Made (HasOne (λ x g. has_granule (run_of c o.host x) g) (granule_total c)) one o.extents o.each) apart in
      subst AreRuns (sym runs) (record {
        each = each-map Made (IsRun s.present) (run_of c o.host) (λ x m. run_present (run_of c o.host x) (is_run x m)) o.extents o.each;
        few = omega (arith, few, length-map o.extents (run_of c o.host), sound.granules);
      })

  runs_live : (t : Tag) → has_entry t s.tags.entries ≡ true → runs_in s t ≡ tag_runs c (last_offer t (effects journal))
  runs_live t live = entry_runs c (effects journal) s.tags.entries kept.tags_are.each t live

  no_runs : (found : Option TagEntry) → is_some found ≡ false → runs_found found ≡ []
  no_runs None none = refl
  no_runs (Some e) none = absurd (false≢true (sym none))

  tag_runs_are : (t : Tag) → AreRuns (runs_in s t)
  tag_runs_are t = elim (cases_Bool (has_entry t s.tags.entries)) [
    | inl live ↦ subst AreRuns (sym (runs_live t live)) (open_runs t (tags_open c journal s.tags.entries sound legal kept.tags_are t ∙ live))
    | inr none ↦ subst AreRuns (sym (no_runs (entry_with t s.tags.entries) none)) (record { each = tt; few = omega arith })
  ]

  pub runs_are_runs : (t : Tag) → All (IsRun s.present) (runs_in s t)
  runs_are_runs t = each_run (runs_in s t) (tag_runs_are t).each
    where
      each_run : (runs : List Run) → AllByRecursion (IsRun s.present) runs → All (IsRun s.present) runs
      each_run [] each i d known = absurd (omega (arith, known))
      each_run (run ∷ runs) each zero d known = each.0
      each_run (run ∷ runs) each (suc i) d known = each_run runs each.1 i d (omega (arith, known))

  pub runs_are_few : (t : Tag) → length (runs_in s t) ≤ 4096
  runs_are_few t = (tag_runs_are t).few

  -- ---- the rules of the tag

  with_same : (t : Tag) → is_with_hosts s t ≡ list_any (λ h. has_extent_of t (accepted_of c h (effects journal)) || list_any (has_extent_of t) (offers_of h (effects journal))) (hosts_of c)
  with_same t =
      ap (λ n. list_any (λ h. lists_have t (part_of s h).lists) (range_with_len 0 n)) (hosts_kept c journal s kept)
      ∙ any_agree (λ h. lists_have t (part_of s h).lists) (λ h. has_extent_of t (accepted_of c h (effects journal)) || list_any (has_extent_of t) (offers_of h (effects journal))) 0 c.hosts
      (λ h low high. ap (λ (l : Lists). lists_have t l) (kept.parts h (omega (arith, high))).lists_are)

  used_same : (t : Tag) → is_used_tag s t ≡ is_tag_live c t (effects journal)
  used_same t =
      ap (λ b. not (is_zero_tag t) && (b || passes t (λ (e : TagEntry). e.referenced) s.tags.entries)) (with_same t)
      ∙ sym (tags_live c journal s.tags.entries sound legal kept.tags_are t)

  have_same : (h : HostId) → h < c.hosts → (t : Tag) → lists_have t (part_of s h).lists ≡ has_extent_of t (extents_in (view_of c h journal))
  have_same h known t =
      ap (λ (l : Lists). lists_have t l) (kept.parts h known).lists_are
      ∙ ap (λ b. has_extent_of t (accepted_of c h (effects journal)) || b) (sym (any_flat (λ x. same_tag x.tag t) (offers_of h (effects journal))))
      ∙ sym (list_any-append (λ x. same_tag x.tag t) (accepted_of c h (effects journal)) (flat_map (λ xs. xs) (offers_of h (effects journal))))

  module _ (h : HostId) (policy r bytes : ℕ) (tag : Tag) (list : List Extent) where
    abbrev new : List Extent
    new = offered c past h policy r bytes tag list

    -- the rules of the row from the tag on, after what comes first
    abbrev after_names : Option Rule → Option Rule
    after_names first =
        first
        or ((policy == 3) && not (region_spec c r).shareable) breaks Rule.NotShareable r
        or (is_zero_tag tag && (region_spec c r).shareable) breaks Rule.ZeroTag
        or (leb policy 2 && is_tag_live c tag past) breaks Rule.TagInUse
        or ((policy == 3) && not (is_open_in c past r tag)) breaks Rule.NoSuchTag
        or ((policy == 3) && has_extent_of tag (extents_in (view_of c h journal))) breaks Rule.AlreadyShared

    abbrev after_tag : Option Rule → Option Rule
    after_tag first =
        first
        or where_true (leb policy 1) (by_length_rule (present c past) (is_free_now c past) r policy bytes)
        or where_true (policy == 2) (prescribed_rule (present c past) h (is_free_now c past) r list)

    abbrev after_choice : Option Rule → Option Rule
    after_choice first =
        first
        or too_many_extents (length (extents_in (view_of c h journal)) + length new)
        or too_many_tags (length (real_tags (extents_in (view_of c h journal) ++ new)))
        or log_full h (view_of c h journal).log (length new)

    names_same : target_rule c.hosts (length c.regions) h policy r ≡ target_rule s.present.hosts (length s.present.regions) h policy r
    names_same = λ i. target_rule (sym (hosts_kept c journal s kept) i) (sym (regions_kept c journal s kept) i) h policy r

    -- a name is wrong
    pub row_names : (rule : Rule) → target_rule s.present.hosts (length s.present.regions) h policy r ≡ Some rule → add_rule c (effects journal) (λ k. view_of c k journal) h policy r bytes tag list ≡ Some rule
    row_names rule broken = ap (λ first. after_choice (after_tag (after_names first))) (names_same ∙ broken)

    -- the names are right
    pub record AreNamed : Type 0 where
      pub host : h < c.hosts
      pub policy_is : policy ≤ 3
      pub region : r < length c.regions

    pub named_parts : target_rule s.present.hosts (length s.present.regions) h policy r ≡ None → AreNamed
    named_parts row =
        let p2 = neither (leb s.present.hosts h breaks Rule.NoSuchHost h or ltb 3 policy breaks Rule.NoSuchPolicy policy) (leb (length s.present.regions) r breaks Rule.NoSuchRegion r) row in
        let p1 = neither (leb s.present.hosts h breaks Rule.NoSuchHost h) (ltb 3 policy breaks Rule.NoSuchPolicy policy) p2.0 in
        record {
          host = omega (arith, hosts_kept c journal s kept, leb-false s.present.hosts h (not_broken (leb s.present.hosts h) (Rule.NoSuchHost h) p1.0));
          policy_is = ltb-false 3 policy (not_broken (ltb 3 policy) (Rule.NoSuchPolicy policy) p1.1);
          region = omega (arith, regions_kept c journal s kept, leb-false (length s.present.regions) r (not_broken (leb (length s.present.regions) r) (Rule.NoSuchRegion r) p2.1));
        }

    module _ (named : target_rule s.present.hosts (length s.present.regions) h policy r ≡ None) where
      are : AreNamed
      are = named_parts named

      shareable_same : (region_spec s.present r).shareable ≡ (region_spec c r).shareable
      shareable_same = ap (λ (spec : RegionSpec). spec.shareable) (region_kept c journal s kept r are.region)

      tag_same : after_names None ≡ tag_rule s h policy r tag
      tag_same = sym (λ i.
          ((policy == 3) && not (shareable_same i)) breaks Rule.NotShareable r
          or (is_zero_tag tag && shareable_same i) breaks Rule.ZeroTag
          or (leb policy 2 && used_same tag i) breaks Rule.TagInUse
          or ((policy == 3) && not (sym (tags_open_in c journal s.tags.entries sound legal kept.tags_are r tag) i)) breaks Rule.NoSuchTag
          or ((policy == 3) && have_same h are.host tag i) breaks Rule.AlreadyShared)

      names_kept : target_rule c.hosts (length c.regions) h policy r ≡ None
      names_kept = names_same ∙ named

      -- the tag breaks a rule
      pub row_tag : (rule : Rule) → tag_rule s h policy r tag ≡ Some rule → add_rule c (effects journal) (λ k. view_of c k journal) h policy r bytes tag list ≡ Some rule
      row_tag rule broken = ap (λ first. after_choice (after_tag (after_names first))) names_kept ∙ ap (λ first. after_choice (after_tag first)) (tag_same ∙ broken)

      module _ (fine : IsSound s.present) (tag_kept : tag_rule s h policy r tag ≡ None) where
        agree : Agree (is_free_at s.granules.states) (is_free_now c (effects journal)) 0 (granule_total s.present)
        agree g low high = free_at c (effects journal) s.granules kept.granule_count kept.cells g (omega (arith, high, total_kept c journal s kept))

        here : r < length s.present.regions
        here = omega (arith, are.region, regions_kept c journal s kept)

        in_area : Agree (is_free_at s.granules.states) (is_free_now c (effects journal)) (area_of s.present r).first ((area_of s.present r).first + (area_of s.present r).count)
        in_area g low high = agree g (omega arith) (omega (arith, high, granules_within s.present r here))

        host_here : h < s.present.hosts
        host_here = omega (arith, are.host, hosts_kept c journal s kept)

        counts_same : (b : Bool) → (if b then region_free_blocks s.present (is_free_at s.granules.states) r else region_longest_free s.present (is_free_at s.granules.states) r)
            ≡ (if b then region_free_blocks s.present (is_free_now c (effects journal)) r else region_longest_free s.present (is_free_now c (effects journal)) r)
        counts_same true = free_blocks_agree (is_free_at s.granules.states) (is_free_now c (effects journal)) (area_of s.present r) (per_block s.present r) in_area
        counts_same false = longest_free_agree (is_free_at s.granules.states) (is_free_now c (effects journal)) (area_of s.present r) (per_block s.present r) in_area

        choice_agrees : chosen_rule s h policy r bytes list
            ≡ (where_true (leb policy 1) (by_length_rule s.present (is_free_now c (effects journal)) r policy bytes) or where_true (policy == 2) (prescribed_rule s.present h (is_free_now c (effects journal)) r list))
        choice_agrees =
            λ i. where_true (leb policy 1) ((((bytes == 0) || not (bytes % (region_spec s.present r).block == 0)) breaks Rule.BadLength bytes) or too_few_free (bytes / (region_spec s.present r).block) (counts_same (policy == 0) i))
            or where_true (policy == 2) (prescribed_rule_agree s.present h fine host_here (is_free_at s.granules.states) (is_free_now c (effects journal)) agree r list i)

        choice_same : after_tag None ≡ chosen_rule s h policy r bytes list
        choice_same = sym (choice_agrees ∙ ap (λ d. where_true (leb policy 1) (by_length_rule d (is_free_now c (effects journal)) r policy bytes) or where_true (policy == 2) (prescribed_rule d h (is_free_now c (effects journal)) r list)) kept.present_is)

        -- what is chosen breaks a rule
        pub row_choice : (rule : Rule) → chosen_rule s h policy r bytes list ≡ Some rule → add_rule c (effects journal) (λ k. view_of c k journal) h policy r bytes tag list ≡ Some rule
        row_choice rule broken =
            ap (λ first. after_choice (after_tag (after_names first))) names_kept ∙ ap (λ first. after_choice (after_tag first)) (tag_same ∙ tag_kept) ∙ ap after_choice (choice_same ∙ broken)

        -- ---- what is offered

        pick : {X : Type 0} (a b d : Bool) (x x' y y' z w w' : X) → x ≡ x' → y ≡ y' → (a ≡ false → b ≡ false → d ≡ false → w ≡ w') →
            (if a then x else if b then y else if d then z else w) ≡ (if a then x' else if b then y' else if d then z else w')
        pick true b d x x' y y' z w w' xs ys ws = xs
        pick false true d x x' y y' z w w' xs ys ws = ys
        pick false false true x x' y y' z w w' xs ys ws = refl
        pick false false false x x' y y' z w w' xs ys ws = ws refl refl refl

        -- only policy 3 asks for the runs, and then the tag is open
        shared_runs : (policy == 0) ≡ false → (policy == 1) ≡ false → (policy == 2) ≡ false → runs_in s tag ≡ tag_runs c (last_offer tag (effects journal))
        shared_runs no0 no1 no2 =
            let three : policy ≡ 3 = omega (arith, are.policy_is, eqb-false policy 0 no0, eqb-false policy 1 no1, eqb-false policy 2 no2) in
            let is3 : (policy == 3) ≡ true = eq-eqb policy 3 three in
            let p4 = neither _ (((policy == 3) && lists_have tag (part_of s h).lists) breaks Rule.AlreadyShared) tag_kept in
            let p3 = neither _ (((policy == 3) && not (passes tag (λ (e : TagEntry). e.region == r) s.tags.entries)) breaks Rule.NoSuchTag) p4.0 in
            let closed : ((policy == 3) && not (passes tag (λ (e : TagEntry). e.region == r) s.tags.entries)) ≡ false = not_broken ((policy == 3) && not (passes tag (λ (e : TagEntry). e.region == r) s.tags.entries)) Rule.NoSuchTag p3.1 in
            let opened : passes tag (λ (e : TagEntry). e.region == r) s.tags.entries ≡ true =
            not-false (passes tag (λ (e : TagEntry). e.region == r) s.tags.entries) (sym (ap (λ b. b && not (passes tag (λ (e : TagEntry). e.region == r) s.tags.entries)) is3) ∙ closed) in
            runs_live tag (passed_some (λ (e : TagEntry). e.region == r) (entry_with tag s.tags.entries) opened)

        offered_same : offered_now s h policy r bytes tag list ≡ offered c (effects journal) h policy r bytes tag list
        offered_same =
            let need : ℕ = bytes / (region_spec s.present r).block in
            let f : ℕ → Bool = is_free_at s.granules.states in
            let g : ℕ → Bool = is_free_now c (effects journal) in
            let picked : chosen s.present (is_free_at s.granules.states) (runs_in s tag) h policy r bytes list ≡ chosen s.present (is_free_now c (effects journal)) (tag_runs c (last_offer tag (effects journal))) h policy r bytes list =
            pick (policy == 0) (policy == 1) (policy == 2) _ _ _ _ list _ _
            (ap (extents_of s.present h) (free_runs_agree f g (area_of s.present r) (per_block s.present r) in_area need))
            (ap (extents_of s.present h) (contiguous_runs_agree f g (area_of s.present r) (per_block s.present r) in_area need))
            (λ no0 no1 no2. ap (extents_of s.present h) (shared_runs no0 no1 no2)) in
            (λ i. with_tag (shareable_same i) tag (picked i))
            ∙ ap (λ d. with_tag (region_spec c r).shareable tag (chosen d (is_free_now c (effects journal)) (tag_runs c (last_offer tag (effects journal))) h policy r bytes list)) kept.present_is

        -- ---- the room, and the draft

        many : extent_total (lists_in (view_of c h journal)) ≡ length (extents_in (view_of c h journal))
        many = sym (length-append (accepted_of c h (effects journal)) (flat_map (λ xs. xs) (offers_of h (effects journal)))
            ∙ ap (λ n. length (accepted_of c h (effects journal)) + n) (length-flat_map (λ (xs : List Extent). xs) (offers_of h (effects journal))))

        -- the row is that of the room
        pub row_room : chosen_rule s h policy r bytes list ≡ None → (xs : List Extent) → xs ≡ offered_now s h policy r bytes tag list →
            add_rule c (effects journal) (λ k. view_of c k journal) h policy r bytes tag list ≡ room_rule h (part_of s h).lists (view_of c h journal).log xs
        row_room choice_kept xs are_xs =
            ap (λ first. after_choice (after_tag (after_names first))) names_kept ∙ ap (λ first. after_choice (after_tag first)) (tag_same ∙ tag_kept) ∙ ap after_choice (choice_same ∙ choice_kept)
            ∙ ap (λ n. too_many_extents (n + length new) or too_many_tags (length (real_tags (extents_in (view_of c h journal) ++ new))) or log_full h (view_of c h journal).log (length new)) (sym many)
            ∙ ap (λ ys. room_rule h (lists_in (view_of c h journal)) (view_of c h journal).log ys) (sym (are_xs ∙ offered_same))
            ∙ ap (λ (l : Lists). room_rule h l (view_of c h journal).log xs) (sym (kept.parts h are.host).lists_are)

        pub drafts_offered : (xs : List Extent) → xs ≡ offered_now s h policy r bytes tag list → (d : Draft) → DraftOffers h xs d →
            Drafts c h (view_of c h journal) (add_outcome c (effects journal) (λ k. view_of c k journal) h policy r bytes tag list) d
        drafts_offered xs are_xs d is =
            subst (λ ys. Drafts c h (view_of c h journal) (record { payload = []; changes = Effect.Offer h ys ∷ []; tags = []; log_records = (LogId.Host h, records_of_extents h (view_after c h (view_of c h journal) (Effect.Offer h ys ∷ [])) EventKind.Add ys) ∷ [] }) d) (are_xs ∙ offered_same)
            (record {
              payload = is.payload;
              changes = is.changes_are;
              tags = is.tags_are;
              log_records = is.log_records (view_after c h (view_of c h journal) (Effect.Offer h xs ∷ []));
            })
