-- Every reply has a payload of at most 2,048 bytes.
use Rattle.std.proofs.Common.{◌≡◌, ℕ, suc, mul-suc, ◌+◌, ◌*◌, ◌<◌, ◌≤◌, Bool, true, false, List, [], ◌∷◌, ◌++◌, length, map, flat_map, take, drop, get_or, append-nil, refl, sym, ap, subst, ◌∙◌, arith, leb, None}
use Rattle.std.proofs.lemmas.{Bool.leb-false, Grind.flat_map-append, List.length-append, List.length-drop, List.length-map, List.length-take}
use Rattle.std.proofs.lemmas.List.{Elements.All-drop, Elements.All-from_recursion, Elements.All-take, Elements.recursion_from_All, FromFn.length-range_with_len}
use Rattle.std.specs.{Int.w16, Int.w32, Int.w64, List.AllByRecursion, Prelude.◌==◌, Prelude.All, Prelude.if◌then◌else◌, Prelude.min, Prelude.nat_lt}
use Rattle.cci_codec.specs.dcd_base.specs.{Extents.extent_bytes, Extents.extent_fields, Layouts.Field, Layouts.Number, Layouts.Raw, Layouts.Reserved, Layouts.flag, Layouts.spell, Layouts.spelling}
use Rattle.cci_codec.specs.dcd_base.specs.declared.{capacity.Extent.Extent, capacity.Tag.Tag, ids.HostId.HostId, steps.LogId.LogId, tags.TagView.TagView}
use Rattle.event_log.specs.{LogStates.LogState, Logs.Log, Logs.empty_log, Logs.records_in}
use Rattle.event_records.specs.{Records.end_fields, Records.record_head, Records.record_fields, declared.events.Event.Event}
use Rattle.fm_payloads.specs.ManagerPayloads.{info_fields, info_head_fields, info_payload, lists_head, regions_head, tag_fields, tags_fields, tags_head_fields, tags_payload}
use Rattle.fm_payloads.specs.declared.requests.FmRequest.{FmRequest}
use Rattle.extent_list.specs.{HostLists.Lists, dcd_codes.specs.Rules.◌breaks◌, dcd_codes.specs.declared.rules.Rule.Rule, media_map.specs.region_config.proofs.Searches.or_parts}
use Rattle.extent_list.specs.media_map.specs.region_config.specs.{Configurations.Configuration, Granules.regions_of, declared.region_spec.RegionSpec.RegionSpec}
use Rattle.device_commands.specs.device_rules.{proofs.LogOutcomes.whole as broken_not, specs.Answers.host_outcome, specs.Answers.manager_outcome, specs.Answers.manager_rule}
use Rattle.device_commands.specs.device_rules.specs.{EventCommands.events_reply, EventCommands.log_named, Logs.log_of}
use Rattle.device_commands.specs.device_rules.specs.Settings.{host_counts, host_flags, lists_reply, manager_flags, page, past_end, region_seen, regions_reply}
use Rattle.device_commands.specs.device_rules.specs.{TagCommands.tag_seen, Tags.open_tags, Views.View, Views.generation_in, Views.view_of}
use Rattle.journal_core.specs.{declared.outcome.Effect.Effect, Entries.effects, declared.entries.Entry.Entry}
use Rattle.tag_refs.specs.declared.entries.TagEntry.{TagEntry}
use Rattle.host_payloads.specs.HostPayloads.{configuration_fields, configuration_head_fields, configuration_payload, counts_bytes, counts_fields, events_fields, events_head_fields, events_payload, extents_payload, page_fields, region_bytes, view_fields}
use Rattle.host_payloads.specs.declared.{requests.HostRequest.HostRequest, views.Counts.Counts, views.RegionView.RegionView}
use Rattle.control_core.specs.Fitting.{PartFits, RequestFits, TagFits}
use Rattle.manager_commands.specs.device_state.specs.{StateAfter.IsStateAfter, StateAfter.IsPart, declared.parts.HostPart.HostPart, declared.state.State.State}

-- ---- lengths of layouts

spelled_both : (fields more : List Field) → length (spelling (fields ++ more)) ≡ length (spelling fields) + length (spelling more)
spelled_both fields more = ap length (flat_map-append spell fields more) ∙ length-append (spelling fields) (spelling more)

-- parts of one length
spelled_each : {X : Type 0} (f : X → List Field) (n : ℕ) (xs : List X) → AllByRecursion (λ x. length (spelling (f x)) ≡ n) xs → length (spelling (flat_map f xs)) ≡ n * length xs
spelled_each f n [] each = omega arith
spelled_each f n (x ∷ xs) each =
    let rest : length (spelling (flat_map f xs)) ≡ n * length xs = spelled_each f n xs each.1 in
    spelled_both (f x) (flat_map f xs) ∙ (λ i. each.0 i + rest i) ∙ by n (length xs)
  where
    by : (n k : ℕ) → n + n * k ≡ n * suc k
    by n k = omega (arith, mul-suc n k)

page_few : {X : Type 0} (first count : ℕ) (xs : List X) → length (page first count xs) ≤ count
page_few first count xs = omega (arith, length-take count (drop first xs))

page_within : {X : Type 0} (first count : ℕ) (xs : List X) → length (page first count xs) ≤ length xs
page_within first count xs = omega (arith, length-take count (drop first xs), length-drop first xs)

page_all : {X : Type 0} (P : X → Type 0) (first count : ℕ) (xs : List X) → All P xs → All P (page first count xs)
page_all P first count xs all = All-take P count (drop first xs) (All-drop P first xs all)

-- an extent has forty bytes, a record 128, an open tag 24
raw : (bytes : List ℕ) → length (spelling (Raw 16 bytes ∷ [])) ≡ length bytes
raw bytes = ap length (append-nil bytes)

spelled_extent : (x : Extent) → TagFits x.tag → length (spelling (extent_fields x)) ≡ 40
spelled_extent x fits =
    let front = spelled_both (Number w64 x.start ∷ Number w64 x.length ∷ []) (Raw 16 x.tag.0 ∷ Number w16 x.sequence ∷ Reserved 6 ∷ []) in
    let back = spelled_both (Raw 16 x.tag.0 ∷ []) (Number w16 x.sequence ∷ Reserved 6 ∷ []) in
    front ∙ ap (λ n. 16 + n) (back ∙ (λ i. (raw x.tag.0 ∙ fits) i + 8))

spelled_record : (e : Event) → TagFits e.extent.tag → length (spelling (record_fields e)) ≡ 128
spelled_record e fits =
    let front = spelled_both (record_head e) (extent_fields e.extent ++ end_fields e) in
    let back = spelled_both (extent_fields e.extent) (end_fields e) in
    front ∙ ap (λ n. 56 + n) (back ∙ (λ i. spelled_extent e.extent fits i + 32))

spelled_tag : (v : TagView) → TagFits v.tag → length (spelling (tag_fields v)) ≡ 24
spelled_tag v fits =
    spelled_both (Raw 16 v.tag.0 ∷ []) (Number w16 v.holders ∷ Number w16 v.offered ∷ flag v.referenced ∷ Reserved 3 ∷ [])
    ∙ (λ i. (raw v.tag.0 ∙ fits) i + 8)

-- ---- the replies

short_events : (missed : ℕ) (more : Bool) (events : List Event) → length events ≤ 15 → All (λ (e : Event). TagFits e.extent.tag) events → length (events_payload missed more events) ≤ 2048
unfolding events_payload
short_events missed more events few fit =
    let front : length (spelling (events_fields missed more events)) ≡ 32 + length (spelling (flat_map record_fields events)) = spelled_both (events_head_fields missed more (length events)) (flat_map record_fields events) in
    let each : AllByRecursion (λ (e : Event). length (spelling (record_fields e)) ≡ 128) events = recursion_from_All (λ (e : Event). length (spelling (record_fields e)) ≡ 128) events (λ k d below. spelled_record (get_or events k d) (fit k d below)) in
    omega (arith, front, spelled_each record_fields 128 events each, few)

short_page : (total generation : ℕ) (xs : List Extent) → length xs ≤ 50 → All (λ (x : Extent). TagFits x.tag) xs → length (extents_payload total generation xs) ≤ 2048
unfolding extents_payload
short_page total generation xs few fit =
    let front : length (spelling (page_fields total generation xs)) ≡ 16 + length (spelling (flat_map extent_fields xs)) = spelled_both (Number w32 (length xs) ∷ Number w32 total ∷ Number w32 generation ∷ Reserved 4 ∷ []) (flat_map extent_fields xs) in
    let each : AllByRecursion (λ (x : Extent). length (spelling (extent_fields x)) ≡ 40) xs = recursion_from_All (λ (x : Extent). length (spelling (extent_fields x)) ≡ 40) xs (λ k d below. spelled_extent (get_or xs k d) (fit k d below)) in
    omega (arith, front, spelled_each extent_fields 40 xs each, few)

spelled_views : (views : List RegionView) → length (spelling (flat_map view_fields views)) ≡ 40 * length views
spelled_views views = spelled_each view_fields 40 views (all views)
  where
    all : (views : List RegionView) → AllByRecursion (λ (v : RegionView). length (spelling (view_fields v)) ≡ 40) views
    all [] = tt
    all (v ∷ views) = (refl, all views)

short_configuration : (total : ℕ) (views : List RegionView) (counts : Counts) → length views ≤ 8 → length (configuration_payload total views counts) ≤ 2048
unfolding configuration_payload
short_configuration total views counts few =
    let front : length (spelling (configuration_fields total views counts)) ≡ 8 + length (spelling (flat_map view_fields views ++ counts_fields counts)) = spelled_both (configuration_head_fields total (length views)) (flat_map view_fields views ++ counts_fields counts) in
    let back : length (spelling (flat_map view_fields views ++ counts_fields counts)) ≡ length (spelling (flat_map view_fields views)) + 16 = spelled_both (flat_map view_fields views) (counts_fields counts) in
    omega (arith, front, back, spelled_views views, few)

-- the oldest records of a log
pub short_log : (number : ℕ) (own : Log) → All (λ (e : Event). TagFits e.extent.tag) (records_in own) → length (events_reply (log_named number own)) ≤ 2048
short_log number own fit = by (number == 4)
  where
    it : (log : Log) → All (λ (e : Event). TagFits e.extent.tag) (records_in log) → length (events_reply log) ≤ 2048
    it log fit = short_events log.missed (nat_lt 15 (length (records_in log))) (take 15 (records_in log)) (omega (arith, length-take 15 (records_in log))) (All-take (λ (e : Event). TagFits e.extent.tag) 15 (records_in log) fit)

    by : (b : Bool) → length (events_reply (if b then own else empty_log)) ≤ 2048
    by true = it own fit
    by false = it empty_log (λ k d below. absurd (omega (arith, below)))

-- ---- a host's commands

pub short_host : (c : Configuration) (h : HostId) (v : View) (part : HostPart) → IsPart h v part → PartFits part → length c.regions ≤ 8 → (q : HostRequest) → length (host_outcome c h v q).payload ≤ 2048
short_host c h v part is fits few (HostRequest.GetEvents log) =
    short_log log v.log (subst (λ (s : LogState). All (λ (e : Event). TagFits e.extent.tag) s.records) is.log_is.is fits.records)
short_host c h v part is fits few (HostRequest.ClearEvents log all handles) = omega arith
short_host c h v part is fits few (HostRequest.GetConfiguration count first) =
    let rs : List ℕ = page first count (regions_of c) in
    short_configuration (length c.regions) (map (region_seen c h v host_flags) (page first count (regions_of c))) (host_counts v)
    (omega (arith, few, length-map (page first count (regions_of c)) (region_seen c h v host_flags), page_within first count (regions_of c), length-range_with_len 0 (length c.regions)))
short_host c h v part is fits few (HostRequest.GetExtents count first) =
    let fit = subst (λ (l : Lists). All (λ (x : Extent). TagFits x.tag) l.accepted) is.lists_are fits.accepted in
    short_page (length v.accepted) _ (page first (min count 50) v.accepted) (omega (arith, page_few first (min count 50) v.accepted)) (page_all (λ (x : Extent). TagFits x.tag) first (min count 50) v.accepted fit)
short_host c h v part is fits few (HostRequest.AddResponse more xs) = omega arith
short_host c h v part is fits few (HostRequest.GiveBack more xs) = omega arith

-- ---- the manager's commands

spelled_sizes : (sizes : List ℕ) → length (spelling (map (Number w64) sizes)) ≡ 8 * length sizes
spelled_sizes [] = omega arith
spelled_sizes (n ∷ sizes) =
    let rest : length (spelling (map (Number w64) sizes)) ≡ 8 * length sizes = spelled_sizes sizes in
    let both : length (spelling ((Number w64 n ∷ []) ++ map (Number w64) sizes)) ≡ 8 + length (spelling (map (Number w64) sizes)) = spelled_both (Number w64 n ∷ []) (map (Number w64) sizes) in
    omega (arith, both, rest)

short_info : (hosts granules free dirty : ℕ) (sizes : List ℕ) → length sizes ≤ 8 → length (info_payload hosts granules free dirty sizes) ≤ 2048
unfolding info_payload
short_info hosts granules free dirty sizes few =
    let front : length (spelling (info_fields hosts granules free dirty sizes)) ≡ 24 + length (spelling (map (Number w64) sizes)) = spelled_both (info_head_fields hosts (length sizes) granules free dirty) (map (Number w64) sizes) in
    omega (arith, front, spelled_sizes sizes, few)

-- pieces of one length
each_long : {X : Type 0} (f : X → List ℕ) (n : ℕ) (xs : List X) → AllByRecursion (λ x. length (f x) ≡ n) xs → length (flat_map f xs) ≡ n * length xs
each_long f n [] each = omega arith
each_long f n (x ∷ xs) each =
    let rest : length (flat_map f xs) ≡ n * length xs = each_long f n xs each.1 in
    length-append (f x) (flat_map f xs) ∙ (λ i. each.0 i + rest i) ∙ by n (length xs)
  where
    by : (n k : ℕ) → n + n * k ≡ n * suc k
    by n k = omega (arith, mul-suc n k)

long_region : (v : RegionView) → length (region_bytes v) ≡ 40
unfolding region_bytes
long_region v = refl

long_counts : (n : Counts) → length (counts_bytes n) ≡ 16
unfolding counts_bytes
long_counts n = refl

long_regions_head : (host total returned : ℕ) → length (regions_head host total returned) ≡ 8
unfolding regions_head
long_regions_head host total returned = refl

long_lists_head : (host first returned total generation : ℕ) → length (lists_head host first returned total generation) ≡ 24
unfolding lists_head
long_lists_head host first returned total generation = refl

long_extent : (x : Extent) → TagFits x.tag → length (extent_bytes x) ≡ 40
unfolding extent_bytes
long_extent x fits = spelled_extent x fits

long_views : (c : Configuration) (h : HostId) (v : View) (rs : List ℕ) → AllByRecursion (λ r. length (region_bytes (region_seen c h v manager_flags r)) ≡ 40) rs
long_views c h v [] = tt
long_views c h v (r ∷ rs) = (long_region (region_seen c h v manager_flags r), long_views c h v rs)

short_regions : (c : Configuration) (views : HostId → View) (h count first : ℕ) → length c.regions ≤ 8 → length (regions_reply c views h count first) ≤ 2048
short_regions c views h count first few =
    let rs : List ℕ = page first count (regions_of c) in
    let f : ℕ → List ℕ = λ r. region_bytes (region_seen c h (views h) manager_flags r) in
    let middle : length (flat_map f (page first count (regions_of c))) ≡ 40 * length (page first count (regions_of c)) = each_long f 40 rs (long_views c h (views h) rs) in
    omega (
      arith,
      middle,
      few,
      page_within first count (regions_of c),
      length-range_with_len 0 (length c.regions),
      long_regions_head h (length c.regions) (length rs),
      long_counts (host_counts (views h)),
      length-append (regions_head h (length c.regions) (length rs) ++ flat_map f rs) (counts_bytes (host_counts (views h))),
      length-append (regions_head h (length c.regions) (length rs)) (flat_map f rs),
    )

short_lists : (views : HostId → View) (host count first : ℕ) → All (λ (x : Extent). TagFits x.tag) (views host).accepted → length (lists_reply views host count first) ≤ 2048
short_lists views host count first fit =
    let v : View = views host in
    let xs : List Extent = page first (min count 50) v.accepted in
    let fits : All (λ (x : Extent). TagFits x.tag) (page first (min count 50) (views host).accepted) = page_all (λ (x : Extent). TagFits x.tag) first (min count 50) v.accepted fit in
    let each : AllByRecursion (λ (x : Extent). length (extent_bytes x) ≡ 40) (page first (min count 50) (views host).accepted) =
    recursion_from_All (λ (x : Extent). length (extent_bytes x) ≡ 40) xs (λ k d below. long_extent (get_or xs k d) (fits k d below)) in
    omega (
      arith,
      each_long extent_bytes 40 xs each,
      page_few first (min count 50) v.accepted,
      long_lists_head host first (length xs) (length v.accepted) (generation_in v),
      length-append (lists_head host first (length xs) (length v.accepted) (generation_in v)) (flat_map extent_bytes xs),
    )

tags_seen : (c : Configuration) (past : List Effect) (tags : List Tag) → AllByRecursion TagFits tags → AllByRecursion (λ (v : TagView). length (spelling (tag_fields v)) ≡ 24) (map (tag_seen c past) tags)
tags_seen c past [] fit = tt
tags_seen c past (t ∷ tags) fit = (spelled_tag (tag_seen c past t) fit.0, tags_seen c past tags fit.1)

short_tags : (first total : ℕ) (views : List TagView) → length views ≤ 84 → AllByRecursion (λ (v : TagView). length (spelling (tag_fields v)) ≡ 24) views → length (tags_payload first total views) ≤ 2048
unfolding tags_payload
short_tags first total views few each =
    let front : length (spelling (tags_fields first total views)) ≡ 16 + length (spelling (flat_map tag_fields views)) = spelled_both (tags_head_fields first (length views) total) (flat_map tag_fields views) in
    omega (arith, front, spelled_each tag_fields 24 views each, few)

-- the tags of entries that fit
entry_tags : (entries : List TagEntry) → AllByRecursion (λ (e : TagEntry). TagFits e.tag) entries → AllByRecursion TagFits (map (λ (e : TagEntry). e.tag) entries)
entry_tags [] fit = tt
entry_tags (e ∷ entries) fit = (fit.0, entry_tags entries fit.1)

pub short_manager : (c : Configuration) (before : List Entry) (s : State) → IsStateAfter c before s → length c.regions ≤ 8 → (q : FmRequest) → RequestFits s q →
    manager_rule c (effects before) (λ h. view_of c h before) q ≡ None → length (manager_outcome c (effects before) (λ h. view_of c h before) q).payload ≤ 2048
short_manager c before s kept few (FmRequest.GetEvents log) fits row =
    short_log log (log_of LogId.Manager (effects before)) (subst (λ (l : LogState). All (λ (e : Event). TagFits e.extent.tag) l.records) kept.manager_log.is fits)
short_manager c before s kept few (FmRequest.ClearEvents log all handles) fits row = omega arith
short_manager c before s kept few FmRequest.GetInfo fits row = short_info c.hosts _ _ _ (map (λ (spec : RegionSpec). spec.sizes) c.regions) (omega (arith, few, length-map c.regions (λ (spec : RegionSpec). spec.sizes)))
short_manager c before s kept few (FmRequest.GetRegions host count first) fits row = short_regions c (λ h. view_of c h before) host count first few
short_manager c before s kept few (FmRequest.SetRegion r sanitize size) fits row = omega arith
short_manager c before s kept few (FmRequest.GetExtentLists host count first) fits row =
    let known : host < c.hosts = leb-false c.hosts host (broken_not (leb c.hosts host) (Rule.NoSuchHost host) (or_parts (leb c.hosts host breaks Rule.NoSuchHost host) (past_end first (length (view_of c host before).accepted)) row).0) in
    let within : host < length s.hosts.items = subst (λ n. host < n) (sym kept.host_count) known in
    short_lists (λ h. view_of c h before) host count first
    (subst (λ (l : Lists). All (λ (x : Extent). TagFits x.tag) l.accepted) (kept.parts host known).lists_are (fits within))
short_manager c before s kept few (FmRequest.Add host policy r bytes tag list) fits row = omega arith
short_manager c before s kept few (FmRequest.Remove host flags r bytes tag list) fits row = omega arith
short_manager c before s kept few (FmRequest.AddReference tag) fits row = omega arith
short_manager c before s kept few (FmRequest.RemoveReference tag) fits row = omega arith
short_manager c before s kept few (FmRequest.ListTags first count) fits row =
    let tags : List Tag = open_tags c (effects before) in
    let each : AllByRecursion TagFits (open_tags c (effects before)) = subst (AllByRecursion TagFits) kept.tags_are.tags_are (entry_tags s.tags.entries (recursion_from_All (λ (e : TagEntry). TagFits e.tag) s.tags.entries fits)) in
    let shown : AllByRecursion TagFits (page first (min count 84) (open_tags c (effects before))) = recursion_from_All TagFits (page first (min count 84) tags) (page_all TagFits first (min count 84) tags (All-from_recursion TagFits tags each)) in
    short_tags first (length tags) (map (tag_seen c (effects before)) (page first (min count 84) tags))
    (omega (arith, length-map (page first (min count 84) tags) (tag_seen c (effects before)), page_few first (min count 84) tags))
    (tags_seen c (effects before) (page first (min count 84) tags) shown)
