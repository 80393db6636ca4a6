-- Extents that may leave their host can be taken, and what is left then.
use Rattle.std.proofs.Common.{◌≡◌, ℕ, zero, suc, ◌<◌, ◌≤◌, Bool, true, false, not, ◌&&◌, ◌==◌, List, [], ◌∷◌, length, map, Option, None, Result, Ok, Err, refl, sym, ap, subst, ◌∙◌, arith, leb, ltb}
use Rattle.std.{proofs.lemmas.Bool.leb-false, proofs.lemmas.List.Sums.count_by-le-length, proofs.lemmas.List.Sums.length-filter, specs.List.AllByRecursion}
use Rattle.std.specs.Prelude.{All, IfOk, filter, if◌then◌else◌, nat_le}
use Rattle.event_records.specs.dcd_base.specs.{Words.◌or◌, Words.same_tag, declared.capacity.Extent.Extent, declared.capacity.Tag.Tag, declared.ids.HostId.HostId, declared.steps.LogId.LogId}
use Rattle.event_records.specs.declared.events.EventKind.{EventKind}
use Rattle.extent_list.specs.{ExtentLists.count_in, ExtentLists.marked, HostLists.Lists, Listing.incomplete, Listing.too_many_extents}
use Rattle.extent_list.specs.dcd_codes.specs.{Rules.◌breaks◌, Rules.ByRow, Rules.each_in, declared.refusals.Refusal.Refusal, declared.rules.Rule.Rule}
use Rattle.extent_list.specs.media_map.{proofs.RunLemmas.granular_from, specs.Places.is_granular, specs.Places.region_at, specs.region_config.specs.Configurations.Configuration}
use Rattle.extent_list.specs.media_map.specs.region_config.specs.{Granules.with_blocks, Soundness.IsSound}
use Rattle.journal_core.specs.{declared.outcome.Effect.Effect, Entries.effects, declared.entries.Entry.Entry}
use Rattle.release_core.{specs.Leaving.count_after, specs.Removals.by_tag_rule, specs.Removals.prescribed_removal_rule, specs.Removals.extents_of_tag, proofs.Members.neither}
use Rattle.device_state.specs.{StateAfter.IsStateAfter, StateAfter.IsReached, StateAfter.part_of, declared.state.State.State, device_rules.proofs.Going.some_going}
use Rattle.device_state.specs.device_rules.proofs.{Homes.made_granular, LeftStanding.going_of, LeftStanding.going_rule, ListSteps.each-change, ListSteps.each-map}
use Rattle.device_state.specs.device_rules.{proofs.OneLeave.loose, proofs.OneLeave.whole_blocks, proofs.Overlaps.not_broken, specs.Hosts.block_of}
use Rattle.device_state.specs.device_rules.specs.{Outcomes.log_full, Outcomes.records_of_extents, Pictures.Picture, Pictures.picture_of}
use Rattle.device_state.specs.device_rules.specs.ReleaseOutcomes.{is_cleaning, is_forced, policy_in, remove_rule, removals, removed}
use Rattle.device_state.specs.device_rules.specs.{Standing.IsMade, Standing.Stands, Views.View, Views.view_after, Views.view_of, Views.lists_in}
use Rattle.manager_commands.proofs.Reached.{hosts_kept, stands_by}
use Rattle.manager_commands.specs.InitiateDynamicCapacityRelease.{AreGranular, IsAskedFor, IsTakenByForce, flags_rule, meant_rule, removal_outcome}
use Rattle.device_commands.specs.{declared.draft.Draft.Draft, Drafts.Drafts}

each_at : (P : Extent → Type 0) (xs : List Extent) → AllByRecursion P xs → All P xs
each_at P [] each i d known = absurd (omega (arith, known))
each_at P (x ∷ xs) each zero d known = each.0
each_at P (x ∷ xs) each (suc i) d known = each_at P xs each.1 i d (omega (arith, known))

module _ (c : Configuration) (sound : IsSound c) (p : Picture) (stands : Stands c p) (h : HostId) (host : h < c.hosts) where
  abbrev Made : Extent → Type 0
  Made y = IsMade c (p.block (region_at c h y.start)) h (region_at c h y.start) y

  made_fits : (y : Extent) → Made y → is_granular c h y.start y.length ≡ true
  made_fits y m =
      let r : ℕ = region_at c h y.start in
      granular_from c h y.start y.length r refl (made_granular c h sound host (p.block r) r y (whole_blocks c sound p (loose c p stands) r m.known) m)

  -- accepted extents of a tag
  pub tagged_granular : (tag : Tag) → AreGranular c h (extents_of_tag tag (p.accepted h))
  tagged_granular tag =
      let ys : List Extent = filter (λ (x : Extent). same_tag x.tag tag) (p.accepted h) in
      each_at (λ y. is_granular c h y.start y.length ≡ true) ys
      (each-change Made (λ y. is_granular c h y.start y.length ≡ true) made_fits ys (some_going c sound p (loose c p stands) h host (λ x. same_tag x.tag tag)).made)

  -- the listed ones
  pub listed_granular : (offered r : ℕ) (list : List Extent) → prescribed_removal_rule (with_blocks c p.block) h (p.accepted h) offered r list true ≡ None →
      AreGranular c h (map (marked (p.accepted h)) list)
  listed_granular offered r list row =
      let w : Configuration = with_blocks c p.block in
      let acc : List Extent = p.accepted h in
      let p5 = neither _ (too_many_extents (count_after (p.accepted h) offered list)) row in
      let p4 = neither _ (each_in list (going_rule w h acc (λ x. r)) or incomplete w h acc list) p5.0 in
      let going = going_of c sound p stands h host (λ x. r) list p4.1 in
      each_at (λ y. is_granular c h y.start y.length ≡ true) (map (marked (p.accepted h)) list)
      (each-map Made (λ y. is_granular c h y.start y.length ≡ true) (marked (p.accepted h)) made_fits list going.made)

-- ---- how many are meant

pub few_tagged : (row : Option Rule) (tag : Tag) (accepted : List Extent) (result : Result (List Extent) Refusal) → length accepted ≤ 64 →
    ByRow row (λ leaving. leaving ≡ extents_of_tag tag accepted) result → IfOk result (λ leaving. length leaving ≤ 64)
few_tagged row tag accepted (Ok leaving) few is =
    omega (arith, few, ap length is.1, length-filter (λ (x : Extent). same_tag x.tag tag) accepted, count_by-le-length (λ (x : Extent). same_tag x.tag tag) accepted)
few_tagged row tag accepted (Err (Refusal.Broken rule)) few is = tt
few_tagged row tag accepted (Err Refusal.NoMemory) few is = tt

-- ---- what is meant is made of granules, where no rule is broken

pub meant_granular : (c : Configuration) (s : State) → IsReached c s → (h : HostId) → h < c.hosts → (flags r : ℕ) (tag : Tag) (list leaving : List Extent) → is_forced flags ≡ true →
    meant_rule s.present h (part_of s h).lists flags r tag list ≡ None → leaving ≡ removed (part_of s h).lists.accepted flags tag list →
    AreGranular c h leaving
meant_granular c s reached h host flags r tag list leaving forced row is =
    let past : List Effect = effects reached.journal in
    let p : Picture = picture_of c past in
    let l : Lists = (part_of s h).lists in
    let v : View = view_of c h reached.journal in
    let own : (part_of s h).lists ≡ lists_in (view_of c h reached.journal) = (reached.kept.parts h host).lists_are in
    let at_blocks : meant_rule (with_blocks c (λ k. block_of c k (effects reached.journal))) h (part_of s h).lists flags r tag list ≡ None =
    subst (λ d. meant_rule d h (part_of s h).lists flags r tag list ≡ None) reached.kept.present_is row in
    let at_lists : meant_rule (with_blocks c (λ k. block_of c k (effects reached.journal))) h (lists_in (view_of c h reached.journal)) flags r tag list ≡ None =
    subst (λ (m : Lists). meant_rule (with_blocks c (λ k. block_of c k (effects reached.journal))) h m flags r tag list ≡ None) own at_blocks in
    let are : leaving ≡ removed (view_of c h reached.journal).accepted flags tag list = is ∙ ap (λ (m : Lists). removed m.accepted flags tag list) own in
    subst (AreGranular c h) (sym are) (by (policy_in flags == 0) refl at_lists)
  where
    by : (b : Bool) → (policy_in flags == 0) ≡ b → meant_rule (with_blocks c (λ k. block_of c k (effects reached.journal))) h (lists_in (view_of c h reached.journal)) flags r tag list ≡ None →
        AreGranular c h (removed (view_of c h reached.journal).accepted flags tag list)
    by true e row =
        let v : View = view_of c h reached.journal in
        let which : removed (view_of c h reached.journal).accepted flags tag list ≡ extents_of_tag tag (view_of c h reached.journal).accepted = ap (λ b. if b then extents_of_tag tag (view_of c h reached.journal).accepted else map (marked (view_of c h reached.journal).accepted) list) e in
        subst (AreGranular c h) (sym which) (tagged_granular c reached.sound (picture_of c (effects reached.journal)) (stands_by c reached.sound reached.journal reached.legal) h host tag)
    by false e row =
        let v : View = view_of c h reached.journal in
        let which : removed (view_of c h reached.journal).accepted flags tag list ≡ map (marked (view_of c h reached.journal).accepted) list = ap (λ b. if b then extents_of_tag tag (view_of c h reached.journal).accepted else map (marked (view_of c h reached.journal).accepted) list) e in
        let listed : prescribed_removal_rule (with_blocks c (λ k. block_of c k (effects reached.journal))) h (view_of c h reached.journal).accepted (count_in (view_of c h reached.journal).offers) r list true ≡ None =
        sym (λ i. if e i then by_tag_rule (view_of c h reached.journal).accepted tag
        else prescribed_removal_rule (with_blocks c (λ k. block_of c k (effects reached.journal))) h (view_of c h reached.journal).accepted (count_in (view_of c h reached.journal).offers) r list (forced i)) ∙ row in
        subst (AreGranular c h) (sym which)
        (listed_granular c reached.sound (picture_of c (effects reached.journal)) (stands_by c reached.sound reached.journal reached.legal) h host (count_in v.offers) r list listed)

-- ---- the draft of a removal

-- by force
pub drafts_taken : (c : Configuration) (h : HostId) (v : View) (flags : ℕ) (leaving : List Extent) (d : Draft) → is_forced flags ≡ true →
    IsTakenByForce c h (is_cleaning flags) leaving d → Drafts c h v (removal_outcome c h v flags leaving) d
drafts_taken c h v flags leaving d forced is =
    let changes : (if is_forced flags then removals c h (is_cleaning flags) leaving else []) ≡ removals c h (is_cleaning flags) leaving = ap (λ b. if b then removals c h (is_cleaning flags) leaving else []) forced in
    let w : View = view_after c h v (if is_forced flags then removals c h (is_cleaning flags) leaving else []) in
    record {
      payload = is.payload;
      changes = is.changes_are ∙ sym changes;
      tags = is.tags_are;
      log_records = is.log_records w ∙ ap (λ b. (LogId.Host h, records_of_extents h w (if b then EventKind.Forced else EventKind.Release) leaving) ∷ []) (sym forced);
    }

-- by request
pub drafts_asked : (c : Configuration) (h : HostId) (v : View) (flags : ℕ) (leaving : List Extent) (d : Draft) → is_forced flags ≡ false →
    IsAskedFor h leaving d → Drafts c h v (removal_outcome c h v flags leaving) d
drafts_asked c h v flags leaving d asked is =
    let changes : (if is_forced flags then removals c h (is_cleaning flags) leaving else []) ≡ [] = ap (λ b. if b then removals c h (is_cleaning flags) leaving else []) asked in
    let w : View = view_after c h v (if is_forced flags then removals c h (is_cleaning flags) leaving else []) in
    record {
      payload = is.payload;
      changes = is.changes_are ∙ sym changes;
      tags = is.tags_are;
      log_records = is.log_records w ∙ ap (λ b. (LogId.Host h, records_of_extents h w (if b then EventKind.Forced else EventKind.Release) leaving) ∷ []) (sym asked);
    }

-- ---- the row

-- the host is one of the device
pub chosen_host : (hosts h flags : ℕ) → flags_rule hosts h flags ≡ None → h < hosts
chosen_host hosts h flags row =
    let p2 = neither (nat_le hosts h breaks Rule.NoSuchHost h or (is_cleaning flags && not (is_forced flags)) breaks Rule.UnsupportedFlag) (ltb 1 (policy_in flags) breaks Rule.NoSuchPolicy (policy_in flags)) row in
    let p1 = neither (nat_le hosts h breaks Rule.NoSuchHost h) ((is_cleaning flags && not (is_forced flags)) breaks Rule.UnsupportedFlag) p2.0 in
    leb-false hosts h (not_broken (leb hosts h) (Rule.NoSuchHost h) p1.0)

-- the rules of the host, the flags and the list are kept
pub removal_row : (c : Configuration) (s : State) (journal : List Entry) → IsStateAfter c journal s → (h flags r : ℕ) (tag : Tag) (list leaving : List Extent) → flags_rule s.present.hosts h flags ≡ None →
    meant_rule s.present h (part_of s h).lists flags r tag list ≡ None → leaving ≡ removed (part_of s h).lists.accepted flags tag list →
    (remove_rule c (λ k. view_of c k journal) h flags r tag list ≡ log_full h (view_of c h journal).log (length leaving)) × (leaving ≡ removed (view_of c h journal).accepted flags tag list)
removal_row c s journal kept h flags r tag list leaving choice row is =
    let hosts : s.present.hosts ≡ c.hosts = hosts_kept c journal s kept in
    let known : h < c.hosts = omega (arith, hosts, chosen_host s.present.hosts h flags choice) in
    let own : (part_of s h).lists ≡ lists_in (view_of c h journal) = (kept.parts h known).lists_are in
    let front : flags_rule c.hosts h flags ≡ None = ap (λ n. flags_rule n h flags) (sym hosts) ∙ choice in
    let back : meant_rule (with_blocks c (λ k. block_of c k (effects journal))) h (lists_in (view_of c h journal)) flags r tag list ≡ None =
    (λ i. meant_rule (sym kept.present_is i) h (sym own i) flags r tag list) ∙ row in
    let are : leaving ≡ removed (view_of c h journal).accepted flags tag list = is ∙ ap (λ (m : Lists). removed m.accepted flags tag list) own in (
      (λ i. front i or back i or log_full h (view_of c h journal).log (length (removed (view_of c h journal).accepted flags tag list)))
          ∙ ap (λ xs. log_full h (view_of c h journal).log (length xs)) (sym are),
      are,
    )
