-- A release that breaks no rule is its outcome.
use Rattle.std.proofs.Common.{◌≡◌, ℕ, ◌<◌, Bool, true, false, List, [], ◌∷◌, ◌++◌, map, None, refl, ap, sym, subst, ◌∙◌}
use Rattle.std.specs.Prelude.{All}
use Rattle.cci_codec.specs.dcd_base.specs.declared.{steps.LogId.LogId, ids.HostId.HostId, capacity.Extent.Extent}
use Rattle.event_records.specs.declared.events.EventKind.{EventKind}
use Rattle.extent_list.specs.{ExtentLists.count_in, ExtentLists.marked, ExtentLists.tags_of, HostLists.Lists, media_map.specs.region_config.specs.Configurations.Configuration}
use Rattle.extent_list.specs.media_map.specs.region_config.specs.{Granules.with_blocks, Soundness.IsSound}
use Rattle.journal_core.specs.declared.outcome.{Effect.Effect, HeldKind.HeldKind}
use Rattle.release_core.specs.Releases.{give_back_rule}
use Rattle.device_commands.specs.{Drafts.Drafts, ListDrafts.Tells, declared.draft.Draft.Draft, device_rules.proofs.Homes.run_same, device_rules.specs.Outcomes.records_of_extents}
use Rattle.device_commands.specs.device_rules.specs.ReleaseOutcomes.{give_back_changes, give_back_outcome, leaves, removals}
use Rattle.device_commands.specs.device_rules.specs.{ResponseOutcomes.hold, ResponseOutcomes.unhold, Views.View, Views.view_after, Views.lists_in}
use Rattle.host_commands.{specs.ReleaseDynamicCapacity.IsReleased, proofs.ListedExtents.Granular, proofs.ListedExtents.marked_granular, proofs.ListedExtents.release_granular}

-- the same runs leave
removals_same : (c : Configuration) (b : ℕ → ℕ) (h : HostId) (owners xs : List Extent) → removals (with_blocks c b) h false (map (marked owners) xs) ≡ leaves c h xs
removals_same c b h owners [] = refl
removals_same c b h owners (x ∷ xs) = λ i. Effect.Leave h (run_same c b h x i) ∷ removals_same c b h owners xs i

-- the whole list leaves
pub released_drafts : (c p : Configuration) (h : HostId) (v : View) (lists : Lists) (list leaving : List Extent) (more : Bool) (d : Draft)
    → p ≡ with_blocks c v.block → lists ≡ lists_in v → more ≡ false → leaving ≡ map (marked lists.accepted) (lists.releases ++ list)
    → IsReleased p h lists leaving d → Drafts c h v (give_back_outcome c h v more list) d
released_drafts c p h v lists list leaving more d present shows last marks tells =
    let marks_now : leaving ≡ map (marked v.accepted) (v.releases ++ list) = marks ∙ ap (λ (ls : Lists). map (marked ls.accepted) (ls.releases ++ list)) shows in
    let t = subst (λ (q : Configuration × (Lists × List Extent)). Tells (unhold h HeldKind.Releases q.1.0.releases ++ removals q.0 h false q.1.1) (tags_of q.1.1) LogId.Manager (λ u. records_of_extents h u EventKind.Released q.1.1) d)
    (λ i. (present i, (shows i, marks_now i))) tells in
    let same = ap (λ es. unhold h HeldKind.Releases v.releases ++ es) (removals_same c v.block h v.accepted (v.releases ++ list)) in
    subst (λ (m : Bool). Drafts c h v (give_back_outcome c h v m list) d) (sym last) (record {
      payload = t.payload;
      changes = t.changes_are ∙ same;
      tags = t.tags_are;
      log_records = t.log_records (view_after c h v (give_back_changes c h v.releases false list));
    })

-- more is to come
pub held_release : (c : Configuration) (h : HostId) (v : View) (list : List Extent) (more : Bool) (d : Draft)
    → more ≡ true → d ≡ record { payload = []; changes = hold h HeldKind.Releases list; tags = []; log_records = [] } → Drafts c h v (give_back_outcome c h v more list) d
held_release c h v list more d goes_on is =
    subst (λ (b : Bool). Drafts c h v (give_back_outcome c h v b list) d) (sym goes_on)
    (subst (λ (e : Draft). Drafts c h v (give_back_outcome c h v true list) e) (sym is) (record { payload = refl; changes = refl; tags = refl; log_records = refl }))

-- leaving extents are made of granules
pub leaving_granular : (p : Configuration) (h : HostId) (lists : Lists) (list leaving : List Extent) (more : Bool) → give_back_rule p h lists.accepted (count_in lists.offers) (lists.releases ++ list) more ≡ None
    → IsSound p → h < p.hosts → more ≡ false → leaving ≡ map (marked lists.accepted) (lists.releases ++ list) → All (Granular p h) leaving
leaving_granular p h lists list leaving more row sound host last marks =
    subst (λ xs. All (Granular p h) xs) (sym marks)
    (marked_granular p h lists.accepted (lists.releases ++ list)
    (release_granular p h sound host lists.accepted (count_in lists.offers) (lists.releases ++ list)
    (subst (λ m. give_back_rule p h lists.accepted (count_in lists.offers) (lists.releases ++ list) m ≡ None) last row)))
