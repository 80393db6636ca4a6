-- A removal by force of all extents of a host in a region is never refused, and leaves all others.
use Rattle.plan_rules.proofs.{Allowed.each_may_go, Answering.manager_does, ClosedTags.AreClosed, ClosedTags.leaves_are, Cutting.Outside, Cutting.cut_all_those, Cutting.outside_from}
use Rattle.plan_rules.proofs.Filters.{each_filtered, fewer, none_stay, others_stay}
use Rattle.plan_rules.proofs.Keeping.{leaves_held, leaves_host, others_kept, outcome_accepted, outcome_held, outcome_offers}
use Rattle.plan_rules.proofs.{KeptLogs.log_grows, KeptLogs.log_kept, KeptLogs.other_log, KeptLogs.records_more, PrivateTags.legal_is_closed, WholeTags.region_complete}
use Rattle.plan_rules.specs.{Kept.KeepsOthers, Kept.begins_in, LettingGo.EmptiesRegions}
use Rattle.std.proofs.Common.{◌≡◌, ℕ, ◌+◌, ◌<◌, ◌≤◌, Bool, true, false, not, List, [], ◌∷◌, ◌++◌, length, map, None, refl, ap, sym, subst, ◌∙◌, arith, leb, ltb, length-append}
use Rattle.std.proofs.lemmas.{Bool.eqb-true, Bool.le-ltb, Bool.lt-leb, Bool.ne_eqb, List.Concat.length-flat_map}
use Rattle.std.specs.{List.AllByRecursion, List.filter, List.list_all, Prelude.fold, Prelude.flat_map, Prelude.Option}
use Rattle.dcd_base.specs.{Limits.extents_listed, Limits.extents_supported, Words.◌or◌, Words.is_empty, declared.capacity.Extent.Extent, declared.ids.HostId.HostId, declared.steps.LogId.LogId}
use Rattle.dcd_codes.specs.{Rules.◌breaks◌, declared.rules.Rule.Rule}
use Rattle.event_log.specs.Logs.{Log, records_in, room_in}
use Rattle.event_records.specs.declared.events.{Event.Event, EventKind.EventKind}
use Rattle.isolation_laws.{proofs.RemovalViews.no_block as leaves_blocks, specs.device_rules.proofs.AllLeave.all_leave}
use Rattle.isolation_laws.specs.device_rules.proofs.{Going.all_behind, Going.going_ready, Going.some_going, Going.some_owned, Homes.regions_same, Leaving.map_passes, LegalLogs.legal_logs}
use Rattle.isolation_laws.specs.device_rules.proofs.{LegalSound.legal_is_sound, ListSteps.each-all, ListSteps.each-change, LogHistories.leaves_logs, LogOutcomes.length-log_records}
use Rattle.isolation_laws.specs.device_rules.proofs.OneLeave.{accepted_made, accepted_once, loose}
use Rattle.isolation_laws.specs.device_rules.specs.{Hosts.accepted_after, Hosts.accepted_of, Hosts.offers_after, Hosts.offers_of, Legal.Legal, Logs.log_of}
use Rattle.isolation_laws.specs.device_rules.specs.{Outcomes.Outcome, Outcomes.records_of_extents, Pictures.Picture, Pictures.picture_of}
use Rattle.isolation_laws.specs.device_rules.specs.{ReleaseOutcomes.removals, ReleaseOutcomes.remove_outcome, ReleaseOutcomes.remove_rule, Standing.IsMade, Standing.Sound, Standing.Stands}
use Rattle.isolation_laws.specs.device_rules.specs.Views.{view_after, view_of}
use Rattle.extent_list.specs.ExtentLists.{count_in, cut_all, marked, owner_of}
use Rattle.fm_payloads.specs.declared.requests.FmRequest.{FmRequest}
use Rattle.media_map.specs.Places.{region_at, run_of}
use Rattle.region_config.specs.{Configurations.Configuration, Granules.region_spec, Granules.with_blocks, Soundness.IsSound}
use Rattle.release_core.specs.{Leaving.count_after, Removals.prescribed_removal_rule}
use Rattle.journal_core.specs.{Entries.effects, declared.entries.Entry.Entry, declared.outcome.Effect.Effect}

pub unbroken : (b : Bool) (rule : Rule) → b ≡ false → (b breaks rule) ≡ None
unbroken b rule e = rw e refl

pub none_of_two : (a b : Option Rule) → a ≡ None → b ≡ None → (a or b) ≡ None
none_of_two a b e f = rw e f

some_there : (xs : List Extent) → 0 < length xs → is_empty xs ≡ false
some_there [] some = absurd (omega (arith, some))
some_there (x ∷ xs) some = refl

-- own extents keep their marks
own_marks : (owners xs : List Extent) → AllByRecursion (λ y. owner_of owners y ≡ y) xs → map (marked owners) xs ≡ xs
own_marks owners [] each = refl
own_marks owners (x ∷ xs) each = λ i. record { start = x.start; length = x.length; tag = (each.0 i).tag; sequence = (each.0 i).sequence } ∷ own_marks owners xs each.1 i

-- leaves of a host pass a test that passes them
pub leaves_pass : (p : Effect → Bool) (c : Configuration) (h : HostId) (xs : List Extent) → ((x : Extent) → p (Effect.Leave h (run_of c h x)) ≡ true) → list_all p (removals c h false xs) ≡ true
leaves_pass p c h xs each = ap (list_all p) (leaves_are c h xs) ∙ map_passes p (λ x. Effect.Leave h (run_of c h x)) each xs

pub over_leaves_offers : (c : Configuration) (h : HostId) (offers : List (List Extent)) (xs : List Extent) → fold (offers_after h) offers (removals c h false xs) ≡ offers
over_leaves_offers c h offers [] = refl
over_leaves_offers c h offers (x ∷ xs) = over_leaves_offers c h offers xs

module _ (c : Configuration) (sound : IsSound c) (p : Picture) (before : Sound c p) (h : HostId) (host : h < c.hosts) where
  s : Stands c p
  s = before.stands

  pub accepted_few : length (p.accepted h) + count_in (p.offers h) ≤ 64
  accepted_few = omega (arith, s.few h, length-append (p.accepted h) (flat_map (λ xs. xs) (p.offers h)), length-flat_map (λ (xs : List Extent). xs) (p.offers h))

  pub accepted_outside : Outside (p.accepted h)
  accepted_outside =
      let made = accepted_made c sound p (loose c p s) h host in
      outside_from (p.accepted h) (each-change (λ x. IsMade c (p.block (region_at c h x.start)) h (region_at c h x.start) x) (λ x. 0 < x.length) (λ x m. m.some) (p.accepted h) made)
      (all_behind c sound p (loose c p s) h host (p.accepted h) made (accepted_once c sound p (loose c p s) h))

  -- ---- those of a region

  module _ (r : ℕ) where
    pub marks_kept : map (marked (p.accepted h)) (filter (begins_in c h r) (p.accepted h)) ≡ filter (begins_in c h r) (p.accepted h)
    marks_kept = own_marks (p.accepted h) (filter (begins_in c h r) (p.accepted h)) (some_owned c sound p (loose c p s) h host (begins_in c h r))

    pub others_left : cut_all (filter (begins_in c h r) (p.accepted h)) (p.accepted h) ≡ filter (λ x. not (begins_in c h r x)) (p.accepted h)
    others_left = cut_all_those (begins_in c h r) (p.accepted h) accepted_outside

    pub removal_allowed : r < length c.regions → AreClosed c p → 0 < length (filter (begins_in c h r) (p.accepted h))
        → prescribed_removal_rule (with_blocks c p.block) h (p.accepted h) (count_in (p.offers h)) r (filter (begins_in c h r) (p.accepted h)) true ≡ None
    removal_allowed known closed some =
        let acc : List Extent = p.accepted h in
        let xs : List Extent = filter (begins_in c h r) (p.accepted h) in
        let in_region = each-change (λ x. Unit {0} × (begins_in c h r x ≡ true)) (λ x. r ≡ region_at c h x.start) (λ x e. sym (eqb-true (region_at c h x.start) r e.1)) xs
        (each_filtered (λ x. Unit {0}) (begins_in c h r) acc (each-all (λ x. Unit {0}) (λ x. tt) acc)) in
        let known_there : leb (length (with_blocks c p.block).regions) r ≡ false = lt-leb _ _ (omega (arith, known, regions_same c p.block)) in
        let listed : ltb extents_listed (length xs) ≡ false = le-ltb _ _ (omega (arith, fewer (begins_in c h r) acc, accepted_few)) in
        let left : ltb extents_supported (count_after acc (count_in (p.offers h)) xs) ≡ false = le-ltb _ _ (omega (arith, ap length others_left, fewer (λ x. not (begins_in c h r x)) acc, accepted_few)) in
        none_of_two _ _ (none_of_two _ _ (none_of_two _ _ (none_of_two _ _ (unbroken _ _ known_there) (unbroken _ _ (some_there xs some))) (unbroken _ _ listed))
        (none_of_two _ _ (each_may_go c p h (λ x. r) xs (some_going c sound p (loose c p s) h host (begins_in c h r)) in_region) (region_complete c sound p s h host r closed marks_kept))) (unbroken _ _ left)

    -- all of them leave
    pub region_left : fold (accepted_after c h) (p.accepted h) (removals c h false (filter (begins_in c h r) (p.accepted h))) ≡ filter (λ x. not (begins_in c h r x)) (p.accepted h)
    region_left =
        let ys : List Extent = filter (begins_in c h r) (p.accepted h) in
        let W : Extent → Type 0 = λ y. (region_spec c (region_at c h y.start)).shareable ≡ true in
        let same : (y : Extent) → (region_spec c (region_at c h y.start)).shareable ≡ true → (region_spec c (region_at c h y.start)).shareable ≡ true = λ y shared. shared in
        let going = some_going c sound p (loose c p s) h host (begins_in c h r) in
        let left = all_leave c sound h host (λ y. (owner_of (p.accepted h) y).tag) W same false ys p (loose c p s) (going_ready c sound p (loose c p s) h host W ys going going.whole same) in
        left.accepted ∙ others_left

pub empties_regions : (c : Configuration) → IsSound c → (journal : List Entry) → Legal c journal → EmptiesRegions c journal
empties_regions c sound journal legal h r bytes tag q host known told read =
    let past : List Effect = effects journal in
    let p : Picture = picture_of c past in
    let before = legal_is_sound c sound journal legal in
    let acc : List Extent = accepted_of c h (effects journal) in
    let xs : List Extent = filter (begins_in c h r) (accepted_of c h (effects journal)) in
    let o : Outcome = remove_outcome c (λ k. view_of c k journal) h 0x11 tag (filter (begins_in c h r) (accepted_of c h (effects journal))) in
    let marks = marks_kept c sound p before h host r in
    let log = log_of (LogId.Host h) past in
    let room : ltb (room_in (LogId.Host h) log) (length (map (marked acc) xs)) ≡ false = le-ltb _ _ (omega (arith, told.room, ap length marks)) in
    let row : remove_rule c (λ k. view_of c k journal) h 0x11 r tag (filter (begins_in c h r) (accepted_of c h (effects journal))) ≡ None =
    none_of_two _ _ (none_of_two _ _ (none_of_two _ _ (none_of_two _ _ (unbroken _ _ (lt-leb _ _ host)) refl) refl) (removal_allowed c sound p before h host r known (legal_is_closed c sound journal legal) told.some)) (unbroken _ _ room) in
    let does = manager_does c journal q (FmRequest.Remove h 0x11 r bytes tag xs) read row refl in
    let changed : o.changes ≡ removals c h false xs = ap (removals c h false) marks in
    let pass : (t : Effect → Bool) → ((x : Extent) → t (Effect.Leave h (run_of c h x)) ≡ true) → list_all t o.changes ≡ true = λ t each. ap (list_all t) changed ∙ leaves_pass t c h xs each in
    let after = outcome_accepted c h past o ∙ ap (fold (accepted_after c h) acc) changed ∙ region_left c sound p before h host r in
    let quiet = pass leaves_logs (λ x. refl) in
    let events : List Event = records_of_extents h (view_after c h (view_of c h journal) o.changes) EventKind.Forced (map (marked acc) xs) in
    let many_told : length events ≡ length xs = length-log_records h (view_after c h (view_of c h journal) o.changes) EventKind.Forced (map (marked acc) xs) ∙ ap length marks in
    let history = (legal_logs c journal legal).history (LogId.Host h) in
    record {
      succeeds = does.succeeds;
      keeps = subst (λ new. KeepsOthers c h (effects journal) (effects journal ++ new)) (sym does.effects)
          (others_kept c h past o (λ k apart. pass (leaves_host k) (λ x. ap not apart)) (λ kind. outcome_held c h kind past o (pass leaves_held (λ x. refl))) (pass leaves_blocks (λ x. refl)));
      accepted = subst (λ new. accepted_of c h (effects journal ++ new) ≡ filter (λ x. not (begins_in c h r x)) (accepted_of c h (effects journal))) (sym does.effects)
          after;
      there = subst (λ new. filter (begins_in c h r) (accepted_of c h (effects journal ++ new)) ≡ []) (sym does.effects) (ap (filter (begins_in c h r)) after ∙ none_stay (begins_in c h r) acc);
      elsewhere = λ k other. subst (λ new. filter (begins_in c h k) (accepted_of c h (effects journal ++ new)) ≡ filter (begins_in c h k) (accepted_of c h (effects journal))) (sym does.effects)
          (ap (filter (begins_in c h k)) after ∙ others_stay (begins_in c h r) (begins_in c h k) (λ x mine. ne_eqb (region_at c h x.start) k (λ e. other (sym e ∙ eqb-true (region_at c h x.start) r mine))) acc);
      offers = subst (λ new. offers_of h (effects journal ++ new) ≡ offers_of h (effects journal)) (sym does.effects)
          (outcome_offers c h past o ∙ ap (fold (offers_after h) (offers_of h past)) changed ∙ over_leaves_offers c h (offers_of h past) xs);
      told = subst (λ new. length (records_in (log_of (LogId.Host h) (effects journal ++ new))) ≡ length (records_in (log_of (LogId.Host h) (effects journal))) + length xs) (sym does.effects)
          (ap (λ (l : Log). length (records_in l)) (log_grows c past o quiet (LogId.Host h) events refl history.sound (omega (arith, many_told, told.room))) ∙ records_more log events history.sound ∙ ap (λ n. length (records_in log) + n) many_told);
      logs = λ k apart. subst (λ new. log_of (LogId.Host k) (effects journal ++ new) ≡ log_of (LogId.Host k) (effects journal)) (sym does.effects)
          (log_kept c past o quiet (LogId.Host h) events refl (LogId.Host k) (other_log h k apart));
    }
