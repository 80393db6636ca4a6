-- What the manager takes from a host by force can be taken: it lies in the accepted extents, and no two of it share an address.
use Rattle.std.proofs.Common.{◌≡◌, ℕ, ◌+◌, ◌^◌, ◌<◌, ◌≤◌, Bool, true, false, List, [], ◌∷◌, length, map, Option, Some, None, Ok, Err, inl, inr, refl, sym, ap, subst, ◌∙◌, arith, ltb}
use Rattle.std.proofs.lemmas.Bool.{and_from, cases_eq, cases_lt, eq-eqb, false≢true, lt-ltb}
use Rattle.std.specs.{List.AllByRecursion, List.list_all, Prelude.filter_map, Prelude.if◌then◌else◌, Prelude.◌==◌, declared.result.Result.Result}
use Rattle.dcd_base.specs.{Words.◌or◌, Words.same_tag, declared.capacity.Extent.Extent, declared.capacity.Tag.Tag, declared.faults.PayloadFault.PayloadFault as ManagerFault}
use Rattle.dcd_base.specs.declared.{ids.HostId.HostId, steps.Actor.Actor, steps.LogId.LogId}
use Rattle.dcd_codes.specs.{Rules.each_in, declared.rules.Rule.Rule}
use Rattle.event_log.specs.Logs.{room_in}
use Rattle.event_records.specs.declared.events.EventKind.{EventKind}
use Rattle.extent_list.specs.{ExtentLists.count_in, ExtentLists.is_in, ExtentLists.marked, ExtentLists.overlaps, Listing.incomplete, Listing.too_many_extents}
use Rattle.fm_payloads.specs.{ManagerPayloads.manager_request, declared.requests.FmRequest.FmRequest}
use Rattle.journal_core.specs.{Entries.effects, declared.acts.Act.Act, declared.entries.Entry.Entry, declared.outcome.Effect.Effect}
use Rattle.media_map.specs.Places.{region_at}
use Rattle.region_config.{proofs.Faultless.region_ends, specs.Configurations.Configuration, specs.Granules.with_blocks, specs.Soundness.IsSound}
use Rattle.release_core.specs.{Leaving.count_after, Removals.by_tag_rule, Removals.prescribed_removal_rule, Removals.extents_of_tag}
use Rattle.device_plain.specs.device_rules.proofs.{AllLeave.Behind, EffectKinds.clear_passes, EffectKinds.reference_passes, EffectKinds.removals_pass, EffectKinds.zeroes_pass}
use Rattle.device_plain.specs.device_rules.proofs.{Going.IsGoing, Going.some_going, LeftStanding.going_of, LeftStanding.going_rule, ListSteps.each-both, ListSteps.each-change, ListSteps.each-map}
use Rattle.device_plain.specs.device_rules.proofs.{LogHistories.leaves_logs, LogOutcomes.last_of, LogOutcomes.room_for, LogSteps.IsSound as IsSoundLog, OneLeave.loose}
use Rattle.device_plain.specs.device_rules.proofs.{ViewOthers.add-leaves, ViewOthers.answer-leaves, ViewOthers.remove-leaves, ViewsLeft.leaves_view, ViewsLeft.outcome-leaves}
use Rattle.device_plain.specs.device_rules.specs.Adding.{add_outcome, add_rule, offered}
use Rattle.device_plain.specs.device_rules.specs.Answers.{effects_with, manager_outcome, manager_result, manager_rule, scrubbed, unless, zeroes}
use Rattle.device_plain.specs.device_rules.specs.{EventCommands.clear_outcome, Legal.Meets, Legal.right_answer, Logs.log_of, Outcomes.Outcome, Outcomes.effects_of, Outcomes.log_full}
use Rattle.device_plain.specs.device_rules.specs.Pictures.{Picture, picture_of}
use Rattle.device_plain.specs.device_rules.specs.ReleaseOutcomes.{is_cleaning, is_forced, policy_in, remove_outcome, remove_rule, removed, removals}
use Rattle.device_plain.specs.device_rules.specs.{Settings.set_outcome, Standing.IsMade, Standing.Sound, TagCommands.add_reference_outcome, TagCommands.remove_reference_outcome, Tags.is_referenced}
use Rattle.device_plain.specs.{device_rules.specs.Views.View, device_rules.specs.Views.view_after, device_rules.specs.Views.view_of, isolation_laws.proofs.OwnRecords.told_log_records}
use Rattle.device_plain.specs.isolation_laws.proofs.{RecordItems.blocks_outcome, RecordItems.told_passing, RemovalViews.removing}
use Rattle.device_plain.specs.isolation_laws.specs.{Solo.block_item, Solo.acts_for, Solo.extents_recorded, declared.items.Item.Item}
use Rattle.selection.proofs.Prescribed.{neither}
use Rattle.host_driver.proofs.{Brought.CanGo, Exchanging.Beside, Exchanging.stays_in, Midway.seen_in, Passing.EachLies, Passing.cut_by}

-- ---- extents that may leave

-- what is apart from the others lies in what they leave
pub is_beside_of : (x y : Extent) → overlaps y x ≡ false → Beside x.start x.length y.start y.length
is_beside_of x y apart = elim (cases_lt y.start (x.start + x.length)) [
  | inr above ↦ inl above
  | inl first ↦ elim (cases_lt x.start (y.start + y.length)) [
    | inr below ↦ inr below
    | inl second ↦ absurd (false≢true (sym apart ∙ and_from (ltb y.start (x.start + x.length)) (ltb x.start (y.start + y.length)) (lt-ltb _ _ first) (lt-ltb _ _ second)))
  ]
]

lies_all : (xs accepted : List Extent) → AllByRecursion (λ (x : Extent). 0 < x.length) xs → AllByRecursion (λ x. is_in accepted x ≡ true) xs → Behind xs → EachLies accepted xs
lies_all [] accepted some inside behind = tt
lies_all (x ∷ xs) accepted (s, some) (first, inside) (apart, behind) = (
  first,
  lies_all xs (cut_by accepted x) some
      (each-both (λ (y : Extent). 0 < y.length) (λ y. (is_in accepted y ≡ true) × (overlaps y x ≡ false)) (λ y. is_in (cut_by accepted x) y ≡ true)
      (λ y more both. stays_in x.start x.length y.start y.length accepted more (is_beside_of x y both.1) both.0) xs some
      (each-both (λ y. is_in accepted y ≡ true) (λ y. overlaps y x ≡ false) (λ y. (is_in accepted y ≡ true) × (overlaps y x ≡ false)) (λ y a b. (a, b)) xs inside apart))
      behind,
)

module _ (c : Configuration) (sound : IsSound c) (p : Picture) (h : HostId) where
  pub going_can : (v : View) → v.accepted ≡ p.accepted h → (known : h < c.hosts) → (ys : List Extent) → IsGoing c p h ys → CanGo (seen_in v) ys
  going_can v same known ys g =
      let some : AllByRecursion (λ (y : Extent). 0 < y.length) ys =
      each-change (λ y. IsMade c (p.block (region_at c h y.start)) h (region_at c h y.start) y) (λ (y : Extent). 0 < y.length) (λ y m. m.some) ys g.made in
      let inside = subst (λ xs. AllByRecursion (λ x. is_in xs x ≡ true) ys) (sym same) g.inside in
      record {
        some = some;
        ends = each-change (λ y. IsMade c (p.block (region_at c h y.start)) h (region_at c h y.start) y) (λ (y : Extent). y.start + y.length < 2 ^ 64)
            (λ y m. let below = region_ends c h (region_at c h y.start) sound known m.known in omega (arith, below, m.within)) ys g.made;
        inside = inside;
        lies = lies_all ys v.accepted some inside g.behind;
      }

-- marks change no addresses
marked_can : (v : View) (owners ys : List Extent) → CanGo (seen_in v) ys → CanGo (seen_in v) (map (marked owners) ys)
marked_can v owners ys can = record {
  some = each-map (λ (x : Extent). 0 < x.length) (λ (x : Extent). 0 < x.length) (marked owners) (λ x some. some) ys can.some;
  ends = each-map (λ (x : Extent). x.start + x.length < 2 ^ 64) (λ (x : Extent). x.start + x.length < 2 ^ 64) (marked owners) (λ x ends. ends) ys can.ends;
  inside = each-map (λ x. is_in v.accepted x ≡ true) (λ x. is_in v.accepted x ≡ true) (marked owners) (λ x inside. inside) ys can.inside;
  lies = lies_marked owners ys v.accepted can.lies;
}
  where
    lies_marked : (owners ys table : List Extent) → EachLies table ys → EachLies table (map (marked owners) ys)
    lies_marked owners [] table lies = tt
    lies_marked owners (y ∷ ys) table (first, lies) = (first, lies_marked owners ys (cut_by table y) lies)

cons_nil : {X : Type 0} (x : X) (xs : List X) → x ∷ xs ≡ [] → ⊥
cons_nil x xs e = omega (arith, ap length e)

-- ---- what a step tells a host that is taken from it

module _ (c : Configuration) (sound : IsSound c) (before : List Entry) (now : Sound c (picture_of c (effects before))) (h : HostId) (known : h < c.hosts)
    (history : IsSoundLog (log_of (LogId.Host h) (effects before))) where
  abbrev v : View
  v = view_of c h before

  -- What these effects tell the host that is taken from it can be taken, where they set no block size.
  abbrev TakesWell : List Effect → Type 0
  TakesWell new = filter_map block_item new ≡ [] → CanGo (seen_in (view_of c h before)) (extents_recorded h EventKind.Forced new)

  none_taken : (new : List Effect) → extents_recorded h EventKind.Forced new ≡ [] → TakesWell new
  none_taken new none = λ blocks. subst (CanGo (seen_in (view_of c h before))) (sym none) (record { some = tt; ends = tt; inside = tt; lies = tt })

  passed : (new : List Effect) → list_all (leaves_view h) new ≡ true → TakesWell new
  passed new all = none_taken new (told_passing h EventKind.Forced new all)

  -- ---- 5604h

  add_own : (policy r bytes : ℕ) (tag : Tag) (list : List Extent) → add_rule c (effects before) (λ k. view_of c k before) h policy r bytes tag list ≡ None →
      TakesWell (effects_of c (effects before) (add_outcome c (effects before) (λ k. view_of c k before) h policy r bytes tag list))
  add_own policy r bytes tag list row =
      let new : List Extent = offered c (effects before) h policy r bytes tag list in
      let o : Outcome = add_outcome c (effects before) (λ k. view_of c k before) h policy r bytes tag list in
      none_taken (effects_of c (effects before) o)
      (told_log_records c h v (effects before) refl history (view_after c h v (Effect.Offer h new ∷ [])) EventKind.Add new (room_for h v.log (length new) (last_of _ _ row)) o refl refl EventKind.Forced)

  add_case : (k policy r bytes : ℕ) (tag : Tag) (list : List Extent) → add_rule c (effects before) (λ k. view_of c k before) k policy r bytes tag list ≡ None →
      TakesWell (effects_of c (effects before) (add_outcome c (effects before) (λ k. view_of c k before) k policy r bytes tag list))
  add_case k policy r bytes tag list row = elim (cases_eq k h) [
    | inl same ↦ subst (λ k. TakesWell (effects_of c (effects before) (add_outcome c (effects before) (λ k. view_of c k before) k policy r bytes tag list))) (sym same)
        (add_own policy r bytes tag list (ap (λ k. add_rule c (effects before) (λ k. view_of c k before) k policy r bytes tag list) (sym same) ∙ row))
    | inr other ↦ passed (effects_of c (effects before) (add_outcome c (effects before) (λ k. view_of c k before) k policy r bytes tag list))
        (add-leaves c k h other (effects before) (λ k. view_of c k before) policy r bytes tag list)
  ]

  -- ---- 5605h

  by_force : (forced clean : Bool) (all : List Extent) → (forced ≡ true → CanGo (seen_in (view_of c h before)) all) → length all ≤ room_in (LogId.Host h) (log_of (LogId.Host h) (effects before)) →
      TakesWell (effects_of c (effects before) (removing c h (view_of c h before) forced clean all))
  by_force true clean all can room = λ blocks. subst (CanGo (seen_in (view_of c h before)))
      (sym (told_log_records c h v (effects before) refl history (view_after c h v (removals c h clean all)) EventKind.Forced all room (removing c h v true clean all) refl
      (removals_pass leaves_logs h (λ run. refl) (λ run. refl) c true clean all) EventKind.Forced)) (can refl)
  by_force false clean all can room =
      none_taken (effects_of c (effects before) (removing c h v false clean all))
      (told_log_records c h v (effects before) refl history (view_after c h v []) EventKind.Release all room (removing c h v false clean all) refl refl EventKind.Forced)

  -- by tag, or listed
  removed_can : (by_tag : Bool) (r : ℕ) (tag : Tag) (list : List Extent)
      → (if by_tag then by_tag_rule v.accepted tag else prescribed_removal_rule (with_blocks c v.block) h v.accepted (count_in v.offers) r list true) ≡ None
      → CanGo (seen_in (view_of c h before)) (if by_tag then extents_of_tag tag v.accepted else map (marked v.accepted) list)
  removed_can true r tag list row =
      let p : Picture = picture_of c (effects before) in
      going_can c sound p h v refl known (extents_of_tag tag v.accepted) (some_going c sound p (loose c p now.stands) h known (λ x. same_tag x.tag tag))
  removed_can false r tag list row =
      let p : Picture = picture_of c (effects before) in
      let w : Configuration = with_blocks c v.block in
      let front = neither _ (too_many_extents (count_after v.accepted (count_in v.offers) list)) row in
      let rules = neither _ (each_in list (going_rule w h v.accepted (λ x. r)) or incomplete w h v.accepted list) front.0 in
      marked_can v v.accepted list (going_can c sound p h v refl known list (going_of c sound p now.stands h known (λ x. r) list rules.1))

  remove_own : (flags r : ℕ) (tag : Tag) (list : List Extent) → remove_rule c (λ k. view_of c k before) h flags r tag list ≡ None →
      TakesWell (effects_of c (effects before) (remove_outcome c (λ k. view_of c k before) h flags tag list))
  remove_own flags r tag list row =
      let all : List Extent = removed v.accepted flags tag list in
      let by_row : Bool → Option Rule = λ forced. if policy_in flags == 0 then by_tag_rule v.accepted tag else prescribed_removal_rule (with_blocks c v.block) h v.accepted (count_in v.offers) r list forced in
      let front = neither _ (log_full h v.log (length all)) row in
      let rules = neither _ (by_row (is_forced flags)) front.0 in
      by_force (is_forced flags) (is_cleaning flags) all (λ is. removed_can (policy_in flags == 0) r tag list (ap by_row (sym is) ∙ rules.1)) (room_for h v.log (length all) (last_of _ _ row))

  remove_case : (k flags r : ℕ) (tag : Tag) (list : List Extent) → remove_rule c (λ k. view_of c k before) k flags r tag list ≡ None →
      TakesWell (effects_of c (effects before) (remove_outcome c (λ k. view_of c k before) k flags tag list))
  remove_case k flags r tag list row = elim (cases_eq k h) [
    | inl same ↦ subst (λ k. TakesWell (effects_of c (effects before) (remove_outcome c (λ k. view_of c k before) k flags tag list))) (sym same)
        (remove_own flags r tag list (ap (λ k. remove_rule c (λ k. view_of c k before) k flags r tag list) (sym same) ∙ row))
    | inr other ↦ passed (effects_of c (effects before) (remove_outcome c (λ k. view_of c k before) k flags tag list))
        (remove-leaves c k h other (effects before) (λ k. view_of c k before) flags tag list)
  ]

  -- ---- all of them

  manager_case : (q : FmRequest) → manager_rule c (effects before) (λ k. view_of c k before) q ≡ None →
      TakesWell (effects_of c (effects before) (manager_outcome c (effects before) (λ k. view_of c k before) q))
  manager_case (FmRequest.GetEvents log) row = none_taken [] refl
  manager_case FmRequest.GetInfo row = none_taken [] refl
  manager_case (FmRequest.GetRegions host count first) row = none_taken [] refl
  manager_case (FmRequest.GetExtentLists host count first) row = none_taken [] refl
  manager_case (FmRequest.ListTags first count) row = none_taken [] refl
  manager_case (FmRequest.ClearEvents number all handles) row =
      let o : Outcome = clear_outcome LogId.Manager number (log_of LogId.Manager (effects before)) all handles in
      passed (effects_of c (effects before) o)
      (outcome-leaves c h (effects before) o (clear_passes (leaves_view h) LogId.Manager (record { cleared = λ n. refl; reset = refl }) number (log_of LogId.Manager (effects before)) all handles) refl)
  -- a new block size is brought, and nothing is taken then
  manager_case (FmRequest.SetRegion r sanitize size) row = λ blocks.
      absurd (cons_nil (Item.Block r size) [] (sym (blocks_outcome c (effects before) (set_outcome c (λ k. view_of c k before) r size)) ∙ blocks))
  manager_case (FmRequest.Add host policy r bytes tag list) row = add_case host policy r bytes tag list row
  manager_case (FmRequest.Remove host flags r bytes tag list) row = remove_case host flags r tag list row
  manager_case (FmRequest.AddReference tag) row =
      let o : Outcome = add_reference_outcome (effects before) tag in
      passed (effects_of c (effects before) o) (outcome-leaves c h (effects before) o (reference_passes (leaves_view h) tag refl (is_referenced tag (effects before))) refl)
  manager_case (FmRequest.RemoveReference tag) row =
      let o : Outcome = remove_reference_outcome tag in passed (effects_of c (effects before) o) (outcome-leaves c h (effects before) o refl refl)

  by_rule : (rule : Option Rule) (o : Outcome) → (rule ≡ None → TakesWell (effects_of c (effects before) o)) → TakesWell (effects_with c (effects before) [] (unless rule o))
  by_rule None o fine = fine refl
  by_rule (Some rule) o fine = none_taken [] refl

  manager_takes : (result : Result FmRequest ManagerFault) → TakesWell (effects_with c (effects before) [] (manager_result c before result))
  manager_takes (Ok q) = by_rule (manager_rule c (effects before) (λ k. view_of c k before) q) (manager_outcome c (effects before) (λ k. view_of c k before) q) (manager_case q)
  manager_takes (Err fault) = none_taken [] refl

  answers : (actor : Actor) (act : Act) → acts_for h actor ≡ false → TakesWell (right_answer c before actor act).1
  answers (Actor.Host k) act other = passed (right_answer c before (Actor.Host k) act).1 (answer-leaves c before k h (λ same. false≢true (sym other ∙ eq-eqb k h same)) act)
  answers Actor.Manager (Act.Command q) other = manager_takes (manager_request q.opcode q.payload)
  answers Actor.Manager (Act.Load d) other = none_taken [] refl
  answers Actor.Manager (Act.Store d value) other = none_taken [] refl
  answers Actor.Manager (Act.Scrub n) other = none_taken [] refl
  answers Actor.Sanitizer (Act.Command q) other = none_taken [] refl
  answers Actor.Sanitizer (Act.Load d) other = none_taken [] refl
  answers Actor.Sanitizer (Act.Store d value) other = none_taken [] refl
  answers Actor.Sanitizer (Act.Scrub n) other = passed (zeroes c (scrubbed c (effects before) n)) (zeroes_pass (leaves_view h) (λ run. refl) c (scrubbed c (effects before) n))

  -- What an entry of another takes from the host can be taken.
  pub others_take : (e : Entry) → Meets c before e → acts_for h e.actor ≡ false → filter_map block_item e.effects ≡ [] → CanGo (seen_in (view_of c h before)) (extents_recorded h EventKind.Forced e.effects)
  others_take e meets other = subst TakesWell (sym meets.effects) (answers e.actor e.act other)
