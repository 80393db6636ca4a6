-- What a control tells of its device is what the effects so far say.
use Rattle.std.proofs.Common.{◌≡◌, ℕ, zero, suc, ◌+◌, ◌<◌, Bool, List, [], ◌∷◌, ◌++◌, length, get_or, cond, refl, sym, ap, subst, ◌∙◌, arith, zero-add}
use Rattle.std.{proofs.lemmas.List.length-append, proofs.lemmas.List.Sums.length-filter, proofs.lemmas.List.Sums.sum_by-cons, specs.List.AllByRecursion, specs.List.range_with_len}
use Rattle.std.specs.Prelude.{count_by, flat_map, map, sum_by}
use Rattle.cci_codec.specs.dcd_base.specs.declared.{capacity.Extent.Extent, ids.HostId.HostId, steps.LogId.LogId}
use Rattle.event_log.specs.{LogStates.LogState, Logs.places_in, Logs.state_of, Logs.IsLogOf}
use Rattle.device_commands.specs.device_rules.proofs.{Holding.present_whole, Homes.made_granular, Homes.made_is_run, Homes.made_region, LegalSound.legal_is_sound}
use Rattle.device_commands.specs.device_rules.specs.Adding.{area_of, is_free_now, per_block, present, region_free_blocks}
use Rattle.device_commands.specs.device_rules.specs.{Counts.dirty_count, Counts.extent_count, Counts.free_count, Counts.granules_held, Counts.missed_of, Counts.records_of, GranuleCells.status_of}
use Rattle.device_commands.specs.device_rules.specs.{Hosts.accepted_of, Hosts.held_of, Hosts.offers_of, Logs.log_of, Pictures.picture_of, Standing.IsHome, Standing.Stands}
use Rattle.device_commands.specs.device_rules.specs.Tags.{Status, all_granules, is_dirty, is_free, status}
use Rattle.selection.{proofs.Agreeing.free_blocks_agree, proofs.Placed.run_below, specs.granule_map.specs.Blocks.free_block_count}
use Rattle.selection.specs.granule_map.specs.{StateLists.count_of, StateLists.same_state, StateLists.is_free_at, Tables.cell_at, declared.states.GranuleState.GranuleState}
use Rattle.manager_commands.proofs.{FreeGranules.free_at, Reached.total_kept}
use Rattle.manager_commands.specs.device_state.specs.{StateAfter.IsReached, StateAfter.IsStateAfter, StateAfter.part_of, Updates.IsOfLog, Updates.log_in, declared.state.State.State}
use Rattle.extent_list.specs.{HostLists.Lists, media_map.proofs.RunLemmas.granular_from, media_map.specs.Places.run_of, media_map.specs.region_config.proofs.Faultless.granules_within}
use Rattle.extent_list.specs.media_map.specs.region_config.specs.{Configurations.Configuration, Granules.granule_total, Soundness.IsSound}
use Rattle.journal_core.specs.{Entries.effects, declared.entries.Entry.Entry, declared.outcome.Effect.Effect, declared.outcome.HeldKind.HeldKind}
use Rattle.control_core.specs.HeldExtents.{AreHeld, IsHeld}

-- ---- granules

-- states that pass a test, and granules that pass one that agrees with it
count_over : (p : GranuleState → Bool) (q : ℕ → Bool) (d : GranuleState) (xs : List GranuleState) (a : ℕ) → ((k : ℕ) → k < length xs → p (get_or xs k d) ≡ q (a + k)) →
    count_by p xs ≡ count_by q (range_with_len a (length xs))
count_over p q d [] a agree = refl
count_over p q d (x ∷ xs) a agree =
    let first : a + 0 ≡ a = omega arith in
    let here : p x ≡ q a = agree 0 (omega arith) ∙ ap q first in
    let rest = count_over p q d xs (a + 1) (λ k below. agree (suc k) (omega (arith, below)) ∙ ap q (next k)) in
    sum_by-cons (λ s. cond (p s) 1 0) x xs ∙ (λ i. cond (here i) 1 0 + rest i) ∙ sym (sum_by-cons (λ n. cond (q n) 1 0) a (range_with_len (a + 1) (length xs)))
  where
    next : (k : ℕ) → a + suc k ≡ a + 1 + k
    next k = omega arith

-- what each state stands for is what is said of its granule
status_over : (p : GranuleState → Status) (q : ℕ → Status) (d : GranuleState) (xs : List GranuleState) (a : ℕ) → ((k : ℕ) → k < length xs → p (get_or xs k d) ≡ q (a + k)) →
    map p xs ≡ map q (range_with_len a (length xs))
status_over p q d [] a agree = refl
status_over p q d (x ∷ xs) a agree =
    let first : a + 0 ≡ a = omega arith in
    let here : p x ≡ q a = agree 0 (omega arith) ∙ ap q first in
    let rest = status_over p q d xs (a + 1) (λ k below. agree (suc k) (omega (arith, below)) ∙ ap q (next k)) in
    λ i. here i ∷ rest i
  where
    next : (k : ℕ) → a + suc k ≡ a + 1 + k
    next k = omega arith

free_is : (s : GranuleState) → same_state GranuleState.Free s ≡ is_free (status_of s)
free_is GranuleState.Free = refl
free_is (GranuleState.Reserved h) = refl
free_is (GranuleState.Held h) = refl
free_is (GranuleState.Tagged t) = refl
free_is GranuleState.Dirty = refl

dirty_is : (s : GranuleState) → same_state GranuleState.Dirty s ≡ is_dirty (status_of s)
dirty_is GranuleState.Free = refl
dirty_is (GranuleState.Reserved h) = refl
dirty_is (GranuleState.Held h) = refl
dirty_is (GranuleState.Tagged t) = refl
dirty_is GranuleState.Dirty = refl

module _ (c : Configuration) (before : List Entry) (s : State) (kept : IsStateAfter c before s) where
  pub free_told : count_of s.granules.states GranuleState.Free ≡ free_count c (effects before)
  unfolding free_count
  free_told =
      count_over (same_state GranuleState.Free) (λ g. is_free (status c g (effects before))) GranuleState.Dirty s.granules.states 0
      (λ g below. free_is (cell_at s.granules g).state ∙ ap is_free (kept.cells g (omega (arith, below, kept.granule_count))).status_is ∙ sym (ap (λ k. is_free (status c k (effects before))) (zero-add g)))
      ∙ ap (λ n. count_by (λ g. is_free (status c g (effects before))) (range_with_len 0 n)) kept.granule_count
      ∙ sym (length-filter (λ g. is_free (status c g (effects before))) (range_with_len 0 (granule_total c)))

  pub dirty_told : count_of s.granules.states GranuleState.Dirty ≡ dirty_count c (effects before)
  unfolding dirty_count
  dirty_told =
      count_over (same_state GranuleState.Dirty) (λ g. is_dirty (status c g (effects before))) GranuleState.Dirty s.granules.states 0
      (λ g below. dirty_is (cell_at s.granules g).state ∙ ap is_dirty (kept.cells g (omega (arith, below, kept.granule_count))).status_is ∙ sym (ap (λ k. is_dirty (status c k (effects before))) (zero-add g)))
      ∙ ap (λ n. count_by (λ g. is_dirty (status c g (effects before))) (range_with_len 0 n)) kept.granule_count
      ∙ sym (length-filter (λ g. is_dirty (status c g (effects before))) (range_with_len 0 (granule_total c)))

  -- the status of each granule
  pub states_told : map status_of s.granules.states ≡ map (λ g. status c g (effects before)) (all_granules c)
  states_told =
      status_over status_of (λ g. status c g (effects before)) GranuleState.Dirty s.granules.states 0
      (λ g below. (kept.cells g (omega (arith, below, kept.granule_count))).status_is ∙ sym (ap (λ k. status c k (effects before)) (zero-add g)))
      ∙ ap (λ n. map (λ g. status c g (effects before)) (range_with_len 0 n)) kept.granule_count

  -- ---- logs

  pub log_known : (l : LogId) → IsOfLog c.hosts l → IsLogOf l (log_of l (effects before)) (log_in s l)
  log_known (LogId.Host h) host = (kept.parts h host).log_is
  log_known LogId.Manager tt = kept.manager_log

  pub records_told : (l : LogId) → IsOfLog c.hosts l → (log_in s l).records ≡ records_of l (effects before)
  unfolding records_of
  records_told l known = ap (λ (log : LogState). log.records) (log_known l known).is

  pub missed_told : (l : LogId) → IsOfLog c.hosts l → (log_in s l).missed ≡ missed_of l (effects before)
  unfolding missed_of
  missed_told l known = ap (λ (log : LogState). log.missed) (log_known l known).is

  pub log_is : (l : LogId) → IsOfLog c.hosts l → log_in s l ≡ state_of (places_in l) (log_of l (effects before))
  log_is l known = (log_known l known).is

  -- ---- extents

  pub accepted_told : (h : HostId) → h < c.hosts → (part_of s h).lists.accepted ≡ accepted_of c h (effects before)
  accepted_told h host = ap (λ (l : Lists). l.accepted) (kept.parts h host).lists_are

  pub offers_told : (h : HostId) → h < c.hosts → (part_of s h).lists.offers ≡ offers_of h (effects before)
  offers_told h host = ap (λ (l : Lists). l.offers) (kept.parts h host).lists_are

  pub responses_told : (h : HostId) → h < c.hosts → (part_of s h).lists.responses ≡ held_of h HeldKind.Responses (effects before)
  responses_told h host = ap (λ (l : Lists). l.responses) (kept.parts h host).lists_are

  pub releases_told : (h : HostId) → h < c.hosts → (part_of s h).lists.releases ≡ held_of h HeldKind.Releases (effects before)
  releases_told h host = ap (λ (l : Lists). l.releases) (kept.parts h host).lists_are

pub extents_told : (c : Configuration) (before : List Entry) (h : HostId) → length (accepted_of c h (effects before)) ≡ extent_count c h (effects before)
unfolding extent_count
extents_told c before h = refl

pub granules_told : (c : Configuration) (before : List Entry) (h : HostId) → sum_by (λ x. (run_of c h x).count) (accepted_of c h (effects before)) ≡ granules_held c h (effects before)
unfolding granules_held
granules_told c before h = refl

-- what holds of each member holds of the one at any place
each_at : {X : Type 0} (P : X → Type 0) (xs : List X) → AllByRecursion P xs → (k : ℕ) (d : X) → k < length xs → P (get_or xs k d)
each_at P [] all k d below = absurd (omega (arith, below))
each_at P (x ∷ xs) all zero d below = all.0
each_at P (x ∷ xs) all (suc k) d below = each_at P xs all.1 k d (omega (arith, below))

front_of : {X : Type 0} (P : X → Type 0) (xs ys : List X) → AllByRecursion P (xs ++ ys) → AllByRecursion P xs
front_of P [] ys all = tt
front_of P (x ∷ xs) ys all = (all.0, front_of P xs ys all.1)

module _ (c : Configuration) (sound : IsSound c) (past : List Effect) (stands : Stands c (picture_of c past)) (h : HostId) (host : h < c.hosts) where
  one_held : (x : Extent) → IsHome c (picture_of c past) h x → IsHeld c h x
  one_held x home =
      let r = home.region in
      let size = (picture_of c past).block r in
      let whole = present_whole c sound (picture_of c past) stands r home.made.known in
      let run = made_is_run c h sound host size r x whole home.made in
      record {
        granular = granular_from c h x.start x.length r (made_region c h sound host size r x whole home.made) (made_granular c h sound host size r x whole home.made);
        granules = omega (arith, run_below c (run_of c h x) run, sound.granules);
      }

  pub all_held : AreHeld c h (accepted_of c h past)
  all_held = record {
    few = omega (arith, stands.few h, length-append (accepted_of c h past) (flat_map (λ xs. xs) (offers_of h past)));
    each = λ k d below. one_held (get_or (accepted_of c h past) k d)
        (each_at (IsHome c (picture_of c past) h) (accepted_of c h past) (front_of (IsHome c (picture_of c past) h) (accepted_of c h past) (flat_map (λ xs. xs) (offers_of h past)) (stands.home h)) k d below);
  }

pub held_in_kept : (c : Configuration) (s : State) → IsReached c s → (h : HostId) → h < c.hosts → AreHeld c h (part_of s h).lists.accepted
held_in_kept c s r h host =
    subst (AreHeld c h) (sym (accepted_told c r.journal s r.kept h host))
    (all_held c r.sound (effects r.journal) (legal_is_sound c r.sound r.journal r.legal).stands h host)

-- the free blocks of a region
pub free_blocks_told : (c : Configuration) (before : List Entry) (s : State) (kept : IsStateAfter c before s) (r : ℕ) → r < length s.present.regions →
    free_block_count s.granules.states (area_of s.present r) (per_block s.present r) ≡ region_free_blocks (present c (effects before)) (is_free_now c (effects before)) r
free_blocks_told c before s kept r known =
    free_blocks_agree (is_free_at s.granules.states) (is_free_now c (effects before)) (area_of s.present r) (per_block s.present r)
    (λ g low high. free_at c (effects before) s.granules kept.granule_count kept.cells g (omega (arith, high, granules_within s.present r known, total_kept c before s kept)))
    ∙ ap (λ p. region_free_blocks p (is_free_now c (effects before)) r) kept.present_is
