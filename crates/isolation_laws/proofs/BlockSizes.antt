-- The manager sets a block size: each host's view is then the one that it has alone, told of it.
use Rattle.std.proofs.Common.{◌≡◌, ℕ, zero, suc, ◌+◌, ◌<◌, ◌≤◌, Bool, true, false, ◌&&◌, List, [], ◌∷◌, ◌++◌, Some, None, length, inl, inr, refl, sym, ap, subst, ◌∙◌, arith}
use Rattle.std.{proofs.lemmas.Bool.cases_eq, proofs.lemmas.Bool.eq-eqb, proofs.lemmas.Bool.ne_eqb, proofs.lemmas.List.Sums.fold-append, specs.List.cons_option, specs.List.range_with_len}
use Rattle.std.specs.Prelude.{fold, map, nat_lt, if◌then◌else◌, ◌==◌}
use Rattle.dcd_base.specs.declared.{ids.HostId.HostId, steps.LogId.LogId}
use Rattle.extent_list.specs.{dcd_codes.specs.Rules.first_by, media_map.specs.region_config.specs.Configurations.Configuration}
use Rattle.extent_list.specs.media_map.specs.region_config.specs.Granules.{hosts_of, is_supported, region_spec}
use Rattle.event_log.specs.Logs.{Log, next_handle, recorded, room_in}
use Rattle.event_records.specs.{Records.kind_number, declared.events.Event.Event, declared.events.EventKind.EventKind}
use Rattle.journal_core.specs.declared.outcome.Effect.{Effect}
use Rattle.selection.proofs.Prescribed.{neither}
use Rattle.device_rules.proofs.{LogHistories.entered_all-other, LogHistories.told as records_for, LogOutcomes.room_for, LogSteps.IsSound, LogSteps.entered_all-room}
use Rattle.device_rules.specs.{Logs.log_after, Logs.log_of, Outcomes.Outcome, Outcomes.effects_of, Outcomes.entered, Outcomes.entered_all, Outcomes.log_full, Outcomes.no_extent, Outcomes.record_for}
use Rattle.device_rules.specs.{Settings.set_outcome, Views.View, Views.view_after}
use Rattle.isolation_laws.proofs.{JoinedViews.view_after-told, OneItem.BringsItems, OtherSteps.BringsAlone, RecordItems.blocks_outcome, RecordItems.delivered_is, RecordItems.told_outcome}
use Rattle.isolation_laws.specs.{Solo.extents_recorded, Solo.told_by, Solo.with_log_records, declared.items.Item.Item}

-- ---- a record for each host

-- one to each of these hosts
abbrev each_told : List Effect → (HostId → Event) → ℕ → ℕ → List Effect
each_told past event a n = records_for past (map (λ k. (LogId.Host k, event k ∷ [])) (range_with_len a n))

module _ (past : List Effect) (event : HostId → Event) (h : HostId) where
  abbrev own : LogId
  own = LogId.Host h

  -- those of other hosts leave a log
  joins_none : (log : Log) (a n : ℕ) → ((k : ℕ) → a ≤ k → (k == h) ≡ false) → fold (log_after (LogId.Host h)) log (each_told past event a n) ≡ log
  joins_none log a zero apart = refl
  joins_none log a (suc n) apart =
      fold-append (log_after (LogId.Host h)) log (entered_all (LogId.Host a) (log_of (LogId.Host a) past) (event a ∷ [])) (each_told past event (a + 1) n)
      ∙ ap (λ b. fold (log_after (LogId.Host h)) b (each_told past event (a + 1) n))
      (entered_all-other (LogId.Host a) (LogId.Host h) log (log_of (LogId.Host a) past) (event a ∷ []) (apart a (omega arith)))
      ∙ joins_none log (a + 1) n (λ k from. apart k (omega (arith, from)))

  -- its own joins it
  joins_one : IsSound (log_of (LogId.Host h) past) → (before : List HostId) (a n : ℕ) → first_by (λ b k. log_full k (log_of (LogId.Host k) past) 1) before (range_with_len a n) ≡ None →
      a ≤ h → h < a + n → fold (log_after (LogId.Host h)) (log_of (LogId.Host h) past) (each_told past event a n) ≡ recorded (log_of (LogId.Host h) past) (event h)
  joins_one sound before a zero none low high = absurd (omega (arith, low, high))
  joins_one sound before a (suc n) none low high =
      let mine : Log = log_of (LogId.Host h) past in
      let parts = neither (log_full a (log_of (LogId.Host a) past) 1) (first_by (λ b k. log_full k (log_of (LogId.Host k) past) 1) (before ++ a ∷ []) (range_with_len (a + 1) n)) none in
      fold-append (log_after (LogId.Host h)) mine (entered_all (LogId.Host a) (log_of (LogId.Host a) past) (event a ∷ [])) (each_told past event (a + 1) n)
      ∙ elim (cases_eq a h) [
        | inl same ↦ (
            let room : 1 ≤ room_in (LogId.Host h) mine = room_for h mine 1 (ap (λ k. log_full k (log_of (LogId.Host k) past) 1) (sym same) ∙ parts.0) in
            let here : fold (log_after (LogId.Host h)) mine (entered_all (LogId.Host a) (log_of (LogId.Host a) past) (event a ∷ [])) ≡ recorded mine (event h) =
            ap (λ k. fold (log_after (LogId.Host h)) mine (entered_all (LogId.Host k) (log_of (LogId.Host k) past) (event k ∷ []))) same
            ∙ entered_all-room (LogId.Host h) mine (event h ∷ []) sound room in
            ap (λ b. fold (log_after (LogId.Host h)) b (each_told past event (a + 1) n)) here
            ∙ joins_none (recorded mine (event h)) (a + 1) n (λ k from. ne_eqb k h (λ e. absurd (omega (arith, e, same, from)))))
        | inr other ↦ (
            ap (λ b. fold (log_after (LogId.Host h)) b (each_told past event (a + 1) n))
            (entered_all-other (LogId.Host a) (LogId.Host h) mine (log_of (LogId.Host a) past) (event a ∷ []) (ne_eqb a h other))
            ∙ joins_one sound (before ++ a ∷ []) (a + 1) n parts.1 (omega (arith, low, other)) (omega (arith, high)))
      ]

  -- they bring no extents of another kind
  other_kind : (kind : EventKind) (l : LogId) (log : Log) (e : Event) → (kind_number e.kind == kind_number kind) ≡ false → told_by h kind (entered l log e) ≡ None
  other_kind kind l log e other = by l (room_in l log == 0)
    where
      with_kind : (b : Bool) → (if b && (kind_number e.kind == kind_number kind) then Some e.extent else None) ≡ None
      with_kind true = ap (λ (b : Bool). if b then Some e.extent else None) other
      with_kind false = refl

      by : (l : LogId) (full : Bool) → told_by h kind (if full then Effect.Missed l else Effect.Logged l (record e { handle = next_handle log })) ≡ None
      by l true = refl
      by (LogId.Host k) false = with_kind (k == h)
      by LogId.Manager false = refl

  tells_none : (kind : EventKind) → ((k : HostId) → (kind_number (event k).kind == kind_number kind) ≡ false) → (a n : ℕ) → extents_recorded h kind (each_told past event a n) ≡ []
  tells_none kind other a zero = refl
  tells_none kind other a (suc n) =
      ap (λ o. cons_option o (extents_recorded h kind (each_told past event (a + 1) n))) (other_kind kind (LogId.Host a) (log_of (LogId.Host a) past) (event a) (other a))
      ∙ tells_none kind other (a + 1) n

-- ---- the command

same_either_way : (r s : ℕ) → (r == s) ≡ (s == r)
same_either_way r s = elim (cases_eq r s) [
  | inl same ↦ eq-eqb r s same ∙ sym (eq-eqb s r (sym same))
  | inr other ↦ ne_eqb r s other ∙ sym (ne_eqb s r (λ e. other (sym e)))
]

module _ (c : Configuration) (h : HostId) (view_for : HostId → View) (past : List Effect) (log : log_of (LogId.Host h) past ≡ (view_for h).log) (sound : IsSound (log_of (LogId.Host h) past)) where
  abbrev v : View
  v = view_for h

  -- what each host is told
  abbrev updated : ℕ → HostId → Event
  updated r k = record (record_for k (view_for k) EventKind.RegionUpdated false no_extent) { region = r }

  set_view : (r size : ℕ) → view_after c h v (Effect.Block r size ∷ []) ≡ record v { block = λ s. if s == r then size else v.block s }
  set_view r size = λ i. record v { block = λ s. if same_either_way r s i then size else v.block s }

  pub brings_block : (r size : ℕ) → h < c.hosts → (nat_lt r (length c.regions) && is_supported (region_spec c r) size) ≡ true →
      first_by (λ b k. log_full k (log_of (LogId.Host k) past) 1) [] (hosts_of c) ≡ None → BringsAlone c h (view_for h) (effects_of c past (set_outcome c view_for r size))
  brings_block r size known fine room =
      let o : Outcome = set_outcome c view_for r size in
      let e : Event = updated r h in
      let joined : fold (log_after (LogId.Host h)) v.log (records_for past o.log_records) ≡ recorded v.log e =
      ap (λ own. fold (log_after (LogId.Host h)) own (records_for past o.log_records)) (sym log)
      ∙ joins_one past (updated r) h sound [] 0 c.hosts room (omega arith) (omega (arith, known))
      ∙ ap (λ own. recorded own e) log in
      let tells : (kind : EventKind) → (3 == kind_number kind) ≡ false → extents_recorded h kind (effects_of c past o) ≡ [] = λ kind other.
      told_outcome h kind c past o refl ∙ tells_none past (updated r) h kind (λ k. other) 0 c.hosts in
      subst (BringsItems c h v (effects_of c past o))
      (sym (delivered_is h (effects_of c past o) [] [] [] (Item.Block r size ∷ []) (tells EventKind.Add refl) (tells EventKind.Release refl) (tells EventKind.Forced refl) (blocks_outcome c past o)))
      (record {
        alone =
            view_after-told c h v past o (e ∷ []) refl joined
            ∙ ap {A = View} (λ u. with_log_records u (e ∷ [])) (set_view r size)
            ∙ sym (ap (λ b. if b then with_log_records (record v { block = λ s. if s == r then size else v.block s }) (e ∷ []) else v) fine);
        few = λ beyond. beyond;
      })
