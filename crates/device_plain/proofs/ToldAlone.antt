-- Records for the host of a device with one host alone, and items that bring some.
use Rattle.std.proofs.Common.{◌≡◌, ℕ, ◌+◌, ◌<◌, List, length, flat_map, inl, inr, sym, ap, ◌∙◌, subst, arith}
use Rattle.std.{proofs.lemmas.List.length-append, proofs.lemmas.List.Concat.length-flat_map, specs.Prelude.fold, specs.Prelude.OnOk, specs.Prelude.OnErr, specs.declared.result.Result.Result}
use Rattle.std.specs.declared.result.Result.TheVariants.{Ok, Err}
use Rattle.dcd_base.specs.declared.{capacity.Extent.Extent, ids.HostId.HostId, steps.LogId.LogId}
use Rattle.control_core.specs.{device_rules.specs.Views.View, device_rules.specs.Views.extents_in, device_rules.specs.Views.lists_in, device_commands.specs.Drafts.HasExtentsOf}
use Rattle.event_log.specs.{LogStates.LogState, LogStates.with_record, Logs.logged, Logs.records_in, Logs.IsLogOf}
use Rattle.event_records.specs.declared.events.Event.{Event}
use Rattle.extent_list.specs.HostLists.{Lists, extent_total}
use Rattle.region_config.specs.Configurations.{Configuration}
use Rattle.device_plain.{proofs.LogPuts.put_count, proofs.LogPuts.append_logged, specs.Alone.IsAlone, specs.Alone.TakesItem, specs.Telling.Logs, specs.declared.alone.Alone.Alone}
use Rattle.device_plain.specs.declared.alone.Stop.{Stop}
use Rattle.isolation_laws.specs.{Solo.solo_after, Solo.solo_word_after, Solo.with_log_records, declared.items.Item.Item}

-- lists that are those of a view have its extents
pub shown : (v : View) (l : Lists) → l ≡ lists_in v → HasExtentsOf v l
shown v l are = record { accepted = ap (λ (m : Lists). m.accepted) are; offers = ap (λ (m : Lists). m.offers) are }

-- a view shows as many extents as the lists that it shows have
pub view_total : (v : View) → length (extents_in v) ≡ extent_total (lists_in v)
view_total v = length-append v.accepted (flat_map (λ (xs : List Extent). xs) v.offers) ∙ ap (λ n. length v.accepted + n) (length-flat_map (λ (xs : List Extent). xs) v.offers)

module _ (c : Configuration) (h : HostId) (events : View → List Event) (old : Alone) (log : LogState) (list : List Event)
    (are : (v : View) → old.lists ≡ lists_in v → list ≡ events v) where
  after : (v : View) (word : ℕ → ℕ) → IsAlone c h v word old → IsLogOf (LogId.Host h) (logged v.log (events v)) (fold with_record old.log list)
  after v word alone =
      subst (λ (told : List Event). IsLogOf (LogId.Host h) (logged v.log told) (fold with_record old.log list)) (are v alone.lists_are)
      (append_logged (LogId.Host h) v.log old.log list alone.log_is)

  -- what putting them into the log makes
  pub logs_put : (r : Result Unit Stop) → OnOk r (log ≡ fold with_record old.log list) → OnErr r (old.log.capacity < length old.log.records + length list) →
      Logs c h events old (record old { log = log }) r
  logs_put (Ok done) put full = λ v word alone. record {
    present_is = alone.present_is;
    lists_are = alone.lists_are;
    few = alone.few;
    log_is = subst (λ (l : LogState). IsLogOf (LogId.Host h) (logged v.log (events v)) l) (sym put) (after v word alone);
    words_are = alone.words_are;
  }
  logs_put (Err Stop.Unlawful) put full = λ v word alone.
      let places : old.log.capacity ≡ 64 = ap (λ (l : LogState). l.capacity) alone.log_is.is in
      let count : length (fold with_record old.log list).records ≡ length old.log.records + length list = put_count old.log list in
      let same : length (fold with_record old.log list).records ≡ length (records_in (logged v.log (events v))) = ap (λ (l : LogState). length l.records) (after v word alone).is in
      omega (arith, places, count, same, full)
  logs_put (Err Stop.NoMemory) put full = tt

-- An item is taken by a change of what is kept, and records then.
module _ (c : Configuration) (h : HostId) (item : Item) (events : View → List Event) (change : View → View) (old mid new : Alone)
    (changed : (v : View) (word : ℕ → ℕ) → IsAlone c h v word old → IsAlone c h (change v) word mid)
    (is : (v : View) (word : ℕ → ℕ) → IsAlone c h v word old → solo_after c h v item ≡ with_log_records (change v) (events (change v)))
    (leaves : (d : ℕ) (v : View) (n : ℕ) → solo_word_after c h d v n item ≡ n) where
  pub takes_told : (r : Result Unit Stop) → Logs c h events mid new r → TakesItem c h item old new r
  takes_told (Ok done) logs = λ v word alone.
      subst (λ (w : ℕ → ℕ). IsAlone c h (solo_after c h v item) w new) (λ i d. sym (leaves d v (word d)) i)
      (subst (λ (u : View). IsAlone c h u word new) (sym (is v word alone)) (logs (change v) word (changed v word alone)))
  takes_told (Err Stop.Unlawful) logs = λ v word alone.
      inr (inl (subst (λ (u : View). 64 < length (records_in u.log)) (sym (is v word alone)) (logs (change v) word (changed v word alone))))
  takes_told (Err Stop.NoMemory) logs = tt
