-- What a command makes of the logs: each stays one that its history tells, and no record of a host's finds it full.
use Rattle.std.proofs.Common.{◌≡◌, ℕ, suc, ◌≤◌, Bool, true, false, List, [], ◌∷◌, ◌++◌, Option, None, length, refl, sym, ap, subst}
use Rattle.std.{specs.Prelude.fold, specs.Prelude.map, specs.Prelude.nat_lt, specs.List.list_all, proofs.lemmas.Bool.ltb-false, proofs.lemmas.Option.none-some}
use Rattle.cci_codec.specs.dcd_base.specs.{Words.◌or◌, declared.capacity.Extent.Extent, declared.ids.HostId.HostId, declared.steps.LogId.LogId}
use Rattle.extent_list.specs.{ExtentLists.marked, dcd_codes.specs.Rules.◌breaks◌, dcd_codes.specs.declared.rules.Rule.Rule, media_map.specs.region_config.proofs.Searches.or_parts}
use Rattle.extent_list.specs.media_map.specs.region_config.specs.Configurations.{Configuration}
use Rattle.event_log.specs.Logs.{IsHistory, Log, room_in}
use Rattle.event_records.specs.declared.events.{Event.Event, EventKind.EventKind}
use Rattle.journal_core.specs.declared.outcome.Effect.{Effect}
use Rattle.device_rules.proofs.EffectKinds.{PassHeld, PassLists, give_back_passes, respond_passes}
use Rattle.device_rules.proofs.Leaving.{after_front, all_pass, both_pass, map_passes, over-leaving}
use Rattle.device_rules.proofs.LogHistories.{leaves_logs, told, entered_all-manager, entered_all-spares, log-left, spares-left, told_one, told_one-history}
use Rattle.device_rules.specs.{LogLaws.spares_hosts, Logs.log_after, Logs.log_of}
use Rattle.device_rules.specs.Outcomes.{Outcome, effects_of, ended, entered_all, log_full, no_extent, record_for, records_of_extents}
use Rattle.device_rules.specs.ReleaseOutcomes.{give_back_changes, give_back_outcome}
use Rattle.device_rules.specs.{ResponseOutcomes.respond_changes, ResponseOutcomes.respond_outcome, ResponseOutcomes.response_records, Views.View, Views.view_after}

-- ---- room for records, as the rows ask for it

pub whole : (b : Bool) (rule : Rule) → b breaks rule ≡ None → b ≡ false
whole true rule none = absurd (none-some rule (sym none))
whole false rule none = refl

pub room_for : (h : HostId) (log : Log) (need : ℕ) → log_full h log need ≡ None → need ≤ room_in (LogId.Host h) log
room_for h log need none = ltb-false (room_in (LogId.Host h) log) need (whole (nat_lt (room_in (LogId.Host h) log) need) (Rule.LogFull h need (room_in (LogId.Host h) log)) none)

pub last_of : (front last : Option Rule) → front or last ≡ None → last ≡ None
last_of front last none = (or_parts front last none).1

pub length-log_records : (h : HostId) (v : View) (kind : EventKind) (xs : List Extent) → length (records_of_extents h v kind xs) ≡ length xs
length-log_records h v kind [] = refl
length-log_records h v kind (x ∷ xs) = ap suc (length-log_records h v kind xs)

-- ---- changes that leave logs

pub lists_leave : (h : HostId) → PassLists leaves_logs h
lists_leave h = record { answer = λ xs. refl; take = λ run. refl; leave = λ run. refl }

pub held_leaves : (h : HostId) → PassHeld leaves_logs h
held_leaves h = record { hold = λ kind xs. refl; unhold = λ kind. refl }

-- ---- what a command makes of the logs

-- Each log stays one that its history tells, and no record of a host's finds it full.
pub record Keeps (past new : List Effect) : Type 0 where
  pub history : (l : LogId) → IsHistory (fold (log_after l) (log_of l past) new)
  pub spared : list_all spares_hosts new ≡ true

module _ (c : Configuration) (past : List Effect) (all : (l : LogId) → IsHistory (log_of l past)) where
  -- effects that leave all logs
  pub kept_still : (new : List Effect) → list_all leaves_logs new ≡ true → Keeps past new
  kept_still new left = record {
    history = λ l. subst IsHistory (sym (over-leaving (log_after l) leaves_logs (log-left l) (log_of l past) new left)) (all l);
    spared = all_pass leaves_logs spares_hosts spares-left new left;
  }

  -- a command whose records alone change logs
  pub kept_told : (o : Outcome) → list_all leaves_logs o.changes ≡ true → Keeps past (told past o.log_records) → Keeps past (effects_of c past o)
  kept_told o left kept =
      let front : List Effect = o.changes ++ map Effect.TagEnd (ended c past o.changes o.tags) in
      let still : list_all leaves_logs front ≡ true = both_pass leaves_logs o.changes (map Effect.TagEnd (ended c past o.changes o.tags)) left (map_passes leaves_logs Effect.TagEnd (λ t. refl) (ended c past o.changes o.tags)) in
      record {
        history = λ l. subst IsHistory (sym (after_front (log_after l) (log_of l past) front (told past o.log_records) (over-leaving (log_after l) leaves_logs (log-left l) (log_of l past) front still))) (kept.history l);
        spared = both_pass spares_hosts front (told past o.log_records) (all_pass leaves_logs spares_hosts spares-left front still) kept.spared;
      }

  -- records for one log, which is the manager's or has room
  kept_one : (k : LogId) (events : List Event) → list_all spares_hosts (entered_all k (log_of k past) events) ≡ true → Keeps past (told past ((k, events) ∷ []))
  kept_one k events spared = subst (Keeps past) (sym (told_one past k events)) (record { history = λ l. told_one-history past k events l (all l); spared = spared })

  kept_manager : (events : List Event) → Keeps past (told past ((LogId.Manager, events) ∷ []))
  kept_manager events = kept_one LogId.Manager events (entered_all-manager (log_of LogId.Manager past) events)

  pub kept_host : (h : HostId) (events : List Event) → length events ≤ room_in (LogId.Host h) (log_of (LogId.Host h) past) → Keeps past (told past ((LogId.Host h, events) ∷ []))
  kept_host h events room = kept_one (LogId.Host h) events (entered_all-spares (LogId.Host h) (log_of (LogId.Host h) past) events (all (LogId.Host h)).sound room)

  -- ---- each command

  pub kept_response : (h : HostId) (v : View) (more : Bool) (xs : List Extent) → Keeps past (effects_of c past (respond_outcome c h v more xs))
  kept_response h v true xs = kept_told (respond_outcome c h v true xs) (respond_passes leaves_logs h (held_leaves h) (lists_leave h) c v.offers v.responses true xs) (kept_still [] refl)
  kept_response h v false xs = kept_told (respond_outcome c h v false xs) (respond_passes leaves_logs h (held_leaves h) (lists_leave h) c v.offers v.responses false xs)
      (by (view_after c h v (respond_changes c h v.offers v.responses false xs)) v.offers (v.responses ++ xs))
    where
      by : (w : View) (offers : List (List Extent)) (taken : List Extent) → Keeps past (told past (response_records c h w offers taken))
      by w [] taken = kept_still [] refl
      by w (offer ∷ later) [] = kept_manager (record_for h w EventKind.AddResponse false no_extent ∷ [])
      by w (offer ∷ later) (x ∷ ys) = kept_manager (records_of_extents h w EventKind.AddResponse (map (marked offer) (x ∷ ys)))

  pub kept_release : (h : HostId) (v : View) (more : Bool) (xs : List Extent) → Keeps past (effects_of c past (give_back_outcome c h v more xs))
  kept_release h v true xs = kept_told (give_back_outcome c h v true xs) (give_back_passes leaves_logs h (held_leaves h) (lists_leave h) c v.releases true xs) (kept_still [] refl)
  kept_release h v false xs = kept_told (give_back_outcome c h v false xs) (give_back_passes leaves_logs h (held_leaves h) (lists_leave h) c v.releases false xs)
      (kept_manager (records_of_extents h (view_after c h v (give_back_changes c h v.releases false xs)) EventKind.Released (map (marked v.accepted) (v.releases ++ xs))))
