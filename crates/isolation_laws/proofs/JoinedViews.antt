-- The view after the effects of a command: what its changes make of it, and the records behind them.
use Rattle.std.proofs.Common.{◌≡◌, ◌+◌, Bool, true, false, ◌&&◌, ◌||◌, not, List, [], ◌∷◌, ◌++◌, refl, sym, ap, ◌∙◌}
use Rattle.std.proofs.lemmas.{Bool.and_parts, Bool.false≢true, Bool.not-true, List.Folds.list_any-append, List.Sums.fold-append}
use Rattle.std.specs.{List.list_all, List.list_any, Prelude.fold, Prelude.map, Prelude.if◌then◌else◌, Prelude.◌==◌}
use Rattle.dcd_base.specs.{Words.is_empty, declared.ids.HostId.HostId, declared.steps.LogId.LogId}
use Rattle.event_log.specs.Logs.{Log, logged}
use Rattle.event_records.specs.declared.events.Event.{Event}
use Rattle.journal_core.specs.declared.outcome.{Effect.Effect, HeldKind.HeldKind}
use Rattle.extent_list.{specs.media_map.specs.region_config.specs.Configurations.Configuration, proofs.EachTag.or_false as or_none}
use Rattle.device_rules.proofs.{EffectKinds.any_log, EffectKinds.tells, EffectKinds.tells_any, EffectKinds.told_passes, Leaving.map_passes, Leaving.over-leaving}
use Rattle.device_rules.proofs.{LogHistories.leaves_logs, LogHistories.log-left, LogHistories.told, ViewCommands.only_logs, ViewCommands.view_after-logs}
use Rattle.device_rules.proofs.ViewsLeft.{is_other_log, leaves_view, others_records, view_after-left}
use Rattle.device_rules.specs.{Hosts.accepted_after, Hosts.block_after, Hosts.held_after, Hosts.moves, Hosts.offers_after, Logs.log_after, Outcomes.Outcome, Outcomes.effects_of, Outcomes.ended}
use Rattle.device_rules.specs.Views.{View, view_after}
use Rattle.isolation_laws.specs.Solo.{with_log_records}

-- ---- two lists of effects

-- An entry counts once, so the second list must not change the accepted one.
pub view_after-append : (c : Configuration) (h : HostId) (v : View) (front new : List Effect) → list_any (moves h) new ≡ false → view_after c h v (front ++ new) ≡ view_after c h (view_after c h v front) new
view_after-append c h v front new still = λ i. record {
  offers = fold-append (offers_after h) v.offers front new i;
  accepted = fold-append (accepted_after c h) v.accepted front new i;
  changes = counts i;
  responses = fold-append (held_after h HeldKind.Responses) v.responses front new i;
  releases = fold-append (held_after h HeldKind.Releases) v.releases front new i;
  log = fold-append (log_after (LogId.Host h)) v.log front new i;
  block = λ r. fold-append (block_after r) (v.block r) front new i;
}
  where
    counts : (if list_any (moves h) (front ++ new) then v.changes + 1 else v.changes) ≡ (if list_any (moves h) new then (if list_any (moves h) front then v.changes + 1 else v.changes) + 1 else (if list_any (moves h) front then v.changes + 1 else v.changes))
    counts =
        ap (λ b. if b then v.changes + 1 else v.changes) (list_any-append (moves h) front new ∙ ap (λ b. list_any (moves h) front || b) still ∙ or_none (list_any (moves h) front))
        ∙ sym (ap (λ b. if b then (if list_any (moves h) front then v.changes + 1 else v.changes) + 1 else (if list_any (moves h) front then v.changes + 1 else v.changes)) still)

-- ---- effects that are none of the host's

none_moves : (h : HostId) (test : Effect → Bool) → ((e : Effect) → test e ≡ true → moves h e ≡ false) → (new : List Effect) → list_all test new ≡ true → list_any (moves h) new ≡ false
none_moves h test still [] all = refl
none_moves h test still (e ∷ new) all =
    let parts = and_parts (test e) (list_all test new) all in
    ap (λ b. b || list_any (moves h) new) (still e parts.0) ∙ none_moves h test still new parts.1

still-left : (h : HostId) (e : Effect) → leaves_view h e ≡ true → moves h e ≡ false
still-left h (Effect.Answer k xs) left = ap (λ b. b && not (is_empty xs)) (not-true (k == h) left)
still-left h (Effect.Leave k run) left = not-true (k == h) left
still-left h e left = refl

-- behind others they leave what those made
pub view_after-behind : (c : Configuration) (h : HostId) (v : View) (front new : List Effect) → list_all (leaves_view h) new ≡ true → view_after c h v (front ++ new) ≡ view_after c h v front
view_after-behind c h v front new all =
    view_after-append c h v front new (none_moves h (leaves_view h) (still-left h) new all)
    ∙ view_after-left c h (view_after c h v front) new all

still-logs : (h : HostId) (e : Effect) → only_logs e ≡ true → moves h e ≡ false
still-logs h (Effect.Answer k xs) only = absurd (false≢true only)
still-logs h (Effect.Leave k run) only = absurd (false≢true only)
still-logs h e only = refl

-- records change the log alone
pub view_after-records : (c : Configuration) (h : HostId) (v : View) (front new : List Effect) → list_all only_logs new ≡ true →
    view_after c h v (front ++ new) ≡ record (view_after c h v front) { log = fold (log_after (LogId.Host h)) (view_after c h v front).log new }
view_after-records c h v front new all =
    view_after-append c h v front new (none_moves h only_logs (still-logs h) new all)
    ∙ view_after-logs c h (view_after c h v front) new all

-- ---- the effects of a command

view_after-ends : (c : Configuration) (h : HostId) (v : View) (past : List Effect) (o : Outcome) → view_after c h v (o.changes ++ map Effect.TagEnd (ended c past o.changes o.tags)) ≡ view_after c h v o.changes
view_after-ends c h v past o =
    view_after-behind c h v o.changes (map Effect.TagEnd (ended c past o.changes o.tags)) (map_passes (leaves_view h) Effect.TagEnd (λ t. refl) (ended c past o.changes o.tags))

-- Where nothing is told to the host, the changes alone count.
pub view_after-outcome : (c : Configuration) (h : HostId) (v : View) (past : List Effect) (o : Outcome) → tells (is_other_log h) o.log_records ≡ true → view_after c h v (effects_of c past o) ≡ view_after c h v o.changes
view_after-outcome c h v past o others =
    view_after-behind c h v (o.changes ++ map Effect.TagEnd (ended c past o.changes o.tags)) (told past o.log_records) (told_passes (leaves_view h) (is_other_log h) (others_records h) past o.log_records others)
    ∙ view_after-ends c h v past o

-- And where these records come into its log, they join it.
pub view_after-told : (c : Configuration) (h : HostId) (v : View) (past : List Effect) (o : Outcome) (events : List Event) → list_all leaves_logs o.changes ≡ true →
    fold (log_after (LogId.Host h)) v.log (told past o.log_records) ≡ logged v.log events → view_after c h v (effects_of c past o) ≡ with_log_records (view_after c h v o.changes) events
view_after-told c h v past o events left joined =
    let front : List Effect = o.changes ++ map Effect.TagEnd (ended c past o.changes o.tags) in
    let records : List Effect = told past o.log_records in
    let w : View = view_after c h v o.changes in
    let quiet : fold (log_after (LogId.Host h)) v.log o.changes ≡ v.log = over-leaving (log_after (LogId.Host h)) leaves_logs (log-left (LogId.Host h)) v.log o.changes left in
    view_after-records c h v front records (told_passes only_logs any_log (λ l any. record { logged = λ event. refl; missed = refl }) past o.log_records (tells_any o.log_records))
    ∙ ap {A = View} (λ u. record u { log = fold (log_after (LogId.Host h)) u.log records }) (view_after-ends c h v past o)
    ∙ ap {A = Log} (λ log. record w { log = log }) (ap (λ log. fold (log_after (LogId.Host h)) log records) quiet ∙ joined ∙ ap (λ log. logged log events) (sym quiet))
