-- A view after one more entry is one step from the view before it.
use Rattle.std.{proofs.Common.◌≡◌, proofs.Common.◌+◌, proofs.Common.List, proofs.Common.[], proofs.Common.◌∷◌, proofs.Common.◌++◌, proofs.lemmas.List.Sums.fold_push, specs.List.list_any}
use Rattle.std.specs.Prelude.{if◌then◌else◌}
use Rattle.extent_list.specs.media_map.specs.region_config.specs.{Configurations.Configuration, Granules.region_spec}
use Rattle.cci_codec.specs.dcd_base.specs.declared.{ids.HostId.HostId, steps.LogId.LogId}
use Rattle.journal_core.{specs.declared.entries.Entry.Entry, specs.declared.outcome.HeldKind.HeldKind, proofs.JournalSteps.over-push}
use Rattle.device_rules.specs.{Hosts.offers_after, Hosts.accepted_after, Hosts.moves, Hosts.held_after, Hosts.block_after, Logs.log_after, Views.view_of, Views.view_after}
use Rattle.event_log.specs.Logs.{empty_log}

-- the view after one more entry is one step from the view before it
pub view_of-push : (c : Configuration) (h : HostId) (journal : List Entry) (e : Entry) → view_of c h (journal ++ e ∷ []) ≡ view_after c h (view_of c h journal) e.effects
view_of-push c h journal e = λ i. record {
  offers = over-push (offers_after h) [] journal e i;
  accepted = over-push (accepted_after c h) [] journal e i;
  changes = fold_push (λ n (e : Entry). if list_any (moves h) e.effects then n + 1 else n) 0 journal e i;
  responses = over-push (held_after h HeldKind.Responses) [] journal e i;
  releases = over-push (held_after h HeldKind.Releases) [] journal e i;
  log = over-push (log_after (LogId.Host h)) empty_log journal e i;
  block = λ r. over-push (block_after r) (region_spec c r).block journal e i;
}
