-- What a command that breaks no rule changes finds its places.
use Rattle.std.proofs.Common.{◌≡◌, ◌<◌, ◌++◌, List, None, flat_map, map}
use Rattle.cci_codec.specs.dcd_base.specs.declared.ids.HostId.{HostId}
use Rattle.extent_list.specs.media_map.specs.region_config.specs.Configurations.{Configuration}
use Rattle.fm_payloads.specs.declared.requests.FmRequest.{FmRequest}
use Rattle.host_payloads.specs.declared.requests.HostRequest.{HostRequest}
use Rattle.journal_core.specs.{Entries.effects, declared.outcome.Effect.Effect}
use Rattle.device_commands.specs.device_rules.specs.{Answers.host_outcome, Answers.host_rule, Answers.manager_outcome, Answers.manager_rule, Logs.log_of}
use Rattle.device_commands.specs.device_rules.specs.{Outcomes.Outcome, Outcomes.effects_of, Outcomes.ended, Outcomes.entered_all, Views.view_of}
use Rattle.manager_commands.specs.device_state.{proofs.Fitting.host_fits, proofs.Fitting.manager_fits, proofs.OwnEffects.fits_front, specs.EnteredLists.Fits, specs.EnteredLists.lists_of}
use Rattle.manager_commands.specs.device_state.specs.{StateAfter.IsReached, declared.state.State.State}

module _ (c : Configuration) (s : State) (reached : IsReached c s) where
  changes_fit : (o : Outcome) → Fits c (lists_of s) 1 (effects_of c (effects reached.journal) o) → Fits c (lists_of s) 1 o.changes
  changes_fit o fits =
      let ends : List Effect = map Effect.TagEnd (ended c (effects reached.journal) o.changes o.tags) in
      let told : List Effect = flat_map (λ n. entered_all n.0 (log_of n.0 (effects reached.journal)) n.1) o.log_records in
      fits_front c (lists_of s) 1 o.changes ends (fits_front c (lists_of s) 1 (o.changes ++ ends) told fits)

  pub host_changes_fit : (h : HostId) → h < c.hosts → (q : HostRequest) → host_rule c h (view_of c h reached.journal) q ≡ None →
      Fits c (lists_of s) 1 (host_outcome c h (view_of c h reached.journal) q).changes
  host_changes_fit h host q row =
      changes_fit (host_outcome c h (view_of c h reached.journal) q)
      (host_fits c reached.sound reached.journal reached.legal h host q row (lists_of s) (λ k known. (reached.kept.parts k known).lists_are))

  pub manager_changes_fit : (q : FmRequest) → manager_rule c (effects reached.journal) (λ k. view_of c k reached.journal) q ≡ None →
      Fits c (lists_of s) 1 (manager_outcome c (effects reached.journal) (λ k. view_of c k reached.journal) q).changes
  manager_changes_fit q row =
      changes_fit (manager_outcome c (effects reached.journal) (λ k. view_of c k reached.journal) q)
      (manager_fits c reached.sound reached.journal reached.legal q row (lists_of s) (λ k known. (reached.kept.parts k known).lists_are))
