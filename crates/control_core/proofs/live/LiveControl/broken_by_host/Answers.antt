use Rattle.std.{proofs.Common.◌≡◌, proofs.Common.◌<◌, proofs.Common.◌≤◌, proofs.Common.IfOk, proofs.Common.ap, proofs.Common.subst, proofs.Common.sym, proofs.Common.◌∙◌, specs.Result.result_err}
use Rattle.cci_codec.specs.dcd_base.specs.declared.steps.LogId.{LogId}
use Rattle.extent_list.specs.HostLists.{extent_total}
use Rattle.manager_commands.{proofs.FewExtents.few_extents, specs.device_state.specs.declared.parts.HostPart.HostPart}
use Rattle.device_commands.specs.device_rules.specs.{Answers.host_result_in, Views.view_of}
use Rattle.event_log.specs.Logs.{IsLogOf}
use Rattle.control_core.{specs.Pasts.ByEveryPast, specs.Pasts.IsPast, specs.Pasts.LiveControlled, proofs.DraftedRows.host_row, proofs.Entering.by_every}
use Rattle.control_core.proofs.live.LiveControl.broken_by_host.Goals as goal

pub host_draft-requires-clause-few : goal.host_draft-requires-clause-few
host_draft-requires-clause-few c =
    let host : c.args.host < c.self.inside.config.hosts = subst (λ (d : LiveControlled). c.args.host < d.config.hosts) (sym c.self.view_is) c.requires in
    subst (λ (p : HostPart). extent_total p.lists ≤ 64) (sym c.part-part.ensures) (few_extents c.self.inside.config c.self.inside.state c.self.invariant c.args.host host)

pub returns : goal.returns
returns c =
    let cfg = c.self.inside.config in
    let h = c.args.host in
    let q = c.args.request.now in
    let host : h < cfg.hosts = subst (λ (d : LiveControlled). h < d.config.hosts) (sym c.self.view_is) c.requires in
    subst (λ (d : LiveControlled). IfOk c.rule_of.result (λ rule. ByEveryPast d (λ past. rule ≡ result_err (host_result_in d.config h (view_of d.config h past) q)))) c.self.view_is
    (by_every c.rule_of.result (λ past. IsPast cfg past c.self.inside.state) (λ past rule. rule ≡ result_err (host_result_in cfg h (view_of cfg h past) q))
    (λ past leads.
    c.rule_of.ensures (result_err (host_result_in cfg h (view_of cfg h past) q))
    (host_row cfg h (view_of cfg h past) q c.host_draft.result
    (c.host_draft.ensures (view_of cfg h past) leads.kept.present_is
    (ap (λ (p : HostPart). p.lists) c.part-part.ensures ∙ (leads.kept.parts h host).lists_are)
    (subst (λ (p : HostPart). IsLogOf (LogId.Host h) (view_of cfg h past).log p.log) (sym c.part-part.ensures) (leads.kept.parts h host).log_is)))))
