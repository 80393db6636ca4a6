use Rattle.std.proofs.{Common.◌<◌, Common.◌∙◌, Common.ap, Common.subst, lemmas.Result.on_ok_weaker}
use Rattle.extent_list.specs.HostLists.{Lists}
use Rattle.device_commands.specs.device_rules.specs.Views.{view_of}
use Rattle.manager_commands.specs.device_state.specs.declared.parts.HostPart.{HostPart}
use Rattle.control_core.proofs.recording.append_records_of_host.Goals as goal

pub returns : goal.returns
returns c = on_ok_weaker c.append_records_of_log.result (λ put cfg journal kept.
    let h = c.args.records.now.host in
    let lists = ap (λ (p : HostPart). p.lists) c.part.ensures ∙ (kept.parts h (subst (λ n. h < n) kept.host_count c.requires.host)).lists_are in
    put cfg journal (view_of cfg h journal) kept (record { accepted = ap (λ (l : Lists). l.accepted) lists; offers = ap (λ (l : Lists). l.offers) lists })) c.append_records_of_log.ensures
