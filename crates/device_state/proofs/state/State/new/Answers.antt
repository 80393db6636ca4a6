use Rattle.std.proofs.Common.{◌∙◌, ap, sym, replicate, false}
use Rattle.event_log.proofs.Histories.{begins}
use Rattle.granule_map.specs.declared.states.GranuleState.{GranuleState}
use Rattle.device_state.{specs.StateAfter.no_part, proofs.Fresh.first_kept}
use Rattle.device_state.proofs.state.State.new.Goals as goal

pub returns : goal.returns
returns c = first_kept c.args.config.now _ c.in_ok-copy.ensures (c.in_ok-fresh_parts.ensures ∙ ap (λ n. replicate n no_part) c.hosts.ensures.value)
    (record { is = c.in_ok-new.ensures ∙ sym (begins 128).0; told = (begins 128).1 })
    (c.in_ok-new-2.ensures.states ∙ ap (λ n. replicate n GranuleState.Free) c.granules.ensures.value)
    (c.in_ok-new-2.ensures.unclean ∙ ap (λ n. replicate n false) c.granules.ensures.value)
    (c.in_ok-new-3.ensures ∙ ap (λ n. replicate n 0) c.granules-2.ensures.value)
    c.new-4.ensures
