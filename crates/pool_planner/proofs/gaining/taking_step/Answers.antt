use Rattle.std.proofs.Common.{arith, subst}
use Rattle.region_config.specs.Soundness.{IsSound}
use Rattle.journal_core.specs.Entries.{effects}
use Rattle.device_plain.specs.device_rules.specs.Hosts.{offers_of}
use Rattle.pool_planner.proofs.{GainedInTurn.offer_short, HeldBounds.offers_few}
use Rattle.pool_planner.proofs.gaining.taking_step.Goals as goal

pub accept_step-requires-2 : goal.accept_step-requires-2
accept_step-requires-2 c =
    let control = c.args.control.now in
    let sound : IsSound control.config = subst IsSound c.first_config.ensures c.hosts-hosts.ensures.sound in
    omega (
      arith,
      offer_short (offers_of c.args.host (effects control.entries)) c.offer.result.now c.offer.ensures,
      offers_few control.config sound control.entries c.entries-entries.ensures.legal c.args.host,
    )
