use Rattle.std.proofs.Common.{[], ◌<◌, ap, arith, length}
use Rattle.journal_core.specs.declared.outcome.Effect.{Effect}
use Rattle.device_state.{specs.EnteredLists.with_held, specs.StateAfter.part_of, specs.declared.state.State.State, proofs.Listed.listed, proofs.Listed.of_unhold, proofs.Listed.own_unhold}
use Rattle.device_state.proofs.state.State.unhold.Goals as goal

pub returns-clause-listed : goal.returns-clause-listed
returns-clause-listed c =
    let conf = c.args.config.now in
    let old = c.args.self.now in
    let h = c.args.host in
    let kind = c.args.kind in
    let was = (part_of old h).lists in
    let known : h < length old.hosts.items = omega (arith, c.requires.host, c.requires.hosts) in
    record {
      listed = listed conf old c.drop_held.new.self h (with_held kind [] was) (Effect.Unhold h kind) known
          (of_unhold conf h kind) (own_unhold conf h was kind) c.drop_held.ensures.hosts;
      tags = ap (λ (s : State). s.tags.entries) c.drop_held.ensures.kept;
    }
