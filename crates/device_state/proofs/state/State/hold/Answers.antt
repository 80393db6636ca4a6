use Rattle.std.proofs.Common.{◌++◌, ◌<◌, ap, arith, length}
use Rattle.journal_core.specs.declared.outcome.Effect.{Effect}
use Rattle.device_state.{proofs.Listed.listed, proofs.Listed.of_hold, proofs.Listed.own_hold, specs.EnteredLists.held_of, specs.EnteredLists.with_held, specs.StateAfter.part_of}
use Rattle.device_state.specs.declared.state.State.{State}
use Rattle.device_state.proofs.state.State.hold.Goals as goal

pub returns-clause-listed : goal.returns-clause-listed
returns-clause-listed c =
    let conf = c.args.config.now in
    let old = c.args.self.now in
    let h = c.args.host in
    let kind = c.args.kind in
    let xs = c.args.extents.now in
    let was = (part_of old h).lists in
    let known : h < length old.hosts.items = omega (arith, c.requires.host, c.requires.hosts) in
    record {
      listed = listed conf old c.enter_held.new.self h (with_held kind (held_of kind was ++ xs) was) (Effect.Hold h kind xs) known
          (of_hold conf h kind xs) (own_hold conf h was kind xs) c.enter_held.ensures.hosts;
      tags = ap (λ (s : State). s.tags.entries) c.enter_held.ensures.kept;
    }
