use Rattle.std.proofs.Common.{◌≡◌, replicate}
use Rattle.device_state.specs.StateAfter.{no_part}
use Rattle.device_state.proofs.state.fresh_parts.Given as goal

abbrev pub invariant-loop : goal.invariant-loop
invariant-loop l = l.parts.items ≡ replicate l.counter no_part
