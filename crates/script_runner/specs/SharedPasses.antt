-- What the workers read of the passes of a shared device.
use Rattle.shared_device.specs.{declared.pass.Pass.Pass, declared.shared.Shared.Shared, Passing.IsOneOf, Passing.pass_actor, Passing.pass_calls, Passing.pass_number}
use Rattle.workers.specs.Handling.{HandlerReads}

abbrev pub shared_reads : {H : Type 0} → (H → Shared) → HandlerReads H Pass
shared_reads device = record {
  hosts = λ handler. (device handler).config.hosts;
  is_mine = λ handler pass. IsOneOf (device handler) pass;
  number = pass_number;
  actor = pass_actor;
  calls = pass_calls;
}
