use Rattle.std.{proofs.Common.◌≡◌, proofs.Common.take, specs.Prelude.fold}
use Rattle.event_log.specs.LogStates.{with_record}
use Rattle.device_plain.proofs.bringing.append_all.Given as goal

abbrev pub invariant-loop-i : goal.invariant-loop-i
invariant-loop-i l = l.log ≡ fold with_record l.fn.log (take l.i l.events)
