use Rattle.std.proofs.Common.{◌≡◌, take}
use Rattle.device_commands.proofs.get_event_records.oldest.Given as goal

-- The oldest records so far.
abbrev pub invariant-loop-index : goal.invariant-loop-index
invariant-loop-index l = l.events ≡ take l.index l.log.records
