use Rattle.std.proofs.Common.{◌≡◌, ◌+◌, ◌≤◌, length, take}
use Rattle.sanitizer.specs.Turns.{freed}
use Rattle.sanitizer.proofs.scrubbing.set_free.Given as goal

abbrev pub invariant-loop-run : goal.invariant-loop-run
invariant-loop-run l = record {
  states : l.map.states ≡ freed l.fn.map.states (take l.run-index l.runs);
  granules : length l.map.states ≡ length l.fn.map.states;
  spare : l.fn.map.spare ≤ l.map.spare + l.run-index;
}
