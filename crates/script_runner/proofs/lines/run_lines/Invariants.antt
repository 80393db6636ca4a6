use Rattle.std.proofs.Common.{◌≡◌, ◌+◌, take}
use Rattle.script_runner.specs.Fronts.{RunsLines}
use Rattle.script_runner.proofs.lines.run_lines.Given as goal

-- The first lines are done, and the others are left.
abbrev pub invariant-loop-line : goal.invariant-loop-line
invariant-loop-line l = record {
  number : l.number ≡ l.behind + l.line-index;
  ran : RunsLines l.fn.device.config.hosts l.lanes l.behind (take l.line-index l.line-items) l.fn.device.journal l.device.journal;
  config : l.device.config ≡ l.fn.device.config;
}
