use Rattle.std.proofs.Common.{◌≡◌, take}
use Rattle.report.specs.script_codec.specs.Covering.{Runs}
use Rattle.pool_planner.proofs.running.run_lines.Given as goal

-- The first lines are done.
abbrev pub invariant-loop-line : goal.invariant-loop-line
invariant-loop-line l = record {
  number : l.number ≡ l.line-index;
  config : l.device.config ≡ l.fn.device.config;
  ran : Runs l.fn.device.config.hosts l.lanes 1 (take l.line-index l.lines) l.device.journal;
}
