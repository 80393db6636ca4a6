use Rattle.std.proofs.Common.{◌≡◌, ◌+◌, length, List}
use Rattle.script_gen.specs.script_codec.{specs.declared.script_line.Line.Line, proofs.Lists.with_lines}
use Rattle.script_runner.specs.Fronts.{RanLines}
use Rattle.script_runner.proofs.script.run_rest.Given as goal

-- The lines that are done stand before those that are still to come.
abbrev pub invariant-loop-line : goal.invariant-loop-line
invariant-loop-line l = record {
  done : List Line;
  number : l.number ≡ length done;
  count : length done + l.reader.left ≡ l.fn.reader.left;
  read : with_lines done l.reader.rest ≡ l.fn.reader.rest;
  hosts : l.reader.hosts ≡ l.fn.reader.hosts;
  lanes : l.reader.lanes ≡ l.fn.reader.lanes;
  config : l.device.config ≡ l.fn.device.config;
  ran : RanLines l.fn.device.config.hosts l.lanes done l.device.journal;
}

abbrev pub decreases-loop-line : goal.decreases-loop-line
decreases-loop-line l = l.reader.left
