use Rattle.std.proofs.Common.{◌≡◌, ◌+◌, ◌++◌, length, List}
use Rattle.script_gen.specs.{script_codec.specs.declared.script_line.Line.Line, Generated.generated_config, Generated.generated_lines}
use Rattle.script_runner.specs.Fronts.{RanLines}
use Rattle.script_runner.proofs.generated.run_rounds.Given as goal

-- The lines that are done stand before those of the rounds that are still to come.
abbrev pub invariant-loop-device : goal.invariant-loop-device
invariant-loop-device l = record {
  done : List Line;
  number : l.number ≡ length done;
  parts : generated_lines l.fn.seed ≡ done ++ l.rounds.rest;
  count : length done + length l.rounds.rest ≡ 38137;
  config : l.device.config ≡ generated_config;
  ran : RanLines generated_config.hosts 1 done l.device.journal;
}

abbrev pub decreases-loop-device : goal.decreases-loop-device
decreases-loop-device l = l.rounds.left
