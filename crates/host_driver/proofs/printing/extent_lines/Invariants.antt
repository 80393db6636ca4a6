use Rattle.std.{proofs.Common.◌≡◌, proofs.Common.take, specs.Prelude.flat_map}
use Rattle.host_driver.specs.Planning.{extent_line}
use Rattle.host_driver.proofs.printing.extent_lines.Given as goal

abbrev pub invariant-loop-extent : goal.invariant-loop-extent
invariant-loop-extent l = l.text ≡ flat_map extent_line (take l.extent-index l.table)
