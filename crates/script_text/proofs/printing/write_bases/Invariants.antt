use Rattle.std.proofs.Common.{take}
use Rattle.script_text.specs.{Layouts.base_parts, Layouts.bases_of_host, LinePrinting.AddsParts}
use Rattle.script_text.proofs.printing.write_bases.Given as goal

abbrev pub invariant-loop-region : goal.invariant-loop-region
invariant-loop-region l = AddsParts l.fn.out l.out (base_parts (take l.region (bases_of_host l.config l.host)))
