use Rattle.std.proofs.Common.{take}
use Rattle.script_text.specs.{Layouts.regions_parts, Printing.AddsLines}
use Rattle.script_text.proofs.printing.write_regions.Given as goal

abbrev pub invariant-loop-region : goal.invariant-loop-region
invariant-loop-region l = AddsLines l.fn.out l.out (regions_parts 0 (take l.region l.config.regions))
