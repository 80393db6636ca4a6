use Rattle.std.{proofs.Common.take, specs.Prelude.flat_map}
use Rattle.script_codec.specs.{Scripts.region_fields, Writing.AppendsLines}
use Rattle.script_codec.proofs.writing.write_regions.Given as goal

abbrev pub invariant-loop-region : goal.invariant-loop-region
invariant-loop-region l = AppendsLines l.fn.out l.out (flat_map region_fields (take l.region l.config.regions))
