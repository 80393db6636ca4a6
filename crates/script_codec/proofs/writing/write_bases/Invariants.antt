use Rattle.std.{proofs.Common.take, proofs.Common.map, proofs.Common.length, proofs.Common.◌+◌, proofs.Common.◌*◌, specs.Int.w64}
use Rattle.cci_codec.specs.dcd_base.specs.Layouts.{Number}
use Rattle.script_codec.specs.Writing.{AppendsLines}
use Rattle.script_codec.proofs.writing.write_bases.Given as goal

abbrev pub invariant-loop-host : goal.invariant-loop-host
invariant-loop-host l = AppendsLines l.fn.out l.out (map (λ base. Number w64 base) (take (l.host * length l.config.regions) l.config.bases))

abbrev pub invariant-loop-region : goal.invariant-loop-region
invariant-loop-region l = AppendsLines l.fn.out l.out (map (λ base. Number w64 base) (take (l.host * length l.config.regions + l.region) l.config.bases))
