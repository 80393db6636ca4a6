use Rattle.std.proofs.Common.{arith}
use Rattle.region_config.specs.Granules.{no_region}
use Rattle.script_text.proofs.PrintedScripts.{regions_more}
use Rattle.script_text.proofs.printing.write_regions.Goals as goal

pub loop-region-preserved : goal.loop-region-preserved
loop-region-preserved c =
    regions_more c.args.out.now c.loop-region.out c.write_region.new.out c.args.config.now.regions c.loop-region.region no_region
    (omega (arith, c.loop-region-test.true, c.regions-region-end.ensures.value)) c.loop-region.invariant (rw c.region.ensures.value at c.in_ok-write_region.ensures)
