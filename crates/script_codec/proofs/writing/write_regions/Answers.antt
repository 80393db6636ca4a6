use Rattle.std.proofs.Common.{arith}
use Rattle.region_config.specs.Granules.{no_region}
use Rattle.script_codec.{specs.Scripts.region_fields, proofs.Adding.appends_item}
use Rattle.script_codec.proofs.writing.write_regions.Goals as goal

pub loop-region-preserved : goal.loop-region-preserved
loop-region-preserved c =
    appends_item region_fields c.args.config.now.regions c.loop-region.region no_region _ _ _
    (omega (arith, c.loop-region-test.true, c.regions-region-end.ensures.value)) c.loop-region.invariant (rw c.region.ensures.value at c.in_ok-write_region.ensures)
