use Rattle.std.{proofs.Common.arith, proofs.Common.◌+◌, proofs.Common.◌*◌, proofs.Common.length, proofs.Common.◌<◌, specs.Int.w64}
use Rattle.cci_codec.specs.dcd_base.specs.Layouts.{Number}
use Rattle.script_codec.proofs.Adding.{appends_member, within_seats}
use Rattle.script_codec.proofs.writing.write_bases.Goals as goal

pub loop-region-preserved : goal.loop-region-preserved
loop-region-preserved c =
    let under : c.loop-host.host * length c.args.config.now.regions + c.loop-region.region < c.args.config.now.hosts * length c.args.config.now.regions =
    within_seats c.loop-host.host c.loop-region.region c.args.config.now.hosts (length c.args.config.now.regions) (omega (arith, c.loop-host-test.true, c.hosts-host-end.ensures.value)) (omega (arith, c.loop-region-test.true, c.regions-region-end.ensures.value)) in
    appends_member (λ base. Number w64 base) c.args.config.now.bases (c.loop-host.host * length c.args.config.now.regions + c.loop-region.region) _ 0 _ _ _
    (omega (arith, under, c.requires)) (omega arith) c.loop-region.invariant (rw c.base.ensures.value at c.in_ok-write_u64.ensures)
