use Rattle.std.proofs.Common.{◌++◌, replicate, rules}
use Rattle.dcd_base.{specs.Extents.extent_bytes, specs.Layouts.u16_bytes, specs.Layouts.u64_bytes, proofs.Filling.around, proofs.Filling.filled}
use Rattle.dcd_base.proofs.extents.fill_extent.Goals as goal

pub returns-clause-bytes : goal.returns-clause-bytes
unfolding extent_bytes
returns-clause-bytes c =
    let x = c.args.extent.now in
    filled 40 (search rules)
    (rw (c.put_zeros.ensures.put, c.put_u16.ensures.put, c.put_tag.ensures.put, c.put_u64-2.ensures.put, c.put_u64.ensures.put)
    (around (u64_bytes x.start ++ u64_bytes x.length) x.tag.0 (u16_bytes x.sequence) (replicate 6 0)))
