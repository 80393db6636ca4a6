use Rattle.std.{proofs.Common.arith, proofs.Common.length-append, specs.Prelude.flat_map}
use Rattle.block_shard.specs.journal_core.proofs.Merges.{merged-length}
use Rattle.shared_device.proofs.lending.count_entries.Goals as goal

pub returns : goal.returns
returns c =
    let all = c.count_all.ensures.count in
    let long = merged-length c.args.control.now.entries c.args.lists.now in
    let parts = length-append c.args.control.now.entries (flat_map (λ entries. entries) c.args.lists.now) in
    omega (arith, all, long, parts)
