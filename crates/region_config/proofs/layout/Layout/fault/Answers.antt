use Rattle.std.proofs.Common.{◌∙◌, sym}
use Rattle.region_config.proofs.Faultless.{short_lengths, some_sizes}
use Rattle.region_config.proofs.layout.Layout.fault.Goals as goal

pub length_fault-requires : goal.length_fault-requires
length_fault-requires c = some_sizes c.args.self.now (sym c.sizes_fault.ensures ∙ c.in_default-sizes_fault.is)

pub total_fault-requires-clause-sizes : goal.total_fault-requires-clause-sizes
total_fault-requires-clause-sizes c = some_sizes c.args.self.now (sym c.sizes_fault.ensures ∙ c.in_default-sizes_fault.is)

pub total_fault-requires-clause-short : goal.total_fault-requires-clause-short
total_fault-requires-clause-short c =
    short_lengths c.args.self.now (sym c.base_fault.ensures ∙ c.in_default.is) (sym c.length_fault.ensures ∙ c.in_default-length_fault.is) c.requires
