use Rattle.std.proofs.Common.{◌≡◌, ◌∙◌, ap, replicate, rules}
use Rattle.granule_map.{specs.Parts.flags_in, proofs.Flags.no_flags}
use Rattle.granule_map.proofs.tables.GranuleTable.new.Goals as goal

pub returns-clause-unclean : goal.returns-clause-unclean
returns-clause-unclean c =
    let bytes : c.in_ok-vec.field-0.items ≡ replicate c.args.granules 0 = search rules in
    ap flags_in bytes ∙ no_flags c.args.granules
