use Rattle.std.proofs.Common.{sym, ◌∙◌}
use Rattle.selection.proofs.Placed.{is_made_of_granules, placed}
use Rattle.selection.proofs.listed.extent_rule.Goals as goal

pub run_of-run-requires-clause-granular : goal.run_of-run-requires-clause-granular
run_of-run-requires-clause-granular c =
    let none = sym c.misplaced.ensures ∙ c.in_default.is in
    is_made_of_granules c.args.config.now c.args.host c.regions-regions.ensures.sound c.requires.host c.args.region c.args.extent.now
    (placed c.args.config.now c.args.host c.args.region _ c.args.extent.now none)
