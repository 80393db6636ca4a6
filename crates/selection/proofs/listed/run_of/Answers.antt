use Rattle.std.proofs.{Common.sym, Common.◌∙◌, lemmas.Option.none-some}
use Rattle.extent_list.specs.media_map.specs.Places.{run_of}
use Rattle.selection.proofs.Placed.{granular_run, run_below}
use Rattle.selection.proofs.listed.run_of.Goals as goal

pub unreachable-requires : goal.unreachable-requires
unreachable-requires c =
    none-some (run_of c.args.config.now c.args.host c.args.extent.now)
    (sym c.in-None.is ∙ c.run_of.ensures.value ∙ granular_run c.args.config.now c.args.host c.args.extent.now c.requires.granular)

pub returns-clause-below : goal.returns-clause-below
returns-clause-below c = run_below c.args.config.now _ c.in-Some.ensures.back.run
