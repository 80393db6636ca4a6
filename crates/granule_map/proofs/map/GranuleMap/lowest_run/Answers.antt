use Rattle.std.proofs.{Common.◌≡◌, Common.Some, Common.None, Common.sym, Common.◌∙◌, Common.refl, Common.rules, lemmas.Bool.true≢false}
use Rattle.granule_map.{proofs.RunSteps.below_from_none, proofs.RunSteps.none_from_below, specs.Blocks.block_count, specs.Blocks.is_block_free, specs.Blocks.lowest_free_run}
use Rattle.granule_map.proofs.map.GranuleMap.lowest_run.Goals as goal

pub returns-in-Some-clause-none : goal.returns-in-Some-clause-none
returns-in-Some-clause-none c =
    let p = is_block_free c.args.self.now.states c.args.area c.args.per_block in
    let n = block_count c.args.area c.args.per_block in
    let found : Some c.in-Some.k ≡ lowest_free_run c.args.self.now.states c.args.area c.args.per_block c.args.blocks = search rules in
    (λ never. absurd (true≢false never), λ below. let both : Some c.in-Some.k ≡ None = found ∙ none_from_below p n c.args.blocks below in cc both)

pub returns-in-None-clause-none : goal.returns-in-None-clause-none
returns-in-None-clause-none c =
    let none : None ≡ lowest_free_run c.args.self.now.states c.args.area c.args.per_block c.args.blocks = search rules in
    (λ _. below_from_none (is_block_free c.args.self.now.states c.args.area c.args.per_block) (block_count c.args.area c.args.per_block) c.args.blocks c.requires.some (sym none), λ _. refl)
