use Rattle.std.proofs.Common.{◌∙◌, ap}
use Rattle.kept_journal.{proofs.CoderSteps.codes_ended, proofs.CoderSteps.codes_then, specs.Slots.with_slot, specs.Tokens.token_of}
use Rattle.kept_journal.specs.declared.{slots.TheConstants.LENGTH, slots.TheConstants.BLOCK, tokens.Token.Token}
use Rattle.kept_journal.proofs.coding.Coder.write_block.Goals as goal

pub returns : goal.returns
unfolding token_of
returns c =
    codes_ended BLOCK _ (c.set.ensures.slots ∙ ap (λ z. with_slot z LENGTH c.args.size) c.set_region.ensures.slots)
    (λ i. Token.Block (c.set_region.ensures.back i) c.args.size)
    (codes_then c.set_region.ensures.coded c.set.ensures.coded) c.end.ensures.coded
