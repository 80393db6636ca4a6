use Rattle.kept_journal.{specs.Slots.slots_in, specs.declared.slots.TheConstants.MORE, specs.Tokens.token_of, specs.declared.tokens.Token.Token, proofs.CoderSteps.codes_ended}
use Rattle.kept_journal.proofs.coding.Coder.write_more.Goals as goal

pub returns : goal.returns
unfolding token_of
returns c =
    codes_ended MORE _ c.set_extent.ensures.slots (λ i. Token.More (c.set_extent.ensures.back (slots_in c.args.self.now.slots) i)) c.set_extent.ensures.coded c.end.ensures.coded
