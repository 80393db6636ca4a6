use Rattle.kept_journal.{specs.Slots.slots_in, specs.declared.slots.TheConstants.RESET, specs.Tokens.token_of, specs.declared.tokens.Token.Token, proofs.CoderSteps.codes_ended}
use Rattle.kept_journal.proofs.coding.Coder.write_reset.Goals as goal

pub returns : goal.returns
unfolding token_of
returns c =
    codes_ended RESET _ c.set_log.ensures.slots (λ i. Token.Reset (c.set_log.ensures.back (slots_in c.args.self.now.slots) i)) c.set_log.ensures.coded c.end.ensures.coded
