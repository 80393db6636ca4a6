use Rattle.kept_journal.{specs.Slots.slots_in, specs.declared.slots.TheConstants.MISSED, specs.Tokens.token_of, specs.declared.tokens.Token.Token, proofs.CoderSteps.codes_ended}
use Rattle.kept_journal.proofs.coding.Coder.write_missed.Goals as goal

pub returns : goal.returns
unfolding token_of
returns c =
    codes_ended MISSED _ c.set_log.ensures.slots (λ i. Token.Missed (c.set_log.ensures.back (slots_in c.args.self.now.slots) i)) c.set_log.ensures.coded c.end.ensures.coded
