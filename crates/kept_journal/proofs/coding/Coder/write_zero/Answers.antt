use Rattle.kept_journal.{specs.Slots.slots_in, specs.declared.slots.TheConstants.ZERO, specs.Tokens.token_of, specs.declared.tokens.Token.Token, proofs.CoderSteps.codes_ended}
use Rattle.kept_journal.proofs.coding.Coder.write_zero.Goals as goal

pub returns : goal.returns
unfolding token_of
returns c =
    codes_ended ZERO _ c.set_run.ensures.slots (λ i. Token.Zero (c.set_run.ensures.back (slots_in c.args.self.now.slots) i)) c.set_run.ensures.coded c.end.ensures.coded
