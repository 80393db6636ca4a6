use Rattle.kept_journal.{specs.declared.slots.TheConstants.ANSWER, specs.Tokens.token_of, specs.declared.tokens.Token.Token, proofs.CoderSteps.codes_ended}
use Rattle.kept_journal.proofs.coding.Coder.write_answer.Goals as goal

pub returns : goal.returns
unfolding token_of
returns c =
    codes_ended ANSWER _ c.set_host.ensures.slots (λ i. Token.Answer (c.set_host.ensures.back i)) c.set_host.ensures.coded c.end.ensures.coded
