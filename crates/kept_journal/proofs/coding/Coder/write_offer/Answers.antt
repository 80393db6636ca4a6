use Rattle.kept_journal.{specs.declared.slots.TheConstants.OFFER, specs.Tokens.token_of, specs.declared.tokens.Token.Token, proofs.CoderSteps.codes_ended}
use Rattle.kept_journal.proofs.coding.Coder.write_offer.Goals as goal

pub returns : goal.returns
unfolding token_of
returns c =
    codes_ended OFFER _ c.set_host.ensures.slots (λ i. Token.Offer (c.set_host.ensures.back i)) c.set_host.ensures.coded c.end.ensures.coded
