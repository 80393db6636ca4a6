use Rattle.kept_journal.{specs.Slots.slots_in, specs.declared.slots.TheConstants.TAG_END, specs.Tokens.token_of, specs.declared.tokens.Token.Token, proofs.CoderSteps.codes_ended}
use Rattle.kept_journal.proofs.coding.Coder.write_tag_end.Goals as goal

pub returns : goal.returns
unfolding token_of
returns c =
    codes_ended TAG_END _ c.set_tag.ensures.slots (λ i. Token.TagEnd (c.set_tag.ensures.back (slots_in c.args.self.now.slots) i)) c.set_tag.ensures.coded c.end.ensures.coded
