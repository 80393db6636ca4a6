use Rattle.std.proofs.Common.{◌∙◌, ap}
use Rattle.kept_journal.{proofs.CoderSteps.codes_ended, proofs.CoderSteps.codes_then, proofs.EventSlots.flag_back, specs.Slots.slots_in, specs.Slots.telling_flag, specs.Tokens.token_of}
use Rattle.kept_journal.specs.declared.{slots.TheConstants.REF, tokens.Token.Token}
use Rattle.kept_journal.proofs.coding.Coder.write_ref.Goals as goal

pub returns : goal.returns
unfolding token_of
returns c =
    codes_ended REF _ (c.set_flag.ensures.slots ∙ ap (λ z. telling_flag z c.args.is_on) c.set_tag.ensures.slots)
    (λ i. Token.Ref (c.set_tag.ensures.back (slots_in c.args.self.now.slots) i) (flag_back (slots_in c.args.self.now.slots) c.args.is_on i))
    (codes_then c.set_tag.ensures.coded c.set_flag.ensures.coded) c.end.ensures.coded
