use Rattle.std.proofs.Common.{◌∙◌, ap}
use Rattle.kept_journal.{proofs.CoderSteps.codes_ended, proofs.CoderSteps.codes_then, proofs.EventSlots.held_back, specs.Slots.slots_in, specs.Slots.telling_held, specs.Tokens.token_of}
use Rattle.kept_journal.specs.declared.{slots.TheConstants.HOLD, tokens.Token.Token}
use Rattle.kept_journal.proofs.coding.Coder.write_hold.Goals as goal

pub returns : goal.returns
unfolding token_of
returns c =
    codes_ended HOLD _ (c.set_held.ensures.slots ∙ ap (λ z. telling_held z c.args.kind.now) c.set_host.ensures.slots)
    (λ i. Token.Hold (c.set_host.ensures.back i) (held_back (slots_in c.args.self.now.slots) c.args.kind.now i)) (codes_then c.set_host.ensures.coded c.set_held.ensures.coded) c.end.ensures.coded
