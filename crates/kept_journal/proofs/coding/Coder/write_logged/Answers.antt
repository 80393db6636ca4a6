use Rattle.std.proofs.Common.{◌∙◌, ap}
use Rattle.kept_journal.{proofs.CoderSteps.codes_ended, proofs.CoderSteps.codes_then, specs.Slots.slots_in, specs.Slots.telling_event, specs.Slots.telling_log, specs.Tokens.token_of}
use Rattle.kept_journal.specs.declared.{slots.TheConstants.LOGGED, tokens.Token.Token}
use Rattle.kept_journal.proofs.coding.Coder.write_logged.Goals as goal

pub returns : goal.returns
unfolding token_of
returns c =
    codes_ended LOGGED _ (c.set_event.ensures.slots ∙ ap (λ z. telling_event z c.args.event.now) c.set_log.ensures.slots)
    (λ i. Token.Logged (c.set_log.ensures.back (slots_in c.args.self.now.slots) i) (c.set_event.ensures.back (telling_log (slots_in c.args.self.now.slots) c.args.log.now) i))
    (codes_then c.set_log.ensures.coded c.set_event.ensures.coded) c.end.ensures.coded
