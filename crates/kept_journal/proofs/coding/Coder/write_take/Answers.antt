use Rattle.std.proofs.Common.{◌∙◌, ap}
use Rattle.kept_journal.{proofs.CoderSteps.codes_ended, proofs.CoderSteps.codes_then, specs.Slots.slots_in, specs.Slots.telling_host, specs.Slots.telling_run, specs.Tokens.token_of}
use Rattle.kept_journal.specs.declared.{slots.TheConstants.TAKE, tokens.Token.Token}
use Rattle.kept_journal.proofs.coding.Coder.write_take.Goals as goal

pub returns : goal.returns
unfolding token_of
returns c =
    codes_ended TAKE _ (c.set_run.ensures.slots ∙ ap (λ z. telling_run z c.args.run.now) c.set_host.ensures.slots)
    (λ i. Token.Take (c.set_host.ensures.back i) (c.set_run.ensures.back (telling_host (slots_in c.args.self.now.slots) c.args.host.now) i))
    (codes_then c.set_host.ensures.coded c.set_run.ensures.coded) c.end.ensures.coded
