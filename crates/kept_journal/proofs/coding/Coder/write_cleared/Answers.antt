use Rattle.std.proofs.Common.{rules, ◌≡◌, ◌∙◌, ap, ◌%◌, ◌^◌}
use Rattle.kept_journal.{proofs.CoderSteps.codes_ended, proofs.CoderSteps.codes_then, specs.Slots.slots_in, specs.Slots.telling_log, specs.Slots.with_slot, specs.Tokens.token_of}
use Rattle.kept_journal.specs.declared.{slots.TheConstants.COUNT, slots.TheConstants.CLEARED, tokens.Token.Token}
use Rattle.kept_journal.proofs.coding.Coder.write_cleared.Goals as goal

pub returns : goal.returns
unfolding token_of
returns c =
    let small : c.args.count % 2 ^ 16 ≡ c.args.count = search rules in
    codes_ended CLEARED _ (c.set.ensures.slots ∙ ap (λ z. with_slot z COUNT c.from.result) c.set_log.ensures.slots ∙ ap (λ n. with_slot (telling_log (slots_in c.args.self.now.slots) c.args.log.now) COUNT n) c.from.ensures)
    (λ i. Token.Cleared (c.set_log.ensures.back (slots_in c.args.self.now.slots) i) (small i))
    (codes_then c.set_log.ensures.coded c.set.ensures.coded) c.end.ensures.coded
