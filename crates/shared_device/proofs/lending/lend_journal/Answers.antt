use Rattle.std.proofs.Common.{◌≡◌, ◌∙◌, ap, subst, sym}
use Rattle.control_core.specs.Deciding.{AreShort}
use Rattle.block_shard.specs.journal_core.specs.{Entries.effects, Merging.Rising, Merging.merged}
use Rattle.shared_device.proofs.LentJournal.{all_short, commands_rise, same_effects}
use Rattle.shared_device.proofs.lending.lend_journal.Goals as goal

pub whole_of_shards-requires-clause-control : goal.whole_of_shards-requires-clause-control
whole_of_shards-requires-clause-control c =
    let closed = c.requires.closed.2 in
    let it = c.args.control.now in
    subst Rising (sym c.entries-entries.ensures.value) (commands_rise it.config it.entries c.args.shards.now closed.commands closed.numbered)

pub returns-clause-effects : goal.returns-clause-effects
returns-clause-effects c =
    let closed = c.requires.closed.2 in
    let it = c.args.control.now in
    let is : c.whole_of_shards.result ≡ merged it.entries c.args.shards.now = c.whole_of_shards.ensures ∙ ap (λ es. merged es c.args.shards.now) c.entries-entries.ensures.value in
    same_effects it.config it.entries c.args.shards.now closed.commands closed.legal ∙ ap effects (sym is)

pub returns-clause-short : goal.returns-clause-short
returns-clause-short c =
    let closed = c.requires.closed.2 in
    let it = c.args.control.now in
    let is : c.whole_of_shards.result ≡ merged it.entries c.args.shards.now = c.whole_of_shards.ensures ∙ ap (λ es. merged es c.args.shards.now) c.entries-entries.ensures.value in
    subst AreShort (sym is) (all_short it.config it.entries c.args.shards.now closed.commands closed.legal c.entries-entries.ensures.short)
