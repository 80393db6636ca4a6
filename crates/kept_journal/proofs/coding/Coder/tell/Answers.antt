use Rattle.std.proofs.Common.{refl, sym, ◌∙◌}
use Rattle.kept_journal.proofs.Gathered.{none_behind, written_behind}
use Rattle.kept_journal.proofs.coding.Coder.tell.Goals as goal

pub returns-then-is_empty-clause-told : goal.returns-then-is_empty-clause-told
returns-then-is_empty-clause-told c =
    none_behind c.args.self.now.bytes.items c.args.self.now.bytes.items c.args.effects.now refl (sym c.is_empty.ensures ∙ c.if-is_empty.true)

pub returns-else-self-clause-told : goal.returns-else-self-clause-told
returns-else-self-clause-told c =
    written_behind c.args.self.now.bytes.items c.begin.new.self c.write_effects.new.self c.args.effects.now c.begin.ensures.slots c.begin.ensures.bytes c.if-self.false c.write_effects.ensures
