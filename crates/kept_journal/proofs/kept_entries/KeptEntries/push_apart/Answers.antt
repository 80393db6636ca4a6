use Rattle.std.proofs.Common.{[], ap, append-nil, refl, sym}
use Rattle.kept_journal.{specs.Keeping.Keeping, specs.declared.kept_steps.Kept.Kept, proofs.Keepings.put_behind, proofs.Keepings.widths_behind}
use Rattle.kept_journal.proofs.kept_entries.KeptEntries.push_apart.Goals as goal

pub invariant_of-self : goal.invariant_of-self
invariant_of-self c =
    widths_behind c.self.inside.kept.items c.push_reserved.new.self.items (Kept.Apart c.args.entry) c.self.inside.coder.bytes.items [] c.self.inside.coder.bytes.items
    c.push_reserved.ensures.items (sym (append-nil c.self.inside.coder.bytes.items)) c.self.invariant refl

pub returns-clause-put : goal.returns-clause-put
returns-clause-put c =
    put_behind c.self.inside.kept.items c.push_reserved.new.self.items (Kept.Apart c.args.entry) c.self.inside.coder.bytes.items [] c.self.inside.coder.bytes.items c.args.self.now.entries
    c.push_reserved.ensures.items (sym (append-nil c.self.inside.coder.bytes.items)) (ap (λ (v : Keeping). v.entries) c.self.view_is) c.self.invariant refl
