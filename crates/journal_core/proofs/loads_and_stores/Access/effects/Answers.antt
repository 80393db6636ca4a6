use Rattle.std.proofs.Common.{◌≡◌, [], refl, subst}
use Rattle.journal_core.specs.declared.entries.Entry.{Entry}
use Rattle.journal_core.proofs.loads_and_stores.Access.effects.Goals as goal

pub returns : goal.returns
returns c = subst (λ (e : Entry). [] ≡ e.effects) c.self.view_is refl
