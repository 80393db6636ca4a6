use Rattle.std.proofs.Common.{ap, ◌∙◌}
use Rattle.kept_journal.{specs.Lending.first_entry, proofs.Pairs.peek_first, proofs.Pairs.peek_second}
use Rattle.kept_journal.proofs.both.BothLender.peek.Goals as goal

pub returns-in-First : goal.returns-in-First
returns-in-First g c =
    peek_first _ _ _ _ _ c.self.invariant c.in-First.is _ c.peek.ensures ∙ ap first_entry c.self.view_is

pub returns-in-Second : goal.returns-in-Second
returns-in-Second g c =
    peek_second _ _ _ _ _ c.self.invariant c.in-Second.is _ c.peek-in-Second.ensures ∙ ap first_entry c.self.view_is
