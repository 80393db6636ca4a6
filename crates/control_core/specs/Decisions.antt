-- What a step comes to.
use Rattle.std.specs.Prelude.{[]}
use Rattle.control_core.specs.declared.decided.Decided.{Decided}
use Rattle.journal_core.specs.declared.acts.Reply.{Reply}

-- what a step comes to that only replies
abbrev pub only_replied : Reply → Decided
only_replied reply = record { reply = reply; effects = [] }
