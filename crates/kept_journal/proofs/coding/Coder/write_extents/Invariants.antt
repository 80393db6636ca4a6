use Rattle.std.proofs.Common.{map, take}
use Rattle.kept_journal.specs.{Coding.CodesTo, Slots.slots_in, declared.tokens.Token.Token}
use Rattle.kept_journal.proofs.coding.Coder.write_extents.Given as goal

abbrev pub invariant-loop-extent : goal.invariant-loop-extent
invariant-loop-extent l = CodesTo l.fn.self l.self (slots_in l.self.slots) (map Token.More (take l.extent-index l.extents))
