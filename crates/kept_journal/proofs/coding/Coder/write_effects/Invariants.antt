use Rattle.std.{proofs.Common.take, specs.Prelude.flat_map}
use Rattle.kept_journal.specs.{Coding.CodesTo, Slots.slots_in, Tokens.tokens_of}
use Rattle.kept_journal.proofs.coding.Coder.write_effects.Given as goal

abbrev pub invariant-loop-effect : goal.invariant-loop-effect
invariant-loop-effect l = CodesTo l.fn.self l.self (slots_in l.self.slots) (flat_map tokens_of (take l.effect-index l.effects))
