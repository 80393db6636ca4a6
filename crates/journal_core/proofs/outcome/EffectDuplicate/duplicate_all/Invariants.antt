use Rattle.std.proofs.Common.{◌≡◌, take}
use Rattle.journal_core.proofs.outcome.EffectDuplicate.duplicate_all.Given as goal

abbrev pub invariant-loop-effect : goal.invariant-loop-effect
invariant-loop-effect l = l.copies.items ≡ take l.effect-index l.items
