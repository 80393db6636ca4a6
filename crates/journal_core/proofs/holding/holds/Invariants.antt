use Rattle.std.proofs.Common.{◌≡◌, take}
use Rattle.journal_core.specs.Holders.{holds}
use Rattle.journal_core.proofs.holding.holds.Given as goal

abbrev pub invariant-loop-effect : goal.invariant-loop-effect
invariant-loop-effect l = l.held ≡ holds l.host l.granule (take l.effect-index l.effects)
