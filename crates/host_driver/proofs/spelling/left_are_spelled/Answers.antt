use Rattle.std.proofs.Common.{subst, sym}
use Rattle.host_driver.specs.Spelling.{AreSpelledIn}
use Rattle.host_driver.proofs.spelling.left_are_spelled.Goals as goal

pub loop-effect-preserved : goal.loop-effect-preserved
loop-effect-preserved c = λ spelled. c.loop-effect.invariant (subst AreSpelledIn (sym c.in-Some.ensures) (c.is_spelled.ensures, spelled))

pub returns : goal.returns
returns c = c.loop-effect.invariant (subst AreSpelledIn (sym c.in_default.ensures) tt)
