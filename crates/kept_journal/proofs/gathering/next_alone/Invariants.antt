use Rattle.std.{proofs.Common.◌≡◌, proofs.Common.length, specs.Prelude.filter_map}
use Rattle.kept_journal.specs.Tokens.{effect_alone}
use Rattle.kept_journal.proofs.gathering.next_alone.Given as goal

abbrev pub invariant-loop-token : goal.invariant-loop-token
invariant-loop-token l = filter_map effect_alone l.tokens ≡ filter_map effect_alone l.fn.tokens

abbrev pub decreases-loop-token : goal.decreases-loop-token
decreases-loop-token l = length l.tokens
