-- A token among the effects that are gathered.
use Rattle.std.specs.Prelude.{◌≡◌, List, ◌∷◌}
use Rattle.dcd_base.specs.declared.capacity.Extent.{Extent}
use Rattle.kept_journal.specs.{declared.gathering.Step.Step, declared.tokens.Token.Token, Tokens.effects_from}

-- The token is one more extent that waits, or ends an effect, and then other extents wait.
abbrev pub IsGathered : List Extent → Token → List Extent → Step → Type 0
IsGathered waiting token after (Step.Wait x) = (token ≡ Token.More x) × (after ≡ waiting)
IsGathered waiting token after (Step.End effect) = (tokens : List Token) → effects_from waiting (token ∷ tokens) ≡ effect ∷ effects_from after tokens
