-- A caller that applies all that was told as changed, from a fresh device on.
use Rattle.std.specs.Prelude.{◌≡◌, ◌⊎◌, List, [], ◌∷◌, flat_map}
use Rattle.dcd_base.specs.declared.steps.Actor.{Actor}
use Rattle.journal_core.specs.declared.{acts.Act.Act, acts.Reply.Reply, outcome.Effect.Effect}
use Rattle.dcd_c.specs.{Sessions.IsIdle, Sessions.Steps, declared.sessions.Session.Session}

-- A call took a step.
pub record Stepped (old new : Session) : Type 0 where
  pub actor : Actor
  pub act : Act
  pub reply : Reply
  pub steps : Steps old new actor act reply

-- A call took a step or none.
abbrev pub Moves : Session → Session → Type 0
Moves old new = Stepped old new ⊎ IsIdle old new

-- Calls came one after another, and behind each these were the effects that it kept as changed.
abbrev pub MovesOn : Session → List (List Effect) → Session → Type 0
MovesOn old [] now = old ≡ now
MovesOn old (es ∷ later) now = (mid : Session) × Moves old mid × (mid.last ≡ es) × MovesOn mid later now

-- all of them, in their order
abbrev pub all_changed : List (List Effect) → List Effect
all_changed changed = flat_map (λ es. es) changed
