-- A control that keeps no entries, as contracts see it, and the journals that lead to what it keeps.
use Rattle.std.specs.Prelude.{◌≡◌, List, [], ◌∷◌, ◌++◌}
use Rattle.extent_list.specs.media_map.specs.region_config.specs.{Configurations.Configuration, Soundness.IsSound}
use Rattle.journal_core.specs.declared.{entries.Entry.Entry, outcome.Effect.Effect}
use Rattle.device_commands.specs.device_rules.specs.Legal.{Legal, Meets}
use Rattle.manager_commands.specs.device_state.specs.{StateAfter.IsStateAfter, declared.state.State.State}

-- The configuration that the control was made with, and what it keeps.
pub record LiveControlled : Type 0 where
  pub config : Configuration
  pub state : State

-- The journal leads to what is kept: it is legal, and all of that is what its entries say.
pub record IsPast (c : Configuration) (journal : List Entry) (s : State) : Type 0 where
  pub sound : IsSound c
  pub legal : Legal c journal
  pub kept : IsStateAfter c journal s

-- So it is by every journal that leads to what the control keeps.
abbrev pub ByEveryPast : LiveControlled → (List Entry → Type 0) → Type 0
ByEveryPast d P = (past : List Entry) → IsPast d.config past d.state → P past

-- The effects are those of a step that some journal that leads here asks for.
pub record IsOfStep (d : LiveControlled) (new : List Effect) : Type 0 where
  pub past : List Entry
  pub entry : Entry
  pub leads : IsPast d.config past d.state
  pub meets : Meets d.config past entry
  pub effects_are : entry.effects ≡ new

-- The entry behind this past leads to what is kept now, where the past asks for it.
abbrev pub EntersStep : LiveControlled → LiveControlled → List Effect → Type 0
EntersStep old now new = (past : List Entry) → IsPast old.config past old.state → (e : Entry) → Meets old.config past e → e.effects ≡ new → IsPast now.config (past ++ e ∷ []) now.state
