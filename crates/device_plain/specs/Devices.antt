-- The device as contracts see it, and what one step does to it.
use Rattle.std.specs.Prelude.{◌≡◌, ℕ, List, [], ◌∷◌, ◌++◌}
use Rattle.dcd_base.specs.declared.steps.Actor.{Actor}
use Rattle.region_config.specs.Configurations.{Configuration}
use Rattle.journal_core.specs.declared.{acts.Act.Act, acts.Reply.Reply, entries.Entry.Entry}

-- The configuration that the device was made with, and its journal.
pub record Plain : Type 0 where
  pub config : Configuration
  pub journal : List Entry

-- The step appended one entry, of this pass, line, actor, act and reply.
pub record Enters (old new : Plain) (its_pass its_line : ℕ) (its_actor : Actor) (its_act : Act) (its_reply : Reply) : Type 0 where
  pub entry : Entry
  pub pass : entry.pass ≡ its_pass
  pub line : entry.line ≡ its_line
  pub actor : entry.actor ≡ its_actor
  pub act : entry.act ≡ its_act
  pub reply : entry.reply ≡ its_reply
  pub config : new.config ≡ old.config
  pub journal : new.journal ≡ old.journal ++ entry ∷ []

-- It did so, and its reply stands in the entry alone.
abbrev pub Appends : Plain → Plain → ℕ → ℕ → Actor → Act → Type 0
Appends old new pass line actor act = (reply : Reply) × Enters old new pass line actor act reply
