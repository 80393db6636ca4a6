-- A device with what its last step changed, and what one step does to both.
use Rattle.std.specs.Prelude.{◌≡◌, []}
use Rattle.dcd_base.specs.declared.steps.Actor.{Actor}
use Rattle.journal_core.specs.declared.acts.{Act.Act, Reply.Reply}
use Rattle.device_plain.specs.Lives.{Changes, TakesStep}
use Rattle.dcd_c.specs.declared.sessions.Session.{Session}

-- The device took a step of the actor and replied this, and what it changed is kept, by every journal that leads to it.
pub record Steps (old new : Session) (actor : Actor) (act : Act) (reply : Reply) : Type 0 where
  pub step : TakesStep old.device (record { actor = actor; act = act; reply = reply }) new.device
  pub last : Changes old.device actor act new.last

-- The device took no step, and nothing is kept as changed.
pub record IsIdle (old new : Session) : Type 0 where
  pub device : new.device ≡ old.device
  pub last : new.last ≡ []
