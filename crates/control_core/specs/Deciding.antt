-- What a step comes to.
use Rattle.std.specs.Prelude.{◌≡◌, ◌≤◌, All, List, length}
use Rattle.cci_codec.specs.dcd_base.specs.declared.steps.Actor.{Actor}
use Rattle.extent_list.specs.media_map.specs.region_config.specs.{Configurations.Configuration, Soundness.IsSound}
use Rattle.journal_core.specs.{declared.acts.Act.Act, declared.acts.Reply.Reply, declared.entries.Entry.Entry, Merging.Rising}
use Rattle.device_commands.specs.device_rules.specs.{Answers.answer, Legal.Legal}
use Rattle.manager_commands.specs.device_state.specs.{StateAfter.IsStateAfter, declared.state.State.State}
use Rattle.control_core.specs.declared.decided.Decided.{Decided}

-- The payload of a response has at most 2,048 bytes: as much as the longest page, with some to spare.
abbrev pub IsShort : Reply → Type 0
IsShort (Reply.Answer s) = length s.payload ≤ 2048
IsShort (Reply.Word n) = Unit {0}
IsShort Reply.Stored = Unit {0}
IsShort (Reply.Refused fault) = Unit {0}
IsShort (Reply.Scrubbed n) = Unit {0}

-- So it is in each of the entries.
abbrev pub AreShort : List Entry → Type 0
AreShort journal = All (λ (e : Entry). IsShort e.reply) journal

-- It is the answer to the act, and short.
pub record IsDecidedBy (c : Configuration) (before : List Entry) (actor : Actor) (act : Act) (d : Decided) : Type 0 where
  pub reply : d.reply ≡ (answer c before actor act).0
  pub effects : d.effects ≡ (answer c before actor act).1
  pub short : IsShort d.reply

-- So it is by every legal journal that leads to what is kept.
abbrev pub IsDecided : Configuration → State → Actor → Act → Decided → Type 0
IsDecided c s actor act d = (before : List Entry) → Legal c before → IsStateAfter c before s → IsDecidedBy c before actor act d

-- The stamps rise, and no number is larger than how many entries there are.
pub record AreStamped (journal : List Entry) : Type 0 where
  pub rising : Rising journal
  pub below : All (λ (e : Entry). e.stamp.number ≤ length journal) journal

-- What every control keeps: its entries are legal and stamped, what is kept is what they say, and all responses are short.
pub record Holds (c : Configuration) (journal : List Entry) (s : State) : Type 0 where
  pub sound : IsSound c
  pub legal : Legal c journal
  pub stamped : AreStamped journal
  pub kept : IsStateAfter c journal s
  pub short : AreShort journal
