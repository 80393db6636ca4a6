-- A device that keeps nothing of its past, as contracts see it: the journals that lead to it, and what a step does.
use Rattle.std.specs.Prelude.{◌≡◌, ℕ, ◌<◌, ◌≤◌, IsTrue, List, [], ◌∷◌, ◌++◌, length, map}
use Rattle.dcd_base.specs.declared.steps.Actor.{Actor}
use Rattle.region_config.specs.{Configurations.Configuration, Granules.granule_total, Soundness.IsSound}
use Rattle.granule_mem.specs.Contents.{Media, holders_in, word_in}
use Rattle.journal_core.specs.{Entries.effects, Entries.fits, Entries.is_control, declared.acts.Act.Act, declared.acts.Reply.Reply, declared.entries.Entry.Entry, declared.outcome.Effect.Effect}
use Rattle.control_core.specs.device_rules.specs.{ChangedRuns.AreHolders, Legal.Exclusive, Legal.Legal, Legal.Meets, Legal.right_answer, Legal.word_of}
use Rattle.control_core.specs.device_state.specs.{StateAfter.IsStateAfter, declared.state.State.State}
use Rattle.isolation_laws.specs.{Laws.Clean, Solo.Isolated}
use Rattle.device_plain.specs.{Accesses.Stored, declared.faults.StepFault.StepFault}

-- The configuration that the device was made with, what it keeps, and its words and their holders.
pub record Living : Type 0 where
  pub config : Configuration
  pub state : State
  pub memory : Media

-- what is kept, where nothing is said of how many more tags there is room for
abbrev pub without_spare : State → State
without_spare s = record s { tags = record s.tags { spare = 0 } }

-- the device that keeps this and has these words: its holders stand in what it keeps
abbrev pub living : Configuration → State → Stored → Living
living c s words = record { config = c; state = s; memory = record { words = words; holders = s.holders } }

-- The journal leads to the device: it is legal, and all that the device keeps is what its entries say.
pub record IsLife (life : List Entry) (d : Living) : Type 0 where
  pub sound : IsSound d.config
  pub legal : Legal d.config life
  pub kept : IsStateAfter d.config life d.state
  pub granules : length d.memory.holders ≡ granule_total d.config
  pub holders : (g : ℕ) → g < granule_total d.config → AreHolders d.config g (effects life) (holders_in d.memory g)
  pub words : (g w : ℕ) → g < granule_total d.config → word_in d.memory g w ≡ word_of d.config life g w

-- So it is by every journal that leads to the device.
abbrev pub ByEveryLife : Living → (List Entry → Type 0) → Type 0
ByEveryLife d P = (life : List Entry) → IsLife life d → P life

-- Some journal leads to it.
pub record IsAlive (d : Living) : Type 0 where
  pub life : List Entry
  pub leads : IsLife life d

-- So it is of a device that has the words of all its granules.
pub record IsWhole (d : Living) : Type 0 where
  pub alive : IsAlive d
  pub granules : length d.memory.words ≡ granule_total d.config

-- ---- a step

-- The reply is the one that every journal that leads here asks for.
abbrev pub IsRightReply : Living → Actor → Act → Reply → Type 0
IsRightReply d actor act reply = ByEveryLife d (λ life. reply ≡ (right_answer d.config life actor act).0)

-- These are the effects that every journal that leads here asks for.
abbrev pub Changes : Living → Actor → Act → List Effect → Type 0
Changes d actor act new = ByEveryLife d (λ life. new ≡ (right_answer d.config life actor act).1)

-- The step leads on: with the entry that it asks for, of this actor and act, each journal leads to the device after it.
abbrev pub LivesOn : Living → Living → Actor → Act → Type 0
LivesOn old now actor act = (life : List Entry) → IsLife life old → (e : Entry) → e.actor ≡ actor → e.act ≡ act → Meets old.config life e → IsLife (life ++ e ∷ []) now

-- A command is replied by a response, a load by a word, a store by that it was done, a scrub by how many granules it
-- zeroed; a load or a store may be refused.
abbrev pub IsReplyTo : Act → Reply → Type 0
IsReplyTo (Act.Command q) (Reply.Answer s) = Unit {0}
IsReplyTo (Act.Load d) (Reply.Word n) = Unit {0}
IsReplyTo (Act.Load d) (Reply.Refused fault) = Unit {0}
IsReplyTo (Act.Store d value) Reply.Stored = Unit {0}
IsReplyTo (Act.Store d value) (Reply.Refused fault) = Unit {0}
IsReplyTo (Act.Scrub most) (Reply.Scrubbed n) = Unit {0}
IsReplyTo act reply = ⊥

-- how many bytes the payload of a response has; other replies have none
abbrev pub payload_length : Reply → ℕ
payload_length (Reply.Answer s) = length s.payload
payload_length reply = 0

-- The reply that is asked for has a payload of so many bytes: more than the most that may be, and 2,048 at most.
abbrev pub IsTooLong : Living → Actor → Act → ℕ → StepFault → Type 0
IsTooLong d actor act most (StepFault.TooLong n) = (most < n) × (n ≤ 2048) × ByEveryLife d (λ life. payload_length (right_answer d.config life actor act).0 ≡ n)
IsTooLong d actor act most StepFault.NoMemory = Unit {0}

-- The effects are those of a command or a scrub, by some journal that leads here.
pub record CanTake (d : Living) (new : List Effect) : Type 0 where
  pub life : List Entry
  pub entry : Entry
  pub leads : IsLife life d
  pub control : IsTrue (is_control entry.act)
  pub meets : Meets d.config life entry
  pub effects_are : entry.effects ≡ new

-- They are entered: with the entry of a command or a scrub that has them, each journal leads to the device after it.
abbrev pub TakesEffects : Living → Living → List Effect → Type 0
TakesEffects old now new = (life : List Entry) → IsLife life old → (e : Entry) → IsTrue (is_control e.act) → Meets old.config life e → e.effects ≡ new → IsLife (life ++ e ∷ []) now

-- ---- a life

-- who did what, and what was replied
pub record ToldStep : Type 0 where
  pub actor : Actor
  pub act : Act
  pub reply : Reply

abbrev pub step_told : Entry → ToldStep
step_told e = record { actor = e.actor; act = e.act; reply = e.reply }

-- The device took a step of which this was told.
pub record TakesStep (old : Living) (t : ToldStep) (now : Living) : Type 0 where
  pub allowed : IsTrue (fits old.config.hosts t.actor t.act)
  pub config : now.config ≡ old.config
  pub reply : IsRightReply old t.actor t.act t.reply
  pub led : LivesOn old now t.actor t.act

-- It took steps one after another, of which these were told.
abbrev pub TakesSteps : Living → List ToldStep → Living → Type 0
TakesSteps old [] now = old ≡ now
TakesSteps old (t ∷ later) now = (mid : Living) × TakesStep old t mid × TakesSteps mid later now

-- A journal whose entries tell just this leads to the device. It is legal; holding is exclusive at all its moments, each
-- reply to a host is the one that it would have alone, and nothing of one host is left for another.
pub record HasLived (told : List ToldStep) (d : Living) : Type 0 where
  pub life : List Entry
  pub leads : IsLife life d
  pub tells : map step_told life ≡ told
  pub exclusive : Exclusive d.config life
  pub isolated : Isolated d.config life
  pub clean : Clean d.config life
