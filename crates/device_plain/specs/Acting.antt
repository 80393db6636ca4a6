-- What a command changes of a device with one host alone.
use Rattle.std.specs.{Prelude.◌≡◌, Prelude.◌≤◌, Prelude.ℕ, Prelude.List, Prelude.[], Prelude.◌==◌, Prelude.fold, Prelude.if◌then◌else◌, List.list_any}
use Rattle.dcd_base.specs.declared.{ids.HostId.HostId, steps.LogId.LogId}
use Rattle.control_core.specs.device_state.specs.{Entered.log_by, EnteredLists.counted, EnteredLists.lists_by}
use Rattle.granule_mem.specs.Contents.{word_among}
use Rattle.extent_list.specs.HostLists.{Lists, extent_total}
use Rattle.region_config.specs.Configurations.{Configuration}
use Rattle.journal_core.specs.declared.outcome.Effect.{Effect}
use Rattle.isolation_laws.specs.Solo.{accepts_byte}
use Rattle.device_plain.specs.declared.alone.Alone.{Alone}

-- The log and the words are changed by these effects, and nothing else is.
pub record TellsAlone (h : HostId) (changes : List Effect) (old new : Alone) : Type 0 where
  pub present_stays : new.present ≡ old.present
  pub lists_stay : new.lists ≡ old.lists
  pub log_by_all : new.log ≡ fold (log_by (LogId.Host h)) old.log changes
  pub words_by : (d : ℕ) → word_among new.words.entries d ≡ (if list_any (accepts_byte d) changes then 0 else word_among old.words.entries d)

-- So are the log and the words, and the lists, which have few extents then.
pub record ChangesAlone (c : Configuration) (h : HostId) (changes : List Effect) (old new : Alone) : Type 0 where
  pub present_stays : new.present ≡ old.present
  pub lists_are : new.lists ≡ counted h changes (fold (lists_by c h) old.lists changes)
  pub few : extent_total new.lists ≤ 64
  pub log_by_all : new.log ≡ fold (log_by (LogId.Host h)) old.log changes
  pub words_by : (d : ℕ) → word_among new.words.entries d ≡ (if list_any (accepts_byte d) changes then 0 else word_among old.words.entries d)

-- the lists without the held one that a refused command of this opcode ends
abbrev pub without_held : ℕ → Lists → Lists
without_held opcode l =
    if opcode == 0x4802 then record l { responses = [] }
    else if opcode == 0x4803 then record l { releases = [] }
    else l
