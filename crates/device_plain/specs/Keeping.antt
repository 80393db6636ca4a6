-- What every device keeps.
use Rattle.std.specs.Prelude.{◌≡◌, ℕ, ◌<◌, ◌≤◌, List, [], ◌∷◌, length, All}
use Rattle.dcd_base.specs.declared.ids.HostId.{HostId}
use Rattle.region_config.specs.{Configurations.Configuration, Granules.granule_total, Soundness.IsSound}
use Rattle.granule_mem.specs.Contents.{word_kept}
use Rattle.journal_core.specs.{declared.entries.Entry.Entry, Entries.Each, Entries.effects, Merging.Numbered, Merging.commands_in, Merging.merged}
use Rattle.control_core.specs.{device_rules.specs.Hosts.changes_of, device_rules.specs.Legal.Legal, device_rules.specs.Legal.word_of, Deciding.AreShort}
use Rattle.device_plain.specs.{Accesses.Stored, Numbering.IsCounted, Numbering.IsReachedBy, Numbering.accesses_of, Numbering.accesses_since, Numbering.commands_of}

-- The journal is legal and numbered; the control has its commands and scrubs, which have all its effects and changes
-- of hosts' lists; and the words are those that it stored.
pub record Keeps (c : Configuration) (control : List Entry) (m : Stored) (journal : List Entry) (accesses : ℕ) : Type 0 where
  pub sound : IsSound c
  pub legal : Legal c journal
  pub numbered : Numbered journal
  pub counted : Each IsCounted journal
  pub short : AreShort journal
  pub commands : control ≡ commands_of journal
  pub count : commands_in journal ≡ length control
  pub effects_are : effects control ≡ effects journal
  pub changes : (h : HostId) → changes_of h control ≡ changes_of h journal
  pub since : accesses ≡ accesses_since journal
  pub few : accesses ≤ length (accesses_of journal)
  pub reached : All (λ (e : Entry). IsReachedBy (length control) accesses e.stamp) journal
  pub granules : length m ≡ granule_total c
  pub words : (g w : ℕ) → g < granule_total c → word_kept m g w ≡ word_of c journal g w

-- The journal is the merge of the control's entries and of the loads and stores, which are kept beside them.
pub record KeepsBoth (c : Configuration) (control : List Entry) (accesses : List Entry) (m : Stored) (since : ℕ) : Type 0 where
  pub keeps : Keeps c control m (merged control (accesses ∷ [])) since
  pub accesses_are : accesses ≡ accesses_of (merged control (accesses ∷ []))
