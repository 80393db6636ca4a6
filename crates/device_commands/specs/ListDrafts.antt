-- Drafts of a command that reads and changes the lists of its host.
use Rattle.std.specs.Prelude.{◌≡◌, List, [], ◌∷◌, map}
use Rattle.cci_codec.specs.dcd_base.specs.declared.{capacity.Tag.Tag, steps.LogId.LogId}
use Rattle.event_records.specs.declared.events.Event.{Event}
use Rattle.journal_core.specs.declared.outcome.Effect.{Effect}
use Rattle.device_rules.specs.Views.{View}
use Rattle.device_commands.specs.{declared.draft.Draft.Draft, Drafts.as_records}

-- The draft has these changes and these tags that may end, and tells these events to this log, by what its host has then.
pub record Tells (changes : List Effect) (tags : List Tag) (log : LogId) (events : View → List Event) (d : Draft) : Type 0 where
  pub payload : d.payload ≡ []
  pub changes_are : d.changes ≡ changes
  pub tags_are : d.tags ≡ tags
  pub log_records : (w : View) → map (as_records w) d.log_records ≡ (log, events w) ∷ []
