use Rattle.std.proofs.Common.{◌≡◌, List, ◌++◌, take}
use Rattle.journal_core.specs.{Entries.effects, declared.entries.Entry.Entry}
use Rattle.extent_list.specs.media_map.specs.region_config.specs.Configurations.{Configuration}
use Rattle.manager_commands.specs.device_state.specs.StateAfter.{IsStateAfter}
use Rattle.device_commands.specs.{Drafts.HasExtentsOf, device_rules.specs.Views.View}
use Rattle.control_core.specs.Recording.{events_by, records_told}
use Rattle.control_core.proofs.recording.append_records_of_logs.Given as goal

-- The records so far are told.
abbrev pub invariant-loop-i : goal.invariant-loop-i
invariant-loop-i l = (c : Configuration) (journal : List Entry) (w : View) → IsStateAfter c journal l.state → HasExtentsOf w l.lists → l.effects ≡ l.fn.effects ++ records_told (effects journal) (events_by w) (take l.i l.log_records)
