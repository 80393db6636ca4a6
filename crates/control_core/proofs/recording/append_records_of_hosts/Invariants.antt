use Rattle.std.proofs.Common.{◌≡◌, List, ◌++◌, take}
use Rattle.journal_core.specs.{Entries.effects, declared.entries.Entry.Entry}
use Rattle.extent_list.specs.media_map.specs.region_config.specs.Configurations.{Configuration}
use Rattle.manager_commands.specs.device_state.specs.StateAfter.{IsStateAfter}
use Rattle.device_commands.specs.device_rules.specs.Views.{view_of}
use Rattle.control_core.specs.Recording.{events_of, records_told}
use Rattle.control_core.proofs.recording.append_records_of_hosts.Given as goal

-- The records so far are told.
abbrev pub invariant-loop-i : goal.invariant-loop-i
invariant-loop-i l = (c : Configuration) (journal : List Entry) → IsStateAfter c journal l.state → l.effects ≡ l.fn.effects ++ records_told (effects journal) (events_of (λ h. view_of c h journal)) (take l.i l.log_records)
