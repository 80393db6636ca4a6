-- What a change makes of an entry.
use Rattle.std.specs.Prelude.{◌<◌}
use Rattle.tag_refs.specs.{Tables.entry_with_offer, Tables.settled_by, Tables.left_by, Tables.set_by, Tables.with_reference, Tables.with_soil, declared.changes.Change.Change}
use Rattle.tag_refs.specs.declared.changes.Change.TheVariants.{Offer, Settle, Leave, Host, Refer, Soil}
use Rattle.tag_refs.specs.declared.entries.TagEntry.{TagEntry}

abbrev pub entry_changed : Change → TagEntry → TagEntry
entry_changed (Offer h) e = entry_with_offer h e
entry_changed (Settle h accepted) e = settled_by h accepted e
entry_changed (Leave h) e = left_by h e
entry_changed (Host h held offered) e = set_by h held offered e
entry_changed (Refer on) e = with_reference on e
entry_changed Soil e = with_soil e

-- the host of the change is one of the sixteen
abbrev pub IsHostsChange : Change → Type 0
IsHostsChange (Offer h) = h < 16
IsHostsChange (Settle h accepted) = h < 16
IsHostsChange (Leave h) = h < 16
IsHostsChange (Host h held offered) = h < 16
IsHostsChange (Refer on) = Unit {0}
IsHostsChange Soil = Unit {0}
