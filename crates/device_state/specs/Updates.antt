-- What a step asks of what is kept, and what entering it keeps.
use Rattle.std.specs.Prelude.{◌≡◌, ℕ, ◌<◌, true, List, ◌++◌, length, ◌∷◌, []}
use Rattle.cci_codec.specs.dcd_base.specs.declared.{ids.HostId.HostId, steps.LogId.LogId}
use Rattle.extent_list.specs.{HostLists.Lists, media_map.specs.region_config.specs.Configurations.Configuration}
use Rattle.extent_list.specs.media_map.specs.region_config.specs.Granules.{is_supported, region_spec}
use Rattle.journal_core.specs.{Entries.effects, declared.entries.Entry.Entry, declared.outcome.Effect.Effect}
use Rattle.device_state.specs.{StateAfter.part_of, StateAfter.IsStateAfter, Entered.IsEntered, EnteredLists.Fits, EnteredLists.lists_of, declared.state.State.State}
use Rattle.device_rules.specs.Views.{lists_in, view_after, view_of}
use Rattle.event_log.specs.LogStates.{LogState}

-- the lists of a host after more effects
abbrev pub lists_after : Configuration → HostId → List Entry → List Effect → Lists
lists_after c h before new = lists_in (view_after c h (view_of c h before) new)

-- An effect names hosts and regions of the device alone, and a block size that the region supports.
abbrev pub IsOfLog : ℕ → LogId → Type 0
IsOfLog hosts (LogId.Host h) = h < hosts
IsOfLog hosts LogId.Manager = Unit {0}

abbrev pub IsOfDevice : Configuration → Effect → Type 0
IsOfDevice c (Effect.Offer h xs) = h < c.hosts
IsOfDevice c (Effect.Answer h xs) = h < c.hosts
IsOfDevice c (Effect.Take h run) = h < c.hosts
IsOfDevice c (Effect.Leave h run) = h < c.hosts
IsOfDevice c (Effect.Hold h kind xs) = h < c.hosts
IsOfDevice c (Effect.Unhold h kind) = h < c.hosts
IsOfDevice c (Effect.Logged l event) = IsOfLog c.hosts l
IsOfDevice c (Effect.Missed l) = IsOfLog c.hosts l
IsOfDevice c (Effect.Cleared l n) = IsOfLog c.hosts l
IsOfDevice c (Effect.Reset l) = IsOfLog c.hosts l
IsOfDevice c (Effect.Block r size) = (r < length c.regions) × (is_supported (region_spec c r) size ≡ true)
IsOfDevice c e = Unit {0}

-- a log of what is kept
abbrev pub log_in : State → LogId → LogState
log_in s (LogId.Host h) = (part_of s h).log
log_in s LogId.Manager = s.manager

-- Where what is kept is what the entries say, there is a place for all that one more adds.
abbrev pub HasRoomFor : Configuration → List Entry → Entry → Type 0
HasRoomFor c before e = (s : State) → IsStateAfter c before s → Fits c (lists_of s) 1 e.effects

-- Where what is kept is what the entries say, and the effects of one more are entered, it is so after it.
abbrev pub KeepsEntered : Configuration → List Entry → Entry → Type 0
KeepsEntered c before e = (old now : State) → IsStateAfter c before old → IsEntered c e.effects old now → IsStateAfter c (before ++ e ∷ []) now
