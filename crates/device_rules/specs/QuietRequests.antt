-- Steps that leave the table of open tags as it is.
use Rattle.std.specs.Prelude.{◌≡◌, Bool, true, false, List, ◌++◌}
use Rattle.cci_codec.specs.dcd_base.specs.declared.ids.HostId.{HostId}
use Rattle.fm_payloads.specs.declared.requests.FmRequest.{FmRequest}
use Rattle.host_payloads.specs.declared.requests.HostRequest.{HostRequest}
use Rattle.journal_core.specs.declared.outcome.Effect.{Effect}
use Rattle.extent_list.specs.media_map.specs.region_config.specs.Configurations.{Configuration}
use Rattle.tag_refs.specs.declared.entries.TagEntry.{TagEntry}
use Rattle.device_rules.specs.{Answers.host_outcome, Answers.manager_outcome, Outcomes.effects_of, Views.View, TagTable.IsTable}

-- neither an offer nor an answer, and no extent leaves, no reference changes and no tag ends
abbrev pub leaves_table : Effect → Bool
leaves_table (Effect.Offer h xs) = false
leaves_table (Effect.Answer h xs) = false
leaves_table (Effect.Leave h run) = false
leaves_table (Effect.Ref t on) = false
leaves_table (Effect.TagEnd t) = false
leaves_table e = true

-- a host's request that ends no list, and so changes neither its offers nor what it has accepted
abbrev pub is_quiet_host : HostRequest → Bool
is_quiet_host (HostRequest.AddResponse more list) = more
is_quiet_host (HostRequest.GiveBack more list) = more
is_quiet_host q = true

-- a request of the manager that offers nothing, removes nothing and changes no reference
abbrev pub is_quiet_manager : FmRequest → Bool
is_quiet_manager (FmRequest.Add host policy r bytes tag list) = false
is_quiet_manager (FmRequest.Remove host flags r bytes tag list) = false
is_quiet_manager (FmRequest.AddReference tag) = false
is_quiet_manager (FmRequest.RemoveReference tag) = false
is_quiet_manager q = true

-- A table that is right before the effects is right after them.
abbrev pub LeavesTable : Configuration → List Effect → List Effect → Type 0
LeavesTable c past new = (entries : List TagEntry) → IsTable c past entries → IsTable c (past ++ new) entries

-- A quiet request of any host leaves it, whatever the host sees.
abbrev pub HostLeavesTable : Configuration → List Effect → Type 0
HostLeavesTable c past =
    (h : HostId) (v : View) (q : HostRequest) → is_quiet_host q ≡ true → LeavesTable c past (effects_of c past (host_outcome c h v q))

-- A quiet request of the manager leaves it, whatever the hosts see.
abbrev pub ManagerLeavesTable : Configuration → List Effect → Type 0
ManagerLeavesTable c past =
    (views : HostId → View) (q : FmRequest) → is_quiet_manager q ≡ true → LeavesTable c past (effects_of c past (manager_outcome c past views q))
