-- What holds of every plan.
use Rattle.std.specs.Prelude.{◌≡◌, List, None, Some}
use Rattle.region_config.specs.Configurations.{Configuration}
use Rattle.journal_core.specs.{Entries.effects, declared.entries.Entry.Entry}
use Rattle.plan_rules.specs.{declared.demands.Demands.Demands, Holding.stepped, Listing.planned, Meeting.MeetsDemands, Planning.IsOfRoom, Planning.plan_fault, declared.faults.PlanFault.PlanFault}

-- Where there is no fault, the list leaves what was demanded.
abbrev pub PlansMeetDemands : Configuration → List Entry → Type 0
PlansMeetDemands c journal = (q : Demands) → plan_fault c journal q ≡ None →
    MeetsDemands c (effects journal) (effects (stepped c journal (planned c journal q))) q

-- Where an act of the list is refused, the rule is that of too many extents or that of a full log.
abbrev pub PlansWantRoomOnly : Configuration → List Entry → Type 0
PlansWantRoomOnly c journal = (q : Demands) (fault : PlanFault) → plan_fault c journal q ≡ Some fault → IsOfRoom fault
