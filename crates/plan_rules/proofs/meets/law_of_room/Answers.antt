use Rattle.plan_rules.proofs.OnlyRoom.{fault_of_room}
use Rattle.plan_rules.proofs.meets.law_of_room.Goals as goal

pub returns : goal.returns
returns _ = fault_of_room
