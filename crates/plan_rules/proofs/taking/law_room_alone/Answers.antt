use Rattle.plan_rules.proofs.RoomAlone.{only_room_is_wanting}
use Rattle.plan_rules.proofs.taking.law_room_alone.Goals as goal

pub returns : goal.returns
returns c = only_room_is_wanting
