use Rattle.script_text.proofs.PrintedActors.{actor_adds}
use Rattle.script_text.proofs.actors.write_actor.Goals as goal

pub returns : goal.returns
returns c = actor_adds c.args.frame c.args.actor.now c.args.lane c.requires.lanes c.requires.word c.law_seat.ensures c.in_ok-push.ensures.pushed c.in_ok-write_name.ensures
