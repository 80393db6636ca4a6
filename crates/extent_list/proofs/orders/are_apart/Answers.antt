use Rattle.extent_list.proofs.Apart.{none_shared}
use Rattle.extent_list.proofs.orders.are_apart.Goals as goal

pub returns-clause-apart : goal.returns-clause-apart
returns-clause-apart c = λ yes. none_shared c.args.list.now (c.stand_apart.ensures.apart yes)
