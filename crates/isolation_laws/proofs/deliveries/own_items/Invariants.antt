use Rattle.std.proofs.Common.{◌≡◌, take}
use Rattle.isolation_laws.specs.Solo.{own_items}
use Rattle.isolation_laws.proofs.deliveries.own_items.Given as goal

abbrev pub invariant-loop-i : goal.invariant-loop-i
invariant-loop-i l = l.items ≡ own_items l.fn.host (take l.i l.journal)
