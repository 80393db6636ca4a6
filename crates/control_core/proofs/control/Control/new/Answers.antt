use Rattle.control_core.proofs.NextEntry.{holds_first}
use Rattle.control_core.proofs.control.Control.new.Goals as goal

pub invariant_of-result : goal.invariant_of-result
invariant_of-result c = holds_first c.args.config c.new-2.result.entries c.in_ok-new.field-0 c.new-2.ensures c.in_ok-new.ensures.config c.in_ok-new.ensures.fresh
