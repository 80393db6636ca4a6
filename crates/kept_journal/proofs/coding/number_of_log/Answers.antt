use Rattle.std.proofs.Common.{rules, ◌<◌}
use Rattle.kept_journal.proofs.EventSlots.{log_back}
use Rattle.kept_journal.proofs.coding.number_of_log.Goals as goal

pub returns-in-Host-clause-back : goal.returns-in-Host-clause-back
returns-in-Host-clause-back c = λ slots.
    let small : c.in-Host.host < 256 = search rules in
    rw c.in-Host.is (log_back slots c.in-Host.host small)
