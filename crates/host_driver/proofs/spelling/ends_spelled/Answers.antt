use Rattle.std.proofs.Common.{◌∙◌}
use Rattle.host_driver.proofs.Spelled.{last_spelled}
use Rattle.host_driver.proofs.spelling.ends_spelled.Goals as goal

pub returns : goal.returns
returns c = record {
  legal = c.journal-journal.ensures.legal;
  spelled = last_spelled c.args.device.now.config c.args.device.now.journal c.journal-journal.ensures.legal
      (λ front x is. c.last_is_spelled.ensures front x (c.entries.ensures.value ∙ c.control.ensures.entries ∙ is));
}
