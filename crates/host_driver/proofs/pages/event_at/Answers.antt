use Rattle.std.proofs.Common.{ap, ◌∙◌}
use Rattle.host_driver.{specs.Pages.event_in, proofs.Events.event_is}
use Rattle.host_driver.proofs.pages.event_at.Goals as goal

pub returns-in-Ok-clause-found : goal.returns-in-Ok-clause-found
returns-in-Ok-clause-found c = event_is _ _ c.in-Ok.ensures.cases.1 ∙ ap event_in c.copy_from_slice.ensures.after
