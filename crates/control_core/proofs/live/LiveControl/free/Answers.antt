use Rattle.std.proofs.Common.{◌≡◌, subst, ◌∙◌}
use Rattle.journal_core.specs.Entries.{effects}
use Rattle.device_commands.specs.device_rules.specs.Counts.{free_count}
use Rattle.control_core.{specs.Pasts.ByEveryPast, specs.Pasts.LiveControlled, proofs.Reading.free_told}
use Rattle.control_core.proofs.live.LiveControl.free.Goals as goal

pub returns : goal.returns
returns c = subst (λ (d : LiveControlled). ByEveryPast d (λ past. c.free.result ≡ free_count d.config (effects past))) c.self.view_is
    (λ past leads. c.free.ensures ∙ free_told c.self.inside.config past c.self.inside.state leads.kept)
