use Rattle.std.proofs.Common.{◌≡◌, subst, ◌∙◌}
use Rattle.journal_core.specs.Entries.{effects}
use Rattle.device_commands.specs.device_rules.specs.Counts.{dirty_count}
use Rattle.control_core.{specs.Pasts.ByEveryPast, specs.Pasts.LiveControlled, proofs.Reading.dirty_told}
use Rattle.control_core.proofs.live.LiveControl.dirty.Goals as goal

pub returns : goal.returns
returns c = subst (λ (d : LiveControlled). ByEveryPast d (λ past. c.dirty.result ≡ dirty_count d.config (effects past))) c.self.view_is
    (λ past leads. c.dirty.ensures ∙ dirty_told c.self.inside.config past c.self.inside.state leads.kept)
