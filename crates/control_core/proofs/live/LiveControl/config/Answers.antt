use Rattle.std.proofs.Common.{◌≡◌, subst}
use Rattle.journal_core.specs.Entries.{effects}
use Rattle.device_commands.specs.device_rules.specs.Adding.{present}
use Rattle.control_core.specs.Pasts.{ByEveryPast, LiveControlled}
use Rattle.control_core.proofs.live.LiveControl.config.Goals as goal

pub returns : goal.returns
returns c =
    subst (λ (d : LiveControlled). ByEveryPast d (λ past. c.self.inside.state.present ≡ present d.config (effects past))) c.self.view_is
    (λ past leads. leads.kept.present_is)
