use Rattle.std.proofs.Common.{◌≡◌, length, sym, subst, ◌∙◌}
use Rattle.journal_core.specs.Entries.{effects}
use Rattle.manager_commands.proofs.TagReadings.{tags_length}
use Rattle.device_commands.specs.device_rules.specs.Tags.{open_tags}
use Rattle.control_core.specs.Pasts.{ByEveryPast, LiveControlled}
use Rattle.control_core.proofs.live.LiveControl.tags.Goals as goal

pub returns : goal.returns
returns c =
    let s = c.self.inside.state in
    subst (λ (d : LiveControlled). ByEveryPast d (λ past. c.len.result ≡ length (open_tags d.config (effects past)))) c.self.view_is
    (λ past leads. c.len.ensures.len ∙ sym (tags_length c.self.inside.config past s.tags.entries leads.sound leads.legal leads.kept.tags_are))
