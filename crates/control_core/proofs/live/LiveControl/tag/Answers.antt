use Rattle.std.proofs.Common.{◌≡◌, ◌<◌, length, map, Some, ap, sym, subst, ◌∙◌}
use Rattle.std.{specs.Prelude.slice_get, proofs.lemmas.Option.slice_get-map}
use Rattle.journal_core.specs.Entries.{effects}
use Rattle.manager_commands.proofs.TagReadings.{tags_seen}
use Rattle.device_commands.specs.device_rules.specs.{TagCommands.tag_seen, Tags.open_tags}
use Rattle.tag_refs.specs.Tables.{tag_view}
use Rattle.control_core.specs.Pasts.{ByEveryPast, LiveControlled}
use Rattle.control_core.proofs.live.LiveControl.tag.Goals as goal

pub at-requires : goal.at-requires
at-requires c = subst (λ (d : LiveControlled). c.args.index < length d.state.tags.entries) (sym c.self.view_is) c.requires

pub returns : goal.returns
returns c =
    let s = c.self.inside.state in
    subst (λ (d : LiveControlled). ByEveryPast d (λ past. slice_get (map (tag_seen d.config (effects past)) (open_tags d.config (effects past))) c.args.index ≡ Some c.at.result)) c.self.view_is
    (λ past leads.
    ap (λ views. slice_get views c.args.index) (tags_seen c.self.inside.config past s.tags.entries leads.sound leads.legal leads.kept.tags_are)
    ∙ slice_get-map tag_view s.tags.entries c.args.index ∙ c.at.ensures)
