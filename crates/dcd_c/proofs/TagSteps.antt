-- The live tags, as the journal says.
use Rattle.std.proofs.Common.{◌≡◌, ℕ, List, ap, ◌∙◌, length, map, subst, sym}
use Rattle.std.{proofs.lemmas.List.length-map, specs.Prelude.Some, specs.Prelude.slice_get}
use Rattle.dcd_base.specs.declared.tags.TagView.{TagView}
use Rattle.region_config.specs.Configurations.{Configuration}
use Rattle.journal_core.specs.{Entries.effects, declared.entries.Entry.Entry}
use Rattle.tag_refs.specs.Tables.{tag_view}
use Rattle.device_plain.specs.Lives.{ByEveryLife, IsAlive, IsLife, Living}
use Rattle.device_plain.specs.control_core.specs.{Pasts.ByEveryPast, Pasts.IsPast, Pasts.LiveControlled, manager_commands.proofs.TagReadings.tags_length, manager_commands.proofs.TagReadings.tags_seen}
use Rattle.device_plain.specs.device_rules.specs.{TagCommands.tag_seen, Tags.open_tags}
use Rattle.dcd_c.specs.Lists.{tag_told, tags_told}

module _ (d : Living) (alive : IsAlive d) (k : LiveControlled) (config : k.config ≡ d.config) (pasts : ByEveryLife d (λ life. IsPast d.config life k.state)) where
  -- what is shown of the tags that are kept
  abbrev shown : List TagView
  shown = map tag_view k.state.tags.entries

  here : IsPast k.config alive.life k.state
  here = subst (λ (c : Configuration). IsPast c alive.life k.state) (sym config) (pasts alive.life alive.leads)

  -- how many they are, and each of them
  pub tags_number : (n : ℕ) → ByEveryPast k (λ past. n ≡ length (open_tags k.config (effects past))) → n ≡ length k.state.tags.entries
  tags_number n told = told alive.life here ∙ tags_length k.config alive.life k.state.tags.entries here.sound here.legal here.kept.tags_are

  pub tag_kept : (i : ℕ) (v : TagView) → ByEveryPast k (λ past. slice_get (map (tag_seen k.config (effects past)) (open_tags k.config (effects past))) i ≡ Some v) → slice_get shown i ≡ Some v
  tag_kept i v told =
      ap (λ (views : List TagView). slice_get views i) (sym (tags_seen k.config alive.life k.state.tags.entries here.sound here.legal here.kept.tags_are))
      ∙ told alive.life here

  -- what is told of them is what every journal tells
  pub tags_kept : (life : List Entry) → IsLife life d → map tag_told shown ≡ tags_told d life
  tags_kept life leads =
      let past = pasts life leads in
      ap (map tag_told) (sym (tags_seen d.config life k.state.tags.entries past.sound past.legal past.kept.tags_are))

  pub tags_count : (n : ℕ) → ByEveryPast k (λ past. n ≡ length (open_tags k.config (effects past))) → (life : List Entry) → IsLife life d → n ≡ length (tags_told d life)
  tags_count n told life leads =
      tags_number n told ∙ sym (length-map k.state.tags.entries tag_view) ∙ sym (length-map shown tag_told) ∙ ap length (tags_kept life leads)
