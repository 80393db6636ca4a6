-- What the manager is shown of the table.
use Rattle.std.proofs.Common.{◌≡◌, List, [], ◌∷◌, map, length, refl, sym, ap, ◌∙◌}
use Rattle.std.{specs.List.AllByRecursion, proofs.lemmas.List.length-map}
use Rattle.journal_core.specs.declared.outcome.Effect.{Effect}
use Rattle.extent_list.specs.media_map.specs.region_config.specs.Configurations.{Configuration}
use Rattle.tag_refs.specs.{Tables.tag_view, declared.entries.TagEntry.TagEntry}
use Rattle.device_rules.{specs.TagCommands.tag_seen, specs.Tags.open_tags, specs.TagTable.IsEntry, specs.TagTable.IsTable, proofs.TagEntries.tags_in}

-- an entry shows what is seen of its tag
seen : (c : Configuration) (past : List Effect) (e : TagEntry) → IsEntry c past e → tag_seen c past e.tag ≡ tag_view e
seen c past e is = λ i. record {
  tag = e.tag;
  holders = sym is.holders_are i;
  offered = sym is.offered_are i;
  referenced = sym is.referenced_is i;
}

all_seen : (c : Configuration) (past : List Effect) (entries : List TagEntry) → AllByRecursion (IsEntry c past) entries → map (tag_seen c past) (tags_in entries) ≡ map tag_view entries
all_seen c past [] each = refl
all_seen c past (e ∷ entries) each = λ i. seen c past e each.0 i ∷ all_seen c past entries each.1 i

module _ (c : Configuration) (past : List Effect) (entries : List TagEntry) (table : IsTable c past entries) where
  pub table_seen : map (tag_seen c past) (open_tags c past) ≡ map tag_view entries
  table_seen = ap (map (tag_seen c past)) (sym table.tags_are) ∙ all_seen c past entries table.each

  pub table_length : length (open_tags c past) ≡ length entries
  table_length = ap length (sym table.tags_are) ∙ length-map entries (λ (e : TagEntry). e.tag)
