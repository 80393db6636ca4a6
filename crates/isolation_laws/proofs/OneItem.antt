-- What effects bring a host: one item at most, and a view that the item makes alone.
use Rattle.std.{proofs.Common.◌≡◌, proofs.Common.List, proofs.Common.[], proofs.Common.◌∷◌, specs.Prelude.fold}
use Rattle.dcd_base.specs.declared.ids.HostId.{HostId}
use Rattle.journal_core.specs.declared.outcome.Effect.{Effect}
use Rattle.extent_list.specs.media_map.specs.region_config.specs.Configurations.{Configuration}
use Rattle.device_rules.specs.Views.{View, view_after}
use Rattle.isolation_laws.specs.{Unlawful.EndsBeyond, Solo.solo_after, declared.items.Item.Item}

-- no item, or one that ends within the addresses
abbrev pub IsOneAtMost : List Item → Type 0
IsOneAtMost [] = Unit {0}
IsOneAtMost (item ∷ []) = ¬ EndsBeyond item
IsOneAtMost (item ∷ next ∷ more) = ⊥

-- The effects change the host's view as these items change it alone.
pub record BringsItems (c : Configuration) (h : HostId) (v : View) (new : List Effect) (items : List Item) : Type 0 where
  pub alone : view_after c h v new ≡ fold (solo_after c h) v items
  pub few : IsOneAtMost items
