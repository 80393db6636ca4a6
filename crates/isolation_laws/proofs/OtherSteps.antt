-- Steps that are none of the host's and bring it nothing.
use Rattle.std.{proofs.Common.◌≡◌, proofs.Common.true, proofs.Common.List, proofs.Common.sym, proofs.Common.subst, specs.List.list_all}
use Rattle.dcd_base.specs.declared.ids.HostId.{HostId}
use Rattle.journal_core.specs.declared.outcome.Effect.{Effect}
use Rattle.extent_list.specs.media_map.specs.region_config.specs.Configurations.{Configuration}
use Rattle.device_rules.{specs.Views.View, proofs.ViewsLeft.leaves_view, proofs.ViewsLeft.view_after-left}
use Rattle.isolation_laws.{specs.Solo.delivered, proofs.OneItem.BringsItems, proofs.RecordItems.delivered-left}

-- The effects of another actor change the view as what they bring the host changes it alone.
abbrev pub BringsAlone : Configuration → HostId → View → List Effect → Type 0
BringsAlone c h v new = BringsItems c h v new (delivered h new)

-- So it is where they leave it.
pub brings_nothing : (c : Configuration) (h : HostId) (v : View) (new : List Effect) → list_all (leaves_view h) new ≡ true → BringsAlone c h v new
brings_nothing c h v new all = subst (BringsItems c h v new) (sym (delivered-left h new all)) (record { alone = view_after-left c h v new all; few = tt })
