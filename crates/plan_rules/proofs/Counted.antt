-- A map has as many entries as the object that it stands for has members.
use Rattle.std.{proofs.Common.ap, specs.Prelude.◌≡◌, specs.Prelude.suc, specs.Prelude.List, specs.Prelude.[], specs.Prelude.◌∷◌, specs.Prelude.length, specs.Prelude.refl, specs.Prelude.String}
use Rattle.std.specs.declared.alloc.Global.{Global}
use Rattle.serde_json.specs.{View.members_view, declared.value.Value.Value}
use Rattle.plan_rules.specs.DemandTexts.{member_total}

pub members_counted : (ms : List (String Global × Value)) → member_total (members_view ms) ≡ length ms
members_counted [] = refl
members_counted (m ∷ ms) = ap suc (members_counted ms)
