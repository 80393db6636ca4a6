-- Extents as they are listed.
use Rattle.std.{proofs.Common.◌≡◌, proofs.Common.true, proofs.Common.List, proofs.Common.[], proofs.Common.◌∷◌, proofs.Common.map, proofs.Common.refl, specs.List.list_all}
use Rattle.dcd_base.specs.declared.capacity.Extent.{Extent}
use Rattle.host_payloads.specs.HostPayloads.{is_untagged}
use Rattle.host_driver.specs.Driving.{bare}

pub bare_untagged : (xs : List Extent) → list_all is_untagged (map bare xs) ≡ true
bare_untagged [] = refl
bare_untagged (x ∷ xs) = bare_untagged xs
