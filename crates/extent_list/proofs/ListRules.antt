-- Extents of a list that break no rule.
use Rattle.std.proofs.Common.{◌≡◌, List, None, refl}
use Rattle.dcd_base.specs.declared.{capacity.Extent.Extent, ids.HostId.HostId}
use Rattle.extent_list.specs.{Fitting.Fits, Listed.listed_rule, declared.listed.Owned.Owned, declared.listed.Within.Within}
use Rattle.media_map.specs.region_config.specs.Configurations.{Configuration}

-- an extent that fits breaks no rule
pub fit_keeps : (c : Configuration) (h : HostId) (owners : List Extent) (owned : Owned) (before : List Extent) (x : Extent) → Fits c h owners before x → listed_rule c h Within.AnyRegion owners owned before x ≡ None
fit_keeps c h owners owned before x is = rw (is.placed, is.inside, is.apart, is.whole) refl
