-- Items that no legal journal brings a host.
use Rattle.std.specs.Prelude.{◌⊎◌, ◌+◌, ◌^◌, ◌<◌, All, length}
use Rattle.dcd_base.specs.declared.{capacity.Extent.Extent, ids.HostId.HostId}
use Rattle.device_rules.specs.Views.{View, extents_in}
use Rattle.event_log.specs.Logs.{records_in}
use Rattle.extent_list.specs.media_map.specs.region_config.specs.Configurations.{Configuration}
use Rattle.isolation_laws.specs.{Solo.solo_after, declared.items.Item.Item}

-- The item takes an extent that ends at 2^64 or above.
abbrev pub EndsBeyond : Item → Type 0
EndsBeyond (Item.Taken xs) = ¬ All (λ (x : Extent). x.start + x.length < 2 ^ 64) xs
EndsBeyond item = ⊥

-- After the item the host has too many extents or records, or the item ends beyond all addresses.
abbrev pub IsUnlawful : Configuration → HostId → View → Item → Type 0
IsUnlawful c h v item =
    (64 < length (extents_in (solo_after c h v item)))
    ⊎ (64 < length (records_in (solo_after c h v item).log))
    ⊎ EndsBeyond item
