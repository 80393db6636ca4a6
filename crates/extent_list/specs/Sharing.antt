-- When no tag can be listed in part: without shareable regions, and where all extents are listed.
use Rattle.std.specs.Prelude.{◌≡◌, ℕ, false, List}
use Rattle.dcd_base.specs.declared.capacity.{Extent.Extent, Tag.Tag}
use Rattle.extent_list.specs.ExtentLists.{count_of_tag}
use Rattle.media_map.specs.region_config.specs.{Configurations.Configuration, Granules.region_spec}

-- No region of the device is shareable.
abbrev pub HasNoShareable : Configuration → Type 0
HasNoShareable c = (r : ℕ) → (region_spec c r).shareable ≡ false

-- Of each tag there are as many extents in both.
abbrev pub HaveSameTags : List Extent → List Extent → Type 0
HaveSameTags xs ys = (t : Tag) → count_of_tag t xs ≡ count_of_tag t ys
