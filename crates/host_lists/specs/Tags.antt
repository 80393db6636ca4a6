-- How many tags are among extents.
use Rattle.std.specs.Prelude.{ℕ, ◌-◌, ◌^◌, Bool, ◌&&◌, not, List, ◌++◌, flat_map, length, map, min, take}
use Rattle.extent_list.specs.{ExtentLists.has_extent_of, ExtentLists.real_tags, dcd_codes.specs.dcd_base.specs.Words.is_zero_tag, dcd_codes.specs.dcd_base.specs.declared.capacity.Extent.Extent}
use Rattle.extent_list.specs.dcd_codes.specs.dcd_base.specs.declared.capacity.Tag.{Tag}

-- how many distinct tags they have; sixteen zero bytes are none
abbrev pub tag_count : List Extent → ℕ
tag_count xs = length (real_tags xs)

-- the tag of each extent, also where it is none
abbrev pub tags_in_order : List Extent → List Tag
tags_in_order xs = map (λ x. x.tag) xs

-- whether the tag is one, and none of the extents before has it
abbrev pub is_new : List Extent → Tag → Bool
is_new before t = not (is_zero_tag t) && not (has_extent_of t before)

-- a count that stands still at the end of 32 bits
abbrev pub capped : ℕ → ℕ
capped n = min n (2 ^ 32 - 1)

-- the extents accepted and those of the first offers, so many
abbrev pub extents_before : List Extent → List (List Extent) → ℕ → List Extent
extents_before accepted offers count = accepted ++ flat_map (λ xs. xs) (take count offers)
