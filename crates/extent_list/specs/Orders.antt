-- Lists of extents by their addresses.
use Rattle.std.specs.Prelude.{◌≡◌, ℕ, ◌<◌, List, None, length, slice_index_or, take}
use Rattle.dcd_base.specs.declared.capacity.Extent.{Extent}
use Rattle.extent_list.specs.Listing.{overlapping}

-- No extent shares an address with one before it.
abbrev pub AreApart : List Extent → Type 0
AreApart xs = (i : ℕ) (d : Extent) → i < length xs → overlapping (take i xs) (slice_index_or xs i d) ≡ None
