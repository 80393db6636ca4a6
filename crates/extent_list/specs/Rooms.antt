-- A list of extents and the room that it has.
use Rattle.std.specs.Prelude.{ℕ, ◌+◌, ◌^◌, ◌<◌, ◌≤◌, ◌⊎◌, IfSome, List, find}
use Rattle.extent_list.specs.ExtentLists.{has_range}
use Rattle.dcd_base.specs.declared.capacity.Extent.{Extent}

-- the extents in order, and how many more the list takes without memory
pub record Room : Type 0 where
  pub extents : List Extent
  pub spare : ℕ

-- The extent ends with the last address of 64 bits, or before it.
abbrev pub IsInAddresses : Extent → Type 0
IsInAddresses x = x.start + x.length ≤ 2 ^ 64

-- What remains above a range begins at an address: the range ends below 2^64, or the extent that has it goes no further.
abbrev pub IsCutInAddresses : ℕ → ℕ → List Extent → Type 0
IsCutInAddresses start bytes xs = (start + bytes < 2 ^ 64) ⊎ IfSome (find (has_range start bytes) xs) IsInAddresses
