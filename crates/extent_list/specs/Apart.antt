-- Lists of extents of which no two have an address in common.
use Rattle.std.specs.Prelude.{◌+◌, ◌≤◌, ◌⊎◌, AllPairs, List}
use Rattle.dcd_base.specs.declared.capacity.Extent.{Extent}

-- One extent ends where another begins, or below.
abbrev pub IsBelow : Extent → Extent → Type 0
IsBelow x y = x.start + x.length ≤ y.start

-- Of any two extents one ends where the other begins, or below.
abbrev pub StandApart : List Extent → Type 0
StandApart xs = AllPairs (λ (x y : Extent). IsBelow x y ⊎ IsBelow y x) xs

-- Each extent ends where those behind it in the list begin, or below; and the other way round.
abbrev pub AreRising : List Extent → Type 0
AreRising xs = AllPairs (λ (x y : Extent). IsBelow x y) xs

abbrev pub AreFalling : List Extent → Type 0
AreFalling xs = AllPairs (λ (x y : Extent). IsBelow y x) xs
