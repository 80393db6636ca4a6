-- Whole extents that leave from the front of a list.
use Rattle.std.proofs.Common.{◌≡◌, ℕ, ◌+◌, List, ◌∷◌, refl, arith, le-leb, le-ltb}
use Rattle.dcd_base.specs.declared.capacity.Extent.{Extent}
use Rattle.extent_list.specs.ExtentLists.{cut}

pub cut-whole : (x : Extent) (xs : List Extent) (start bytes : ℕ) → start ≡ x.start → bytes ≡ x.length → cut start bytes (x ∷ xs) ≡ xs
cut-whole x xs start bytes from long =
    rw (from, long, le-leb x.start x.start (omega arith), le-leb (x.start + x.length) (x.start + x.length) (omega arith), le-ltb x.start x.start (omega arith), le-ltb (x.start + x.length) (x.start + x.length) (omega arith)) refl
