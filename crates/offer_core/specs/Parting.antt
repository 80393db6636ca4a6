-- Offers as one list of extents, and how many of them each has.
use Rattle.std.specs.Prelude.{◌≡◌, ◌≤◌, ℕ, List, [], ◌∷◌, drop, length, take}
use Rattle.extent_list.specs.dcd_codes.specs.dcd_base.specs.declared.capacity.Extent.{Extent}
use Rattle.offer_core.specs.declared.offer.Offer.{Offer}

-- the offers that have so many extents each, one after another
abbrev pub parted : List ℕ → List Extent → List Offer
parted [] xs = []
parted (n ∷ ns) xs = record { extents = take n xs } ∷ parted ns (drop n xs)

-- Together they have all the extents, and no more.
abbrev pub AreParts : List ℕ → List Extent → Type 0
AreParts [] xs = xs ≡ []
AreParts (n ∷ ns) xs = (n ≤ length xs) × AreParts ns (drop n xs)
