-- How many extents stand in offers.
use Rattle.std.proofs.Common.{◌≡◌, ◌+◌, ◌≤◌, List, [], ◌∷◌, length, refl, drop, arith}
use Rattle.std.proofs.lemmas.List.Sums.{sum_by-cons}
use Rattle.extent_list.specs.{dcd_codes.specs.dcd_base.specs.declared.capacity.Extent.Extent, ExtentLists.count_in}
use Rattle.offer_core.specs.{declared.offer.Offer.Offer, Offerings.lists_of, Offerings.oldest_of}

pub count_in-cons : (xs : List Extent) (later : List (List Extent)) → count_in (xs ∷ later) ≡ length xs + count_in later
count_in-cons xs later = sum_by-cons (λ (ys : List Extent). length ys) xs later

-- the oldest and the others
pub count_in_parts : (offers : List (List Extent)) → count_in offers ≡ length (oldest_of offers) + count_in (drop 1 offers)
count_in_parts [] = refl
count_in_parts (xs ∷ later) = count_in-cons xs later

-- the offers behind one have no more than it and they
pub fewer_behind : (offer : Offer) (later : List Offer) → count_in (lists_of later) ≤ count_in (lists_of (offer ∷ later))
fewer_behind offer later = omega (arith, count_in-cons offer.extents (lists_of later))
