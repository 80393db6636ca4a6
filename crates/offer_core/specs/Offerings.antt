-- What a host is offered, and what it has answered so far.
use Rattle.std.specs.Prelude.{List, [], ◌∷◌, map}
use Rattle.extent_list.specs.dcd_codes.specs.dcd_base.specs.declared.capacity.Extent.{Extent}
use Rattle.offer_core.specs.declared.offer.Offer.{Offer}

-- The unanswered offers, the oldest first, and the extents of the responses so far that have More set.
pub record Offering : Type 0 where
  pub offers : List Offer
  pub held : List Extent

-- the extents of each offer
abbrev pub lists_of : List Offer → List (List Extent)
lists_of offers = map (λ (offer : Offer). offer.extents) offers

-- the extents of the oldest offer; none where there is no offer
abbrev pub oldest_of : List (List Extent) → List Extent
oldest_of [] = []
oldest_of (offer ∷ later) = offer
