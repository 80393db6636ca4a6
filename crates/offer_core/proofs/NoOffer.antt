-- Where there is no offer, nothing can be listed.
use Rattle.std.proofs.Common.{◌≡◌, ℕ, Bool, false, List, [], ◌∷◌, ◌++◌, Option, Some, None, refl, ap, subst}
use Rattle.extent_list.specs.{Listing.misplaced, Listing.too_many_listed, dcd_codes.specs.dcd_base.specs.Words.◌or◌, dcd_codes.specs.dcd_base.specs.declared.capacity.Extent.Extent}
use Rattle.extent_list.specs.{dcd_codes.specs.dcd_base.specs.declared.ids.HostId.HostId, dcd_codes.specs.declared.rules.Rule.Rule, media_map.specs.Places.region_at}
use Rattle.extent_list.specs.media_map.specs.region_config.specs.Configurations.{Configuration}
use Rattle.offer_core.specs.{declared.offer.Offer.Offer, Offerings.lists_of, Responses.response_list_rule, Responses.respond_rule}

some_none : {X : Type 0} (x : X) → Some x ≡ None → ⊥
some_none x e = cc

-- neither of two is there
or_right : (a b : Option Rule) → (a or b) ≡ None → b ≡ None
or_right None b e = e
or_right (Some rule) b e = absurd (some_none rule e)

-- a row that has a broken rule in it is broken
or_broken : (a : Option Rule) (rule : Rule) (b c d e f : Option Rule) → (((((a or Some rule) or b) or c) or d) or e) or f ≡ None → ⊥
or_broken None rule b c d e f none = some_none rule none
or_broken (Some first) rule b c d e f none = some_none first none

nothing_in : (c : Configuration) (h : HostId) (accepted : ℕ) (list : List Extent) → response_list_rule c h accepted [] list ≡ None → list ≡ []
nothing_in c h accepted [] none = refl
nothing_in c h accepted (x ∷ xs) none = absurd (or_broken (misplaced c h (region_at c h x.start) 0 x) (Rule.NotOffered 0) _ _ _ _ _ none)

pub nothing_offered : (c : Configuration) (h : HostId) (accepted : ℕ) (offers : List (List Extent)) (held : List Extent) (more : Bool) (list : List Extent) →
    more ≡ false → offers ≡ [] → respond_rule c h accepted offers held more list ≡ None → held ++ list ≡ []
nothing_offered c h accepted offers held more list last no_offer none =
    let at_last : respond_rule c h accepted offers held false list ≡ None = subst (λ m. respond_rule c h accepted offers held m list ≡ None) last none in
    let at_none : respond_rule c h accepted [] held false list ≡ None = subst (λ (os : List (List Extent)). respond_rule c h accepted os held false list ≡ None) no_offer at_last in
    nothing_in c h accepted (held ++ list) (or_right (too_many_listed (held ++ list)) (response_list_rule c h accepted [] (held ++ list)) at_none)

pub nothing_listed : (c : Configuration) (h : HostId) (accepted : ℕ) (offers : List Offer) (held : List Extent) (more : Bool) (list : List Extent) →
    more ≡ false → offers ≡ [] → respond_rule c h accepted (lists_of offers) held more list ≡ None → held ++ list ≡ []
nothing_listed c h accepted offers held more list last no_offer none = nothing_offered c h accepted (lists_of offers) held more list last (ap lists_of no_offer) none
