-- Which effects leave what: tests of an effect, and folds over effects that pass one.
use Rattle.std.proofs.Common.{◌≡◌, ℕ, Bool, true, false, ◌&&◌, List, [], ◌∷◌, ◌++◌, refl, ap, ◌∙◌}
use Rattle.std.{proofs.lemmas.Bool.and_parts, proofs.lemmas.Bool.false≢true, proofs.lemmas.List.Folds.list_all-append, proofs.lemmas.List.Sums.fold-append, specs.List.list_all}
use Rattle.std.specs.Prelude.{fold, map, Option}
use Rattle.cci_codec.specs.dcd_base.specs.declared.{ids.HostId.HostId, capacity.Tag.Tag, capacity.Extent.Extent}
use Rattle.extent_list.specs.media_map.specs.region_config.specs.Configurations.{Configuration}
use Rattle.journal_core.specs.{declared.outcome.Effect.Effect, Holders.holding_after, Holders.taking_after, Holders.soil_after}
use Rattle.device_rules.specs.{Hosts.offers_after, Tags.last_offer_after, Tags.tags_after}

-- what goes over effects that each leave it stays
pub over-leaving : {B : Type 0} (f : B → Effect → B) (test : Effect → Bool) (leaves : (b : B) (e : Effect) → test e ≡ true → f b e ≡ b)
    (b : B) (new : List Effect) → list_all test new ≡ true → fold f b new ≡ b
over-leaving f test leaves b [] all = refl
over-leaving f test leaves b (e ∷ new) all =
    let parts = and_parts (test e) (list_all test new) all in
    ap (λ a. fold f a new) (leaves b e parts.0) ∙ over-leaving f test leaves b new parts.1

-- ---- the tests

-- neither an offer nor the end of a tag: the open tags stay, and the granules for which they stand
abbrev pub leaves_tags : Effect → Bool
leaves_tags (Effect.Offer h xs) = false
leaves_tags (Effect.TagEnd t) = false
leaves_tags e = true

-- neither an offer nor an answer
abbrev pub leaves_offers : Effect → Bool
leaves_offers (Effect.Offer h xs) = false
leaves_offers (Effect.Answer h xs) = false
leaves_offers e = true

-- nobody gets or loses a granule
abbrev pub leaves_holders : Effect → Bool
leaves_holders (Effect.Take h run) = false
leaves_holders (Effect.Leave h run) = false
leaves_holders e = true

-- no granule is taken or zeroed
abbrev pub leaves_taking : Effect → Bool
leaves_taking (Effect.Take h run) = false
leaves_taking (Effect.Zero run) = false
leaves_taking e = true

-- no granule is soiled or zeroed
abbrev pub leaves_soil : Effect → Bool
leaves_soil (Effect.Soil run) = false
leaves_soil (Effect.Zero run) = false
leaves_soil e = true

-- Hold, Unhold, Logged, Missed, Cleared, Reset, Ref and Block: no granule has another status
abbrev pub is_quiet : Effect → Bool
is_quiet e = leaves_holders e && (leaves_offers e && (leaves_tags e && (leaves_taking e && leaves_soil e)))

-- ---- what each of them leaves

pub holding-left : (h : HostId) (g : ℕ) (b : Bool) (e : Effect) → leaves_holders e ≡ true → holding_after h g b e ≡ b
holding-left h g b (Effect.Take k run) left = absurd (false≢true left)
holding-left h g b (Effect.Leave k run) left = absurd (false≢true left)
holding-left h g b e left = refl

pub offers-left : (h : HostId) (offers : List (List Extent)) (e : Effect) → leaves_offers e ≡ true → offers_after h offers e ≡ offers
offers-left h offers (Effect.Offer k xs) left = absurd (false≢true left)
offers-left h offers (Effect.Answer k xs) left = absurd (false≢true left)
offers-left h offers e left = refl

pub last_offer-left : (t : Tag) (last : Option (HostId × List Extent)) (e : Effect) → leaves_tags e ≡ true → last_offer_after t last e ≡ last
last_offer-left t last (Effect.Offer h xs) left = absurd (false≢true left)
last_offer-left t last e left = refl

pub tags-left : (c : Configuration) (live : List Tag) (e : Effect) → leaves_tags e ≡ true → tags_after c live e ≡ live
tags-left c live (Effect.Offer h xs) left = absurd (false≢true left)
tags-left c live (Effect.TagEnd t) left = absurd (false≢true left)
tags-left c live e left = refl

pub taking-left : (g : ℕ) (b : Bool) (e : Effect) → leaves_taking e ≡ true → taking_after g b e ≡ b
taking-left g b (Effect.Take k run) left = absurd (false≢true left)
taking-left g b (Effect.Zero run) left = absurd (false≢true left)
taking-left g b e left = refl

pub soil-left : (g : ℕ) (b : Bool) (e : Effect) → leaves_soil e ≡ true → soil_after g b e ≡ b
soil-left g b (Effect.Soil run) left = absurd (false≢true left)
soil-left g b (Effect.Zero run) left = absurd (false≢true left)
soil-left g b e left = refl

-- ---- over some effects that all pass

pub holding-over : (h : HostId) (g : ℕ) (b : Bool) (new : List Effect) → list_all leaves_holders new ≡ true → fold (holding_after h g) b new ≡ b
holding-over h g b new all = over-leaving (holding_after h g) leaves_holders (holding-left h g) b new all

pub offers-over : (h : HostId) (offers : List (List Extent)) (new : List Effect) → list_all leaves_offers new ≡ true → fold (offers_after h) offers new ≡ offers
offers-over h offers new all = over-leaving (offers_after h) leaves_offers (offers-left h) offers new all

pub last_offer-over : (t : Tag) (last : Option (HostId × List Extent)) (new : List Effect) → list_all leaves_tags new ≡ true → fold (last_offer_after t) last new ≡ last
last_offer-over t last new all = over-leaving (last_offer_after t) leaves_tags (last_offer-left t) last new all

pub tags-over : (c : Configuration) (live : List Tag) (new : List Effect) → list_all leaves_tags new ≡ true → fold (tags_after c) live new ≡ live
tags-over c live new all = over-leaving (tags_after c) leaves_tags (tags-left c) live new all

pub taking-over : (g : ℕ) (b : Bool) (new : List Effect) → list_all leaves_taking new ≡ true → fold (taking_after g) b new ≡ b
taking-over g b new all = over-leaving (taking_after g) leaves_taking (taking-left g) b new all

pub soil-over : (g : ℕ) (b : Bool) (new : List Effect) → list_all leaves_soil new ≡ true → fold (soil_after g) b new ≡ b
soil-over g b new all = over-leaving (soil_after g) leaves_soil (soil-left g) b new all

-- ---- tests over lists

-- what passes one test passes another that follows from it
pub all_pass : (p q : Effect → Bool) → ((e : Effect) → p e ≡ true → q e ≡ true) → (new : List Effect) → list_all p new ≡ true → list_all q new ≡ true
all_pass p q follows [] all = refl
all_pass p q follows (e ∷ new) all =
    let parts = and_parts (p e) (list_all p new) all in
    ap (λ b. b && list_all q new) (follows e parts.0) ∙ all_pass p q follows new parts.1

-- effects of one kind pass together
pub map_passes : {X : Type 0} (p : Effect → Bool) (f : X → Effect) → ((x : X) → p (f x) ≡ true) → (xs : List X) → list_all p (map f xs) ≡ true
map_passes p f each [] = refl
map_passes p f each (x ∷ xs) = ap (λ b. b && list_all p (map f xs)) (each x) ∙ map_passes p f each xs

-- what a quiet effect leaves
record Quiet (e : Effect) : Type 0 where
  holders : leaves_holders e ≡ true
  offers : leaves_offers e ≡ true
  tags : leaves_tags e ≡ true
  taking : leaves_taking e ≡ true
  soil : leaves_soil e ≡ true

quiet_parts : (e : Effect) → is_quiet e ≡ true → Quiet e
quiet_parts e q =
    let p1 = and_parts (leaves_holders e) (leaves_offers e && (leaves_tags e && (leaves_taking e && leaves_soil e))) q in
    let p2 = and_parts (leaves_offers e) (leaves_tags e && (leaves_taking e && leaves_soil e)) p1.1 in
    let p3 = and_parts (leaves_tags e) (leaves_taking e && leaves_soil e) p2.1 in
    let p4 = and_parts (leaves_taking e) (leaves_soil e) p3.1 in
    record { holders = p1.0; offers = p2.0; tags = p3.0; taking = p4.0; soil = p4.1 }

module _ (new : List Effect) (all : list_all is_quiet new ≡ true) where
  pub quiet_holders : list_all leaves_holders new ≡ true
  quiet_holders = all_pass is_quiet leaves_holders (λ e q. (quiet_parts e q).holders) new all

  pub quiet_offers : list_all leaves_offers new ≡ true
  quiet_offers = all_pass is_quiet leaves_offers (λ e q. (quiet_parts e q).offers) new all

  pub quiet_tags : list_all leaves_tags new ≡ true
  quiet_tags = all_pass is_quiet leaves_tags (λ e q. (quiet_parts e q).tags) new all

  pub quiet_taking : list_all leaves_taking new ≡ true
  quiet_taking = all_pass is_quiet leaves_taking (λ e q. (quiet_parts e q).taking) new all

  pub quiet_soil : list_all leaves_soil new ≡ true
  quiet_soil = all_pass is_quiet leaves_soil (λ e q. (quiet_parts e q).soil) new all

-- two lists of effects that pass
pub both_pass : (p : Effect → Bool) (xs ys : List Effect) → list_all p xs ≡ true → list_all p ys ≡ true → list_all p (xs ++ ys) ≡ true
both_pass p xs ys first second = list_all-append p xs ys ∙ (λ i. first i && second i)

-- a fold over effects that leave it, and then some more
pub after_front : {B : Type 0} (f : B → Effect → B) (b : B) (front new : List Effect) → fold f b front ≡ b → fold f b (front ++ new) ≡ fold f b new
after_front f b front new left = fold-append f b front new ∙ ap (λ a. fold f a new) left
