-- What a response does.
use Rattle.std.specs.declared.result.Result.{Result, TheVariants.Ok, TheVariants.Err}
use Rattle.std.specs.Prelude.{◌≡◌, Bool, true, false, List, [], ◌∷◌, ◌++◌, ℕ, map}
use Rattle.extent_list.specs.{ExtentLists.marked, dcd_codes.specs.Rules.ByRow, dcd_codes.specs.dcd_base.specs.declared.capacity.Extent.Extent}
use Rattle.extent_list.specs.dcd_codes.specs.{dcd_base.specs.declared.ids.HostId.HostId, declared.refusals.Refusal.Refusal}
use Rattle.extent_list.specs.media_map.specs.region_config.specs.Configurations.{Configuration}
use Rattle.offer_core.specs.{declared.answered.Answered.Answered, Offerings.Offering, Offerings.lists_of, Responses.respond_rule}

-- What was there, whether more is to come, the message's list, what is there then, and what was answered.
abbrev pub Responds : Offering → Bool → List Extent → Offering → Answered → Type 0
Responds old more list new Answered.Held =
    (more ≡ true) × (new.held ≡ old.held ++ list) × (new.offers ≡ old.offers)
Responds old more list new Answered.Nothing =
    (more ≡ false) × (old.offers ≡ []) × (old.held ++ list ≡ []) × (new.offers ≡ []) × (new.held ≡ [])
Responds old more list new (Answered.Done offer accepted) =
    (more ≡ false) × (old.offers ≡ offer ∷ new.offers) × (new.held ≡ []) × (accepted ≡ map (marked offer.extents) (old.held ++ list))

-- A response of the host that has so many accepted extents: the first rule that it breaks, or what it does.
abbrev pub AnswersOldest : Configuration → HostId → ℕ → Offering → Bool → List Extent → Offering → Result Answered Refusal → Type 0
AnswersOldest c h accepted old more list new result =
    ByRow (respond_rule c h accepted (lists_of old.offers) old.held more list) (Responds old more list new) result

-- What a refusal leaves: a broken rule empties the held list and changes nothing else, and want of memory changes nothing.
abbrev pub Leaves : Offering → Offering → Result Answered Refusal → Type 0
Leaves old new (Ok answered) = Unit {0}
Leaves old new (Err (Refusal.Broken rule)) = new ≡ record old { held = [] }
Leaves old new (Err Refusal.NoMemory) = new ≡ old

-- Where this holds, no rule is broken.
abbrev pub NeverBroken : Result Answered Refusal → Type 0 → Type 0
NeverBroken (Ok answered) P = Unit {0}
NeverBroken (Err (Refusal.Broken rule)) P = P → ⊥
NeverBroken (Err Refusal.NoMemory) P = Unit {0}
