-- A Release Dynamic Capacity: its row, and what it does to the held list.
use Rattle.std.specs.Prelude.{◌≡◌, ◌≢◌, ℕ, Bool, true, false, not, List, [], map, Option}
use Rattle.std.specs.declared.result.Result.{Result, TheVariants.Ok, TheVariants.Err}
use Rattle.extent_list.specs.{ExtentLists.marked, Listing.too_many_extents, Listing.too_many_listed, dcd_codes.specs.Rules.ByRow}
use Rattle.extent_list.specs.dcd_codes.specs.dcd_base.specs.{Words.◌or◌, Words.where_true, declared.capacity.Extent.Extent, declared.ids.HostId.HostId}
use Rattle.extent_list.specs.{dcd_codes.specs.declared.refusals.Refusal.Refusal, dcd_codes.specs.declared.rules.Rule.Rule, declared.listed.Within.Within}
use Rattle.extent_list.specs.media_map.specs.region_config.specs.Configurations.{Configuration}
use Rattle.release_core.specs.{declared.releases.GivenBack.GivenBack, Leaving.count_after, Leaving.leaving_list_rule}

-- the row; the whole list is the held one and then the message's, and so many extents are offered
abbrev pub give_back_rule : Configuration → HostId → List Extent → ℕ → List Extent → Bool → Option Rule
give_back_rule c h accepted offered whole more =
    too_many_listed whole
    or where_true (not more) (leaving_list_rule c h accepted Within.AnyRegion whole or too_many_extents (count_after accepted offered whole))

-- What a release that breaks no rule answers, and what is held after it.
abbrev pub GivesBack : List Extent → List Extent → Bool → List Extent → GivenBack → Type 0
GivesBack accepted whole more held GivenBack.Held = (more ≡ true) × (held ≡ whole)
GivesBack accepted whole more held GivenBack.Nothing = (more ≡ false) × (whole ≡ []) × (held ≡ [])
GivesBack accepted whole more held (GivenBack.Done leaving) = (more ≡ false) × (whole ≢ []) × (leaving ≡ map (marked accepted) whole) × (held ≡ [])

-- What a release of this whole list answers, and what is held after it: by its row, what a release does.
abbrev pub AnswersRelease : Configuration → HostId → List Extent → ℕ → List Extent → Bool → List Extent → Result GivenBack Refusal → Type 0
AnswersRelease c h accepted offered whole more held result = ByRow (give_back_rule c h accepted offered whole more) (GivesBack accepted whole more held) result

-- A broken rule empties the held list; without memory it stays as it was.
abbrev pub KeepsHeld : List Extent → List Extent → Result GivenBack Refusal → Type 0
KeepsHeld old new (Ok given) = Unit {0}
KeepsHeld old new (Err (Refusal.Broken rule)) = new ≡ []
KeepsHeld old new (Err Refusal.NoMemory) = new ≡ old
