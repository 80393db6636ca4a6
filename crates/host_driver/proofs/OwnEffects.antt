-- What takes and leaves do to a host's view, and the codes of refusals.
use Rattle.std.proofs.Common.{◌≡◌, ◌==◌, false, List, [], ◌∷◌, map, refl, ap, ◌∙◌}
use Rattle.std.{specs.Prelude.fold, specs.Prelude.if◌then◌else◌, specs.List.AllByRecursion, proofs.lemmas.Bool.eq-eqb}
use Rattle.dcd_base.specs.declared.{capacity.Extent.Extent, ids.HostId.HostId, media.Run.Run}
use Rattle.dcd_codes.specs.{Rules.code_of, Rules.number_of, declared.rules.Rule.Rule}
use Rattle.extent_list.specs.ExtentLists.{cut, cut_all}
use Rattle.journal_core.specs.declared.outcome.Effect.{Effect}
use Rattle.media_map.specs.Places.{run_of}
use Rattle.region_config.specs.Configurations.{Configuration}
use Rattle.device_plain.specs.{device_rules.specs.Hosts.accepted_after, device_rules.specs.ReleaseOutcomes.leaves, isolation_laws.proofs.RemovalViews.IsOwnRun}
use Rattle.host_driver.specs.Driving.{bare}

-- what minds no Take stays
pub over_takes : {B : Type 0} (c : Configuration) (h : HostId) (f : B → Effect → B) → ((b : B) (run : Run) → f b (Effect.Take h run) ≡ b) → (xs : List Extent) (b : B)
    → fold f b (map (λ x. Effect.Take h (run_of c h x)) xs) ≡ b
over_takes c h f stays [] b = refl
over_takes c h f stays (x ∷ xs) b = ap (λ a. fold f a (map (λ y. Effect.Take h (run_of c h y)) xs)) (stays b (run_of c h x)) ∙ over_takes c h f stays xs b

-- what minds no Leave stays
pub over_leaves : {B : Type 0} (c : Configuration) (h : HostId) (f : B → Effect → B) → ((b : B) (run : Run) → f b (Effect.Leave h run) ≡ b) → (xs : List Extent) (b : B)
    → fold f b (leaves c h xs) ≡ b
over_leaves c h f stays [] b = refl
over_leaves c h f stays (x ∷ xs) b = ap (λ a. fold f a (leaves c h xs)) (stays b (run_of c h x)) ∙ over_leaves c h f stays xs b

-- leaves cut the accepted list
one_cut : (c : Configuration) (h : HostId) (x : Extent) (accepted : List Extent) → IsOwnRun c h x → accepted_after c h accepted (Effect.Leave h (run_of c h x)) ≡ cut x.start x.length accepted
one_cut c h x accepted own = λ i. if eq-eqb h h refl i then cut (own.starts i) (own.bytes i) accepted else accepted

pub cuts : (c : Configuration) (h : HostId) (xs accepted : List Extent) → AllByRecursion (IsOwnRun c h) xs → fold (accepted_after c h) accepted (leaves c h xs) ≡ cut_all xs accepted
cuts c h [] accepted own = refl
cuts c h (x ∷ xs) accepted own = ap (λ list. fold (accepted_after c h) list (leaves c h xs)) (one_cut c h x accepted own.0) ∙ cuts c h xs (cut x.start x.length accepted) own.1

pub cut_bare : (xs accepted : List Extent) → cut_all (map bare xs) accepted ≡ cut_all xs accepted
cut_bare [] accepted = refl
cut_bare (x ∷ xs) accepted = cut_bare xs (cut x.start x.length accepted)

-- no refusal is a success
pub refused_code : (rule : Rule) → (number_of (code_of rule) == 0) ≡ false
refused_code (Rule.UnknownOpcode n) = refl
refused_code (Rule.WrongLength need have) = refl
refused_code (Rule.NoSuchRegion r) = refl
refused_code (Rule.NoSuchHost h) = refl
refused_code (Rule.PastEnd first total) = refl
refused_code (Rule.NoSuchLog l) = refl
refused_code (Rule.UnknownHandle n) = refl
refused_code (Rule.OlderLeft n) = refl
refused_code Rule.NotOverflowed = refl
refused_code (Rule.TooManyListed n) = refl
refused_code (Rule.ZeroLength i) = refl
refused_code (Rule.OutsideRegion i) = refl
refused_code (Rule.Unaligned i) = refl
refused_code (Rule.NotOffered i) = refl
refused_code (Rule.NotAccepted i) = refl
refused_code (Rule.NotFree i) = refl
refused_code (Rule.Overlap i j) = refl
refused_code (Rule.NotWhole i) = refl
refused_code (Rule.TagIncomplete listed need) = refl
refused_code (Rule.TooManyExtents n) = refl
refused_code (Rule.NoSuchPolicy n) = refl
refused_code Rule.EmptyList = refl
refused_code (Rule.NotShareable r) = refl
refused_code Rule.ZeroTag = refl
refused_code Rule.TagInUse = refl
refused_code Rule.NoSuchTag = refl
refused_code Rule.AlreadyShared = refl
refused_code (Rule.BadLength n) = refl
refused_code (Rule.TooFewFree need have) = refl
refused_code (Rule.TooManyTags n) = refl
refused_code (Rule.LogFull h need have) = refl
refused_code Rule.UnsupportedFlag = refl
refused_code (Rule.NotSupportedSize n) = refl
refused_code Rule.SanitizeDiffers = refl
refused_code (Rule.RegionInUse n) = refl
refused_code Rule.NoReference = refl
