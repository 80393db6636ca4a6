-- No tag is open twice.
use Rattle.std.proofs.Common.{◌≡◌, ℕ, zero, suc, ◌<◌, Bool, true, false, not, ◌&&◌, List, [], ◌∷◌, ◌++◌, length, get_or, refl, ◌∙◌, arith}
use Rattle.std.proofs.lemmas.{Bool.or_parts, List.Kept.AllPairs-filter, List.Quantifiers.all_pairs_push}
use Rattle.std.specs.Prelude.{AllPairs, IsFalse, fold, if◌then◌else◌}
use Rattle.cci_codec.specs.dcd_base.specs.{declared.capacity.Tag.Tag, Words.has_tag, Words.same_tag}
use Rattle.extent_list.specs.media_map.specs.{region_config.specs.Configurations.Configuration, region_config.specs.Granules.region_spec, Places.region_at}
use Rattle.journal_core.specs.declared.outcome.Effect.{Effect}
use Rattle.device_rules.{specs.Tags.open_tags, specs.Tags.tags_after, proofs.TagSteps.same_tag-back}

abbrev Differ : Tag → Tag → Type 0
Differ t u = IsFalse (same_tag t u)

-- a tag that is not among them differs from each
none_same : (tags : List Tag) (t : Tag) → has_tag tags t ≡ false → (k : ℕ) (d : Tag) → k < length tags → same_tag (get_or tags k d) t ≡ false
none_same [] t none k d within = absurd (omega (arith, within))
none_same (u ∷ tags) t none zero d within = same_tag-back u t ∙ (or_parts (same_tag t u) (has_tag tags t) none).0
none_same (u ∷ tags) t none (suc k) d within = none_same tags t (or_parts (same_tag t u) (has_tag tags t) none).1 k d (omega (arith, within))

opened : (tags : List Tag) (t : Tag) (shareable has : Bool) → has_tag tags t ≡ has → AllPairs Differ tags → AllPairs Differ (if shareable && not has then tags ++ t ∷ [] else tags)
opened tags t false has is apart = apart
opened tags t true true is apart = apart
opened tags t true false is apart = all_pairs_push Differ tags t apart (none_same tags t is)

after_one : (c : Configuration) (tags : List Tag) (e : Effect) → AllPairs Differ tags → AllPairs Differ (tags_after c tags e)
after_one c tags (Effect.Offer h []) apart = apart
after_one c tags (Effect.Offer h (x ∷ xs)) apart = opened tags x.tag (region_spec c (region_at c h x.start)).shareable (has_tag tags x.tag) refl apart
after_one c tags (Effect.Answer h xs) apart = apart
after_one c tags (Effect.Take h run) apart = apart
after_one c tags (Effect.Leave h run) apart = apart
after_one c tags (Effect.Ref t on) apart = apart
after_one c tags (Effect.TagEnd t) apart = AllPairs-filter Differ (λ u. not (same_tag u t)) tags apart
after_one c tags (Effect.Block r size) apart = apart
after_one c tags (Effect.Zero run) apart = apart
after_one c tags (Effect.Soil run) apart = apart
after_one c tags (Effect.Hold h kind xs) apart = apart
after_one c tags (Effect.Unhold h kind) apart = apart
after_one c tags (Effect.Logged l e) apart = apart
after_one c tags (Effect.Missed l) apart = apart
after_one c tags (Effect.Cleared l n) apart = apart
after_one c tags (Effect.Reset l) apart = apart

after_all : (c : Configuration) (new : List Effect) (tags : List Tag) → AllPairs Differ tags → AllPairs Differ (fold (tags_after c) tags new)
after_all c [] tags apart = apart
after_all c (e ∷ new) tags apart = after_all c new (tags_after c tags e) (after_one c tags e apart)

pub open_once : (c : Configuration) (past : List Effect) → AllPairs (λ t u. IsFalse (same_tag t u)) (open_tags c past)
open_once c past = after_all c past [] (λ i j d less within. absurd (omega (arith, within)))
