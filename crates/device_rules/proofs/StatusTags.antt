-- The status of a granule after tags end.
use Rattle.std.proofs.Common.{◌≡◌, ℕ, ◌≤◌, true, false, ◌&&◌, ◌||◌, not, List, [], ◌∷◌, ◌++◌, Option, refl, sym, subst, ◌∙◌}
use Rattle.std.{specs.Prelude.fold, specs.Prelude.map, specs.Prelude.filter, specs.Prelude.if◌then◌else◌, specs.List.list_any, proofs.lemmas.List.Sums.length-filter}
use Rattle.cci_codec.specs.dcd_base.specs.{declared.ids.HostId.HostId, declared.capacity.Tag.Tag, declared.capacity.Extent.Extent, Words.has_in_runs, Words.has_tag, Words.same_tag}
use Rattle.extent_list.specs.media_map.specs.region_config.specs.{Configurations.Configuration, Granules.region_of, Granules.region_spec}
use Rattle.journal_core.specs.{declared.outcome.Effect.Effect, Holders.is_soiled, Holders.is_taken}
use Rattle.device_rules.proofs.Leaving.{leaves_holders, leaves_offers, leaves_soil, leaves_taking, map_passes}
use Rattle.device_rules.proofs.StatusParts.{status_is, untagged_status, held-left, last_offer-append, offered-left, open_tags-append, soiled-left, taken-left}
use Rattle.device_rules.{proofs.TagSearches.any_gone, proofs.TagSearches.any_kept, proofs.TagSearches.filter_nothing, proofs.TagSearches.filter_twice, specs.GranuleStates.stands_for}
use Rattle.device_rules.specs.Invariants.{tags_on}
use Rattle.device_rules.specs.Tags.{Dirty, Free, is_held, is_offered, is_tagged, last_offer, last_offer_after, open_tags, status, tag_runs, tags_after}

-- these tags end
abbrev pub ends : List Tag → List Effect
ends tags = map Effect.TagEnd tags

over-ends : (c : Configuration) (live : List Tag) (tags : List Tag) → fold (tags_after c) live (ends tags) ≡ filter (λ u. not (has_tag tags u)) live
over-ends c live [] = filter_nothing live
over-ends c live (t ∷ tags) = over-ends c (filter (λ u. not (same_tag u t)) live) tags ∙ filter_twice (λ u. same_tag u t) (has_tag tags) live

last_over-ends : (t : Tag) (last : Option (HostId × List Extent)) (tags : List Tag) → fold (last_offer_after t) last (ends tags) ≡ last
last_over-ends t last [] = refl
last_over-ends t last (u ∷ tags) = last_over-ends t last tags

-- what is open then, and the last offers
pub open_tags-ends : (c : Configuration) (past : List Effect) (tags : List Tag) → open_tags c (past ++ ends tags) ≡ filter (λ u. not (has_tag tags u)) (open_tags c past)
open_tags-ends c past tags = open_tags-append c past (ends tags) ∙ over-ends c (open_tags c past) tags

pub last_offer-ends : (t : Tag) (past : List Effect) (tags : List Tag) → last_offer t (past ++ ends tags) ≡ last_offer t past
last_offer-ends t past tags = last_offer-append t past (ends tags) ∙ last_over-ends t (last_offer t past) tags

module _ (c : Configuration) (g : ℕ) (past : List Effect) (tags : List Tag) where
  tagged-ends : is_tagged c g (past ++ ends tags) ≡ list_any (stands_for c past g) (filter (λ u. not (has_tag tags u)) (open_tags c past))
  tagged-ends = λ i. list_any (λ t. has_in_runs (tag_runs c (last_offer-ends t past tags i)) g) (open_tags-ends c past tags i)

  held-ends : is_held c g (past ++ ends tags) ≡ is_held c g past
  held-ends = held-left c g past (ends tags) (map_passes leaves_holders Effect.TagEnd (λ t. refl) tags)

  offered-ends : is_offered c g (past ++ ends tags) ≡ is_offered c g past
  offered-ends = offered-left c g past (ends tags) (map_passes leaves_offers Effect.TagEnd (λ t. refl) tags)

  taken-ends : is_taken g (past ++ ends tags) ≡ is_taken g past
  taken-ends = taken-left g past (ends tags) (map_passes leaves_taking Effect.TagEnd (λ t. refl) tags)

  soiled-ends : is_soiled g (past ++ ends tags) ≡ is_soiled g past
  soiled-ends = soiled-left g past (ends tags) (map_passes leaves_soil Effect.TagEnd (λ t. refl) tags)

  -- a granule of none of the tags that end
  pub status-not_ended : ((t : Tag) → has_tag tags t ≡ true → stands_for c past g t ≡ false) → status c g (past ++ ends tags) ≡ status c g past
  status-not_ended out =
      status_is c g (past ++ ends tags) (is_held c g past) (is_offered c g past) (is_tagged c g past) (is_taken g past) (is_soiled g past) (record {
        held_is = held-ends;
        offered_is = offered-ends;
        tagged_is = tagged-ends ∙ any_kept (has_tag tags) (stands_for c past g) (open_tags c past) out;
        taken_is = taken-ends;
        soiled_is = soiled-ends;
      })

  -- no open tag has the granule of an open one that ends, where one at most had it
  pub untagged-ends : (t : Tag) → has_tag (open_tags c past) t ≡ true → has_tag tags t ≡ true → stands_for c past g t ≡ true → tags_on c past g ≤ 1 →
      is_tagged c g (past ++ ends tags) ≡ false
  untagged-ends t opened going here few =
      tagged-ends ∙ any_gone (has_tag tags) (stands_for c past g) t (open_tags c past) opened going here
      (subst (λ n. n ≤ 1) (sym (length-filter (stands_for c past g) (open_tags c past))) few)

  -- so it is dirty or free, whoever may have shared it
  pub status-ended : (region_spec c (region_of c g)).shareable ≡ true →
      (t : Tag) → has_tag (open_tags c past) t ≡ true → has_tag tags t ≡ true → stands_for c past g t ≡ true → tags_on c past g ≤ 1 →
      status c g (past ++ ends tags) ≡ (if ((region_spec c (region_of c g)).sanitize && is_taken g past) || is_soiled g past then Dirty else Free)
  status-ended shared t opened going here few =
      status_is c g (past ++ ends tags) (is_held c g past) (is_offered c g past) false (is_taken g past) (is_soiled g past) (record {
        held_is = held-ends;
        offered_is = offered-ends;
        tagged_is = untagged-ends t opened going here few;
        taken_is = taken-ends;
        soiled_is = soiled-ends;
      })
      ∙ untagged_status (region_spec c (region_of c g)) shared (is_held c g past) (is_offered c g past) (is_taken g past) (is_soiled g past)
