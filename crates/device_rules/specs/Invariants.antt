-- What every legal journal keeps: holdings, and the open tags by liveness.
use Rattle.cci_codec.specs.dcd_base.specs.{Limits.extents_supported, Words.same_tag, Words.has_granule, Words.has_tag, Words.has_in_runs, declared.capacity.Extent.Extent, declared.capacity.Tag.Tag}
use Rattle.cci_codec.specs.dcd_base.specs.declared.ids.HostId.{HostId}
use Rattle.device_rules.specs.{Tags.is_live_shareable, Tags.last_offer, Tags.tag_runs, Tags.open_tags, Hosts.accepted_of, Views.View, Views.view_of, Views.extents_in}
use Rattle.std.specs.List.{list_any, list_all, range_with_len}
use Rattle.std.specs.Prelude.{AllPairs, ◌≡◌, ℕ, ◌<◌, ◌≤◌, Bool, false, ◌&&◌, ◌||◌, not, ◌==◌, List, [], ◌∷◌, ◌++◌, length, map, count_by, filter, if◌then◌else◌, IsTrue, IsFalse}
use Rattle.extent_list.specs.{Listing.lies_in_region, Listing.is_aligned, media_map.specs.Places.region_at, media_map.specs.Places.run_of}
use Rattle.extent_list.specs.media_map.specs.region_config.specs.{Configurations.Configuration, Granules.region_spec, Granules.region_of, Granules.with_blocks}
use Rattle.journal_core.specs.{declared.outcome.Effect.Effect, declared.entries.Entry.Entry, Entries.effects, Holders.holds}

-- the extents of the host, accepted or offered, that have the granule
abbrev pub claims_of : Configuration → HostId → List Entry → ℕ → List Extent
claims_of c h journal g = filter (λ x. has_granule (run_of c h x) g) (extents_in (view_of c h journal))

-- the tags whose offers have the granule
abbrev pub tags_on : Configuration → List Effect → ℕ → ℕ
tags_on c past g = count_by (λ t. has_in_runs (tag_runs c (last_offer t past)) g) (open_tags c past)

-- an extent lies in a region and is made of its present blocks
abbrev pub is_placed : Configuration → HostId → View → Extent → Bool
is_placed c h v x = let r = region_at c h x.start in
    lies_in_region c h r x && is_aligned (with_blocks c v.block) h r x && not (x.length == 0)

-- an extent of a shareable region has an open tag, which stands for its granules
abbrev pub is_under_tag : Configuration → List Effect → HostId → Extent → Bool
is_under_tag c past h x =
    not (region_spec c (region_at c h x.start)).shareable
    || (has_tag (open_tags c past) x.tag
    && list_all (has_in_runs (tag_runs c (last_offer x.tag past))) (range_with_len (run_of c h x).first (run_of c h x).count))

-- Holders are the hosts whose accepted extents have the granule, and nothing is promised twice.
pub record Holdings (c : Configuration) (journal : List Entry) : Type 0 where
  pub held : (h : HostId) (g : ℕ) → holds h g (effects journal) ≡ has_in_runs (map (run_of c h) (accepted_of c h (effects journal))) g
  pub once : (h : HostId) (g : ℕ) → IsFalse (region_spec c (region_of c g)).shareable → length (claims_of c h journal g) ≤ 1
  pub one : (h k : HostId) (g : ℕ) → IsFalse (region_spec c (region_of c g)).shareable →
      0 < length (claims_of c h journal g) → 0 < length (claims_of c k journal g) → h ≡ k
  pub apart : (g : ℕ) → tags_on c (effects journal) g ≤ 1
  pub tagged : (h : HostId) → IsTrue (list_all (is_under_tag c (effects journal) h) (extents_in (view_of c h journal)))
  pub few : (h : HostId) → length (extents_in (view_of c h journal)) ≤ extents_supported
  pub placed : (h : HostId) → IsTrue (list_all (is_placed c h (view_of c h journal)) (extents_in (view_of c h journal)))

-- ---- the open tags, by liveness

-- How many effects stood before the one after which the tag lives as a shareable one, without a break since.
abbrev pub live_since : Configuration → Tag → List Effect → ℕ → List Effect → ℕ
live_since c t before since [] = since
live_since c t before since (e ∷ past) =
    live_since c t (before ++ e ∷ []) (if is_live_shareable c t before then since else length before) past

-- whether the effect ends the tag
abbrev pub is_end_of : Tag → Effect → Bool
is_end_of t (Effect.TagEnd u) = same_tag t u
is_end_of t e = false

-- After a legal journal the open tags are the live shareable ones, each once, in the order of the offers
-- after which they became live.
pub record TagsLive (c : Configuration) (journal : List Entry) : Type 0 where
  pub live : (t : Tag) → has_tag (open_tags c (effects journal)) t ≡ is_live_shareable c t (effects journal)
  pub once : AllPairs (λ t u. IsFalse (same_tag t u)) (open_tags c (effects journal))
  pub order : AllPairs (λ t u. live_since c t [] 0 (effects journal) < live_since c u [] 0 (effects journal)) (open_tags c (effects journal))

-- In a legal journal an entry ends exactly the tags that lived as shareable ones before it and do not after it.
abbrev pub EndsWithLife : Configuration → List Entry → Entry → Type 0
EndsWithLife c before e = (t : Tag) → list_any (is_end_of t) e.effects
    ≡ (is_live_shareable c t (effects before) && not (is_live_shareable c t (effects (before ++ e ∷ []))))
