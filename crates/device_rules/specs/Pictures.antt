-- What the effects so far leave of the lists, the holders, the blocks and the tags.
use Rattle.std.specs.Prelude.{ℕ, Bool, ◌&&◌, ◌||◌, not, List, ◌++◌, fold, flat_map, length, Option}
use Rattle.std.specs.List.{filter, list_any}
use Rattle.cci_codec.specs.dcd_base.specs.{declared.capacity.Extent.Extent, declared.capacity.Tag.Tag, declared.ids.HostId.HostId, Words.has_granule, Words.is_zero_tag}
use Rattle.extent_list.specs.{ExtentLists.has_extent_of, media_map.specs.Places.run_of, media_map.specs.region_config.specs.Configurations.Configuration}
use Rattle.extent_list.specs.media_map.specs.region_config.specs.Granules.{hosts_of}
use Rattle.journal_core.specs.{declared.outcome.Effect.Effect, Holders.holding_after, Holders.holds}
use Rattle.device_rules.specs.Hosts.{accepted_after, accepted_of, block_after, block_of, offers_after, offers_of}
use Rattle.device_rules.specs.Tags.{is_referenced, last_offer, last_offer_after, open_tags, reference_after, tags_after}

-- each host's lists, who holds which granule, the block sizes, the open tags, and of each tag its last offer and its reference
pub record Picture : Type 0 where
  pub accepted : HostId → List Extent
  pub offers : HostId → List (List Extent)
  pub holds : HostId → ℕ → Bool
  pub block : ℕ → ℕ
  pub tags : List Tag
  pub last : Tag → Option (HostId × List Extent)
  pub referenced : Tag → Bool

abbrev pub picture_of : Configuration → List Effect → Picture
picture_of c past = record {
  accepted = λ h. accepted_of c h past;
  offers = λ h. offers_of h past;
  holds = λ h g. holds h g past;
  block = λ r. block_of c r past;
  tags = open_tags c past;
  last = λ t. last_offer t past;
  referenced = λ t. is_referenced t past;
}

-- the picture after more effects
abbrev pub picture_after : Configuration → Picture → List Effect → Picture
picture_after c p new = record {
  accepted = λ h. fold (accepted_after c h) (p.accepted h) new;
  offers = λ h. fold (offers_after h) (p.offers h) new;
  holds = λ h g. fold (holding_after h g) (p.holds h g) new;
  block = λ r. fold (block_after r) (p.block r) new;
  tags = fold (tags_after c) p.tags new;
  last = λ t. fold (last_offer_after t) (p.last t) new;
  referenced = λ t. fold (reference_after t) (p.referenced t) new;
}

-- the extents of the host, accepted or offered
abbrev pub extents_at : Picture → HostId → List Extent
extents_at p h = p.accepted h ++ flat_map (λ xs. xs) (p.offers h)

-- how many of the host's extents have the granule
abbrev pub count_on : Configuration → HostId → ℕ → List Extent → ℕ
count_on c h g xs = length (filter (λ x. has_granule (run_of c h x) g) xs)

-- whether a host has an extent of the tag, or the manager a reference
abbrev pub is_with_a_host : Configuration → Picture → Tag → Bool
is_with_a_host c p t = list_any (λ h. has_extent_of t (p.accepted h) || list_any (has_extent_of t) (p.offers h)) (hosts_of c)

abbrev pub lives : Configuration → Picture → Tag → Bool
lives c p t = not (is_zero_tag t) && (is_with_a_host c p t || p.referenced t)
