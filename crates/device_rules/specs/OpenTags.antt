-- Which tags are open.
use Rattle.std.specs.Prelude.{◌≡◌, AllPairs, IsFalse, List}
use Rattle.cci_codec.specs.dcd_base.specs.{Words.has_tag, Words.same_tag, declared.capacity.Tag.Tag}
use Rattle.journal_core.specs.declared.outcome.Effect.{Effect}
use Rattle.extent_list.specs.media_map.specs.region_config.specs.Configurations.{Configuration}
use Rattle.device_rules.specs.Tags.{is_live_shareable, open_tags}

-- A tag is open just where it lives and its last offer lies in a shareable region.
abbrev pub OpenWhereLive : Configuration → List Effect → Type 0
OpenWhereLive c past = (t : Tag) → has_tag (open_tags c past) t ≡ is_live_shareable c t past

-- No tag is open twice.
abbrev pub OpenOnce : Configuration → List Effect → Type 0
OpenOnce c past = AllPairs (λ t u. IsFalse (same_tag t u)) (open_tags c past)
