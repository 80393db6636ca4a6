-- What the manager takes by force is made of granules.
use Rattle.std.proofs.Common.{◌≡◌, ℕ, ◌<◌, Bool, true, false, List, map, None, arith}
use Rattle.std.specs.{Prelude.if◌then◌else◌, List.AllByRecursion}
use Rattle.dcd_base.specs.{Words.◌or◌, Words.same_tag, declared.capacity.Extent.Extent, declared.capacity.Tag.Tag, declared.ids.HostId.HostId}
use Rattle.extent_list.specs.{ExtentLists.count_in, ExtentLists.marked, Listing.incomplete, Listing.too_many_extents, dcd_codes.specs.Rules.each_in, media_map.specs.Places.region_at}
use Rattle.extent_list.specs.media_map.specs.region_config.{proofs.Faultless.region_ends, specs.Configurations.Configuration, specs.Granules.with_blocks, specs.Soundness.IsSound}
use Rattle.release_core.specs.{Leaving.count_after, Removals.by_tag_rule, Removals.prescribed_removal_rule, Removals.extents_of_tag}
use Rattle.device_rules.proofs.{Going.IsGoing, Going.some_going, Holding.present_whole, Homes.made_bytes, Homes.made_starts, LeftStanding.going_of, LeftStanding.going_rule}
use Rattle.device_rules.{proofs.ListSteps.each-change, proofs.ListSteps.each-map, proofs.OneLeave.loose, specs.Pictures.Picture, specs.Standing.IsMade, specs.Standing.Stands}
use Rattle.selection.proofs.Prescribed.{neither}
use Rattle.isolation_laws.proofs.RemovalViews.{IsOwnRun}

module _ (c : Configuration) (sound : IsSound c) (p : Picture) (s : Stands c p) (h : HostId) (known : h < c.hosts) where
  own_run : (y : Extent) → IsMade c (p.block (region_at c h y.start)) h (region_at c h y.start) y → IsOwnRun c h y
  own_run y m =
      let r : ℕ = region_at c h y.start in record {
        starts = made_starts c h sound known (p.block r) r y (present_whole c sound p s r m.known) m;
        bytes = made_bytes c h sound known (p.block r) r y (present_whole c sound p s r m.known) m;
        ends = let below = region_ends c h r sound known m.known in omega (arith, below, m.within);
      }

  going_runs : (ys : List Extent) → IsGoing c p h ys → AllByRecursion (IsOwnRun c h) ys
  going_runs ys going = each-change (λ y. IsMade c (p.block (region_at c h y.start)) h (region_at c h y.start) y) (IsOwnRun c h) own_run ys going.made

  -- by tag, or listed
  pub removed_runs : (by_tag : Bool) (r : ℕ) (tag : Tag) (list : List Extent)
      → (if by_tag then by_tag_rule (p.accepted h) tag else prescribed_removal_rule (with_blocks c p.block) h (p.accepted h) (count_in (p.offers h)) r list true) ≡ None
      → AllByRecursion (IsOwnRun c h) (if by_tag then extents_of_tag tag (p.accepted h) else map (marked (p.accepted h)) list)
  removed_runs true r tag list row = going_runs (extents_of_tag tag (p.accepted h)) (some_going c sound p (loose c p s) h known (λ x. same_tag x.tag tag))
  removed_runs false r tag list row =
      let w : Configuration = with_blocks c p.block in
      let front = neither _ (too_many_extents (count_after (p.accepted h) (count_in (p.offers h)) list)) row in
      let rules = neither _ (each_in list (going_rule w h (p.accepted h) (λ x. r)) or incomplete w h (p.accepted h) list) front.0 in
      each-map (IsOwnRun c h) (IsOwnRun c h) (marked (p.accepted h)) (λ y own. record { starts = own.starts; bytes = own.bytes; ends = own.ends }) list (going_runs list (going_of c sound p s h known (λ x. r) list rules.1))
