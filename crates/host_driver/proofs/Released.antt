-- What a release that breaks no rule gives back: it lies in the accepted extents and is made of granules.
use Rattle.std.proofs.Common.{◌≡◌, ℕ, ◌+◌, ◌^◌, ◌<◌, true, false, List, [], ◌∷◌, map, None, sym, subst, ◌∙◌, arith}
use Rattle.std.specs.List.{AllByRecursion}
use Rattle.dcd_base.specs.{Words.◌or◌, declared.capacity.Extent.Extent, declared.ids.HostId.HostId}
use Rattle.dcd_codes.specs.Rules.{each_in}
use Rattle.extent_list.specs.{ExtentLists.count_in, ExtentLists.is_in, Listing.incomplete, Listing.too_many_extents, Listing.too_many_listed}
use Rattle.host_payloads.specs.declared.requests.HostRequest.{HostRequest}
use Rattle.media_map.specs.Places.{region_at}
use Rattle.region_config.{proofs.Faultless.region_ends, specs.Configurations.Configuration, specs.Granules.with_blocks, specs.Soundness.IsSound}
use Rattle.release_core.specs.Leaving.{count_after}
use Rattle.device_plain.specs.device_rules.proofs.{Going.IsGoing, Holding.present_whole, Homes.made_bytes, Homes.made_starts, LeftStanding.going_of, LeftStanding.going_rule, ListSteps.each-change}
use Rattle.device_plain.specs.device_rules.specs.{Answers.host_rule, Pictures.Picture, Standing.IsMade, Standing.Stands, Views.View}
use Rattle.device_plain.specs.isolation_laws.proofs.RemovalViews.{IsOwnRun}
use Rattle.selection.proofs.Prescribed.{neither}
use Rattle.host_driver.{specs.Driving.bare, proofs.Answered.CanGive, proofs.Midway.seen_in}

-- what holds of what is listed holds of what was meant
each-listed : (P : Extent → Type 0) (xs : List Extent) → AllByRecursion P (map bare xs) → AllByRecursion (λ x. P (bare x)) xs
each-listed P [] all = tt
each-listed P (x ∷ xs) (first, all) = (first, each-listed P xs all)

module _ (c : Configuration) (sound : IsSound c) (p : Picture) (s : Stands c p) (h : HostId) (known : h < c.hosts) where
  abbrev IsMadeThere : Extent → Type 0
  IsMadeThere y = IsMade c (p.block (region_at c h y.start)) h (region_at c h y.start) y

  own_run : (y : Extent) → IsMade c (p.block (region_at c h y.start)) h (region_at c h y.start) y → IsOwnRun c h y
  own_run y m =
      let r : ℕ = region_at c h y.start in record {
        starts = made_starts c h sound known (p.block r) r y (present_whole c sound p s r m.known) m;
        bytes = made_bytes c h sound known (p.block r) r y (present_whole c sound p s r m.known) m;
        ends = let below = region_ends c h r sound known m.known in omega (arith, below, m.within);
      }

  pub released : (v : View) → v.accepted ≡ p.accepted h → v.block ≡ p.block → v.releases ≡ [] → (xs : List Extent)
      → host_rule c h v (HostRequest.GiveBack false (map bare xs)) ≡ None → CanGive (seen_in v) xs × AllByRecursion (IsOwnRun c h) (map bare xs)
  released v accepted_is block_is none_held xs row = (
    record {
      some = each-listed (λ (y : Extent). 0 < y.length) xs (each-change IsMadeThere (λ (y : Extent). 0 < y.length) (λ y m. m.some) ys going.made);
      ends = each-listed (λ (y : Extent). y.start + y.length < 2 ^ 64) xs (each-change IsMadeThere (λ (y : Extent). y.start + y.length < 2 ^ 64)
          (λ y m. let below = region_ends c h (region_at c h y.start) sound known m.known in omega (arith, below, m.within)) ys going.made);
      inside = subst (λ list. AllByRecursion (λ y. is_in list y ≡ true) xs) (sym accepted_is) (each-listed (λ y. is_in (p.accepted h) y ≡ true) xs going.inside);
    },
    each-change IsMadeThere (IsOwnRun c h) own_run ys going.made,
  )
    where
      ys : List Extent
      ys = map bare xs

      w : Configuration
      w = with_blocks c p.block

      row_now : host_rule c h (record v { accepted = p.accepted h; block = p.block; releases = [] }) (HostRequest.GiveBack false (map bare xs)) ≡ None
      row_now = (λ i. host_rule c h (record v { accepted = sym accepted_is i; block = sym block_is i; releases = sym none_held i }) (HostRequest.GiveBack false (map bare xs))) ∙ row

      rules : ((each_in ys (going_rule w h (p.accepted h) (λ x. region_at w h x.start)) or incomplete w h (p.accepted h) ys) or too_many_extents (count_after (p.accepted h) (count_in v.offers) ys)) ≡ None
      rules = (neither (too_many_listed ys) ((each_in ys (going_rule w h (p.accepted h) (λ x. region_at w h x.start)) or incomplete w h (p.accepted h) ys) or too_many_extents (count_after (p.accepted h) (count_in v.offers) ys)) row_now).1

      going : IsGoing c p h ys
      going = going_of c sound p s h known (λ x. region_at w h x.start) ys
          (neither (each_in ys (going_rule w h (p.accepted h) (λ x. region_at w h x.start)) or incomplete w h (p.accepted h) ys) (too_many_extents (count_after (p.accepted h) (count_in v.offers) ys)) rules).0
