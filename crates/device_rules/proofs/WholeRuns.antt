-- An extent that is made of blocks is one run of granules of one region.
use Rattle.std.proofs.Common.{◌≡◌, ℕ, ◌%◌, ◌<◌, true, List, length, Some, ap, sym, ◌∙◌, arith}
use Rattle.std.specs.List.{AllByRecursion}
use Rattle.cci_codec.specs.dcd_base.specs.{Words.has_granule, declared.capacity.Extent.Extent, declared.ids.HostId.HostId}
use Rattle.extent_list.specs.media_map.{proofs.RunLemmas.granular_from, proofs.RunLemmas.run_found, specs.Places.region_at, specs.Places.run_in, specs.Places.run_of}
use Rattle.extent_list.specs.media_map.specs.region_config.specs.{Configurations.Configuration, Granules.granule_size, Granules.region_of, Soundness.IsSound}
use Rattle.device_rules.proofs.{Holding.in_run, Homes.made_granular, Homes.made_is_run, Homes.made_of_region, Homes.made_region, Homes.made_run, ListSteps.each-change}
use Rattle.device_rules.specs.Standing.{IsMade}

-- The range of the extent has a run, whose granules are of the region of its first one.
pub record IsOneRun (c : Configuration) (h : HostId) (x : Extent) : Type 0 where
  pub found : run_in c h x.start x.length ≡ Some (run_of c h x)
  pub region : (g : ℕ) → has_granule (run_of c h x) g ≡ true → region_of c (run_of c h x).first ≡ region_of c g

module _ (c : Configuration) (sound : IsSound c) (h : HostId) (host : h < c.hosts) where
  pub one_run : (size r : ℕ) (x : Extent) (whole : size % granule_size c r ≡ 0) (m : IsMade c size h r x) → IsOneRun c h x
  one_run size r x whole m =
      let at = made_region c h sound host size r x whole m in
      let is = made_is_run c h sound host size r x whole m in
      let first : has_granule (run_of c h x) (run_of c h x).first ≡ true = in_run (run_of c h x) (run_of c h x).first (omega arith) (omega (arith, is.some)) in
      let of_region = made_of_region c h sound host size r x whole m in
      record {
        found = run_found c h x.start x.length r at (granular_from c h x.start x.length r at (made_granular c h sound host size r x whole m))
            ∙ ap (λ run. Some run) (sym (made_run c h sound host size r x whole m));
        region = λ g has. of_region (run_of c h x).first first ∙ sym (of_region g has);
      }

  -- so of some extents, each made of blocks of its own region
  pub each_one_run : (b : ℕ → ℕ) → ((r : ℕ) → r < length c.regions → b r % granule_size c r ≡ 0) → (xs : List Extent) →
      AllByRecursion (λ x. IsMade c (b (region_at c h x.start)) h (region_at c h x.start) x) xs → AllByRecursion (IsOneRun c h) xs
  each_one_run b whole xs made = each-change (λ x. IsMade c (b (region_at c h x.start)) h (region_at c h x.start) x) (IsOneRun c h)
      (λ x m. one_run (b (region_at c h x.start)) (region_at c h x.start) x (whole (region_at c h x.start) m.known) m) xs made
