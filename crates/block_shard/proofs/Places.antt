-- The place of an address lies in the device, and so in the memory of a shard.
use Rattle.std.proofs.Common.{◌≡◌, ℕ, suc, ◌+◌, ◌/◌, ◌%◌, ◌<◌, Bool, true, false, ◌==◌, Option, Some, None, length, refl, sym, subst, arith}
use Rattle.std.{proofs.lemmas.Nat.div-add-mod', proofs.lemmas.Nat.mod_below, specs.List.find, specs.Prelude.IfOk, specs.Prelude.if◌then◌else◌, specs.declared.result.Result.Result}
use Rattle.std.specs.declared.result.Result.TheVariants.{Ok, Err}
use Rattle.dcd_base.specs.declared.{failures.AccessFault.AccessFault, ids.HostId.HostId, media.Place.Place}
use Rattle.media_map.{specs.Places.has_address, specs.Places.locate, specs.Places.placed, proofs.PlaceLemmas.find_holds, proofs.PlaceLemmas.granule_below}
use Rattle.region_config.{specs.Configurations.Configuration, specs.Granules.granule_total, specs.Granules.regions_of, specs.Soundness.IsSound, proofs.Faultless.granules_rise}

pub located_inside : (c : Configuration) (h : HostId) (d : ℕ) → IsSound c → h < c.hosts → IfOk (locate c h d) (λ (p : Place). p.granule < granule_total c)
located_inside c h d sound host = by (d % 8 == 0) (find (has_address c h d) (regions_of c)) refl
  where
    by : (aligned : Bool) (found : Option ℕ) → find (has_address c h d) (regions_of c) ≡ found →
        IfOk (if aligned then placed c h d found else Err AccessFault.Misaligned) (λ (p : Place). p.granule < granule_total c)
    by false found is = tt
    by true None is = tt
    by true (Some r) is =
        let f = find_holds (has_address c h d) 0 (length c.regions) r is in
        let known : r < length c.regions = omega (arith, f.below) in
        let less = granule_below c h sound host d r known f.passes in
        let rise = granules_rise c (suc r) (length c.regions) known in omega (arith, less, rise)

-- so its granule has a number in its shard
pub place_inside : (c : Configuration) (h : HostId) (d size : ℕ) (at : Result Place AccessFault) → IsSound c → h < c.hosts → at ≡ locate c h d → size ≡ granule_total c / 16 + 1 →
    IfOk at (λ (p : Place). p.granule / 16 < size)
place_inside c h d size at sound host is room = by at (subst (λ r. IfOk r (λ (p : Place). p.granule < granule_total c)) (sym is) (located_inside c h d sound host))
  where
    by : (r : Result Place AccessFault) → IfOk r (λ (p : Place). p.granule < granule_total c) → IfOk r (λ (p : Place). p.granule / 16 < size)
    by (Err fault) inside = tt
    by (Ok p) inside =
        let d1 = div-add-mod' p.granule 16 in
        let d2 = div-add-mod' (granule_total c) 16 in
        let m2 = mod_below (granule_total c) 16 (omega arith) in omega (arith, d1, d2, m2, inside, room)
