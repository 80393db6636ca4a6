-- A host holds a place exactly where one of its accepted extents has the address.
use Rattle.std.proofs.Common.{◌≡◌, ℕ, suc, ◌+◌, ◌-◌, ◌*◌, ◌/◌, ◌%◌, ◌<◌, ◌≤◌, Bool, true, false, ◌&&◌, ◌||◌, length, List, [], ◌∷◌, Option, Some, None, Result, Ok, Err, inl, inr, refl, sym, ap, subst, ◌∙◌, arith, leb, ltb, div-add-mod'}
use Rattle.std.proofs.{Math.Nat.mul-le-mul_right, lemmas.Bool.and_parts, lemmas.Bool.cases_lt, lemmas.Bool.eqb-true, lemmas.Bool.le-leb, lemmas.Bool.leb-true, lemmas.Bool.lt-ltb, lemmas.Bool.ltb-true}
use Rattle.std.{proofs.lemmas.Nat.mod_below, specs.Cmp.both_ways, specs.List.AllByRecursion, specs.List.find, specs.List.list_any}
use Rattle.std.specs.Prelude.{flat_map, ◌==◌, if◌then◌else◌}
use Rattle.dcd_base.specs.{Words.has_granule, declared.capacity.Extent.Extent, declared.failures.AccessFault.AccessFault, declared.ids.HostId.HostId, declared.media.Place.Place}
use Rattle.journal_core.specs.{Holders.holds, declared.outcome.Effect.Effect}
use Rattle.extent_list.specs.media_map.proofs.{PlaceLemmas.find_holds, PlaceLemmas.has, PlaceLemmas.is_place, PlaceLemmas.is_word, RunLemmas.region_at_is}
use Rattle.extent_list.specs.media_map.specs.Places.{IsPlace, has_address, locate, place_in, placed, region_at, run_of}
use Rattle.extent_list.specs.media_map.specs.region_config.{proofs.Faultless.granule_from, proofs.GranuleLemmas.region_is, specs.Configurations.Configuration}
use Rattle.extent_list.specs.media_map.specs.region_config.specs.{Granules.base_of, Granules.first_granule, Granules.granule_size, Granules.region_of, Granules.regions_of, Soundness.IsSound}
use Rattle.device_rules.proofs.{Holding.home_made, Holding.present_whole, Homes.made_begins, Homes.made_long, Homes.made_of_region, Homes.made_run}
use Rattle.device_rules.{proofs.ListSteps.any-map, proofs.ListSteps.each-change, proofs.ListSteps.each-front, specs.Hosts.accepted_of, specs.Pictures.Picture, specs.Pictures.picture_of}
use Rattle.device_rules.specs.Standing.{IsHome, IsMade, Stands}
use Rattle.isolation_laws.specs.Solo.{has_byte}

-- what is located is the place
same_ok : (x y : Place) → ◌≡◌ {A = Result Place AccessFault} (Ok x) (Ok y) → x ≡ y
same_ok x y e = (cc)

pub place_of : (c : Configuration) (h : HostId) (d : ℕ) (p : Place) → locate c h d ≡ Ok p → IsPlace c h d p
place_of c h d p at = by (d % 8 == 0) (find (has_address c h d) (regions_of c)) refl refl at
  where
    by : (aligned : Bool) (found : Option ℕ) → (d % 8 == 0) ≡ aligned → find (has_address c h d) (regions_of c) ≡ found →
        (if aligned then placed c h d found else Err AccessFault.Misaligned) ≡ Ok p → IsPlace c h d p
    by false found odd is at = absurd (cc)
    by true None even is at = absurd (cc)
    by true (Some r) even is at =
        let f = find_holds (has_address c h d) 0 (length c.regions) r is in
        subst (IsPlace c h d) (same_ok (place_in c h d r) p at) (is_place c h d r (eqb-true (d % 8) 0 even) (omega (arith, f.below)) f.passes)

module _ (c : Configuration) (sound : IsSound c) (h : HostId) (host : h < c.hosts) (d : ℕ) (p : Place) (place : IsPlace c h d p) where
  pub region_of_place : region_of c p.granule ≡ p.region
  region_of_place = let w = is_word c h sound host d p place in region_is c p.granule p.region w.known w.from w.to

  -- an extent of the place's region
  in_region : (size : ℕ) (x : Extent) → size % granule_size c p.region ≡ 0 → IsMade c size h p.region x → has_byte d x ≡ has_granule (run_of c h x) p.granule
  in_region size x whole m =
      let r : ℕ = p.region in
      let g : ℕ = granule_size c r in
      let first : ℕ = first_granule c r in
      let offset : ℕ = d - base_of c h r in
      let q : ℕ = offset / g in
      let a : ℕ = (x.start - base_of c h r) / g in
      let n : ℕ = x.length / g in
      let some : 0 < g = omega (arith, granule_from c r (sound.each r place.known)) in
      let sum = div-add-mod' offset g in
      let rest : offset % g < g = mod_below offset g some in
      let begins : a * g ≡ x.start - base_of c h r = made_begins c h sound host size r x whole m in
      let long : n * g ≡ x.length = made_long c h sound host size r x whole m in
      let low : leb x.start d ≡ leb (first + a) p.granule = both_ways (leb x.start d) (leb (first + a) p.granule)
      (λ e. le-leb (first + a) p.granule (elim (cases_lt q a) [
        | inl less ↦ (let past : suc q ≤ a = omega (arith, less) in absurd (omega (arith, mul-le-mul_right g past, begins, sum, rest, place.from, m.from, leb-true x.start d e)))
        | inr more ↦ omega (arith, more, place.granule)
      ]))
      (λ e. (let more : a ≤ q = omega (arith, leb-true (first + a) p.granule e, place.granule) in
      le-leb x.start d (omega (arith, mul-le-mul_right g more, begins, sum, place.from, m.from)))) in
      let high : ltb d (x.start + x.length) ≡ ltb p.granule (first + a + n) = both_ways (ltb d (x.start + x.length)) (ltb p.granule (first + a + n))
      (λ e. lt-ltb p.granule (first + a + n) (elim (cases_lt q (a + n)) [
        | inl less ↦ omega (arith, less, place.granule)
        | inr more ↦ absurd (omega (arith, mul-le-mul_right g more, begins, long, sum, place.from, m.from, ltb-true d (x.start + x.length) e))
      ]))
      (λ e. (let less : suc q ≤ a + n = omega (arith, ltb-true p.granule (first + a + n) e, place.granule) in
      lt-ltb d (x.start + x.length) (omega (arith, mul-le-mul_right g less, begins, long, sum, rest, place.from, m.from)))) in
      (λ i. low i && high i) ∙ sym (ap (λ run. has_granule run p.granule) (made_run c h sound host size r x whole m))

  -- and of any
  in_extent : (size r : ℕ) (x : Extent) → size % granule_size c r ≡ 0 → IsMade c size h r x → has_byte d x ≡ has_granule (run_of c h x) p.granule
  in_extent size r x whole m =
      let of_place : r ≡ p.region → has_byte d x ≡ has_granule (run_of c h x) p.granule =
      λ same. in_region size x (subst (λ k. size % granule_size c k ≡ 0) same whole) (subst (λ k. IsMade c size h k x) same m) in
      both_ways (has_byte d x) (has_granule (run_of c h x) p.granule)
      (λ e. (let parts = and_parts (leb x.start d) (ltb d (x.start + x.length)) e in
      let from = leb-true x.start d parts.0 in
      let below = ltb-true d (x.start + x.length) parts.1 in
      let here : has_address c h d r ≡ true = has c h d r (omega (arith, m.from, from)) (omega (arith, m.within, below)) in
      let same : r ≡ p.region = sym (region_at_is c h sound host d r m.known here) ∙ region_at_is c h sound host d p.region place.known (has c h d p.region place.from place.below) in
      sym (of_place same) ∙ e))
      (λ e. of_place (sym (made_of_region c h sound host size r x whole m p.granule e) ∙ region_of_place) ∙ e)

  any_same : (f g : Extent → Bool) (xs : List Extent) → AllByRecursion (λ x. f x ≡ g x) xs → list_any f xs ≡ list_any g xs
  any_same f g [] each = refl
  any_same f g (x ∷ xs) each = λ i. each.0 i || any_same f g xs each.1 i

  -- and of one that a host has
  pub home_has : (past : List Effect) → Stands c (picture_of c past) → (x : Extent) → IsHome c (picture_of c past) h x → has_byte d x ≡ has_granule (run_of c h x) p.granule
  home_has past s x a =
      let now : Picture = picture_of c past in
      let r : ℕ = region_at c h x.start in
      let m = home_made c sound now s h x host a in
      in_extent (now.block r) r x (present_whole c sound now s r m.known) m

  pub held_has : (past : List Effect) → Stands c (picture_of c past) → holds h p.granule past ≡ list_any (has_byte d) (accepted_of c h past)
  held_has past s =
      let now : Picture = picture_of c past in
      s.held h p.granule
      ∙ any-map (λ run. has_granule run p.granule) (run_of c h) (accepted_of c h past)
      ∙ sym (any_same (has_byte d) (λ x. has_granule (run_of c h x) p.granule) (accepted_of c h past)
      (each-change (IsHome c now h) (λ x. has_byte d x ≡ has_granule (run_of c h x) p.granule) (home_has past s)
      (accepted_of c h past) (each-front (IsHome c now h) (accepted_of c h past) (flat_map (λ xs. xs) (now.offers h)) (s.home h))))
