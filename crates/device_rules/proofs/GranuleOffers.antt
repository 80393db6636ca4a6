-- What is kept of a granule stays right over an offer.
use Rattle.std.proofs.Common.{◌≡◌, ◌⊎◌, ℕ, Bool, true, false, List, [], ◌∷◌, ◌++◌, inl, inr, refl, sym, ap, subst, ◌∙◌, arith}
use Rattle.std.proofs.lemmas.{Bool.cases_Bool, Bool.false≢true, Bool.false_from_ne_true, Bool.or_left, List.Folds.list_any-append}
use Rattle.std.specs.{List.AllByRecursion, List.list_any, Prelude.flat_map, Prelude.if◌then◌else◌}
use Rattle.cci_codec.specs.dcd_base.specs.{Words.has_granule, Words.has_in_runs, Words.has_tag, Words.same_tag, declared.capacity.Extent.Extent, declared.capacity.Tag.Tag, declared.ids.HostId.HostId}
use Rattle.cci_codec.specs.dcd_base.specs.declared.media.Run.{Run}
use Rattle.extent_list.specs.{ExtentLists.has_extent_of, media_map.specs.Places.region_at, media_map.specs.Places.run_of, media_map.specs.region_config.specs.Configurations.Configuration}
use Rattle.extent_list.specs.media_map.specs.region_config.specs.{Granules.hosts_of, Granules.region_of, Granules.region_spec, Soundness.IsSound}
use Rattle.granule_map.specs.{declared.states.GranuleState.GranuleState, Tables.Cell}
use Rattle.journal_core.specs.{Holders.holds, Holders.is_soiled, Holders.is_taken, declared.outcome.Effect.Effect}
use Rattle.device_rules.proofs.{Adding.IsAdded, CellChanges.cell_offer, CellChanges.offered_as, CellChanges.where_here, GranuleSteps.Keeps, GranuleSteps.unclean_by, Holding.present_whole}
use Rattle.device_rules.proofs.{Homes.made_of_region, Homes.made_region, HostSearches.any_none, ListSteps.any-map, ListSteps.each-at, ListSteps.each-change, ListSteps.many-any}
use Rattle.device_rules.proofs.{OneOffer.IsFresh, OneOffer.IsShared, OneOffer.reaches, RunEffects.in_extents}
use Rattle.device_rules.proofs.{StatusOffers.status-not_offered, StatusOffers.status-offered, StatusOffers.status-offered_shared, StatusParts.soiled-left, StatusParts.taken-left, TagSteps.same_tag-is}
use Rattle.device_rules.{proofs.WholeRuns.IsOneRun, proofs.WholeRuns.one_run, specs.GranuleCells.IsCell, specs.GranuleCells.is_unclean, specs.GranuleCells.status_of, specs.GranuleStates.stands_for}
use Rattle.device_rules.specs.{Pictures.Picture, Pictures.extents_at, Pictures.picture_of, Standing.IsMade, Standing.Stands, Tags.is_held, Tags.open_tags, Tags.status}

-- the tag of a list of extents of one tag
one_of_tag : (t u : Tag) (xs : List Extent) → AllByRecursion (λ x. x.tag ≡ t) xs → has_extent_of u xs ≡ true → t ≡ u
one_of_tag t u xs marked has =
    let found = each-at (λ (x : Extent). x.tag ≡ t) (λ x. same_tag x.tag u) xs marked has in
    sym found.2 ∙ same_tag-is found.0.tag u found.1

module _ (c : Configuration) (sound : IsSound c) (past : List Effect) (s : Stands c (picture_of c past)) (oldest : HostId → List Extent) (runs : Tag → List Run) (g : ℕ)
    (h : HostId) (r : ℕ) (t : Tag) (x : Extent) (rest : List Extent) (a : IsAdded c (picture_of c past) h r t (x ∷ rest)) where
  abbrev p : Picture
  p = picture_of c past

  each_whole : AllByRecursion (IsOneRun c h) (x ∷ rest)
  each_whole = each-change (IsMade c (p.block r) h r) (IsOneRun c h) (λ y m. one_run c sound h a.offer.host (p.block r) r y (present_whole c sound p s r m.known) m) (x ∷ rest) a.offer.made

  unclean-offer : is_unclean c g (past ++ Effect.Offer h (x ∷ rest) ∷ []) ≡ is_unclean c g past
  unclean-offer = unclean_by c g (past ++ Effect.Offer h (x ∷ rest) ∷ []) (is_taken g past) (is_soiled g past) (taken-left g past (Effect.Offer h (x ∷ rest) ∷ []) refl) (soiled-left g past (Effect.Offer h (x ∷ rest) ∷ []) refl)

  -- a tag that is offered again stands for what is offered
  again : in_extents c h (x ∷ rest) g ≡ false → (u : Tag) → has_tag (open_tags c past) u ≡ true → has_extent_of u (x ∷ rest) ≡ true → stands_for c past g u ≡ false
  again out u was has =
      let is : t ≡ u = one_of_tag t u (x ∷ rest) a.offer.marked has in
      by is a.way
    where
      by : t ≡ u → IsFresh c (picture_of c past) h r t (x ∷ rest) ⊎ IsShared c (picture_of c past) h r t (x ∷ rest) → stands_for c past g u ≡ false
      by is (inl fresh) = absurd (false≢true (sym fresh.closed ∙ ap (has_tag (open_tags c past)) is ∙ was))
      by is (inr shared) = ap (stands_for c past g) (sym is) ∙ ap (λ rs. has_in_runs rs g) shared.same_runs ∙ out

  module _ (here : in_extents c h (x ∷ rest) g ≡ true) where
    reached : reaches c h (x ∷ rest) g ≡ true
    reached = sym (any-map (λ run. has_granule run g) (run_of c h) (x ∷ rest)) ∙ here

    -- its region is that of the offer
    of_region : region_of c g ≡ r
    of_region =
        let found = each-at (IsMade c (p.block r) h r) (λ y. has_granule (run_of c h y) g) (x ∷ rest) a.offer.made reached in
        made_of_region c h sound a.offer.host (p.block r) r found.0 (present_whole c sound p s r found.2.known) found.2 g found.1

    first_region : region_at c h x.start ≡ r
    first_region = made_region c h sound a.offer.host (p.block r) r x (present_whole c sound p s r a.offer.made.0.known) a.offer.made.0

    -- nobody holds what is offered to one host alone
    not_held : (region_spec c (region_of c g)).shareable ≡ false → is_held c g past ≡ false
    not_held private = any_none (λ k. holds k g past) (hosts_of c) (λ k. false_from_ne_true (holds k g past) (λ held.
        let test : Extent → Bool = λ y. has_granule (run_of c k y) g in
        let accepted : list_any test (p.accepted k) ≡ true = sym (any-map (λ run. has_granule run g) (run_of c k) (p.accepted k)) ∙ sym (s.held k g) ∙ held in
        let among : list_any test (extents_at p k) ≡ true = list_any-append test (p.accepted k) (flat_map (λ ys. ys) (p.offers k)) ∙ or_left (list_any test (p.accepted k)) (list_any test (flat_map (λ ys. ys) (p.offers k))) accepted in
        absurd (omega (arith, many-any test (extents_at p k) among, a.offer.all (sym (ap (λ m. (region_spec c m).shareable) of_region) ∙ private) g reached k))))

    offered_status : status_of (if (region_spec c (region_of c g)).shareable then GranuleState.Tagged t else GranuleState.Reserved h) ≡ status c g (past ++ Effect.Offer h (x ∷ rest) ∷ [])
    offered_status = elim (cases_Bool (region_spec c (region_of c g)).shareable) [
      | inl shared ↦ ap (λ b. status_of (if b then GranuleState.Tagged t else GranuleState.Reserved h)) shared
          ∙ sym (status-offered_shared c g past h x rest shared (ap (λ m. (region_spec c m).shareable) (first_region ∙ sym of_region) ∙ shared) here)
      | inr private ↦ ap (λ b. status_of (if b then GranuleState.Tagged t else GranuleState.Reserved h)) private
          ∙ sym (status-offered c g past h x rest a.offer.host private here (not_held private))
    ]

  by_offer : (cell : Cell) → IsCell c past g cell → (some : Bool) → in_extents c h (x ∷ rest) g ≡ some →
      IsCell c (past ++ Effect.Offer h (x ∷ rest) ∷ []) g (where_here some (offered_as h t (region_spec c (region_of c g))) cell)
  by_offer cell is true here = record { status_is = offered_status here; unclean_is = is.unclean_is ∙ sym unclean-offer }
  by_offer cell is false out = record {
    status_is = is.status_is ∙ sym (status-not_offered c g past h x rest a.offer.host out (again out));
    unclean_is = is.unclean_is ∙ sym unclean-offer;
  }

  -- what is offered is so to one host, or has an open tag
  pub keeps_offer : Keeps c oldest runs g past (Effect.Offer h (x ∷ rest) ∷ [])
  keeps_offer cell is = subst (λ y. IsCell c (past ++ Effect.Offer h (x ∷ rest) ∷ []) g y) (sym (cell_offer c oldest runs g h t (x ∷ rest) each_whole a.offer.marked cell))
      (by_offer cell is (in_extents c h (x ∷ rest) g) refl)
