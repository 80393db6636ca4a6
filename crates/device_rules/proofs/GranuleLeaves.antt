-- What is kept of a granule stays right when a host gives extents back or loses them by force.
use Rattle.std.proofs.Common.{◌≡◌, ℕ, ◌<◌, Bool, true, false, ◌&&◌, ◌||◌, List, ◌++◌, inl, inr, refl, sym, ap, subst, ◌∙◌}
use Rattle.std.{specs.Prelude.if◌then◌else◌, specs.List.AllByRecursion, specs.List.list_all, specs.List.list_any, proofs.lemmas.Bool.cases_Bool, proofs.lemmas.Bool.false≢true}
use Rattle.cci_codec.specs.dcd_base.specs.{Words.has_granule, declared.capacity.Extent.Extent, declared.capacity.Tag.Tag, declared.ids.HostId.HostId, declared.media.Run.Run}
use Rattle.granule_map.specs.{declared.states.GranuleState.GranuleState, Tables.Cell, Tables.settled, Tables.soiled}
use Rattle.journal_core.specs.{Entries.effects, Holders.holds, Holders.is_soiled, Holders.is_taken, declared.entries.Entry.Entry, declared.outcome.Effect.Effect}
use Rattle.extent_list.{proofs.EachTag.or_assoc, proofs.EachTag.or_false, specs.media_map.specs.Places.run_of, specs.media_map.specs.region_config.specs.Configurations.Configuration}
use Rattle.extent_list.specs.media_map.specs.region_config.specs.{Granules.region_of, Granules.region_spec, Soundness.IsSound, declared.region_spec.RegionSpec.RegionSpec}
use Rattle.device_rules.proofs.{CellChanges.cell_quiet, CellChanges.cell_removals, CellChanges.removed_as, CellChanges.where_here, FreeGranules.shared_claim, GranuleEnds.private_untagged}
use Rattle.device_rules.proofs.{GranuleSteps.Keeps, GranuleSteps.settled_status, GranuleSteps.unclean_by, HostSearches.or_true, Leaving.after_front, Leaving.is_quiet, RunEffects.in_extents}
use Rattle.device_rules.proofs.StatusKept.{status-removed_kept}
use Rattle.device_rules.proofs.StatusLeaves.{removing, soiled-remove, status-not_removed, status-remove_shared, taken-remove}
use Rattle.device_rules.proofs.{StatusParts.tagged_still, TagSearches.any_of_tag, WholeRuns.IsOneRun}
use Rattle.device_rules.specs.{GranuleCells.IsCell, GranuleCells.cell_after, GranuleCells.is_unclean, GranuleCells.status_of, GranuleStates.stands_for, Invariants.Holdings}
use Rattle.device_rules.specs.{Pictures.extents_at, Pictures.picture_of, ReleaseOutcomes.removals, Standing.Stands, Tags.is_tagged, Tags.open_tags, Tags.status}

-- a granule of a shareable region that an extent of a host has is of an open tag
pub claimed_tagged : (c : Configuration) → IsSound c → (past : List Effect) → Stands c (picture_of c past) → (k : HostId) (g : ℕ) → k < c.hosts →
    (region_spec c (region_of c g)).shareable ≡ true → list_any (λ x. has_granule (run_of c k x) g) (extents_at (picture_of c past) k) ≡ true → is_tagged c g past ≡ true
claimed_tagged c sound past s k g host shared has =
    let claim = shared_claim c sound (picture_of c past) s k g host shared has in
    any_of_tag (stands_for c past g) claim.0 (open_tags c past) claim.1 claim.2

-- ---- what a removal makes of it

removed_unclean : (clean : Bool) (spec : RegionSpec) (cell : Cell) → (removed_as clean spec cell).unclean ≡ (cell.unclean || (clean && true))
removed_unclean clean spec cell = by clean spec.shareable
  where
    by : (clean shared : Bool) → (if clean then (if shared then soiled cell else settled (soiled cell)) else (if shared then cell else settled cell)).unclean ≡ (cell.unclean || (clean && true))
    by true true = sym (or_true cell.unclean)
    by true false = sym (or_true cell.unclean)
    by false true = sym (or_false cell.unclean)
    by false false = sym (or_false cell.unclean)

-- where hosts can share it the state stays, and else it is settled
removed_shared : (clean : Bool) (spec : RegionSpec) (cell : Cell) → spec.shareable ≡ true → (removed_as clean spec cell).state ≡ cell.state
removed_shared clean spec cell is = by clean spec.shareable is
  where
    by : (clean shared : Bool) → shared ≡ true → (if clean then (if shared then soiled cell else settled (soiled cell)) else (if shared then cell else settled cell)).state ≡ cell.state
    by true true is = refl
    by false true is = refl
    by clean false is = absurd (false≢true is)

removed_private : (clean : Bool) (spec : RegionSpec) (cell : Cell) → spec.shareable ≡ false →
    (removed_as clean spec cell).state ≡ (if (removed_as clean spec cell).unclean then GranuleState.Dirty else GranuleState.Free)
removed_private clean spec cell is = by clean spec.shareable is
  where
    by : (clean shared : Bool) → shared ≡ false →
        (if clean then (if shared then soiled cell else settled (soiled cell)) else (if shared then cell else settled cell)).state
        ≡ (if (if clean then (if shared then soiled cell else settled (soiled cell)) else (if shared then cell else settled cell)).unclean then GranuleState.Dirty else GranuleState.Free)
    by true false is = refl
    by false false is = refl
    by clean true is = absurd (false≢true (sym is))

clean_nothing : (taken soiled clean : Bool) → ((taken || soiled) || (clean && false)) ≡ (taken || soiled)
clean_nothing taken soiled true = or_false (taken || soiled)
clean_nothing taken soiled false = or_false (taken || soiled)

module _ (c : Configuration) (sound : IsSound c) (before : List Entry) (s : Stands c (picture_of c (effects before))) (kept : Holdings c before)
    (oldest : HostId → List Extent) (runs : Tag → List Run) (g : ℕ) (front : List Effect) (quiet : list_all is_quiet front ≡ true)
    (k : HostId) (clean : Bool) (xs : List Extent) (one : AllByRecursion (IsOneRun c k) xs)
    (held : in_extents c k xs g ≡ true → holds k g (effects before) ≡ true)
    (claimed : in_extents c k xs g ≡ true → (region_spec c (region_of c g)).shareable ≡ true → is_tagged c g (effects before) ≡ true) where
  unclean-remove : is_unclean c g (effects before ++ removing c front k clean xs) ≡ (is_unclean c g (effects before) || (clean && in_extents c k xs g))
  unclean-remove =
      let past : List Effect = effects before in
      unclean_by c g (past ++ removing c front k clean xs) (is_taken g past) (is_soiled g past || (clean && in_extents c k xs g)) (taken-remove c g past front quiet k clean xs) (soiled-remove c g past front quiet k clean xs)
      ∙ or_assoc ((region_spec c (region_of c g)).sanitize && is_taken g past) (is_soiled g past) (clean && in_extents c k xs g)

  module _ (cell : Cell) (is : IsCell c (effects before) g cell) where
    not_of_them : in_extents c k xs g ≡ false → IsCell c (effects before ++ removing c front k clean xs) g cell
    not_of_them out = record {
      status_is = is.status_is ∙ sym (status-not_removed c g (effects before) front quiet k clean xs out);
      unclean_is = is.unclean_is ∙ sym (unclean-remove ∙ ap (λ b. is_unclean c g (effects before) || (clean && b)) out
          ∙ clean_nothing ((region_spec c (region_of c g)).sanitize && is_taken g (effects before)) (is_soiled g (effects before)) clean);
    }

    module _ (here : in_extents c k xs g ≡ true) where
      is_unclean_then : (removed_as clean (region_spec c (region_of c g)) cell).unclean ≡ (is_unclean c g (effects before) || (clean && true))
      is_unclean_then = removed_unclean clean (region_spec c (region_of c g)) cell ∙ ap (λ b. b || (clean && true)) is.unclean_is

      of_shared : (region_spec c (region_of c g)).shareable ≡ true →
          status_of (removed_as clean (region_spec c (region_of c g)) cell).state ≡ status c g (effects before ++ removing c front k clean xs)
      of_shared shared =
          let tagged : is_tagged c g (effects before) ≡ true = claimed here shared in
          ap status_of (removed_shared clean (region_spec c (region_of c g)) cell shared)
          ∙ is.status_is ∙ tagged_still c g (effects before) shared tagged ∙ sym (status-remove_shared c g (effects before) front quiet k clean xs shared tagged)

      of_private : (region_spec c (region_of c g)).shareable ≡ false →
          status_of (removed_as clean (region_spec c (region_of c g)) cell).state ≡ status c g (effects before ++ removing c front k clean xs)
      of_private private =
          let past : List Effect = effects before in
          ap status_of (removed_private clean (region_spec c (region_of c g)) cell private)
          ∙ settled_status (removed_as clean (region_spec c (region_of c g)) cell).unclean (((region_spec c (region_of c g)).sanitize && is_taken g past) || (is_soiled g past || (clean && true)))
          (is_unclean_then ∙ sym (or_assoc ((region_spec c (region_of c g)).sanitize && is_taken g past) (is_soiled g past) (clean && true)))
          ∙ sym (status-removed_kept c before kept g private k (held here) front quiet clean xs here (private_untagged c sound past s g private))

      of_them : IsCell c (effects before ++ removing c front k clean xs) g (removed_as clean (region_spec c (region_of c g)) cell)
      of_them = record {
        status_is = elim (cases_Bool (region_spec c (region_of c g)).shareable) [ inl shared ↦ of_shared shared | inr private ↦ of_private private ];
        unclean_is = is_unclean_then ∙ sym (unclean-remove ∙ ap (λ b. is_unclean c g (effects before) || (clean && b)) here);
      }

    by : (some : Bool) → in_extents c k xs g ≡ some → IsCell c (effects before ++ removing c front k clean xs) g (where_here some (removed_as clean (region_spec c (region_of c g))) cell)
    by true here = of_them here
    by false out = not_of_them out

  -- what leaves is tagged still where hosts can share it, and else it is dirty or free
  pub keeps_removal : Keeps c oldest runs g (effects before) (removing c front k clean xs)
  keeps_removal cell is = subst (λ x. IsCell c (effects before ++ removing c front k clean xs) g x)
      (sym (after_front (cell_after c oldest runs g) cell front (removals c k clean xs) (cell_quiet c oldest runs g cell front quiet) ∙ cell_removals c oldest runs g k clean xs one cell))
      (by cell is (in_extents c k xs g) refl)
