-- What is kept of a granule stays right over a scrub.
use Rattle.std.proofs.Common.{◌≡◌, ℕ, Bool, true, false, ◌&&◌, ◌||◌, not, List, ◌++◌, refl, sym, ap, subst, ◌∙◌, map}
use Rattle.std.specs.{Prelude.◌==◌, Prelude.if◌then◌else◌, List.list_any}
use Rattle.cci_codec.specs.dcd_base.specs.{Words.has_in_runs, declared.capacity.Extent.Extent, declared.capacity.Tag.Tag, declared.ids.HostId.HostId, declared.media.Run.Run}
use Rattle.granule_map.specs.{Choices.joined, Tables.Cell, Tables.zeroed}
use Rattle.journal_core.specs.{Holders.is_soiled, Holders.is_taken, declared.outcome.Effect.Effect}
use Rattle.extent_list.specs.media_map.specs.region_config.specs.{Configurations.Configuration, Granules.region_of, Granules.region_spec, Granules.same_region}
use Rattle.device_rules.proofs.{CellChanges.cell_zeros, CellChanges.where_here, GranuleSteps.Keeps, GranuleSteps.unclean_by, JoinedRuns.joined_has, RunEffects.run_from, RunEffects.zeros}
use Rattle.device_rules.{proofs.StatusZeros.soiled-zeros, proofs.StatusZeros.status-scrub, proofs.StatusZeros.taken-zeros, specs.Answers.scrubbed, specs.Answers.zeroes}
use Rattle.device_rules.specs.{GranuleCells.IsCell, GranuleCells.is_unclean, Tags.Free, Tags.status}

nothing_left : (sanitize taken soiled : Bool) → ((sanitize && (taken && false)) || (soiled && false)) ≡ false
nothing_left true true true = refl
nothing_left true true false = refl
nothing_left true false true = refl
nothing_left true false false = refl
nothing_left false taken true = refl
nothing_left false taken false = refl

all_left : (sanitize taken soiled : Bool) → ((sanitize && (taken && true)) || (soiled && true)) ≡ ((sanitize && taken) || soiled)
all_left true true soiled = refl
all_left true false true = refl
all_left true false false = refl
all_left false taken true = refl
all_left false taken false = refl

module _ (c : Configuration) (oldest : HostId → List Extent) (runs : Tag → List Run) (g : ℕ) (past : List Effect) (n : ℕ) where
  abbrev clean_runs : List (ℕ × ℕ)
  clean_runs = joined (same_region c) (scrubbed c past n)

  -- whether the scrub zeroes it
  abbrev is_among : Bool
  is_among = list_any (λ m. m == g) (scrubbed c past n)

  there : has_in_runs (map run_from (joined (same_region c) (scrubbed c past n))) g ≡ list_any (λ m. m == g) (scrubbed c past n)
  there = joined_has (same_region c) (scrubbed c past n) g

  unclean-scrub : is_unclean c g (past ++ zeroes c (scrubbed c past n))
      ≡ (((region_spec c (region_of c g)).sanitize && (is_taken g past && not (list_any (λ m. m == g) (scrubbed c past n)))) || (is_soiled g past && not (list_any (λ m. m == g) (scrubbed c past n))))
  unclean-scrub = unclean_by c g (past ++ zeros clean_runs) (is_taken g past && not is_among) (is_soiled g past && not is_among)
      (taken-zeros c g past clean_runs ∙ ap (λ b. is_taken g past && not b) there)
      (soiled-zeros c g past clean_runs ∙ ap (λ b. is_soiled g past && not b) there)

  by : (cell : Cell) → IsCell c past g cell → (among : Bool) → list_any (λ m. m == g) (scrubbed c past n) ≡ among → IsCell c (past ++ zeroes c (scrubbed c past n)) g (where_here among zeroed cell)
  by cell is true among = record {
    status_is = sym (status-scrub c g past n ∙ ap (λ b. if b then Free else status c g past) among);
    unclean_is = sym (unclean-scrub ∙ (λ i. ((region_spec c (region_of c g)).sanitize && (is_taken g past && not (among i))) || (is_soiled g past && not (among i)))
        ∙ nothing_left (region_spec c (region_of c g)).sanitize (is_taken g past) (is_soiled g past));
  }
  by cell is false out = record {
    status_is = is.status_is ∙ sym (status-scrub c g past n ∙ ap (λ b. if b then Free else status c g past) out);
    unclean_is = is.unclean_is ∙ sym (unclean-scrub ∙ (λ i. ((region_spec c (region_of c g)).sanitize && (is_taken g past && not (out i))) || (is_soiled g past && not (out i)))
        ∙ all_left (region_spec c (region_of c g)).sanitize (is_taken g past) (is_soiled g past));
  }

  pub keeps_scrub : Keeps c oldest runs g past (zeroes c (scrubbed c past n))
  keeps_scrub cell is = subst (λ x. IsCell c (past ++ zeroes c (scrubbed c past n)) g x) (sym (cell_zeros c oldest runs g clean_runs cell ∙ ap (λ b. where_here b zeroed cell) there))
      (by cell is (list_any (λ m. m == g) (scrubbed c past n)) refl)
