-- What is kept of a granule stays right over effects: over some more, over those that change no status, and over a whole command.
use Rattle.std.proofs.Common.{◌≡◌, ℕ, Bool, true, false, ◌&&◌, ◌||◌, List, ◌++◌, sym, ap, subst, ◌∙◌, append_assoc}
use Rattle.std.{specs.Prelude.flat_map, specs.Prelude.if◌then◌else◌, specs.List.list_all, proofs.lemmas.List.Sums.fold-append}
use Rattle.cci_codec.specs.dcd_base.specs.declared.{capacity.Extent.Extent, capacity.Tag.Tag, ids.HostId.HostId, media.Run.Run}
use Rattle.granule_map.specs.{declared.states.GranuleState.GranuleState, Tables.Cell}
use Rattle.journal_core.specs.{Holders.is_soiled, Holders.is_taken, declared.outcome.Effect.Effect}
use Rattle.extent_list.specs.media_map.specs.region_config.specs.{Configurations.Configuration, Granules.region_of, Granules.region_spec}
use Rattle.device_rules.proofs.{CellChanges.cell_quiet, Leaving.is_quiet, Leaving.quiet_soil, Leaving.quiet_taking, StatusOutcomes.told-quiet}
use Rattle.device_rules.proofs.{StatusParts.soiled-left, StatusParts.status-quiet, StatusParts.taken-left, StatusTags.ends}
use Rattle.device_rules.specs.{GranuleCells.IsCell, GranuleCells.cell_after, GranuleCells.cell_over, GranuleCells.is_unclean, GranuleCells.status_of, Logs.log_of}
use Rattle.device_rules.specs.{Outcomes.Outcome, Outcomes.effects_of, Outcomes.ended, Outcomes.entered_all, Tags.Dirty, Tags.Free}

-- These effects keep it right.
abbrev pub Keeps : Configuration → (HostId → List Extent) → (Tag → List Run) → ℕ → List Effect → List Effect → Type 0
Keeps c oldest runs g past new = (cell : Cell) → IsCell c past g cell → IsCell c (past ++ new) g (cell_over c oldest runs g cell new)

-- whether it has to be zeroed, by the two tests
pub unclean_by : (c : Configuration) (g : ℕ) (past : List Effect) (taken soiled : Bool) → is_taken g past ≡ taken → is_soiled g past ≡ soiled →
    is_unclean c g past ≡ (((region_spec c (region_of c g)).sanitize && taken) || soiled)
unclean_by c g past taken soiled taken_is soiled_is = λ i. ((region_spec c (region_of c g)).sanitize && taken_is i) || soiled_is i

-- what is settled is dirty or free
pub settled_status : (u v : Bool) → u ≡ v → status_of (if u then GranuleState.Dirty else GranuleState.Free) ≡ (if v then Dirty else Free)
settled_status true v same = ap (λ b. if b then Dirty else Free) same
settled_status false v same = ap (λ b. if b then Dirty else Free) same

module _ (c : Configuration) (oldest : HostId → List Extent) (runs : Tag → List Run) (g : ℕ) where
  pub keeps_quiet : (past new : List Effect) → list_all is_quiet new ≡ true → Keeps c oldest runs g past new
  keeps_quiet past new quiet cell is = subst (λ x. IsCell c (past ++ new) g x) (sym (cell_quiet c oldest runs g cell new quiet)) (record {
    status_is = is.status_is ∙ sym (status-quiet c g past new quiet);
    unclean_is = is.unclean_is
        ∙ sym (unclean_by c g (past ++ new) (is_taken g past) (is_soiled g past) (taken-left g past new (quiet_taking new quiet)) (soiled-left g past new (quiet_soil new quiet)));
  })

  pub keeps_then : (past first second : List Effect) → Keeps c oldest runs g past first → Keeps c oldest runs g (past ++ first) second → Keeps c oldest runs g past (first ++ second)
  keeps_then past first second one two cell is =
      subst (λ all. IsCell c all g (cell_over c oldest runs g cell (first ++ second))) (append_assoc past first second)
      (subst (λ x. IsCell c ((past ++ first) ++ second) g x) (sym (fold-append (cell_after c oldest runs g) cell first second))
      (two (cell_over c oldest runs g cell first) (one cell is)))

  -- a command whose changes keep it right, and the ends of tags
  pub keeps_outcome : (past : List Effect) (o : Outcome) → Keeps c oldest runs g past o.changes → Keeps c oldest runs g (past ++ o.changes) (ends (ended c past o.changes o.tags)) →
      Keeps c oldest runs g past (effects_of c past o)
  keeps_outcome past o changes tags =
      let over : List Effect = ends (ended c past o.changes o.tags) in
      let told : List Effect = flat_map (λ n. entered_all n.0 (log_of n.0 past) n.1) o.log_records in
      keeps_then past (o.changes ++ over) told (keeps_then past o.changes over changes tags) (keeps_quiet (past ++ (o.changes ++ over)) told (told-quiet past o.log_records))
