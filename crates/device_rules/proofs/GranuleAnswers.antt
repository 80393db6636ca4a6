-- What is kept of a granule stays right when an offer is answered and what was accepted is taken.
use Rattle.std.proofs.Common.{◌≡◌, ℕ, ◌<◌, Bool, true, false, ◌&&◌, ◌||◌, List, ◌∷◌, ◌++◌, inl, inr, refl, sym, ap, subst, ◌∙◌}
use Rattle.std.{specs.Prelude.fold, specs.Prelude.if◌then◌else◌, specs.List.AllByRecursion, specs.List.list_all, proofs.lemmas.Bool.cases_Bool, proofs.lemmas.Bool.false≢true}
use Rattle.cci_codec.specs.dcd_base.specs.declared.{capacity.Extent.Extent, capacity.Tag.Tag, ids.HostId.HostId, media.Run.Run}
use Rattle.granule_map.specs.{declared.states.GranuleState.GranuleState, Tables.Cell, Tables.settled}
use Rattle.journal_core.specs.{Entries.effects, Holders.is_soiled, Holders.is_taken, declared.entries.Entry.Entry, declared.outcome.Effect.Effect}
use Rattle.offer_core.specs.Offerings.{oldest_of}
use Rattle.extent_list.specs.media_map.specs.region_config.specs.{Configurations.Configuration, Granules.region_of, Granules.region_spec, Soundness.IsSound, declared.region_spec.RegionSpec.RegionSpec}
use Rattle.device_rules.proofs.CellChanges.{cell_quiet, cell_takes, cell_unoffer, left_as, taken_as, where_here}
use Rattle.device_rules.proofs.{GranuleEnds.private_untagged, GranuleSteps.Keeps, GranuleSteps.settled_status, GranuleSteps.unclean_by, Leaving.after_front, Leaving.is_quiet}
use Rattle.device_rules.proofs.RunEffects.{in_extents, takes}
use Rattle.device_rules.proofs.StatusAnswers.{answering, soiled-answer, status-answer_shared, status-taken, status-unanswered, taken-answer}
use Rattle.device_rules.proofs.{StatusKept.status-declined_kept, StatusParts.tagged_still, WholeRuns.IsOneRun}
use Rattle.device_rules.specs.GranuleCells.{IsCell, cell_after, cell_over, is_unclean, status_of, unoffered_extent}
use Rattle.device_rules.specs.{GranuleTable.AreKnown, Hosts.offers_of, Invariants.Holdings, Pictures.picture_of, Standing.Stands, Tags.is_tagged, Tags.status}

-- ---- what an answer makes of it

-- what was offered is settled or stays, and what is taken is held or stays
abbrev answered_as : HostId → Bool → Bool → RegionSpec → Cell → Cell
answered_as h offered here spec cell = where_here here (taken_as h spec) (where_here offered (left_as spec) cell)

abbrev still_or_taken : Bool → Bool → Bool → Bool
still_or_taken here sanitize unclean = if here then (if sanitize then true else unclean) else unclean

answered_unclean : (h : HostId) (offered here : Bool) (spec : RegionSpec) (cell : Cell) → (answered_as h offered here spec cell).unclean ≡ still_or_taken here spec.sanitize cell.unclean
answered_unclean h offered here spec cell = by here ∙ ap (still_or_taken here spec.sanitize) (same offered spec.shareable)
  where
    by : (here : Bool) → (where_here here (taken_as h spec) (where_here offered (left_as spec) cell)).unclean ≡ still_or_taken here spec.sanitize (where_here offered (left_as spec) cell).unclean
    by true = refl
    by false = refl

    same : (offered shared : Bool) → (if offered then (if shared then cell else settled cell) else cell).unclean ≡ cell.unclean
    same true true = refl
    same true false = refl
    same false shared = refl

answered_shared : (h : HostId) (offered here : Bool) (spec : RegionSpec) (cell : Cell) → spec.shareable ≡ true → (answered_as h offered here spec cell).state ≡ cell.state
answered_shared h offered here spec cell is = by here offered spec.shareable is
  where
    by : (here offered shared : Bool) → shared ≡ true →
        (where_here here (λ b. record { state = if shared then b.state else GranuleState.Held h; unclean = if spec.sanitize then true else b.unclean }) (if offered then (if shared then cell else settled cell) else cell)).state ≡ cell.state
    by true true true is = refl
    by true false true is = refl
    by false true true is = refl
    by false false true is = refl
    by here offered false is = absurd (false≢true is)

taken_private : (h : HostId) (spec : RegionSpec) (cell : Cell) → spec.shareable ≡ false → (taken_as h spec cell).state ≡ GranuleState.Held h
taken_private h spec cell is = ap (λ b. if b then cell.state else GranuleState.Held h) is

left_private : (spec : RegionSpec) (cell : Cell) → spec.shareable ≡ false → (left_as spec cell).state ≡ (if cell.unclean then GranuleState.Dirty else GranuleState.Free)
left_private spec cell is = ap (λ b. (if b then cell else settled cell).state) is

-- whether it has to be zeroed then
taken_too : (here sanitize taken soiled : Bool) → still_or_taken here sanitize ((sanitize && taken) || soiled) ≡ ((sanitize && (taken || here)) || soiled)
taken_too true true true soiled = refl
taken_too true true false soiled = refl
taken_too true false taken soiled = refl
taken_too false true true soiled = refl
taken_too false true false soiled = refl
taken_too false false taken soiled = refl

module _ (c : Configuration) (sound : IsSound c) (before : List Entry) (s : Stands c (picture_of c (effects before))) (kept : Holdings c before)
    (oldest : HostId → List Extent) (runs : Tag → List Run) (known : AreKnown c before oldest runs) (g : ℕ)
    (front : List Effect) (quiet : list_all is_quiet front ≡ true)
    (k : HostId) (host : k < c.hosts) (ys xs : List Extent) (one : AllByRecursion (IsOneRun c k) xs)
    (one_offered : AllByRecursion (IsOneRun c k) (oldest_of (offers_of k (effects before))))
    (inside : in_extents c k xs g ≡ true → in_extents c k (oldest_of (offers_of k (effects before))) g ≡ true)
    (claimed : in_extents c k (oldest_of (offers_of k (effects before))) g ≡ true → (region_spec c (region_of c g)).shareable ≡ true → is_tagged c g (effects before) ≡ true) where
  unclean-answer : is_unclean c g (effects before ++ answering c front k ys xs) ≡ (((region_spec c (region_of c g)).sanitize && (is_taken g (effects before) || in_extents c k xs g)) || is_soiled g (effects before))
  unclean-answer = unclean_by c g (effects before ++ answering c front k ys xs) (is_taken g (effects before) || in_extents c k xs g) (is_soiled g (effects before))
      (taken-answer c g (effects before) front quiet k ys xs) (soiled-answer c g (effects before) front quiet k ys xs)

  module _ (cell : Cell) (is : IsCell c (effects before) g cell) where
    is_unclean_then : (offered here : Bool) → in_extents c k xs g ≡ here →
        (answered_as k offered here (region_spec c (region_of c g)) cell).unclean ≡ is_unclean c g (effects before ++ answering c front k ys xs)
    is_unclean_then offered here at =
        answered_unclean k offered here (region_spec c (region_of c g)) cell
        ∙ ap (still_or_taken here (region_spec c (region_of c g)).sanitize) is.unclean_is
        ∙ taken_too here (region_spec c (region_of c g)).sanitize (is_taken g (effects before)) (is_soiled g (effects before))
        ∙ sym (unclean-answer ∙ ap (λ b. ((region_spec c (region_of c g)).sanitize && (is_taken g (effects before) || b)) || is_soiled g (effects before)) at)

    not_of_them : in_extents c k (oldest_of (offers_of k (effects before))) g ≡ false → in_extents c k xs g ≡ false → IsCell c (effects before ++ answering c front k ys xs) g cell
    not_of_them not_offered not_taken = record {
      status_is = is.status_is ∙ sym (status-unanswered c g (effects before) front quiet k ys xs host not_taken not_offered);
      unclean_is = is_unclean_then false false not_taken;
    }

    module _ (offered : in_extents c k (oldest_of (offers_of k (effects before))) g ≡ true) where
      of_shared : (region_spec c (region_of c g)).shareable ≡ true → (here : Bool) →
          status_of (answered_as k true here (region_spec c (region_of c g)) cell).state ≡ status c g (effects before ++ answering c front k ys xs)
      of_shared shared here =
          let tagged : is_tagged c g (effects before) ≡ true = claimed offered shared in
          ap status_of (answered_shared k true here (region_spec c (region_of c g)) cell shared)
          ∙ is.status_is ∙ tagged_still c g (effects before) shared tagged ∙ sym (status-answer_shared c g (effects before) front quiet k ys xs shared tagged)

      of_private : (region_spec c (region_of c g)).shareable ≡ false → (here : Bool) → in_extents c k xs g ≡ here →
          status_of (answered_as k true here (region_spec c (region_of c g)) cell).state ≡ status c g (effects before ++ answering c front k ys xs)
      of_private private true here =
          ap status_of (taken_private k (region_spec c (region_of c g)) (left_as (region_spec c (region_of c g)) cell) private)
          ∙ sym (status-taken c g (effects before) front quiet k ys xs host private here)
      of_private private false not_here =
          ap status_of (left_private (region_spec c (region_of c g)) cell private)
          ∙ settled_status cell.unclean (is_unclean c g (effects before)) is.unclean_is
          ∙ sym (status-declined_kept c before kept g private k offered front quiet ys xs host not_here (private_untagged c sound (effects before) s g private))

      of_them : (here : Bool) → in_extents c k xs g ≡ here → IsCell c (effects before ++ answering c front k ys xs) g (answered_as k true here (region_spec c (region_of c g)) cell)
      of_them here at = record {
        status_is = elim (cases_Bool (region_spec c (region_of c g)).shareable) [ inl shared ↦ of_shared shared here | inr private ↦ of_private private here at ];
        unclean_is = is_unclean_then true here at;
      }

    by : (offered here : Bool) → in_extents c k (oldest_of (offers_of k (effects before))) g ≡ offered → in_extents c k xs g ≡ here →
        IsCell c (effects before ++ answering c front k ys xs) g (answered_as k offered here (region_spec c (region_of c g)) cell)
    by true here offered at = of_them offered here at
    by false true not_offered at = absurd (false≢true (sym not_offered ∙ inside at))
    by false false not_offered at = not_of_them not_offered at

  -- what is taken is held, or tagged still, and what is declined is dirty or free, or tagged still
  pub keeps_answer : Keeps c oldest runs g (effects before) (answering c front k ys xs)
  keeps_answer cell is =
      let offer : List Extent = oldest_of (offers_of k (effects before)) in
      let spec : RegionSpec = region_spec c (region_of c g) in
      let told : cell_after c oldest runs g cell (Effect.Answer k ys) ≡ where_here (in_extents c k offer g) (left_as spec) cell =
      ap (λ zs. fold (unoffered_extent c k g) cell zs) (known.offers k) ∙ cell_unoffer c oldest runs g k offer one_offered cell in
      subst (λ x. IsCell c (effects before ++ answering c front k ys xs) g x)
      (sym (after_front (cell_after c oldest runs g) cell front (Effect.Answer k ys ∷ takes c k xs) (cell_quiet c oldest runs g cell front quiet)
      ∙ ap (λ x. cell_over c oldest runs g x (takes c k xs)) told
      ∙ cell_takes c oldest runs g k xs one (where_here (in_extents c k offer g) (left_as spec) cell)))
      (by cell is (in_extents c k (oldest_of (offers_of k (effects before))) g) (in_extents c k xs g) refl refl)
