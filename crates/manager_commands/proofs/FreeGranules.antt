-- The states of the granules that are kept tell which of them are free, and which are dirty.
use Rattle.std.proofs.Common.{◌≡◌, ℕ, zero, suc, ◌+◌, ◌<◌, Bool, List, [], ◌∷◌, length, get_or, refl, sym, ap, ◌∙◌, arith, inl, inr}
use Rattle.std.{specs.Prelude.count_by, specs.Prelude.filter, specs.List.range_with_len, proofs.lemmas.Bool.cases_Bool, proofs.lemmas.List.Sums.length-filter}
use Rattle.selection.{proofs.Agreeing.Agree, specs.granule_map.specs.StateLists.count_of, specs.granule_map.specs.StateLists.is_free_state, specs.granule_map.specs.StateLists.same_state}
use Rattle.selection.specs.granule_map.specs.{Tables.CellTable, Tables.cell_at, declared.states.GranuleState.GranuleState}
use Rattle.device_state.specs.device_rules.specs.{GranuleCells.IsCell, GranuleCells.status_of, Tags.Status, Tags.dirty_granules, Tags.free_granules, Tags.is_dirty, Tags.is_free, Tags.status}
use Rattle.journal_core.specs.declared.outcome.Effect.{Effect}
use Rattle.extent_list.specs.media_map.specs.region_config.specs.{Configurations.Configuration, Granules.granule_total}

free_state : (s : GranuleState) → same_state GranuleState.Free s ≡ is_free (status_of s)
free_state GranuleState.Free = refl
free_state (GranuleState.Reserved h) = refl
free_state (GranuleState.Held h) = refl
free_state (GranuleState.Tagged t) = refl
free_state GranuleState.Dirty = refl

dirty_state : (s : GranuleState) → same_state GranuleState.Dirty s ≡ is_dirty (status_of s)
dirty_state GranuleState.Free = refl
dirty_state (GranuleState.Reserved h) = refl
dirty_state (GranuleState.Held h) = refl
dirty_state (GranuleState.Tagged t) = refl
dirty_state GranuleState.Dirty = refl

is_free-state : (s : GranuleState) → is_free_state s ≡ is_free (status_of s)
is_free-state GranuleState.Free = refl
is_free-state (GranuleState.Reserved h) = refl
is_free-state (GranuleState.Held h) = refl
is_free-state (GranuleState.Tagged t) = refl
is_free-state GranuleState.Dirty = refl

-- what passes a test in a list is what passes it by number
passing_same : {X : Type 0} (p : X → Bool) (q : ℕ → Bool) (d : X) (a : ℕ) (xs : List X) → ((i : ℕ) → i < length xs → p (get_or xs i d) ≡ q (a + i)) →
    length (filter p xs) ≡ length (filter q (range_with_len a (length xs)))
passing_same p q d a [] same = refl
passing_same p q d a (x ∷ xs) same =
    let here : p x ≡ q a = same 0 (omega arith) ∙ ap q (let e : a + 0 ≡ a = omega arith in e) in
    let rest : length (filter p xs) ≡ length (filter q (range_with_len (a + 1) (length xs))) =
    passing_same p q d (a + 1) xs (λ i below. same (suc i) (omega (arith, below)) ∙ ap q (let e : a + suc i ≡ a + 1 + i = omega arith in e)) in
    elim (cases_Bool (q a)) [
      | inl passes ↦ rw (here, passes) (ap suc rest)
      | inr fails ↦ rw (here, fails) rest
    ]

module _ (c : Configuration) (past : List Effect) (t : CellTable) (count : length t.states ≡ granule_total c) (cells : (g : ℕ) → g < granule_total c → IsCell c past g (cell_at t g)) where
  test_of : (p : GranuleState → Bool) (q : Status → Bool) → ((s : GranuleState) → p s ≡ q (status_of s)) → (g : ℕ) → g < length t.states → p (get_or t.states g GranuleState.Dirty) ≡ q (status c g past)
  test_of p q same g below = same (get_or t.states g GranuleState.Dirty) ∙ ap q (cells g (omega (arith, below, count))).status_is

  all_of : (p : GranuleState → Bool) (q : Status → Bool) → ((s : GranuleState) → p s ≡ q (status_of s)) →
      count_by p t.states ≡ length (filter (λ g. q (status c g past)) (range_with_len 0 (granule_total c)))
  all_of p q same =
      sym (length-filter p t.states) ∙ passing_same p (λ g. q (status c g past)) GranuleState.Dirty 0 t.states (λ i below. test_of p q same i below ∙ ap (λ g. q (status c g past)) (let e : i ≡ 0 + i = omega arith in e))
      ∙ ap (λ n. length (filter (λ g. q (status c g past)) (range_with_len 0 n))) count

  pub free_counted : count_of t.states GranuleState.Free ≡ length (free_granules c past)
  free_counted = all_of (same_state GranuleState.Free) is_free free_state

  pub dirty_counted : count_of t.states GranuleState.Dirty ≡ length (dirty_granules c past)
  dirty_counted = all_of (same_state GranuleState.Dirty) is_dirty dirty_state

  -- so is a granule of the device
  pub free_at : (g : ℕ) → g < granule_total c → is_free_state (get_or t.states g GranuleState.Dirty) ≡ is_free (status c g past)
  free_at g below = test_of is_free_state is_free is_free-state g (omega (arith, below, count))

-- two tests that agree on numbers in order pass the same of them
pub filter_agree : (p q : ℕ → Bool) (a n : ℕ) → Agree p q a (a + n) → filter p (range_with_len a n) ≡ filter q (range_with_len a n)
filter_agree p q a zero agree = refl
filter_agree p q a (suc n) agree =
    rw (agree a (omega arith) (omega arith), filter_agree p q (a + 1) n (λ k low high. agree k (omega (arith, low)) (omega (arith, high)))) refl
