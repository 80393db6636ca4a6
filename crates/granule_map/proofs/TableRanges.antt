-- What a change of a run leaves at each granule.
use Rattle.std.proofs.Common.{◌≡◌, ℕ, ◌+◌, ◌-◌, ◌≤◌, Bool, true, cond, List, ◌++◌, length, get_or, take, drop, replicate, refl, ap, ◌∙◌, leb, inl, inr, arith, length-append}
use Rattle.std.proofs.lemmas.Bool.{and_right, cases_Bool, cases_lt, le-leb, le-ltb, lt-leb, lt-ltb}
use Rattle.std.proofs.lemmas.List.{get_or-append_right, get_or-drop, get_or-replicate, get_or-take, get_or_append_left, length-replicate, length-take-le}
use Rattle.dcd_base.specs.{Words.has_granule, declared.media.Run.Run}
use Rattle.granule_map.{proofs.Changes.state_after_run, specs.Parts.marked_unclean, specs.Parts.with_part, specs.StateLists.with_run}
use Rattle.granule_map.specs.{Tables.Cell, Tables.CellTable, Tables.IsChanged, Tables.cell_at, Tables.given, declared.states.GranuleState.GranuleState}

-- the item of any place once those of a run are another one
module _ {X : Type 0} (xs : List X) (run : Run) (x : X) (within : run.first + run.count ≤ length xs) where
  front : length (take run.first xs) ≡ run.first
  front = length-take-le run.first xs (omega (arith, within))

  both : length (take run.first xs ++ replicate run.count x) ≡ run.first + run.count
  both = length-append (take run.first xs) (replicate run.count x) ∙ omega (arith, front, length-replicate run.count x)

  pub item_after_run : (g : ℕ) (d : X) → get_or (with_part run x xs) g d ≡ cond (has_granule run g) x (get_or xs g d)
  item_after_run g d = elim (cases_lt g run.first) [
    | inl below ↦ rw (lt-leb run.first g below)
        (get_or_append_left (take run.first xs ++ replicate run.count x) (drop (run.first + run.count) xs) d g (omega (arith, both, below))
        ∙ get_or_append_left (take run.first xs) (replicate run.count x) d g (omega (arith, front, below))
        ∙ get_or-take run.first xs g d below)
    | inr from ↦ elim (cases_lt g (run.first + run.count)) [
      | inl inner ↦ rw (le-leb run.first g from, lt-ltb g (run.first + run.count) inner)
          (get_or_append_left (take run.first xs ++ replicate run.count x) (drop (run.first + run.count) xs) d g (omega (arith, both, inner))
          ∙ get_or-append_right (take run.first xs) (replicate run.count x) run.first g d front from
          ∙ get_or-replicate run.count (g - run.first) x d (omega (arith, from, inner)))
      | inr past ↦ (let place : run.first + run.count + (g - (run.first + run.count)) ≡ g = omega (arith, past) in
          rw (le-ltb g (run.first + run.count) past, and_right (leb run.first g) _ refl)
          (get_or-append_right (take run.first xs ++ replicate run.count x) (drop (run.first + run.count) xs) (run.first + run.count) g d both past
          ∙ get_or-drop (run.first + run.count) xs (g - (run.first + run.count)) d
          ∙ ap (λ k. get_or xs k d) place))
    ]
  ]

cell_of : (t : CellTable) (g : ℕ) (cell : Cell) → get_or t.states g GranuleState.Dirty ≡ cell.state → get_or t.unclean g true ≡ cell.unclean → cell_at t g ≡ cell
cell_of t g cell state unclean = λ i. record { state = state i; unclean = unclean i }

-- new states of a run, and new flags of one
pub states_changed : (old new : CellTable) (run : Run) (s : GranuleState) → run.first + run.count ≤ length old.states → length new.states ≡ length old.states
    → new.states ≡ with_run old.states run s → new.unclean ≡ old.unclean → IsChanged (given s) run old new
states_changed old new run s within long states flags = record {
  granules = long;
  each = λ g below.
      let state : get_or new.states g GranuleState.Dirty ≡ cond (has_granule run g) s (get_or old.states g GranuleState.Dirty) =
      ap (λ (ss : List GranuleState). get_or ss g GranuleState.Dirty) states ∙ state_after_run old.states run s within g GranuleState.Dirty in
      let flag : get_or new.unclean g true ≡ get_or old.unclean g true = ap (λ (us : List Bool). get_or us g true) flags in
      elim (cases_Bool (has_granule run g)) [
        | inl here ↦ (let is = rw here at state in rw here (cell_of new g (given s (cell_at old g)) is flag))
        | inr other ↦ (let is = rw other at state in rw other (cell_of new g (cell_at old g) is flag))
      ];
}

pub flags_changed : (old new : CellTable) (run : Run) (u : Bool) → run.first + run.count ≤ length old.unclean → new.states ≡ old.states → new.unclean ≡ with_part run u old.unclean
    → IsChanged (marked_unclean u) run old new
flags_changed old new run u within states flags = record {
  granules = ap (λ (ss : List GranuleState). length ss) states;
  each = λ g below.
      let state : get_or new.states g GranuleState.Dirty ≡ get_or old.states g GranuleState.Dirty = ap (λ (ss : List GranuleState). get_or ss g GranuleState.Dirty) states in
      let flag : get_or new.unclean g true ≡ cond (has_granule run g) u (get_or old.unclean g true) =
      ap (λ (us : List Bool). get_or us g true) flags ∙ item_after_run old.unclean run u within g true in
      elim (cases_Bool (has_granule run g)) [
        | inl here ↦ (let is = rw here at flag in rw here (cell_of new g (marked_unclean u (cell_at old g)) state is))
        | inr other ↦ (let is = rw other at flag in rw other (cell_of new g (cell_at old g) state is))
      ];
}
