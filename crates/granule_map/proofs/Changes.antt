-- What a change of a run leaves at each granule.
use Rattle.std.proofs.Common.{◌≡◌, ℕ, ◌+◌, ◌-◌, ◌<◌, ◌≤◌, cond, List, ◌++◌, length, get_or, take, drop, replicate, refl, ap, ◌∙◌, leb, inl, inr, arith, length-append}
use Rattle.dcd_base.specs.{Words.has_granule, declared.media.Run.Run}
use Rattle.std.proofs.lemmas.Bool.{and_right, cases_lt, le-leb, le-ltb, lt-leb, lt-ltb}
use Rattle.std.proofs.lemmas.List.{get_or-append_right, get_or-drop, get_or-replicate, get_or-take, get_or_append_left, length-replicate, length-take-le}
use Rattle.granule_map.specs.{StateLists.with_run, Told.with_item, declared.states.GranuleState.GranuleState}

module _ {X : Type 0} (xs : List X) (run : Run) (x : X) (within : run.first + run.count ≤ length xs) where
  front : length (take run.first xs) ≡ run.first
  front = length-take-le run.first xs (omega (arith, within))

  middle : length (replicate run.count x) ≡ run.count
  middle = length-replicate run.count x

  both : length (take run.first xs ++ replicate run.count x) ≡ run.first + run.count
  both = length-append (take run.first xs) (replicate run.count x) ∙ omega (arith, front, middle)

  -- the item of any granule once the run has another one
  pub item_after_run : (g : ℕ) (d : X) → get_or (with_item run x xs) g d ≡ cond (has_granule run g) x (get_or xs g d)
  item_after_run g d = elim (cases_lt g run.first) [
    | inl below ↦ (let first : g < length (take run.first xs) = omega (arith, front, below) in
        let early : g < length (take run.first xs ++ replicate run.count x) = omega (arith, both, below) in
        rw (lt-leb run.first g below)
        (get_or_append_left (take run.first xs ++ replicate run.count x) (drop (run.first + run.count) xs) d g early
        ∙ get_or_append_left (take run.first xs) (replicate run.count x) d g first
        ∙ get_or-take run.first xs g d below))
    | inr from ↦ elim (cases_lt g (run.first + run.count)) [
      | inl inside ↦ (let early : g < length (take run.first xs ++ replicate run.count x) = omega (arith, both, inside) in
          let place : g - run.first < run.count = omega (arith, from, inside) in
          rw (le-leb run.first g from, lt-ltb g (run.first + run.count) inside)
          (get_or_append_left (take run.first xs ++ replicate run.count x) (drop (run.first + run.count) xs) d g early
          ∙ get_or-append_right (take run.first xs) (replicate run.count x) run.first g d front from
          ∙ get_or-replicate run.count (g - run.first) x d place))
      | inr past ↦ (let place : run.first + run.count + (g - (run.first + run.count)) ≡ g = omega (arith, past) in
          rw (le-ltb g (run.first + run.count) past, and_right (leb run.first g) _ refl)
          (get_or-append_right (take run.first xs ++ replicate run.count x) (drop (run.first + run.count) xs) (run.first + run.count) g d both past
          ∙ get_or-drop (run.first + run.count) xs (g - (run.first + run.count)) d
          ∙ ap (λ k. get_or xs k d) place))
    ]
  ]

-- the state of any granule once the run has another state
pub state_after_run : (states : List GranuleState) (run : Run) (state : GranuleState) → run.first + run.count ≤ length states → (g : ℕ) (d : GranuleState)
    → get_or (with_run states run state) g d ≡ cond (has_granule run g) state (get_or states g d)
state_after_run states run state within g d = item_after_run states run state within g d
