-- What the policies Free and Contiguous answer: the rule that is broken, or the runs that they pick.
use Rattle.std.specs.{declared.result.Result.Result, Prelude.◌≡◌, Prelude.ℕ, Prelude.List}
use Rattle.extent_list.specs.dcd_codes.specs.{dcd_base.specs.declared.media.Run.Run, Rules.ByRow, declared.refusals.Refusal.Refusal}
use Rattle.granule_map.specs.{Blocks.free_block_count, Blocks.longest_free_run, StateLists.is_free_at, declared.states.GranuleState.GranuleState}
use Rattle.selection.specs.Selections.{contiguous_runs, free_runs, too_few_free}

-- Free: the lowest free blocks of the area.
abbrev pub PicksLowest : List GranuleState → Run → ℕ → ℕ → Result (List Run) Refusal → Type 0
PicksLowest states area per_block blocks result =
    ByRow (too_few_free blocks (free_block_count states area per_block)) (λ runs. runs ≡ free_runs (is_free_at states) area per_block blocks) result

-- Contiguous: the lowest free blocks of the area that lie together.
abbrev pub PicksAdjacent : List GranuleState → Run → ℕ → ℕ → Result (List Run) Refusal → Type 0
PicksAdjacent states area per_block blocks result =
    ByRow (too_few_free blocks (longest_free_run states area per_block)) (λ runs. runs ≡ contiguous_runs (is_free_at states) area per_block blocks) result
