-- Joining granules to runs loses none.
use Rattle.std.proofs.Common.{◌≡◌, ℕ, ◌+◌, Bool, List, [], ◌∷◌, length, map, eqb, refl, ◌∙◌, arith, inl, inr}
use Rattle.std.{specs.Prelude.◌&&◌, proofs.lemmas.Bool.cases_Bool, proofs.lemmas.List.Sums.sum_by-cons}
use Rattle.region_config.specs.dcd_base.specs.declared.media.Run.{Run}
use Rattle.granule_map.specs.Choices.{joined, joined_onto}
use Rattle.sanitizer.specs.Turns.{granules_of_runs, run_of_pair}

count_cons : (run : Run) (runs : List Run) → granules_of_runs (run ∷ runs) ≡ run.count + granules_of_runs runs
count_cons run runs = sum_by-cons (λ (r : Run). r.count) run runs

onto_count : (t : ℕ → ℕ → Bool) (n : ℕ) (runs : List (ℕ × ℕ)) → granules_of_runs (map run_of_pair (joined_onto t n runs)) ≡ 1 + granules_of_runs (map run_of_pair runs)
onto_count t n [] = count_cons (run_of_pair (n, 1)) []
onto_count t n (r ∷ runs) =
    let rest : List Run = map run_of_pair runs in
    let behind = count_cons (run_of_pair r) rest in
    elim (cases_Bool (eqb r.0 (n + 1) && t n (n + 1))) [
      | inl joins ↦ rw joins (omega (arith, behind, count_cons (run_of_pair (n, r.1 + 1)) rest))
      | inr ends ↦ rw ends (count_cons (run_of_pair (n, 1)) (run_of_pair r ∷ rest))
    ]

pub joined_count : (t : ℕ → ℕ → Bool) (ns : List ℕ) → granules_of_runs (map run_of_pair (joined t ns)) ≡ length ns
joined_count t [] = refl
joined_count t (n ∷ ns) = onto_count t n (joined t ns) ∙ omega (arith, joined_count t ns)
