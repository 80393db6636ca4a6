-- What is left once some runs are free.
use Rattle.std.proofs.Common.{◌≡◌, ℕ, ◌+◌, ◌<◌, ◌≤◌, Bool, true, false, cond, List, [], ◌∷◌, ◌++◌, length, get_or, take, drop, replicate, refl, ap, ◌∙◌, sym, subst, arith, suc, length-append, length-drop}
use Rattle.std.{specs.Prelude.All, specs.Prelude.◌||◌, proofs.lemmas.List.length-replicate, proofs.lemmas.List.length-take-le}
use Rattle.region_config.specs.dcd_base.specs.{declared.media.Run.Run, Words.has_granule, Words.has_in_runs}
use Rattle.granule_map.{specs.StateLists.with_run, specs.declared.states.GranuleState.GranuleState, proofs.Changes.state_after_run}
use Rattle.sanitizer.specs.Turns.{AreFreed, freed}

length-with_run : (states : List GranuleState) (run : Run) (state : GranuleState) → run.first + run.count ≤ length states → length (with_run states run state) ≡ length states
length-with_run states run state within =
    let front = length-take-le run.first states (omega (arith, within)) in
    let middle = length-replicate run.count state in
    let back = length-drop (run.first + run.count) states in
    let both = length-append (take run.first states) (replicate run.count state) in
    length-append (take run.first states ++ replicate run.count state) (drop (run.first + run.count) states) ∙ omega (arith, front, middle, back, both, within)

either : (b rest : Bool) (to was : GranuleState) → cond rest to (cond b to was) ≡ cond (b || rest) to was
either true true to was = refl
either true false to was = refl
either false true to was = refl
either false false to was = refl

abbrev pub IsWithin : ℕ → Run → Type 0
IsWithin n run = run.first + run.count ≤ n

pub are_freed : (states : List GranuleState) (runs : List Run) → All (IsWithin (length states)) runs → AreFreed states (freed states runs) runs
are_freed states [] within g d = refl
are_freed states (run ∷ runs) within g d =
    let first : run.first + run.count ≤ length states = within 0 run (omega arith) in
    let rest : All (IsWithin (length (with_run states run GranuleState.Free))) runs =
    λ (k : ℕ) (e : Run) (below : k < length runs). subst (λ n. IsWithin n (get_or runs k e)) (sym (length-with_run states run GranuleState.Free first)) (within (suc k) e (omega (arith, below))) in
    are_freed (with_run states run GranuleState.Free) runs rest g d
    ∙ ap (λ s. cond (has_in_runs runs g) GranuleState.Free s) (state_after_run states run GranuleState.Free first g d)
    ∙ either (has_granule run g) (has_in_runs runs g) GranuleState.Free (get_or states g d)

-- the same of a list that is seen as another
pub freed_through : (old new : List GranuleState) (runs seen : List Run) → seen ≡ runs → new ≡ freed old seen → All (IsWithin (length old)) seen → AreFreed old new runs
freed_through old new runs seen same is within =
    subst (λ rs. AreFreed old new rs) same (subst (λ states. AreFreed old states seen) (sym is) (are_freed old seen within))
