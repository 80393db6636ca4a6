use Rattle.std.{proofs.Common.◌≡◌, proofs.Common.ℕ, proofs.Common.sym, proofs.Common.subst, proofs.Common.length, proofs.Common.List, proofs.Common.arith, proofs.Common.get_or, specs.Prelude.All}
use Rattle.region_config.specs.{dcd_base.specs.declared.media.Run.Run, Configurations.Configuration, Granules.granule_total}
use Rattle.sanitizer.{specs.Turns.IsInRegion, proofs.Freeing.IsWithin, proofs.Freeing.freed_through, proofs.Regions.run_below}
use Rattle.sanitizer.proofs.scrubbing.turn.Goals as goal

all_within : (c : Configuration) (n : ℕ) (runs seen : List Run) → n ≡ granule_total c → seen ≡ runs → All (IsInRegion c) runs → All (IsWithin n) seen
all_within c n runs seen long same regions = subst (λ (rs : List Run). All (IsWithin n) rs) (sym same)
    (λ k d below. let fits = run_below c (get_or runs k d) (regions k d below) in omega (arith, fits, long))

pub set_free-requires-clause-within : goal.set_free-requires-clause-within
set_free-requires-clause-within c =
    all_within c.args.config.now (length c.args.map.now.states) c.in_ok-runs.runs c.as_slice.result.now c.requires.granules c.as_slice.ensures c.in_ok-runs.ensures.regions

pub returns-clause-each : goal.returns-clause-each
returns-clause-each c =
    freed_through c.args.map.now.states c.set_free.new.map.states c.in_ok-runs.runs c.as_slice.result.now c.as_slice.ensures c.set_free.ensures.states
    (all_within c.args.config.now (length c.args.map.now.states) c.in_ok-runs.runs c.as_slice.result.now c.requires.granules c.as_slice.ensures c.in_ok-runs.ensures.regions)
