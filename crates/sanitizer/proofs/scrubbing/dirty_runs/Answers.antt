use Rattle.std.proofs.Common.{◌≡◌, ◌∙◌, ℕ, ap, sym, subst, List, true}
use Rattle.region_config.specs.{dcd_base.specs.Words.has_in_runs, dcd_base.specs.declared.media.Run.Run, Granules.same_region}
use Rattle.granule_map.specs.StateLists.{is_dirty_at}
use Rattle.sanitizer.{specs.Turns.granules_of_runs, specs.Turns.lowest_dirty, proofs.Counting.joined_count, proofs.Scrubbed.scrubbed_dirty}
use Rattle.sanitizer.proofs.scrubbing.dirty_runs.Goals as goal

pub returns-clause-count : goal.returns-clause-count
returns-clause-count c =
    ap granules_of_runs c.in_ok-find_dirty.ensures.runs ∙ joined_count (same_region c.args.config.now) (lowest_dirty c.args.config.now (is_dirty_at c.args.map.now.states) c.args.n)

pub returns-clause-dirty : goal.returns-clause-dirty
returns-clause-dirty c =
    subst (λ (runs : List Run). (g : ℕ) → has_in_runs runs g ≡ true → is_dirty_at c.args.map.now.states g ≡ true) (sym c.in_ok-find_dirty.ensures.runs)
    (λ g has. scrubbed_dirty c.args.config.now (is_dirty_at c.args.map.now.states) c.args.n g has)
