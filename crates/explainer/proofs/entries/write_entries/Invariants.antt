use Rattle.std.{proofs.Common.◌≡◌, proofs.Common.◌++◌, proofs.Common.length, specs.List.flat_map}
use Rattle.explainer.specs.Explanations.{entry_explained}
use Rattle.explainer.proofs.entries.write_entries.Given as goal

-- What is put, and the entries that are left, make up the whole.
abbrev pub invariant-loop-entry : goal.invariant-loop-entry
invariant-loop-entry g l =
    l.out ++ flat_map (entry_explained l.script) (g.J.Lender.rest l.journal) ≡ l.fn.out ++ flat_map (entry_explained l.script) (g.J.Lender.rest l.fn.journal)

abbrev pub decreases-loop-entry : goal.decreases-loop-entry
decreases-loop-entry g l = length (g.J.Lender.rest l.journal)
