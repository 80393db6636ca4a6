use Rattle.std.proofs.Common.{ℕ, ◌<◌, get_or}
use Rattle.tag_refs.specs.declared.entries.TagEntry.{TagEntry}
use Rattle.control_core.specs.Fitting.{TagFits}
use Rattle.control_core.proofs.fitting.entries_fit.Given as goal

abbrev pub invariant-loop-index : goal.invariant-loop-index
invariant-loop-index l = (k : ℕ) (d : TagEntry) → k < l.index → TagFits (get_or l.tags.entries k d).tag
