use Rattle.std.proofs.Common.{◌≡◌, ◌≤◌, length}
use Rattle.script_text.specs.Heads.{regions_at, regions_behind}
use Rattle.script_text.proofs.configs.fill_regions.Given as goal

abbrev pub invariant-loop-words : goal.invariant-loop-words
invariant-loop-words l = record {
  few : length l.regions.items ≤ 255;
  end : l.lines.end ≡ l.fn.lines.end;
  read : regions_behind l.regions.items (regions_at (length l.regions.items) l.lines.lines) ≡ regions_at 0 l.fn.lines.lines;
}

abbrev pub decreases-loop-words : goal.decreases-loop-words
decreases-loop-words l = length l.lines.lines
