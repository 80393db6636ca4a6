use Rattle.std.proofs.Common.{◌≡◌, ◌*◌, ◌≤◌, length}
use Rattle.script_text.specs.Heads.{host_lines_at, hosts_behind}
use Rattle.script_text.proofs.configs.fill_hosts.Given as goal

abbrev pub invariant-loop-words : goal.invariant-loop-words
invariant-loop-words l = record {
  few : l.hosts ≤ 255;
  end : l.lines.end ≡ l.fn.lines.end;
  count : length l.bases.items ≡ l.hosts * l.regions;
  read : hosts_behind l.bases.items (host_lines_at l.regions l.hosts l.lines.lines) ≡ host_lines_at l.regions 0 l.fn.lines.lines;
}

abbrev pub decreases-loop-words : goal.decreases-loop-words
decreases-loop-words l = length l.lines.lines
