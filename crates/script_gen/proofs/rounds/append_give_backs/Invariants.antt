use Rattle.std.{proofs.Common.◌≡◌, proofs.Common.◌++◌, proofs.Common.map, specs.List.range_with_len}
use Rattle.script_gen.specs.Generated.{give_back_line}
use Rattle.script_gen.proofs.rounds.append_give_backs.Given as goal

abbrev pub invariant-loop-host : goal.invariant-loop-host
invariant-loop-host l = l.lines.items ≡ l.fn.lines.items ++ map (give_back_line l.round) (range_with_len 0 l.host)
