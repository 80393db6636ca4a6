use Rattle.std.{proofs.Common.◌≡◌, proofs.Common.◌++◌, proofs.Common.map, specs.List.range_with_len}
use Rattle.script_gen.specs.Generated.{offer_line}
use Rattle.script_gen.proofs.rounds.append_offers.Given as goal

abbrev pub invariant-loop-host : goal.invariant-loop-host
invariant-loop-host l = l.lines.items ≡ l.fn.lines.items ++ map (offer_line l.round) (range_with_len 0 l.host)
