use Rattle.std.{proofs.Common.◌≡◌, proofs.Common.◌++◌, proofs.Common.take, proofs.Common.map, specs.List.flat_map}
use Rattle.text_lines.specs.{Pairs.pair_text, Words.spaced}
use Rattle.text_lines.proofs.pairs.write_pairs.Given as goal

abbrev pub invariant-loop-byte : goal.invariant-loop-byte
invariant-loop-byte l = l.out ≡ l.fn.out ++ flat_map spaced (map pair_text (take l.byte-index l.bytes))
