use Rattle.std.{proofs.Common.◌≡◌, proofs.Common.◌+◌, proofs.Common.◌++◌, proofs.Common.drop, proofs.Common.length, proofs.Common.map, proofs.Common.take, specs.List.range_with_len}
use Rattle.region_config.specs.Granules.{base_of}
use Rattle.dcd_c.proofs.lists.put_bases.Given as goal

abbrev pub invariant-loop-i : goal.invariant-loop-i
invariant-loop-i l = record {
  put : take (l.at + l.i) l.room ≡ take l.at l.fn.room ++ map (λ r. base_of l.config l.host r) (range_with_len 0 l.i);
  rest : drop (l.at + l.i) l.room ≡ drop (l.at + l.i) l.fn.room;
  size : length l.room ≡ length l.fn.room;
}
