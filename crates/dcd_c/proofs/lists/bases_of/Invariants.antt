use Rattle.std.{proofs.Common.◌≡◌, proofs.Common.◌*◌, proofs.Common.drop, proofs.Common.flat_map, proofs.Common.length, proofs.Common.take, specs.List.range_with_len}
use Rattle.dcd_c.specs.Lists.{host_bases}
use Rattle.dcd_c.proofs.lists.bases_of.Given as goal

abbrev pub invariant-loop-host : goal.invariant-loop-host
invariant-loop-host l = record {
  put : take (l.host * length l.config.regions) l.room ≡ flat_map (host_bases l.config) (range_with_len 0 l.host);
  rest : drop (l.host * length l.config.regions) l.room ≡ drop (l.host * length l.config.regions) l.fn.room;
  size : length l.room ≡ length l.fn.room;
}
