use Rattle.std.proofs.Common.{◌≡◌, ℕ, [], length}
use mathlib.Core.Option.{some}
use lib.ListN.{get_elem?}
use Rattle.block_shard.specs.shard_laws.specs.{Changing.IsFreshStripe, Right.IsRight, Stripes.Stripe}
use Rattle.shared_device.proofs.making.fresh_shards.Given as goal

abbrev pub invariant-loop-index : goal.invariant-loop-index
invariant-loop-index l = record {
  count : length l.row.items ≡ l.index;
  each : (k : ℕ) (x : Stripe) → get_elem? l.row.items k ≡ some x → IsFreshStripe l.config k x × IsRight k x [];
}
