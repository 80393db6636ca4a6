use Rattle.std.proofs.Common.{◌≡◌, ℕ, ◌<◌, false}
use Rattle.media_map.specs.Places.{has_address}
use Rattle.media_map.proofs.places.region_at.Given as goal

abbrev pub invariant-loop-number : goal.invariant-loop-number
invariant-loop-number l = (k : ℕ) → k < l.number → has_address l.config l.host l.dpa k ≡ false
