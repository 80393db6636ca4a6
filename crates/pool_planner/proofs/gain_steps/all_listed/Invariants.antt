use Rattle.std.proofs.Common.{◌≡◌, map, take}
use Rattle.plan_rules.specs.Listing.{listed}
use Rattle.pool_planner.proofs.gain_steps.all_listed.Given as goal

abbrev pub invariant-loop-extent : goal.invariant-loop-extent
invariant-loop-extent l = l.list ≡ map listed (take l.extent-index l.extents)
