use Rattle.std.proofs.Common.{◌≤◌}
use Rattle.extent_list.specs.ExtentLists.{count_in}
use Rattle.offer_core.specs.Offerings.{lists_of}
use Rattle.device_tests.proofs.offers.see_answers.Given as goal

-- The host has few extents.
abbrev pub invariant-loop-ranges : goal.invariant-loop-ranges
invariant-loop-ranges g l = count_in (lists_of l.offers.offers) ≤ 64
