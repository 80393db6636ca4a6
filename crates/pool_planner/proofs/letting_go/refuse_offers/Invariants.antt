use Rattle.std.proofs.Common.{replicate}
use Rattle.plan_rules.specs.Listing.{refusal_step}
use Rattle.pool_planner.specs.Trials.{TriesMore}
use Rattle.pool_planner.proofs.letting_go.refuse_offers.Given as goal

abbrev pub invariant-loop : goal.invariant-loop
invariant-loop l = TriesMore l.fn.trial l.trial (replicate l.counter (refusal_step l.host))
