use Rattle.std.proofs.Common.{[], List, subst}
use Rattle.region_config.specs.Configurations.{Configuration}
use Rattle.journal_core.specs.{Entries.effects, declared.entries.Entry.Entry}
use Rattle.device_plain.specs.device_rules.specs.Legal.{Legal}
use Rattle.plan_rules.{specs.Listing.losing, specs.PlanAlike.replayed, proofs.AlikeSteps.alike_replayed}
use Rattle.pool_planner.{specs.Trials.IsTried, specs.Trials.TriesMore, proofs.PlanEnds.is_prepared}
use Rattle.pool_planner.proofs.planning.prepared.Goals as goal

pub returns : goal.returns
returns c =
    let cfg = c.args.config.now in
    let journal = c.args.control.now.entries in
    let q = c.args.demands.now in
    let fresh = c.in_ok-trial.trial in
    let legal : Legal cfg journal = subst (λ (d : Configuration). Legal d journal) c.requires.made c.entries.ensures.legal in
    is_prepared cfg journal q fresh c.lose.new.trial c.zero_dirty.new.trial (alike_replayed cfg journal legal) c.in_ok-trial.ensures.config
    (subst (λ (es : List Entry). IsTried cfg (replayed cfg es) [] fresh) c.entries.ensures.value c.in_ok-trial.ensures.tried)
    (subst (λ (d : Configuration). TriesMore fresh c.lose.new.trial (losing d (effects journal) q)) c.requires.made c.in_ok-lose.ensures)
    c.in_ok-zero_dirty.ensures
