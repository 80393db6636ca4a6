use Rattle.std.specs.Prelude.{flat_map}
use Rattle.journal_core.specs.Entries.{effects}
use Rattle.plan_rules.specs.Listing.{give_back_surplus, let_go}
use Rattle.pool_planner.proofs.Taking.{takes_then_ok}
use Rattle.pool_planner.proofs.losing.lose.Goals as goal

pub returns : goal.returns
returns c =
    let cfg = c.args.control.now.config in
    let past = effects c.args.control.now.entries in
    let q = c.args.demands.now in
    takes_then_ok c.all_give_back.result c.args.trial.now c.all_let_go.new.trial c.all_give_back.new.trial (flat_map (let_go cfg past) q.dead) (flat_map (give_back_surplus cfg past) q.demands)
    (rw c.as_slice.ensures at c.in_ok-all_let_go.ensures) (rw c.as_slice-2.ensures at c.all_give_back.ensures)
