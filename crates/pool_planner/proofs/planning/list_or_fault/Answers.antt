use Rattle.std.proofs.{Common.◌≡◌, Common.List, Common.Some, Common.None, Common.ap, Common.subst, Common.sym, Common.◌∙◌, lemmas.Result.err_from_is_err_and}
use Rattle.std.specs.{Prelude.option_map, declared.result.Result.Result, declared.result.Result.TheVariants.Err}
use Rattle.region_config.specs.Configurations.{Configuration}
use Rattle.journal_core.specs.{Entries.effects, declared.entries.Entry.Entry}
use Rattle.plan_rules.specs.{Holding.Step, Listing.gaining, Planning.IsPlan, Planning.is_open, Planning.lowest_below, Planning.named_fault, declared.demands.Demand.Demand}
use Rattle.plan_rules.specs.declared.{demands.Demands.Demands, faults.PlanFault.PlanFault}
use Rattle.pool_planner.{specs.Trials.TriesMore, specs.Trials.short_between, proofs.PlanEnds.fault_short, proofs.PlanEnds.plan_ends, proofs.PlanEnds.plan_err}
use Rattle.pool_planner.proofs.planning.list_or_fault.Goals as goal

-- want of memory may be answered whatever was asked
plan_wants : (c : Configuration) (journal : List Entry) (q : Demands) (r : Result (List Step) PlanFault) (y : PlanFault) → r ≡ Err y → y ≡ PlanFault.NoMemory → IsPlan c journal q r
plan_wants c journal q r y is none = subst (IsPlan c journal q) (sym (is ∙ ap Err none)) tt

pub returns-in-Some-2 : goal.returns-in-Some-2
returns-in-Some-2 c =
    let cfg = c.args.config.now in
    let journal = c.args.control.now.entries in
    let past = effects journal in
    let q = c.args.demands.now in
    let trial = c.in_ok-trial.trial in
    let fault = c.in-Some-2.fault in
    let named : named_fault cfg q ≡ None = sym c.named_fault.ensures.fault ∙ c.in_default.is in
    let opened : option_map PlanFault.Open (lowest_below (is_open past q) cfg.hosts) ≡ None = ap (option_map PlanFault.Open)
    (sym (c.open_host.ensures ∙ ap (λ (d : Configuration). lowest_below (is_open past q) d.hosts) c.requires.made) ∙ c.in_default-open_host.is) in
    let short : short_between cfg past (effects trial.control.entries) q ≡ Some fault =
    ap (λ (d : Configuration). short_between d past (effects trial.control.entries) q) (sym c.requires.made) ∙ sym c.in_ok-fault.ensures ∙ c.in-Some-2.is in
    plan_err cfg journal q fault (fault_short cfg journal q trial trial c.in_ok-trial.ensures fault named opened short)

pub returns-in_err-gain_all : goal.returns-in_err-gain_all
returns-in_err-gain_all c =
    let p = err_from_is_err_and c.from_residual-in_err-gain_all.result c.from_residual-in_err-gain_all.ensures.1 in
    plan_wants c.args.config.now c.args.control.now.entries c.args.demands.now c.from_residual-in_err-gain_all.result p.0 p.1 p.2

pub returns : goal.returns
returns c =
    let cfg = c.args.config.now in
    let control = c.args.control.now in
    let journal = control.entries in
    let past = effects journal in
    let q = c.args.demands.now in
    let trial = c.in_ok-trial.trial in
    let after = c.gain_all.new.trial in
    let named : named_fault cfg q ≡ None = sym c.named_fault.ensures.fault ∙ c.in_default.is in
    let opened : option_map PlanFault.Open (lowest_below (is_open past q) cfg.hosts) ≡ None = ap (option_map PlanFault.Open)
    (sym (c.open_host.ensures ∙ ap (λ (d : Configuration). lowest_below (is_open past q) d.hosts) c.requires.made) ∙ c.in_default-open_host.is) in
    let short : short_between cfg past (effects trial.control.entries) q ≡ None =
    ap (λ (d : Configuration). short_between d past (effects trial.control.entries) q) (sym c.requires.made) ∙ sym c.in_ok-fault.ensures ∙ c.in_default-2.is in
    let gained : TriesMore trial after (gaining cfg past trial.control.entries q.demands) =
    subst (λ (d : Configuration). TriesMore trial after (gaining d past trial.control.entries q.demands)) c.requires.made
    (subst (λ (xs : List Demand). TriesMore trial after (gaining control.config past trial.control.entries xs)) c.as_slice.ensures c.in_ok-gain_all.ensures) in
    plan_ends cfg journal q trial after c.in_ok-trial.ensures gained c.finished.result named opened short c.finished.ensures
