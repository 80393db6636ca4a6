use Rattle.std.proofs.Common.{◌≡◌, ◌<◌, ◌≤◌, ◌==◌, false, nat_lt, Some, ap, arith, length, subst, sum_by, sym, ◌∙◌}
use Rattle.std.{specs.Prelude.if◌then◌else◌, specs.Prelude.option_map, proofs.lemmas.Bool.le-ltb, proofs.lemmas.Bool.lt-ltb}
use borrow.Author.Count.{below_more}
use Rattle.journal_core.specs.Entries.{effects}
use Rattle.media_map.proofs.PlaceLemmas.{find_none}
use Rattle.region_config.{specs.Configurations.Configuration, proofs.GranuleLemmas.find_range}
use Rattle.plan_rules.specs.{declared.demands.Demand.Demand, Holding.gain, Planning.free_in, Planning.need_in, declared.faults.PlanFault.PlanFault}
use Rattle.pool_planner.proofs.shortness.short_region.Goals as goal

pub returns-then-have-need : goal.returns-then-have-need
returns-then-have-need c =
    let cfg = c.args.control.now.config in
    let before = effects c.args.control.now.entries in
    let after = effects c.args.tried.now.entries in
    let q = c.args.demands.now in
    let r = c.loop-region.region in
    let need_is : c.in_ok-need.need ≡ need_in cfg before q r = c.in_ok-need.ensures ∙ ap (sum_by (λ (x : Demand). if x.region == r then gain cfg before x else 0)) c.as_slice.ensures in
    let have_is : c.from-have.result ≡ free_in cfg after r = c.from-have.ensures ∙ c.free_blocks.ensures ∙ ap (λ (d : Configuration). free_in d after r) c.requires.same in
    let short : free_in cfg after r < need_in cfg before q r = subst (λ n. free_in cfg after r < n) need_is (subst (λ n. n < c.in_ok-need.need) have_is c.if-have-need.true) in
    let known = rw (c.regions-region-end.ensures.value, c.first_config.ensures) at c.loop-region-test.true in
    let found = find_range (λ k. nat_lt (free_in cfg after k) (need_in cfg before q k)) 0 (length cfg.regions) r (omega arith) (omega (arith, known))
    (lt-ltb (free_in cfg after r) (need_in cfg before q r) short) (λ k low high. c.loop-region.invariant k high) in
    (λ i. Some (PlanFault.Short r (need_is i) (have_is i))) ∙ ap (option_map (λ k. PlanFault.Short k (need_in cfg before q k) (free_in cfg after k))) (sym found)

pub loop-region-preserved : goal.loop-region-preserved
loop-region-preserved c =
    let cfg = c.args.control.now.config in
    let before = effects c.args.control.now.entries in
    let after = effects c.args.tried.now.entries in
    let q = c.args.demands.now in
    let r = c.loop-region.region in
    let need_is : c.in_ok-need.need ≡ need_in cfg before q r = c.in_ok-need.ensures ∙ ap (sum_by (λ (x : Demand). if x.region == r then gain cfg before x else 0)) c.as_slice.ensures in
    let have_is : c.from-have.result ≡ free_in cfg after r = c.from-have.ensures ∙ c.free_blocks.ensures ∙ ap (λ (d : Configuration). free_in d after r) c.requires.same in
    let enough : need_in cfg before q r ≤ free_in cfg after r = subst (λ n. n ≤ free_in cfg after r) need_is (subst (λ n. c.in_ok-need.need ≤ n) have_is c.if-have-need.false) in
    below_more (λ k. nat_lt (free_in cfg after k) (need_in cfg before q k) ≡ false) r c.loop-region.invariant (le-ltb (free_in cfg after r) (need_in cfg before q r) enough)

pub returns : goal.returns
returns c =
    let cfg = c.args.control.now.config in
    let before = effects c.args.control.now.entries in
    let after = effects c.args.tried.now.entries in
    let q = c.args.demands.now in
    let past = rw (c.regions-region-end.ensures.value, c.first_config.ensures) at c.loop-region-test.false in
    ap (option_map (λ k. PlanFault.Short k (need_in cfg before q k) (free_in cfg after k)))
    (sym (find_none (λ k. nat_lt (free_in cfg after k) (need_in cfg before q k)) 0 (length cfg.regions) (λ k low high. c.loop-region.invariant k (omega (arith, high, past)))))
