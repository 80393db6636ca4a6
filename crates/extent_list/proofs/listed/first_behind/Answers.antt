use Rattle.std.proofs.{Common.sym, Common.◌∙◌, Common.◌≡◌, Common.◌≤◌, Common.length, Common.arith, Common.subst, Common.None, lemmas.List.take_all}
use Rattle.dcd_codes.{proofs.RuleSteps.each_in_found, proofs.RuleSteps.each_in_more, specs.Rules.each_in}
use Rattle.extent_list.{proofs.FirstOwner.no_extent, specs.Listed.listed_rule}
use Rattle.extent_list.proofs.listed.first_behind.Goals as goal

pub loop-i-preserved : goal.loop-i-preserved
loop-i-preserved c =
    each_in_more (listed_rule c.args.config.now c.args.host c.args.within.now c.args.owners.now c.args.owned) c.args.list.now c.loop-i.i no_extent c.loop-i-test.true c.loop-i.invariant (sym c.broken_by.ensures ∙ c.in_default.is)

pub returns-in-Some : goal.returns-in-Some
returns-in-Some c =
    sym (each_in_found (listed_rule c.args.config.now c.args.host c.args.within.now c.args.owners.now c.args.owned) c.args.list.now c.loop-i.i no_extent c.in-Some.rule c.loop-i-test.true c.loop-i.invariant (sym c.broken_by.ensures ∙ c.in-Some.is))

pub returns : goal.returns
returns c =
    let all : length c.args.list.now ≤ c.loop-i.i = omega (arith, c.loop-i-test.false) in
    sym (subst (λ xs. each_in xs (listed_rule c.args.config.now c.args.host c.args.within.now c.args.owners.now c.args.owned) ≡ None) (take_all c.loop-i.i c.args.list.now all) c.loop-i.invariant)

pub broken_by-requires-clause-apart : goal.broken_by-requires-clause-apart
broken_by-requires-clause-apart c = λ yes. c.are_apart-apart.ensures.apart yes c.loop-i.i no_extent c.loop-i-test.true
