use Rattle.std.proofs.{Common.◌≡◌, Common.◌≤◌, Common.None, Common.arith, Common.length, Common.subst, Common.sym, lemmas.List.take_all}
use Rattle.dcd_codes.specs.Rules.{each_in}
use Rattle.extent_list.specs.Listed.{listed_rule}
use Rattle.extent_list.proofs.listed.first_unfit.Goals as goal

pub returns-then-fit-list : goal.returns-then-fit-list
returns-then-fit-list c =
    let all : length c.args.list.now ≤ c.fit_in_front-fit.result = omega (arith, c.if-fit-list.true) in
    sym (subst (λ xs. each_in xs (listed_rule c.args.config.now c.args.host c.args.within.now c.args.owners.now c.args.owned) ≡ None)
    (take_all c.fit_in_front-fit.result c.args.list.now all) (c.fit_in_front-fit.ensures.fit c.args.owned))
