use Rattle.std.proofs.{Common.◌≡◌, Common.◌∙◌, Common.List, Common.ap, Common.subst, Common.sym, Common.take, lemmas.List.Elements.All-take}
use Rattle.std.specs.Prelude.{All, fold}
use Rattle.extent_list.specs.HostLists.{Lists}
use Rattle.journal_core.specs.declared.outcome.Effect.{Effect}
use Rattle.device_state.{specs.EnteredLists.lists_by, specs.Leaves.HasRun, specs.Leaves.IsLeaving, specs.Leaves.left_over, specs.Leaves.lists_left, proofs.Leaves.own_left, proofs.Leaves.own_runs_fit}
use Rattle.device_state.proofs.own_lists.enter_front.Goals as goal

pub ranges_of-ranges-requires-clause-runs : goal.ranges_of-ranges-requires-clause-runs
ranges_of-ranges-requires-clause-runs c =
    let conf = c.args.config.now in
    let h = c.args.host in
    let es = c.args.effects.now in
    subst (λ (xs : List Effect). All (HasRun conf h) xs) (sym c.split_at.ensures.front)
    (All-take (HasRun conf h) c.leaving_front-front.result es (own_runs_fit conf h c.args.lists.now es c.requires.fits))

pub ranges_of-ranges-requires-clause-leaving : goal.ranges_of-ranges-requires-clause-leaving
ranges_of-ranges-requires-clause-leaving c =
    subst (λ (xs : List Effect). All (IsLeaving c.args.host) xs) (sym c.split_at.ensures.front) c.leaving_front-front.ensures.leaving

pub returns-then-front-gt1-clause-entered : goal.returns-then-front-gt1-clause-entered
returns-then-front-gt1-clause-entered c =
    let conf = c.args.config.now in
    let h = c.args.host in
    let l = c.args.lists.now in
    let ranges = c.as_slice.ensures ∙ c.ranges_of-ranges.ensures.ranges ∙ ap (left_over conf h) c.split_at.ensures.front in
    c.enter_leaves.ensures ∙ (λ i. lists_left (ranges i) l) ∙ sym (own_left conf h (take c.leaving_front-front.result c.args.effects.now) l c.leaving_front-front.ensures.leaving)
