use Rattle.std.{proofs.Common.◌∙◌, proofs.Common.ap, proofs.Common.arith, proofs.Common.sym, proofs.Common.take, specs.Prelude.fold, proofs.lemmas.List.take_all, proofs.lemmas.List.Sums.fold_more}
use Rattle.extent_list.specs.HostLists.{Lists}
use Rattle.control_core.specs.device_state.specs.EnteredLists.{lists_by}
use Rattle.device_plain.proofs.lists_alone.enter_each.Goals as goal

pub enter_in-requires-clause-places : goal.enter_in-requires-clause-places
enter_in-requires-clause-places c = c.has_places.ensures c.args.host c.if-not-has_places.false

pub loop-effect-preserved : goal.loop-effect-preserved
loop-effect-preserved c =
    let conf = c.args.config.now in
    let h = c.args.host in
    let e = c.effect-item.result in
    let es = c.args.changes.now in
    let i = c.loop-effect.effect-index in
    let l = c.args.lists.now in
    c.enter_in.ensures
    ∙ ap (λ (m : Lists). lists_by conf h m e) c.loop-effect.invariant
    ∙ ap (lists_by conf h (fold (lists_by conf h) l (take i es))) c.effect-item.is
    ∙ sym (fold_more (lists_by conf h) l es i e c.loop-effect-test.true)

pub returns : goal.returns
returns c =
    let conf = c.args.config.now in
    let h = c.args.host in
    let es = c.args.changes.now in
    let i = c.loop-effect.effect-index in
    c.loop-effect.invariant ∙ ap (fold (lists_by conf h) c.args.lists.now) (take_all i es (omega (arith, c.loop-effect-test.false)))
