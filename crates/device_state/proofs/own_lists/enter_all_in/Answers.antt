use Rattle.std.proofs.{Common.◌∙◌, Common.List, Common.ap, Common.arith, Common.drop, Common.subst, Common.sym, Common.take, Math.Seq.take-add, lemmas.List.take_all, lemmas.List.Sums.fold-append}
use Rattle.std.specs.Prelude.{fold}
use Rattle.extent_list.specs.HostLists.{Lists}
use Rattle.journal_core.specs.declared.outcome.Effect.{Effect}
use Rattle.device_state.{specs.EnteredLists.OwnFits, specs.EnteredLists.lists_by, proofs.OwnEffects.own_fits_behind}
use Rattle.device_state.proofs.own_lists.enter_all_in.Goals as goal

pub enter_front-done-requires-clause-fits : goal.enter_front-done-requires-clause-fits
enter_front-done-requires-clause-fits c =
    let conf = c.args.config.now in
    let h = c.args.host in
    let es = c.args.effects.now in
    let done = c.loop-done.done in
    let l = c.args.lists.now in
    subst (λ (rest : List Effect). OwnFits conf h c.loop-done.lists rest) (sym c.split_at.ensures.back)
    (subst (λ (m : Lists). OwnFits conf h m (drop done es)) (sym c.loop-done.invariant.entered) (own_fits_behind conf h l done es c.requires.fits))

pub loop-done-preserved : goal.loop-done-preserved
loop-done-preserved c =
    let conf = c.args.config.now in
    let h = c.args.host in
    let es = c.args.effects.now in
    let done = c.loop-done.done in
    let n = c.enter_front-done.result in
    let l = c.args.lists.now in
    let so_far = c.loop-done.invariant in
    record {
      within = omega (arith, c.enter_front-done.ensures.known, c.split_at.ensures.back_len, so_far.within);
      entered = c.enter_front-done.ensures.entered
          ∙ (λ i. fold (lists_by conf h) (so_far.entered i) (take n (c.split_at.ensures.back i)))
          ∙ sym (fold-append (lists_by conf h) l (take done es) (take n (drop done es)))
          ∙ ap (fold (lists_by conf h) l) (sym (take-add done n es));
    }

pub returns : goal.returns
returns c =
    let conf = c.args.config.now in
    let h = c.args.host in
    let es = c.args.effects.now in
    c.loop-done.invariant.entered ∙ ap (fold (lists_by conf h) c.args.lists.now) (take_all c.loop-done.done es (omega (arith, c.loop-done-test.false)))
