use Rattle.std.{proofs.Common.◌∙◌, proofs.Common.ap, proofs.Common.sym, proofs.Common.subst, proofs.Common.get_or, specs.Prelude.All, proofs.lemmas.List.Sums.fold_more}
use Rattle.device_state.{proofs.OfDevice.all_alike, proofs.OfDevice.alike-by, proofs.Stages.cells_more, proofs.Stages.parts_more, specs.Entered.holders_by, specs.Entered.present_by}
use Rattle.device_state.specs.Updates.{IsOfDevice}
use Rattle.device_state.proofs.state.State.change_all.Goals as goal

pub loop-effect-preserved : goal.loop-effect-preserved
loop-effect-preserved c =
    let e = c.effect-item.result in
    let es = c.args.effects.now in
    let old = c.args.self.now in
    let mid = c.loop-effect.self in
    let below = c.loop-effect-test.true in
    let is = c.effect-item.is in
    let so_far = c.loop-effect.invariant in
    let one = c.change.ensures in
    record {
      last = one.last;
      cells = cells_more c.args.config.now old mid c.change.new.self es c.loop-effect.effect-index e below is c.requires.hosts
          (subst (λ x. IsOfDevice c.args.config.now x) (sym is) (c.requires.of_device c.loop-effect.effect-index e below)) so_far.parts so_far.tags so_far.cells one.cells;
      present = one.present ∙ ap (present_by mid.present) is ∙ ap (λ p. present_by p (get_or es c.loop-effect.effect-index e)) so_far.present ∙ sym (fold_more present_by old.present es c.loop-effect.effect-index e below);
      holders = one.holders ∙ ap (holders_by mid.holders) is ∙ ap (λ p. holders_by p (get_or es c.loop-effect.effect-index e)) so_far.holders ∙ sym (fold_more holders_by old.holders es c.loop-effect.effect-index e below);
      parts = parts_more old mid c.change.new.self es c.loop-effect.effect-index e below is so_far.parts one.parts;
      tags = one.tags ∙ so_far.tags;
      of_present = subst (λ p. All (IsOfDevice p) es) (sym one.present) (all_alike mid.present (present_by mid.present e) (alike-by mid.present e) es so_far.of_present);
    }
