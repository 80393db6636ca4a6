use Rattle.std.proofs.Common.{List, [], ◌∷◌, ◌++◌, subst, sym}
use Rattle.journal_core.specs.declared.outcome.Effect.{Effect}
use Rattle.control_core.specs.Pasts.{EntersStep, IsOfStep}
use Rattle.device_plain.proofs.LifeSteps.{can_inside, can_with_room, life_inside, life_seen, life_taken, whole_taken}
use Rattle.device_plain.specs.{Accesses.AreZeroed, Lives.CanTake, Lives.Living, Lives.TakesEffects, Lives.living, Lives.without_spare}
use Rattle.device_plain.proofs.live.LiveDevice.take.Goals as goal

pub enter-requires-clause-step : goal.enter-requires-clause-step
enter-requires-clause-step c =
    let control = c.self.inside.control in
    let can = subst (λ (d : Living). CanTake d c.args.new.now) (sym c.self.view_is) c.requires in
    subst (λ (es : List Effect). IsOfStep c.make_room.new.self es) (sym c.as_slice-2.ensures)
    (can_with_room control.config control.state c.self.inside.words c.make_room.new.self c.args.new.now c.make_room.ensures.config c.make_room.ensures.kept c.make_room.ensures.tags
    (can_inside control.config control.state c.self.inside.words c.args.new.now can))

pub invariant_of-self-2 : goal.invariant_of-self-2
invariant_of-self-2 c =
    let control = c.self.inside.control in
    let can = subst (λ (d : Living). CanTake d c.args.new.now) (sym c.self.view_is) c.requires in
    let enters = subst (λ (es : List Effect). EntersStep c.make_room.new.self c.enter.new.self es) c.as_slice-2.ensures c.enter.ensures.entered in
    let zeroed = subst (AreZeroed c.self.inside.words c.zero_all.new.words) c.as_slice.ensures c.zero_all.ensures.words in
    whole_taken control.config control.state c.self.inside.words c.zero_all.new.words c.make_room.new.self c.enter.new.self c.args.new.now
    c.make_room.ensures.config c.make_room.ensures.kept c.make_room.ensures.tags zeroed c.enter.ensures.config enters
    c.self.invariant.granules c.zero_all.ensures.granules
    (can_inside control.config control.state c.self.inside.words c.args.new.now can)

pub returns-clause-taken : goal.returns-clause-taken
returns-clause-taken c =
    let control = c.self.inside.control in
    let enters = subst (λ (es : List Effect). EntersStep c.make_room.new.self c.enter.new.self es) c.as_slice-2.ensures c.enter.ensures.entered in
    let zeroed = subst (AreZeroed c.self.inside.words c.zero_all.new.words) c.as_slice.ensures c.zero_all.ensures.words in
    subst (λ (d : Living). TakesEffects d (living c.enter.new.self.config (without_spare c.enter.new.self.state) c.zero_all.new.words) c.args.new.now) c.self.view_is
    (λ life leads e of_control meets has.
    life_seen c.enter.new.self.config c.enter.new.self.state c.zero_all.new.words (life ++ e ∷ [])
    (life_taken control.config control.state c.self.inside.words c.zero_all.new.words c.make_room.new.self c.enter.new.self c.args.new.now
    c.make_room.ensures.config c.make_room.ensures.kept c.make_room.ensures.tags zeroed c.enter.ensures.config enters
    life (life_inside control.config control.state c.self.inside.words life leads) e of_control meets has))
