use Rattle.std.proofs.Common.{[], ◌∷◌, ◌++◌, ◌≡◌, List, take, ap, sym, subst, ◌∙◌, arith, length}
use Rattle.std.proofs.lemmas.List.{take_more}
use Rattle.journal_core.specs.declared.outcome.Effect.{Effect}
use Rattle.control_core.{specs.PutChanges.ArePut, proofs.Changed.put_none}
use Rattle.control_core.proofs.changing.quiet_front.Goals as goal

pub loop-i-preserved : goal.loop-i-preserved
loop-i-preserved c =
    let effects = c.args.effects.now in
    let e = c.index-effects-i.result in
    let more = take_more effects c.loop-i.i _ c.loop-i-test.true ∙ ap (λ (x : Effect). take c.loop-i.i c.args.effects.now ++ x ∷ []) (sym c.index-effects-i.is) in
    λ n holders. subst (λ (es : List Effect). ArePut n holders es []) (sym more)
    (put_none n holders e [] (sym c.touched_run.ensures ∙ c.in-None.is) (take c.loop-i.i effects) (c.loop-i.invariant n holders))

pub returns-clause-quiet : goal.returns-clause-quiet
returns-clause-quiet c =
    let end : c.loop-i.i ≡ length c.args.effects.now = omega (arith, c.loop-i.auto.i-end, c.loop-i-test.false) in
    λ n holders. subst (λ i. ArePut n holders (take i c.args.effects.now) []) end (c.loop-i.invariant n holders)
