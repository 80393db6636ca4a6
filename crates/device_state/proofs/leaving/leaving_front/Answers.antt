use Rattle.std.proofs.{Common.◌<◌, Common.length, Common.rules, Common.subst, lemmas.List.Elements.All-more}
use Rattle.device_state.specs.Leaves.{IsLeaving}
use Rattle.device_state.proofs.leaving.leaving_front.Goals as goal

pub loop-i-preserved : goal.loop-i-preserved
loop-i-preserved c =
    let h = c.args.host in
    let e = c.index-effects-i.result in
    let below : c.loop-i.i < length c.args.effects.now = search rules in
    All-more (IsLeaving h) c.args.effects.now c.loop-i.i e below c.loop-i.invariant (subst (IsLeaving h) c.index-effects-i.is (c.is_leaving.ensures c.if-not-is_leaving.false))
