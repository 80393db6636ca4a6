use Rattle.std.proofs.Common.{◌≡◌, ◌+◌, ◌^◌, ◌<◌, ◌++◌, ◌∙◌, [], ◌∷◌, ap, arith, length, subst, sym}
use Rattle.std.{specs.Prelude.All, proofs.lemmas.List.append-nil, proofs.lemmas.List.length_push, proofs.lemmas.List.Elements.All-push}
use Rattle.cci_codec.specs.dcd_base.specs.declared.capacity.Extent.{Extent}
use Rattle.device_state.{specs.Leaves.HasRun, proofs.Leaves.ranges_more, proofs.leaving.ranges_of.Goals.in-Some, proofs.leaving.ranges_of.Goals.in_default}
use Rattle.device_state.proofs.leaving.ranges_of.Goals as goal

pub range_of-requires-clause-run : goal.range_of-requires-clause-run
range_of-requires-clause-run c =
    subst (HasRun c.args.config.now c.args.host) (sym c.effect-item.is) (c.requires.runs c.loop-effect.effect-index c.effect-item.result c.loop-effect-test.true)

pub loop-effect-preserved : goal.loop-effect-preserved
loop-effect-preserved c =
    let conf = c.args.config.now in
    let h = c.args.host in
    let es = c.args.effects.now in
    let i = c.loop-effect.effect-index in
    let e = c.effect-item.result in
    let ranges = c.loop-effect.ranges in
    let so_far = c.loop-effect.invariant in
    elim c.match-range_of.branch [
      | in-Some w ↦
          let more : c.match-range_of.ranges ≡ ranges ++ w.in-Some.range ∷ [] = w.ranges-is ∙ w.push.ensures in
          record {
            ranges = ranges_more conf h es i e ranges (w.in-Some.range ∷ []) c.match-range_of.ranges c.loop-effect-test.true c.effect-item.is so_far.ranges w.in-Some.ensures.range more;
            few = omega (arith, ap length more, length_push ranges w.in-Some.range, so_far.few);
            ends = subst (All (λ (x : Extent). x.start + x.length < 2 ^ 64)) (sym more) (All-push (λ (x : Extent). x.start + x.length < 2 ^ 64) ranges w.in-Some.range so_far.ends w.in-Some.ensures.end);
          }
      | in_default w ↦
          let none : c.match-range_of.ranges ≡ ranges = w.ranges-is in
          record {
            ranges = ranges_more conf h es i e ranges [] c.match-range_of.ranges c.loop-effect-test.true c.effect-item.is so_far.ranges w.in_default.ensures.range (none ∙ sym (append-nil ranges));
            few = omega (arith, ap length none, so_far.few);
            ends = subst (All (λ (x : Extent). x.start + x.length < 2 ^ 64)) (sym none) so_far.ends;
          }
    ]
