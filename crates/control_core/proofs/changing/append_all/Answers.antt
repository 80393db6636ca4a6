use Rattle.std.proofs.Common.{[], ◌∷◌, ◌++◌, List, arith, take, ap, sym, subst, ◌∙◌}
use Rattle.std.proofs.lemmas.List.{take_all, take_more}
use Rattle.cci_codec.specs.dcd_base.specs.declared.media.Change.{Change}
use Rattle.journal_core.specs.declared.outcome.Effect.{Effect}
use Rattle.extent_list.specs.media_map.specs.region_config.specs.Granules.{granule_total}
use Rattle.control_core.specs.PutChanges.{ArePut}
use Rattle.control_core.proofs.changing.append_all.Goals as goal

pub loop-i-preserved : goal.loop-i-preserved
loop-i-preserved c =
    let effects = c.args.effects.now in
    let i = c.loop-i.i in
    let more = take_more effects i _ c.loop-i-test.true ∙ ap (λ (e : Effect). take i c.args.effects.now ++ e ∷ []) (sym c.index-effects-i.is) in
    record {
      put = subst (λ (es : List Effect). ArePut (granule_total c.args.config.now) c.args.holders.now es c.append_change.new.changes) (sym more)
          (c.in_ok-append_change.ensures.put (take i c.args.effects.now) c.loop-i.invariant.put);
      inside = c.in_ok-append_change.ensures.inside c.loop-i.invariant.inside;
      sound = λ none. c.in_ok-append_change.ensures.sound none (c.loop-i.invariant.sound none);
      region = c.append_change.ensures.region;
    }

pub returns-then-quiet-effects-clause-put : goal.returns-then-quiet-effects-clause-put
returns-then-quiet-effects-clause-put c =
    let n = granule_total c.args.config.now in
    let holders = c.args.holders.now in
    let all = take_all c.quiet_front-quiet.result c.args.effects.now (omega (arith, c.if-quiet-effects.true)) in
    subst (λ (changes : List Change). ArePut n holders c.args.effects.now changes) (sym c.new.ensures)
    (subst (λ (es : List Effect). ArePut n holders es []) all (c.quiet_front-quiet.ensures.quiet n holders))
