use Rattle.std.proofs.Common.{◌<◌, ◌∷◌, ◌++◌, [], ℕ, List, ap, arith, length, map, take, sym, ◌∙◌}
use Rattle.std.proofs.lemmas.{List.length-append, List.map-append, List.take_more, Option.get_or_from_slice_get}
use Rattle.event_records.specs.declared.events.Event.{Event}
use Rattle.pool_planner.proofs.letting_go.handles_of.Goals as goal

pub loop-i-preserved : goal.loop-i-preserved
loop-i-preserved c =
    let records = c.args.log.now.records in
    let i = c.loop-i.i in
    let e = c.at.result in
    let handle = λ (e : Event). e.handle in
    let below : i < length records = omega (arith, c.loop-i-test.true, c.len-i-end.ensures.len) in
    record {
      those = c.in_ok-push.ensures.pushed
          ∙ ap (λ (hs : List ℕ). hs ++ e.handle ∷ []) c.loop-i.invariant.those
          ∙ sym (ap (map handle) (take_more records i e below ∙ ap (λ (x : Event). take i records ++ x ∷ []) (get_or_from_slice_get records i e e c.at.ensures))
          ∙ map-append handle (take i records) (e ∷ []));
      few = omega (arith, c.loop-i.invariant.few, ap length c.in_ok-push.ensures.pushed, length-append c.loop-i.handles (e.handle ∷ []));
    }
