use Rattle.std.proofs.Common.{[], ◌∷◌, ◌++◌, ap, sym, take, ◌∙◌, ◌<◌, length, arith}
use Rattle.std.proofs.lemmas.{List.take_more, Option.get_or_from_slice_get}
use Rattle.device_commands.proofs.get_event_records.oldest.Goals as goal

pub loop-index-preserved : goal.loop-index-preserved
loop-index-preserved c =
    let records = c.args.log.now.records in
    let within : c.loop-index.index < length c.args.log.now.records = omega (arith, c.loop-index-test.true, c.min-index-end.ensures, c.len.ensures.len) in
    c.in_ok-push.ensures.pushed
    ∙ ap (λ events. events ++ c.at.result ∷ []) c.loop-index.invariant
    ∙ ap (λ event. take c.loop-index.index c.args.log.now.records ++ event ∷ []) (sym (get_or_from_slice_get records c.loop-index.index c.at.result c.at.result c.at.ensures))
    ∙ sym (take_more records c.loop-index.index c.at.result within)
