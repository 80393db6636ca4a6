use Rattle.std.proofs.{Common.◌≡◌, Common.◌+◌, Common.take, Common.length, Common.ap, Common.◌∙◌, Common.arith, lemmas.List.length-take-le}
use Rattle.event_log.specs.LogStates.{LogState}
use Rattle.device_plain.proofs.LogPuts.{put_count, put_places}
use Rattle.device_plain.proofs.bringing.append_all.Goals as goal

pub returns-in-Err-clause-full : goal.returns-in-Err-clause-full
returns-in-Err-clause-full c =
    let done = take c.loop-i.i c.args.events.now in
    let count : length c.loop-i.log.records ≡ length c.args.log.now.records + length (take c.loop-i.i c.args.events.now) =
    ap (λ (l : LogState). length l.records) c.loop-i.invariant ∙ put_count c.args.log.now done in
    let places : c.loop-i.log.capacity ≡ c.args.log.now.capacity = ap (λ (l : LogState). l.capacity) c.loop-i.invariant ∙ put_places c.args.log.now done in
    let some : length (take c.loop-i.i c.args.events.now) ≡ c.loop-i.i = length-take-le c.loop-i.i c.args.events.now (omega arith) in
    omega (arith, count, places, some, c.in-Err.ensures.full, c.loop-i-test.true)
