-- Records that are put into a log one by one.
use Rattle.std.proofs.Common.{◌≡◌, ◌+◌, List, [], ◌∷◌, length, refl, sym, ap, ◌∙◌, arith}
use Rattle.std.{specs.Prelude.fold, proofs.lemmas.List.length_push}
use Rattle.dcd_base.specs.declared.steps.LogId.{LogId}
use Rattle.event_log.{proofs.Histories.follows, proofs.Histories.stays, specs.LogStates.LogState, specs.LogStates.with_record}
use Rattle.event_log.specs.Logs.{Log, logged, places_in, recorded, IsLogOf}
use Rattle.event_records.specs.declared.events.Event.{Event}

pub put_count : (log : LogState) (events : List Event) → length (fold with_record log events).records ≡ length log.records + length events
put_count log [] = omega arith
put_count log (e ∷ es) =
    let first : length (with_record log e).records ≡ length log.records + 1 = length_push log.records (record e { handle = log.next }) in
    let others : length (fold with_record (with_record log e) es).records ≡ length (with_record log e).records + length es = put_count (with_record log e) es in
    omega (arith, first, others)

pub put_places : (log : LogState) (events : List Event) → (fold with_record log events).capacity ≡ log.capacity
put_places log [] = refl
put_places log (e ∷ es) = put_places (with_record log e) es

-- so the log is the one of its history still
pub append_logged : (l : LogId) (history : Log) (log : LogState) (events : List Event) → IsLogOf l history log → IsLogOf l (logged history events) (fold with_record log events)
append_logged l history log [] is = is
append_logged l history log (e ∷ es) is = append_logged l (recorded history e) (with_record log e) es (record {
  is = ap (λ (s : LogState). with_record s e) is.is ∙ sym ((follows (places_in l) history is.told).put e);
  told = (stays history is.told).put e;
})
