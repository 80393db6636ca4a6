use Rattle.std.proofs.{Common.◌≡◌, Common.ap, Common.sym, Common.◌∙◌, Common.take, Common.None, Common.arith, lemmas.Result.err_from_is_err_and}
use Rattle.event_records.specs.Records.{record_fault}
use Rattle.dcd_base.proofs.Pieces.{pieces-goes_on}
use Rattle.host_driver.{specs.Pages.bad_at, specs.Pages.event_in, proofs.Events.bad_behind, proofs.Events.bad_here}
use Rattle.host_driver.proofs.pages.events_of.Goals as goal

pub returns-in_err-event-clause-fault : goal.returns-in_err-event-clause-fault
returns-in_err-event-clause-fault c =
    let p = err_from_is_err_and c.from_residual-in_err-event.result c.from_residual-in_err-event.ensures.1 in
    rw (p.1, p.2) (λ real. sym c.loop-index.invariant.sound
    ∙ bad_here c.loop-index.index c.args.count c.loop-index.index c.loop-index.rest.now _ c.loop-index-test.true
    (ap (λ piece. bad_at c.loop-index.index (record_fault piece)) (sym c.split_at.ensures.front)
    ∙ ap (λ n. bad_at n (record_fault c.split_at.result.0.now)) (sym number) ∙ c.in_err-event.ensures.fault))
  where
    number : c.from-in-loop-index.result ≡ c.loop-index.index
    number = omega (arith, c.from-in-loop-index.ensures)

pub loop-index-preserved : goal.loop-index-preserved
loop-index-preserved c = record {
  whole = omega (arith, c.loop-index.invariant.whole, c.split_at.ensures.back_len, c.loop-index-test.true);
  read = rw (c.in_ok-push.ensures.pushed, c.in_ok-event.ensures.found, c.split_at.ensures.front, c.split_at.ensures.back)
      (pieces-goes_on event_in 128 c.args.count c.loop-index.index c.loop-index.events c.loop-index.rest.now _ c.loop-index-test.true c.loop-index.invariant.read);
  sound = rw c.split_at.ensures.back (sym (bad_behind c.loop-index.index c.args.count c.loop-index.index c.loop-index.rest.now c.loop-index-test.true here) ∙ c.loop-index.invariant.sound);
}
  where
    here : record_fault (take 128 c.loop-index.rest.now) ≡ None
    here = ap record_fault (sym c.split_at.ensures.front) ∙ c.in_ok-event.ensures.sound
