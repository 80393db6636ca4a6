use Rattle.std.proofs.{Common.◌∙◌, Common.◌<◌, Common.length, Common.sym, Common.arith, lemmas.Option.slice_get_within}
use Rattle.event_log.proofs.Clearing.{in_place, out_of_place, past_records}
use Rattle.event_log.proofs.logs.EventLog.clear_fault.Goals as goal

pub returns-in-None-clause-fault : goal.returns-in-None-clause-fault
returns-in-None-clause-fault c =
    past_records _ _ _ c.loop-i-test.true (sym c.in-None.ensures) ∙ c.loop-i.invariant.rest

pub returns-then-handle-oldest-clause-fault : goal.returns-then-handle-oldest-clause-fault
returns-then-handle-oldest-clause-fault c =
    rw c.handle_fault.ensures (out_of_place _ _ _ _ c.loop-i-test.true (sym c.in-Some.ensures) c.if-handle-oldest.true ∙ c.loop-i.invariant.rest)

pub loop-i-preserved : goal.loop-i-preserved
loop-i-preserved c = record {
  rest = in_place _ _ _ _ c.loop-i-test.true (sym c.in-Some.ensures) c.if-handle-oldest.false ∙ c.loop-i.invariant.rest;
  within = let at : c.loop-i.i < length c.args.self.now.records = slice_get_within _ _ _ (sym c.in-Some.ensures) in omega arith;
}
