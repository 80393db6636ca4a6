use Rattle.std.proofs.Common.{◌+◌, ◌++◌, drop, length, ap, ◌∙◌}
use Rattle.dcd_c.proofs.ResponseParts.{write_two, response_count, response_parts}
use Rattle.dcd_c.proofs.responses.put_response.Goals as goal

pub returns-clause-count : goal.returns-clause-count
returns-clause-count c =
    let head = c.as_slice.ensures ∙ (rw c.as_slice-payload.ensures at c.response_head-head.ensures) in
    response_count c.args.response.now c.as_slice.result.now c.as_slice-payload.result.now (ap length head) head c.as_slice-payload.ensures

pub returns-clause-bytes : goal.returns-clause-bytes
returns-clause-bytes c =
    let head = c.as_slice.ensures ∙ (rw c.as_slice-payload.ensures at c.response_head-head.ensures) in
    write_two c.args.room.now c.put_bytes.new.out c.put_bytes-2.new.out c.as_slice.result.now c.as_slice-payload.result.now (ap length head)
    c.put_bytes.ensures.put c.put_bytes.ensures.rest c.put_bytes-2.ensures.put c.put_bytes-2.ensures.rest
    ∙ ap (λ xs. xs ++ drop (12 + length c.as_slice-payload.result.now) c.args.room.now) (response_parts c.args.response.now c.as_slice.result.now c.as_slice-payload.result.now head c.as_slice-payload.ensures)
