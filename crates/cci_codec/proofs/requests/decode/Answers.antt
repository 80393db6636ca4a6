use Rattle.std.proofs.Common.{rules, ◌≡◌, ◌∙◌, slice_index, None, sym, arith}
use Rattle.cci_codec.{proofs.Reading.no_fault_read, proofs.Reading.request_reads, proofs.Reading.request_read, specs.Messages.message_fault, specs.Messages.request_in}
use Rattle.cci_codec.specs.declared.messages.Request.{Request}
use Rattle.cci_codec.proofs.requests.decode.Goals as goal

pub returns-in_err-sound-clause-only : goal.returns-in_err-sound-clause-only
returns-in_err-sound-clause-only c = λ request reads. absurd (no_fault_read c.args.bytes.now request _ reads c.in_err-sound.ensures)

pub returns-clause-reads : goal.returns-clause-reads
returns-clause-reads c =
    let same : ◌≡◌ {A = Request} (record { tag = slice_index c.split_at.result.0.now 1; opcode = c.u16_at.result; payload = c.in_ok-from_slice.field-0 }) (request_in c.args.bytes.now) = search rules in
    let none : message_fault c.args.bytes.now ≡ None = search rules in
    rw same (request_reads c.args.bytes.now (λ i. omega (arith, c.type_inv.bytes i)) none)

pub returns-clause-only : goal.returns-clause-only
returns-clause-only c = λ request reads.
    let same : ◌≡◌ {A = Request} (record { tag = slice_index c.split_at.result.0.now 1; opcode = c.u16_at.result; payload = c.in_ok-from_slice.field-0 }) (request_in c.args.bytes.now) = search rules in
    same ∙ sym (request_read _ request reads).1
