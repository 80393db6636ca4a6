use Rattle.std.proofs.lemmas.Result.{on_ok_weaker}
use Rattle.cci_codec.specs.Messages.{request_fields}
use Rattle.script_codec.{specs.Writing.AppendsLines, proofs.Adding.appends_then}
use Rattle.script_codec.proofs.writing.write_command.Goals as goal

pub returns : goal.returns
returns c =
    on_ok_weaker c.write_request.result
    (λ (last : AppendsLines c.write_u16.new.out c.write_request.new.out (request_fields c.args.request.now)).
    appends_then c.in_ok-write_u8.ensures
    (appends_then (rw c.byte_of.ensures at c.in_ok-write_u8-2.ensures)
    (appends_then (rw c.as_slice.ensures at c.in_ok-write_u16.ensures) last)))
    c.write_request.ensures
