use Rattle.std.proofs.{Common.◌≡◌, Common.◌++◌, lemmas.Result.on_ok_weaker}
use Rattle.cci_codec.specs.Messages.{request_bytes, WritesRequest}
use Rattle.script_codec.proofs.writing.write_request.Goals as goal

pub returns : goal.returns
unfolding WritesRequest
returns c =
    on_ok_weaker c.encode_request.result
    (λ (last : c.encode_request.new.out ≡ c.args.out.now ++ request_bytes c.args.request.now). record { fits = c.law_request_is_spelled.ensures.fits; is = last })
    c.encode_request.ensures.appended
