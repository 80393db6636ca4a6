use Rattle.std.proofs.{Common.rules, Common.◌≡◌, Common.◌++◌, Common.length, Common.ap, Common.◌∙◌, Common.append_assoc, lemmas.Result.on_ok_weaker}
use Rattle.dcd_base.specs.Layouts.{spelling}
use Rattle.cci_codec.specs.Messages.{response_head_fields}
use Rattle.tunnel_fabric.proofs.Printed.{response_spelled}
use Rattle.tunnel_fabric.proofs.replying.write_response.Goals as goal

pub returns : goal.returns
returns c =
    let s = c.args.response.now in
    let head : c.as_slice.result.now ≡ spelling (response_head_fields c.args.response.now.tag c.args.response.now.opcode c.args.response.now.code (length c.args.response.now.payload)) = search rules in
    on_ok_weaker c.extend_from_slice-2.result
    (λ (last : c.extend_from_slice-2.new.self ≡ c.extend_from_slice.new.self ++ c.as_slice-payload.result.now).
    last
    ∙ ap (λ xs. xs ++ c.as_slice-payload.result.now) c.in_ok-extend_from_slice.ensures.extended
    ∙ append_assoc c.args.out.now c.as_slice.result.now c.as_slice-payload.result.now
    ∙ ap (λ ys. c.args.out.now ++ ys) (response_spelled c.args.response.now c.as_slice.result.now c.as_slice-payload.result.now head c.as_slice-payload.ensures))
    c.extend_from_slice-2.ensures.extended
