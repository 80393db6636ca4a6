use Rattle.std.{proofs.Common.◌∙◌, proofs.Common.ap, specs.Prelude.drop}
use Rattle.script_codec.proofs.Moves.{let_go_same}
use Rattle.script_codec.proofs.own_reader.OwnReader.let_go.Goals as goal

pub returns-then-place-len : goal.returns-then-place-len
returns-then-place-len c =
    let r = c.self.inside in
    let_go_same r.before r.left r.hosts r.lanes r.place r.bytes c.behind.result (c.behind.ensures ∙ ap (drop r.place) c.replace-bytes.ensures.value) c.self.invariant.0 ∙ c.self.view_is
