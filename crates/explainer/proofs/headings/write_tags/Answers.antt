use Rattle.std.{proofs.Common.◌++◌, specs.Prelude.codes, specs.Int.w32}
use Rattle.dcd_base.specs.Layouts.{number_at}
use Rattle.explainer.{specs.PartWords.labelled, specs.ReplyWords.tags_heading, proofs.ReplyLists.put_last, proofs.ReplyLists.put_then}
use Rattle.explainer.proofs.headings.write_tags.Goals as goal

pub returns : goal.returns
unfolding tags_heading
returns c =
    let out = c.args.out.now in
    let bytes = c.args.head.now in
    put_last out (labelled (codes "tags ") (number_at w32 bytes 4) ++ labelled (codes " of ") (number_at w32 bytes 8)) c.write_u32-3.new.out (labelled (codes " from index ") (number_at w32 bytes 0)) c.write_u32-3.result (put_then out (labelled (codes "tags ") (number_at w32 bytes 4)) (labelled (codes " of ") (number_at w32 bytes 8)) c.in_ok-write_u32.ensures c.in_ok-write_u32-2.ensures) c.write_u32-3.ensures
