use Rattle.std.{proofs.Common.◌++◌, specs.Prelude.codes, specs.Int.w32}
use Rattle.dcd_base.specs.Layouts.{number_at}
use Rattle.explainer.{specs.PartWords.counts_words, specs.PartWords.labelled, proofs.ReplyLists.put_last, proofs.ReplyLists.put_then}
use Rattle.explainer.proofs.regions.write_counts.Goals as goal

pub returns : goal.returns
unfolding counts_words
returns c =
    let out = c.args.out.now in
    let bytes = c.args.bytes.now in
    put_last out (labelled (codes "extents at most ") (number_at w32 bytes 0) ++ labelled (codes ", room for ") (number_at w32 bytes 4) ++ labelled (codes "; tags at most ") (number_at w32 bytes 8)) c.write_u32-4.new.out (labelled (codes ", room for ") (number_at w32 bytes 12)) c.write_u32-4.result (put_then out (labelled (codes "extents at most ") (number_at w32 bytes 0) ++ labelled (codes ", room for ") (number_at w32 bytes 4)) (labelled (codes "; tags at most ") (number_at w32 bytes 8)) (put_then out (labelled (codes "extents at most ") (number_at w32 bytes 0)) (labelled (codes ", room for ") (number_at w32 bytes 4)) c.in_ok-write_u32.ensures c.in_ok-write_u32-2.ensures) c.in_ok-write_u32-3.ensures) c.write_u32-4.ensures
