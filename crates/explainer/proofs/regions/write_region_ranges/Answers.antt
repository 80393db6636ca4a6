use Rattle.std.{proofs.Common.◌++◌, specs.Prelude.codes, specs.Int.w64}
use Rattle.dcd_base.specs.Layouts.{number_at}
use Rattle.explainer.{specs.PartWords.decode_bytes, specs.PartWords.labelled_size, specs.PartWords.region_ranges, proofs.ReplyLists.put_last, proofs.ReplyLists.put_then}
use Rattle.explainer.proofs.regions.write_region_ranges.Goals as goal

pub returns : goal.returns
unfolding region_ranges
returns c =
    let out = c.args.out.now in
    let bytes = c.args.bytes.now in
    put_last out (labelled_size (codes "region base ") (number_at w64 bytes 0) ++ labelled_size (codes " length ") (number_at w64 bytes 16) ++ labelled_size (codes " block ") (number_at w64 bytes 24)) c.write_decode.new.out (labelled_size (codes " decode ") (decode_bytes (number_at w64 bytes 8))) c.write_decode.result (put_then out (labelled_size (codes "region base ") (number_at w64 bytes 0) ++ labelled_size (codes " length ") (number_at w64 bytes 16)) (labelled_size (codes " block ") (number_at w64 bytes 24)) (put_then out (labelled_size (codes "region base ") (number_at w64 bytes 0)) (labelled_size (codes " length ") (number_at w64 bytes 16)) c.in_ok-write_size_at.ensures c.in_ok-write_size_at-2.ensures) c.in_ok-write_size_at-3.ensures) c.write_decode.ensures
