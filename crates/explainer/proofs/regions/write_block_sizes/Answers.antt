use Rattle.std.{proofs.Common.◌++◌, proofs.Common.◌≡◌, specs.Prelude.codes, specs.Int.w32, specs.Int.w64}
use Rattle.dcd_base.specs.Layouts.{number_at}
use Rattle.script_text.specs.text_lines.specs.Sizes.{sizes_text}
use Rattle.explainer.proofs.ReplyLists.{put_last}
use Rattle.explainer.specs.{PartWords.counts_words, PartWords.decode_bytes, PartWords.labelled, PartWords.labelled_size, PartWords.region_ranges, PartWords.sizes_words, ReplyWords.tags_heading}
use Rattle.explainer.proofs.regions.write_block_sizes.Goals as goal

pub returns : goal.returns
unfolding sizes_words
returns c =
    let bytes = c.args.bytes.now in
    put_last c.args.out.now (codes "region with block sizes ") c.write_sizes_at.new.out ((sizes_text (number_at w64 bytes 0))) c.write_sizes_at.result c.in_ok-extend_from_slice.ensures.extended c.write_sizes_at.ensures
