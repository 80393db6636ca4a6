use Rattle.script_text.proofs.PrintedParts.{extent_item}
use Rattle.script_text.proofs.lists.write_extent_word.Goals as goal

pub returns : goal.returns
returns c =
    extent_item c.args.extent.now c.requires c.fits_64.ensures c.fits_64-2.ensures c.law_extent.ensures.reads c.law_extent.ensures.word
    c.in_ok-push.ensures.pushed c.in_ok-write_extent.ensures
