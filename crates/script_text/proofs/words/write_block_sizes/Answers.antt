use Rattle.script_text.proofs.PrintedParts.{sizes_adds}
use Rattle.script_text.proofs.words.write_block_sizes.Goals as goal

pub returns : goal.returns
returns c = sizes_adds c.args.mask c.law_sizes.ensures.reads c.law_sizes.ensures.word c.in_ok-push.ensures.pushed c.in_ok-write_sizes.ensures
