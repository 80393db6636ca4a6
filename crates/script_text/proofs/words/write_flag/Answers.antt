use Rattle.script_text.proofs.PrintedParts.{flag_none, flag_some}
use Rattle.script_text.proofs.words.write_flag.Goals as goal

pub returns-then-not-set : goal.returns-then-not-set
returns-then-not-set c = flag_none c.args.out.now c.args.keyword c.args.set c.if-not-set.true

pub returns : goal.returns
returns c = flag_some c.args.keyword c.args.set c.if-not-set.false c.in_ok-write_key.ensures
