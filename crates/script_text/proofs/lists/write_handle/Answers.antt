use Rattle.std.proofs.Common.{arith}
use Rattle.script_text.proofs.PrintedParts.{handle_item}
use Rattle.script_text.proofs.lists.write_handle.Goals as goal

pub returns : goal.returns
returns c = handle_item c.args.handle (omega (arith, c.ranges.handle)) c.law_decimal.ensures.reads c.law_decimal.ensures.word c.in_ok-push.ensures.pushed c.in_ok-write_decimal.ensures
