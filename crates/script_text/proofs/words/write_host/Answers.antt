use Rattle.std.proofs.Common.{arith}
use Rattle.script_text.proofs.PrintedParts.{host_adds}
use Rattle.script_text.proofs.words.write_host.Goals as goal

pub returns : goal.returns
returns c = host_adds c.args.host (omega (arith, c.ranges.host)) c.law_decimal.ensures.digits c.law_decimal.ensures.word c.in_ok-push.ensures.pushed c.in_ok-write_h.ensures
