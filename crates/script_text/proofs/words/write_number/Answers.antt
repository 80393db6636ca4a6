use Rattle.std.proofs.Common.{◌^◌, ◌-◌, arith}
use Rattle.text_lines.specs.Parts.{Form}
use Rattle.script_text.proofs.PrintedParts.{number_adds}
use Rattle.script_text.proofs.words.write_number.Goals as goal

pub returns : goal.returns
returns c = number_adds Form.Size (2 ^ 64 - 1) c.args.number (omega (arith, c.ranges.number)) c.law_size.ensures.reads c.law_size.ensures.word c.in_ok-push.ensures.pushed c.in_ok-write_size.ensures
