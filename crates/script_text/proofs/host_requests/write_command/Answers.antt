use Rattle.std.proofs.Common.{subst, sym}
use Rattle.text_lines.specs.Characters.{IsTextWord}
use Rattle.script_text.proofs.PrintedActs.{host_command_word}
use Rattle.script_text.proofs.host_requests.write_command.Goals as goal

pub write_fixed-requires : goal.write_fixed-requires
write_fixed-requires c = subst IsTextWord (sym c.text.ensures) (host_command_word c.args.command)

pub returns : goal.returns
returns c = rw c.text.ensures at c.in_ok-write_fixed.ensures
