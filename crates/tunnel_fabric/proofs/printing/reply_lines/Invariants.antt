use Rattle.std.{proofs.Common.◌≡◌, proofs.Common.take, specs.Prelude.flat_map}
use Rattle.tunnel_fabric.specs.Printing.{tunnel_line}
use Rattle.tunnel_fabric.proofs.printing.reply_lines.Given as goal

abbrev pub invariant-loop-reply : goal.invariant-loop-reply
invariant-loop-reply l = l.text ≡ flat_map tunnel_line (take l.reply-index l.replies)
