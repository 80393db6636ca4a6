use Rattle.tunnel_fabric.proofs.Printed.{head_is}
use Rattle.tunnel_fabric.proofs.printing.head_of.Goals as goal

pub returns : goal.returns
returns c = head_is c.args.number c.requires
