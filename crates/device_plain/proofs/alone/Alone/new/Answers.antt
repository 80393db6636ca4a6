use Rattle.device_plain.proofs.FirstAlone.{first_alone}
use Rattle.device_plain.proofs.alone.Alone.new.Goals as goal

pub returns : goal.returns
returns c = first_alone c.args.config.now _ c.in_ok-copy.ensures c.in_ok-new.ensures c.in_ok-new-2.ensures c.new-3.ensures.empty
