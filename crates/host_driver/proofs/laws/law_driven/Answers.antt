use Rattle.host_driver.proofs.Following.{follows}
use Rattle.host_driver.proofs.laws.law_driven.Goals as goal

pub returns : goal.returns
returns c =
    follows c.args.config.now c.hosts-hosts.ensures.sound c.args.host c.requires.known c.args.most c.args.journal.now c.requires.legal c.requires.driven c.are_spelled.ensures
