use Rattle.journal_check.proofs.checking.is_lawful.Goals as goal

pub returns : goal.returns
returns c = λ journal legal covers is. (
  c.law_exclusive.ensures c.args.script.now.config c.hosts-hosts.ensures.sound journal legal,
  c.law_isolated.ensures c.args.script.now.config c.hosts-hosts.ensures.sound journal legal,
)
