use Rattle.std.proofs.Common.{[]}
use Rattle.device_plain.proofs.Living.{lived_on}
use Rattle.device_plain.proofs.laws.law_lives.Goals as goal

pub returns : goal.returns
returns c first last leads told steps =
    let on = lived_on told [] first last leads steps in
    let life = on.leads in
    record {
      life = on.later;
      leads = life;
      tells = on.tells;
      exclusive = c.law_exclusive.ensures last.config life.sound on.later life.legal;
      isolated = c.law_isolated.ensures last.config life.sound on.later life.legal;
      clean = c.law_clean.ensures last.config life.sound on.later life.legal;
    }
