use Rattle.script_gen.{specs.Generated.generated, proofs.Sound.writable}
use Rattle.script_gen.proofs.generating.generate.Goals as goal

pub returns-clause-writable : goal.returns-clause-writable
unfolding generated
returns-clause-writable c = rw (c.in_ok-config.ensures, c.in_ok-lines_of.ensures) (writable c.args.seed)
