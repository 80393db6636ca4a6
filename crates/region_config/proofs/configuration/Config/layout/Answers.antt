use Rattle.std.proofs.Common.{◌≡◌, None, subst}
use Rattle.region_config.{specs.Setups.config_fault, proofs.Faultless.sound}
use Rattle.region_config.proofs.configuration.Config.layout.Goals as goal

pub returns-clause-sound : goal.returns-clause-sound
returns-clause-sound c = rw c.self.view_is at (sound c.self.inside.layout c.self.invariant)

pub returns-clause-fine : goal.returns-clause-fine
returns-clause-fine c = subst (λ d. config_fault d ≡ None) c.self.view_is c.self.invariant
