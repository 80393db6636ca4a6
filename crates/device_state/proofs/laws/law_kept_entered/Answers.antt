use Rattle.device_state.proofs.EnteredSteps.{fits, kept-entered, of_device}
use Rattle.device_state.proofs.laws.law_kept_entered.Goals as goal

pub returns-clause-of_device : goal.returns-clause-of_device
returns-clause-of_device _ = of_device

pub returns-clause-kept : goal.returns-clause-kept
returns-clause-kept _ = kept-entered

pub returns-clause-fits : goal.returns-clause-fits
returns-clause-fits _ = fits
