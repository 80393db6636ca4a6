use Rattle.device_rules.proofs.LegalSound.{legal_is_sound}
use Rattle.device_rules.proofs.holdings.law_sound.Goals as goal

pub returns : goal.returns
returns c = legal_is_sound
