use Rattle.device_rules.proofs.LegalSound.{legal_is_sound}
use Rattle.device_rules.proofs.holdings.law_block_sizes.Goals as goal

pub returns : goal.returns
returns c = λ config sound journal legal. (legal_is_sound config sound journal legal).stands.blocks
