use Rattle.journal_core.specs.Entries.{effects}
use Rattle.device_rules.proofs.{LegalSound.legal_is_sound, OpenOnce.open_once, OpenTags.legal_is_opened, OpenTags.open_is_live}
use Rattle.device_rules.proofs.open_tags.law_open_tags.Goals as goal

pub returns-clause-live : goal.returns-clause-live
returns-clause-live c = λ config sound journal legal t. open_is_live config sound (effects journal) (legal_is_sound config sound journal legal) (legal_is_opened config sound journal legal) t

pub returns-clause-once : goal.returns-clause-once
returns-clause-once c = λ config journal. open_once config (effects journal)
