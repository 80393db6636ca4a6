use Rattle.event_log.proofs.Histories.{begins, follows, stays}
use Rattle.event_log.proofs.laws.law_history.Goals as goal

pub returns : goal.returns
returns c = record { begins = begins; follows = follows; stays = stays }
