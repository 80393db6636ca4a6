use Rattle.device_rules.proofs.RefusalSteps.{refused_ends, refused_keeps, refused_seen}
use Rattle.device_rules.proofs.laws.law_refused.Goals as goal

pub returns-clause-ends : goal.returns-clause-ends
returns-clause-ends _ = refused_ends

pub returns-clause-seen : goal.returns-clause-seen
returns-clause-seen _ = λ c before e k. refused_seen c before k e

pub returns-clause-kept : goal.returns-clause-kept
returns-clause-kept _ = refused_keeps
