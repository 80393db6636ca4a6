use Rattle.journal_core.specs.Entries.{effects}
use Rattle.device_rules.proofs.{AddSteps.follows_offer, AddSteps.table-policy, AddSteps.table_in_use, ReferencedTags.referenced_open}
use Rattle.device_rules.proofs.tags.law_tags_offered.Goals as goal

pub returns-clause-offer : goal.returns-clause-offer
returns-clause-offer _ = follows_offer

pub returns-clause-policy : goal.returns-clause-policy
returns-clause-policy _ = λ t o a. table-policy t.config t.sound t.before t.legal t.entries t.table a.host a.policy a.region a.bytes a.tag a.list a.does.row

pub returns-clause-in_use : goal.returns-clause-in_use
returns-clause-in_use _ = λ t tag. table_in_use t.config (effects t.before) t.entries t.table tag (referenced_open t.config t.sound t.before t.legal tag)
