use Rattle.journal_core.specs.Entries.{effects}
use Rattle.device_rules.proofs.{LegalSound.legal_is_sound, ReferenceSteps.ended-reference, ReferenceSteps.table-add_reference, ReferenceSteps.table-remove_reference, ReferenceSteps.table_referenced}
use Rattle.device_rules.proofs.ReferencedTags.{referenced_open}
use Rattle.device_rules.proofs.tags.law_tags_referenced.Goals as goal

pub returns-clause-known : goal.returns-clause-known
returns-clause-known _ = λ t tag. table_referenced t.config (effects t.before) t.entries t.table tag (referenced_open t.config t.sound t.before t.legal tag)

pub returns-clause-added : goal.returns-clause-added
returns-clause-added _ = λ c past tag entries table. table-add_reference c past tag entries table

pub returns-clause-removed : goal.returns-clause-removed
returns-clause-removed _ = λ t tag. record {
  table = table-remove_reference t.config (effects t.before) (legal_is_sound t.config t.sound t.before t.legal) tag t.entries t.table;
  ended_are = ended-reference t.config (effects t.before) (legal_is_sound t.config t.sound t.before t.legal) tag t.entries t.table;
}
