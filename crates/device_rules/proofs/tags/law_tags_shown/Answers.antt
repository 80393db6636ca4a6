use Rattle.journal_core.specs.Entries.{effects}
use Rattle.device_rules.proofs.{LegalSound.legal_is_sound, AddSteps.table_open_in, Listing.table_length, Listing.table_seen, TagEntries.table_live, TagEntries.table_lives}
use Rattle.device_rules.proofs.tags.law_tags_shown.Goals as goal

pub returns-clause-shown : goal.returns-clause-shown
returns-clause-shown _ = λ c past entries table. record {
  seen = table_seen c past entries table;
  count = table_length c past entries table;
  live = λ t. table_live c past entries table t;
  open_in = λ r t. table_open_in c past entries table t r;
}

pub returns-clause-used : goal.returns-clause-used
returns-clause-used _ = λ t tag open_tag. table_lives t.config (effects t.before) t.entries (legal_is_sound t.config t.sound t.before t.legal) t.table tag open_tag
