use Rattle.std.proofs.Common.{refl}
use Rattle.device_rules.proofs.QuietSteps.{table-host, table-manager, table-refused, table-scrubbed, table_left}
use Rattle.device_rules.proofs.tags.law_tags_quiet.Goals as goal

pub returns-clause-begins : goal.returns-clause-begins
returns-clause-begins _ = λ c. record { tags_are = refl; each = tt }

pub returns-clause-left : goal.returns-clause-left
returns-clause-left _ = λ c past new all entries table. table_left c past new all entries table

pub returns-clause-refused : goal.returns-clause-refused
returns-clause-refused _ = λ c past h v opcode entries table. table-refused c past entries table h v opcode

pub returns-clause-scrubbed : goal.returns-clause-scrubbed
returns-clause-scrubbed _ = λ c past granules entries table. table-scrubbed c past entries table granules

pub returns-clause-host : goal.returns-clause-host
returns-clause-host _ = λ c past h v q quiet entries table. table-host c past entries table h v q quiet

pub returns-clause-manager : goal.returns-clause-manager
returns-clause-manager _ = λ c past views q quiet entries table. table-manager c past entries table views q quiet
