use Rattle.std.proofs.Common.{Some, None, rules}
use Rattle.edge_io.{specs.Words.words_of, proofs.NoWords.none_taken, proofs.NoWords.one_answer, proofs.NoWords.some_taken}
use Rattle.edge_io.proofs.wordless.no_words.Goals as goal

pub returns-in-0-clause-asked : goal.returns-in-0-clause-asked
returns-in-0-clause-asked c = none_taken c.args.words.now c.in-0.is

pub returns-in-0-clause-alone : goal.returns-in-0-clause-alone
returns-in-0-clause-alone c = λ other too. one_answer (words_of c.args.words.now) (Some tt) other (none_taken c.args.words.now c.in-0.is) too

pub returns-in_default-clause-asked : goal.returns-in_default-clause-asked
returns-in_default-clause-asked c = some_taken c.args.words.now (search rules)

pub returns-in_default-clause-alone : goal.returns-in_default-clause-alone
returns-in_default-clause-alone c = λ other too. one_answer (words_of c.args.words.now) None other (some_taken c.args.words.now (search rules)) too
