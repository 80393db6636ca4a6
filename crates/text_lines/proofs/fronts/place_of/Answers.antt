use Rattle.std.proofs.{Common.sym, Common.arith, Common.not, Common.ap, lemmas.Bool.false_from_ne_true}
use Rattle.text_lines.{specs.Characters.is_other, proofs.FrontLaws.passed_all, proofs.FrontLaws.passed_to}
use Rattle.text_lines.proofs.fronts.place_of.Goals as goal

pub returns-in-Some-clause-value : goal.returns-in-Some-clause-value
returns-in-Some-clause-value c =
    sym (passed_to (is_other c.args.sign) c.args.bytes.now c.in-Some.place c.in-Some.ensures.0.high
    (λ j less. ap not (false_from_ne_true _ (λ its. c.in-Some.ensures.0.before j (omega arith) less its))) (ap not c.in-Some.ensures.1))

pub returns-in-None-clause-value : goal.returns-in-None-clause-value
returns-in-None-clause-value c =
    sym (passed_all (is_other c.args.sign) c.args.bytes.now (λ j less. ap not (false_from_ne_true _ (λ its. c.in-None.ensures j (omega arith) less its))))
