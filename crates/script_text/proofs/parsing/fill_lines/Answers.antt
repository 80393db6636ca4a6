use Rattle.std.proofs.{Common.Err, Common.sym, Common.ap, Common.◌∙◌, lemmas.Result.err_from_is_err_and}
use Rattle.text_lines.specs.declared.faults.{Cause.Cause, TextFault.TextFault}
use Rattle.script_text.proofs.LineLoops.{lines_end, lines_go_on, opening_fails, rest_fails, room_fails}
use Rattle.script_text.proofs.parsing.fill_lines.Goals as goal

pub returns-in_err-opening-clause-value : goal.returns-in_err-opening-clause-value
returns-in_err-opening-clause-value c =
    let p = err_from_is_err_and c.from_residual.result c.from_residual.ensures.1 in
    rw (p.1, p.2) (λ real. opening_fails c.args.frame c.loop-words.left c.loop-words.out c.in-Some.words c.loop-words.lines.lines c.next.new.self.lines _ c.in-Some.ensures.0 c.loop-words.invariant.read _ (c.in_err-opening.ensures real))

pub returns-then-left-eq0-clause-value : goal.returns-then-left-eq0-clause-value
returns-then-left-eq0-clause-value c = λ real.
    room_fails c.args.frame c.loop-words.left c.loop-words.out c.in-Some.words c.loop-words.lines.lines c.next.new.self.lines _ c.in-Some.ensures.0 c.loop-words.invariant.read _ _ c.in_ok-opening.ensures c.if-left-eq0.true
    ∙ ap (λ n. Err (TextFault.Refused n 1 Cause.TooManyLines)) (sym c.line-line.ensures)

pub returns-in_err-rest-clause-value : goal.returns-in_err-rest-clause-value
returns-in_err-rest-clause-value c =
    let p = err_from_is_err_and c.from_residual-in_err-rest.result c.from_residual-in_err-rest.ensures.1 in
    rw (p.1, p.2) (λ real.
    rest_fails c.args.frame c.loop-words.left c.loop-words.out c.in-Some.words c.loop-words.lines.lines c.next.new.self.lines _ c.in-Some.ensures.0 c.loop-words.invariant.read _ _ _ c.in_ok-opening.ensures c.if-left-eq0.false (c.in_err-rest.ensures real))

pub loop-words-preserved : goal.loop-words-preserved
loop-words-preserved c = record {
  end = c.in-Some.ensures.1 ∙ c.loop-words.invariant.end;
  read = lines_go_on c.args.frame c.loop-words.left c.loop-words.out c.in-Some.words c.loop-words.lines.lines c.next.new.self.lines _ c.in-Some.ensures.0 c.loop-words.invariant.read _ _ c.in_ok-rest.field-0 _ c.in_ok-opening.ensures c.if-left-eq0.false c.in_ok-rest.ensures c.in_ok-push.ensures.pushed;
}

pub returns-clause-value : goal.returns-clause-value
returns-clause-value c = lines_end c.loop-words.left c.args.frame c.loop-words.out c.loop-words.lines.lines _ c.in_default.ensures.0 c.loop-words.invariant.read
