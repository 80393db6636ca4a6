use Rattle.std.proofs.{Common.◌≡◌, Common.length, Common.arith, Common.ap, Common.sym, Common.◌∙◌, lemmas.Bool.eqb-true}
use Rattle.text_lines.proofs.WordLaws.{lines_none}
use Rattle.text_lines.proofs.line_words.end_of.Goals as goal

pub returns : goal.returns
returns c =
    let none : length c.loop-rest.rest.now ≡ 0 = eqb-true (length c.loop-rest.rest.now) 0 (sym c.is_empty.ensures ∙ c.loop-rest-test.false) in
    let gone = ap length (lines_none c.loop-rest.rest.now none) in
    omega (arith, gone, c.loop-rest.invariant.number)
