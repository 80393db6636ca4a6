use Rattle.std.proofs.Common.{suc, ◌≡◌, ◌<◌, ◌∷◌, [], length, drop, arith, ap, ◌∙◌, sym, add-one}
use Rattle.std.proofs.lemmas.{Bool.eqb-true, Bool.eqb-false, List.drop-drop}
use Rattle.text_lines.{specs.Words.lines_in, proofs.WordLaws.line_cut, proofs.WordLaws.lines_none}
use Rattle.text_lines.proofs.line_words.cut_line.Goals as goal

pub returns-then-is_empty-clause-lines : goal.returns-then-is_empty-clause-lines
returns-then-is_empty-clause-lines c =
    let cut = line_cut c.args.text.now c.place_of.result c.place_of.ensures.value c.requires in
    let none : length c.split_at.result.1.now ≡ 0 = eqb-true (length c.split_at.result.1.now) 0 (sym c.is_empty.ensures ∙ c.if-is_empty.true) in
    let all : c.place_of.result ≡ length c.args.text.now = omega (arith, none, c.place_of.ensures.within, c.split_at.ensures.back_len) in
    cut.whole all ∙ ap (λ line. line ∷ []) (sym c.split_at.ensures.front) ∙ ap (λ rest. c.split_at.result.0.now ∷ rest) (sym (lines_none c.split_at.result.1.now none))

pub returns-clause-lines : goal.returns-clause-lines
returns-clause-lines c =
    let cut = line_cut c.args.text.now c.place_of.result c.place_of.ensures.value c.requires in
    let some = eqb-false (length c.split_at.result.1.now) 0 (sym c.is_empty.ensures ∙ c.if-is_empty.false) in
    let less : c.place_of.result < length c.args.text.now = omega (arith, some, c.place_of.ensures.within, c.split_at.ensures.back_len) in
    cut.parted less ∙ ap (λ line. line ∷ lines_in (drop (suc c.place_of.result) c.args.text.now)) (sym c.split_at.ensures.front)
    ∙ ap (λ rest. c.split_at.result.0.now ∷ lines_in rest)
    (sym (c.split_at-2.ensures.back ∙ ap (drop 1) c.split_at.ensures.back ∙ drop-drop 1 c.place_of.result c.args.text.now ∙ ap (λ n. drop n c.args.text.now) (add-one c.place_of.result)))
