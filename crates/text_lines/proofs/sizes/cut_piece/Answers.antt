use Rattle.std.proofs.Common.{suc, ◌≡◌, ◌<◌, ◌∷◌, [], length, drop, arith, ap, ◌∙◌, sym, add-one}
use Rattle.std.proofs.lemmas.{Bool.eqb-true, Bool.eqb-false, List.drop-drop}
use Rattle.text_lines.{specs.Sizes.comma_pieces, proofs.SizeLaws.piece_cut}
use Rattle.text_lines.proofs.sizes.cut_piece.Goals as goal

pub returns-then-is_empty-clause-pieces : goal.returns-then-is_empty-clause-pieces
returns-then-is_empty-clause-pieces c =
    let cut = piece_cut c.args.word.now c.place_of-place.result c.place_of-place.ensures.value in
    let none : length c.split_at.result.1.now ≡ 0 = eqb-true (length c.split_at.result.1.now) 0 (sym c.is_empty.ensures ∙ c.if-is_empty.true) in
    let all : c.place_of-place.result ≡ length c.args.word.now = omega (arith, none, c.place_of-place.ensures.within, c.split_at.ensures.back_len) in
    cut.whole all ∙ ap (λ piece. piece ∷ []) (sym c.split_at.ensures.front)

pub returns-clause-pieces : goal.returns-clause-pieces
returns-clause-pieces c =
    let cut = piece_cut c.args.word.now c.place_of-place.result c.place_of-place.ensures.value in
    let some = eqb-false (length c.split_at.result.1.now) 0 (sym c.is_empty.ensures ∙ c.if-is_empty.false) in
    let less : c.place_of-place.result < length c.args.word.now = omega (arith, some, c.place_of-place.ensures.within, c.split_at.ensures.back_len) in
    cut.parted less ∙ ap (λ piece. piece ∷ comma_pieces (drop (suc c.place_of-place.result) c.args.word.now)) (sym c.split_at.ensures.front)
    ∙ ap (λ rest. c.split_at.result.0.now ∷ comma_pieces rest)
    (sym (c.split_at-2.ensures.back ∙ ap (drop 1) c.split_at.ensures.back ∙ drop-drop 1 c.place_of-place.result c.args.word.now ∙ ap (λ n. drop n c.args.word.now) (add-one c.place_of-place.result)))
