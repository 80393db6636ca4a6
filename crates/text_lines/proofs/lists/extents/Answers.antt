use Rattle.std.proofs.{Common.sym, Common.◌∙◌, lemmas.Result.err_from_is_err_and}
use Rattle.text_lines.{specs.Fields.extent_of_word, specs.Fields.extents_ahead, specs.Fields.list_ahead, proofs.LoopLaws.nothing_behind, proofs.PartLaws.extents_read}
use Rattle.text_lines.proofs.lists.extents.Goals as goal

pub returns-in_err-fill-clause-value : goal.returns-in_err-fill-clause-value
unfolding extents_ahead
returns-in_err-fill-clause-value c =
    let p = err_from_is_err_and c.from_residual.result c.from_residual.ensures.1 in
    rw (p.1, p.2) (λ real. sym (nothing_behind extent_of_word _ (list_ahead extent_of_word c.args.most c.args.words.now) c.new-extents.ensures) ∙ c.in_err-fill.ensures real)

pub returns-clause-value : goal.returns-clause-value
unfolding extents_ahead
returns-clause-value c = sym (nothing_behind extent_of_word _ (list_ahead extent_of_word c.args.most c.args.words.now) c.new-extents.ensures) ∙ c.in_ok-fill.ensures

pub returns-clause-few : goal.returns-clause-few
returns-clause-few c = (extents_read c.args.most c.args.words.now (c.fill.new.items, c.fill.new.words) (returns-clause-value c)).0

pub returns-clause-untagged : goal.returns-clause-untagged
returns-clause-untagged c = (extents_read c.args.most c.args.words.now (c.fill.new.items, c.fill.new.words) (returns-clause-value c)).1
