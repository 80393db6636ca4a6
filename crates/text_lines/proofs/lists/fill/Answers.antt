use Rattle.std.proofs.{Common.◌≡◌, Common.◌-◌, Common.false, Common.ap, Common.sym, Common.◌∙◌, Common.inl, Common.inr, lemmas.Result.err_from_is_err_and}
use Rattle.text_lines.proofs.LoopLaws.{list_ends, list_fails, list_goes_on}
use Rattle.text_lines.specs.{Fields.and_room, Fields.list_behind, Fields.list_ahead, Fields.one_word, Unread.is_done}
use Rattle.text_lines.proofs.lists.fill.Goals as goal

pub returns-in_err-one_word : goal.returns-in_err-one_word
returns-in_err-one_word g c =
    let p = err_from_is_err_and c.from_residual.result c.from_residual.ensures.1 in
    let read = c.with_room-read.ensures ∙ ap (and_room c.loop-words.left) (c.of_word.ensures ∙ ap g.T.Item.read c.next.ensures) in
    rw (p.1, p.2) (λ real. list_fails g.T.Item.read c.wanted.result c.loop-words.left c.loop-words.words c.loop-words.items _ _ (sym c.is_done.ensures ∙ c.loop-words-test.true) (sym c.begins.ensures ∙ c.if-not-begins.true)
    (ap (one_word c.wanted.result c.loop-words.words) (sym read) ∙ c.in_err-one_word.ensures real) c.loop-words.invariant)

pub loop-words-preserved : goal.loop-words-preserved
loop-words-preserved g c =
    let some : is_done c.loop-words.words ≡ false = sym c.is_done.ensures ∙ c.loop-words-test.true in
    let read = c.with_room-read.ensures ∙ ap (and_room c.loop-words.left) (c.of_word.ensures ∙ ap g.T.Item.read c.next.ensures) in
    let here = ap (one_word c.wanted.result c.loop-words.words) (sym read) ∙ c.in_ok-one_word.ensures in
    ap (λ xs. list_behind xs (list_ahead g.T.Item.read (c.loop-words.left - 1) c.one_word.new.words)) c.in_ok-push.ensures.pushed
    ∙ list_goes_on g.T.Item.read c.wanted.result c.loop-words.left c.loop-words.words c.one_word.new.words c.loop-words.items c.in_ok-one_word.field-0 _ some (sym c.begins.ensures ∙ c.if-not-begins.true) here c.loop-words.invariant

pub returns-else-not-begins : goal.returns-else-not-begins
returns-else-not-begins g c = list_ends g.T.Item.read c.loop-words.left c.loop-words.words c.loop-words.items _ (inr (sym c.begins.ensures ∙ c.if-not-begins.false)) c.loop-words.invariant

pub returns-after-loop-words : goal.returns-after-loop-words
returns-after-loop-words g c = list_ends g.T.Item.read c.loop-words.left c.loop-words.words c.loop-words.items _ (inl (sym c.is_done.ensures ∙ c.loop-words-test.false)) c.loop-words.invariant
