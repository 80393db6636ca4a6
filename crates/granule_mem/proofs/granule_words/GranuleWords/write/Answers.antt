use Rattle.std.proofs.{Common.◌<◌, Common.length, Common.rules, lemmas.Result.on_err_weaker, lemmas.Result.on_ok_weaker}
use Rattle.granule_mem.proofs.Steps.{word_after_store, words_kept}
use Rattle.granule_mem.proofs.granule_words.GranuleWords.write.Goals as goal

pub returns-clause-words : goal.returns-clause-words
returns-clause-words c =
    let known : c.granule.inside.0 < length c.self.inside.stored.items = search rules in
    on_ok_weaker c.put.result
    (λ puts. λ g w. rw (← c.self.view_is, ← c.granule.view_is)
    (word_after_store c.self.inside.stored.items c.granule.inside.0 c.index_mut-stored.result.now c.put.new.self c.args.word c.args.value known c.index_mut-stored.ensures.value puts g w))
    c.put.ensures.words

pub returns-clause-kept : goal.returns-clause-kept
returns-clause-kept c =
    let known : c.granule.inside.0 < length c.self.inside.stored.items = search rules in
    on_err_weaker c.put.result
    (λ same. rw (← c.self.view_is)
    (words_kept c.self.inside.stored.items c.granule.inside.0 c.index_mut-stored.result.now c.put.new.self known c.index_mut-stored.ensures.value same))
    c.put.ensures.kept
