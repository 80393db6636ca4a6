use Rattle.std.proofs.Common.{◌<◌, [], ap, ◌∙◌, cond, eqb, get_or, length, rules}
use Rattle.granule_mem.{proofs.Steps.run_more, proofs.Steps.word_after_set, specs.Contents.word_among, specs.Contents.word_kept}
use Rattle.granule_mem.proofs.granule_words.GranuleWords.zero.Goals as goal

pub loop-granule-preserved : goal.loop-granule-preserved
loop-granule-preserved c =
    let maps = c.loop-granule.self-inside.stored.items in
    let i = c.loop-granule.granule in
    let known : c.loop-granule.granule < length c.loop-granule.self-inside.stored.items = search rules in
    record {
      words = λ g w. word_after_set maps i c.clear.new.self g w known
          ∙ ap (λ es. cond (eqb i g) (word_among es w) (word_among (get_or maps g []) w)) c.clear.ensures
          ∙ run_more _ i g 0 _ (word_kept c.args.self.now g w) c.loop-granule.auto.granule (c.loop-granule.invariant.words g w);
      granules = search rules;
    }
