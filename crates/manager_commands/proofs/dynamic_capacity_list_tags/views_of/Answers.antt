use Rattle.std.proofs.{Common.◌+◌, Common.◌∷◌, Common.[], Common.◌++◌, Common.ap, Common.length, Common.sym, Common.◌∙◌, lemmas.List.length_push}
use Rattle.tag_refs.specs.Tables.{tag_view}
use Rattle.manager_commands.proofs.ListPages.{page_more}
use Rattle.manager_commands.proofs.dynamic_capacity_list_tags.views_of.Goals as goal

pub loop-index-preserved : goal.loop-index-preserved
loop-index-preserved c = record {
  views = c.in_ok-push.ensures.pushed ∙ ap (λ views. views ++ c.at.result ∷ []) c.loop-index.invariant.views
      ∙ sym (page_more tag_view c.args.first c.loop-index.index c.args.tags.now.entries c.at.result c.at.ensures);
  few = ap length c.in_ok-push.ensures.pushed ∙ length_push c.loop-index.views c.at.result ∙ ap (λ n. n + 1) c.loop-index.invariant.few;
}
