use Rattle.std.proofs.{lemmas.Result.IfOk-weaker, Common.◌∙◌}
use Rattle.host_commands.proofs.ReleaseDynamicCapacity.{held_release, leaving_granular, released_drafts}
use Rattle.host_commands.proofs.release_dynamic_capacity.given_back.Goals as goal

pub released-requires-clause-granular : goal.released-requires-clause-granular
released-requires-clause-granular c =
    leaving_granular c.args.present.now c.args.host c.args.lists.now c.args.list.now c.as_slice.result.now c.args.more c.requires.row
    c.regions-regions.ensures.sound c.requires.host c.if-more.false (c.as_slice.ensures ∙ c.in_ok-leaving.ensures)

pub returns-then-more : goal.returns-then-more
returns-then-more c = IfOk-weaker c.held.result _ _ (λ d is. λ cfg v present shows. held_release cfg c.args.host v c.args.list.now c.args.more d c.if-more.true is) c.held.ensures

pub returns : goal.returns
returns c =
    IfOk-weaker c.released.result _ _ (λ d is. λ cfg v present shows.
    released_drafts cfg c.args.present.now c.args.host v c.args.lists.now c.args.list.now c.as_slice.result.now c.args.more d present shows c.if-more.false
    (c.as_slice.ensures ∙ c.in_ok-leaving.ensures) is) c.released.ensures
