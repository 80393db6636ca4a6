use Rattle.std.proofs.Common.{◌≡◌, ◌+◌, List, rules, subst, sym, true}
use Rattle.extent_list.specs.dcd_codes.specs.dcd_base.specs.declared.media.Run.{Run}
use Rattle.granule_map.specs.StateLists.{is_free_at}
use Rattle.selection.{specs.Selections.AreBetween, specs.Selections.are_free, specs.Selections.contiguous_runs, proofs.Chosen.contiguous_are_free, proofs.Chosen.contiguous_between}
use Rattle.selection.proofs.adjacent.contiguous.Goals as goal

pub returns-in_ok-push-in-Some-clause-within : goal.returns-in_ok-push-in-Some-clause-within
returns-in_ok-push-in-Some-clause-within c =
    let is : c.push.new.self ≡ contiguous_runs (is_free_at c.args.map.now.states) c.args.area c.args.per_block c.args.blocks = search rules in
    subst (λ (runs : List Run). AreBetween c.args.area.first (c.args.area.first + c.args.area.count) runs) (sym is)
    (contiguous_between (is_free_at c.args.map.now.states) c.args.area c.args.per_block c.requires.area.some c.requires.area.whole c.args.blocks c.requires.some)

pub returns-in_ok-push-in-Some-clause-are_free : goal.returns-in_ok-push-in-Some-clause-are_free
returns-in_ok-push-in-Some-clause-are_free c =
    let is : c.push.new.self ≡ contiguous_runs (is_free_at c.args.map.now.states) c.args.area c.args.per_block c.args.blocks = search rules in
    subst (λ (runs : List Run). are_free (is_free_at c.args.map.now.states) runs ≡ true) (sym is)
    (contiguous_are_free (is_free_at c.args.map.now.states) c.args.area c.args.per_block c.args.blocks)
