use Rattle.std.proofs.Common.{◌-◌, ◌<◌, length, arith, rules, ◌∙◌}
use Rattle.extent_list.proofs.{ApartLists.no_extent, Back.cut_back}
use Rattle.extent_list.proofs.list.whole_at_back.Goals as goal

pub loop-i-preserved : goal.loop-i-preserved
loop-i-preserved c =
    let kept = c.args.kept.now in
    let leaving = c.args.leaving.now in
    let i = c.loop-i.i in
    let in_leaving : i < length leaving = search rules in
    let in_kept : i < length kept = search rules in
    let is = c.is_whole.ensures c.if-not-is_whole.false in
    c.loop-i.invariant
    ∙ cut_back leaving kept i (length kept - 1 - i) no_extent (c.requires c.if-not-apart.false) in_leaving (omega (arith, in_kept)) is.0 is.1 is.2
