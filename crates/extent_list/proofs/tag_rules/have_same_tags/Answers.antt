use Rattle.std.proofs.{Common.arith, Common.rules, Common.subst, Common.length, Common.take, Common.◌<◌, lemmas.List.take_all}
use Rattle.extent_list.{specs.Sharing.HaveSameTags, proofs.FirstOwner.no_extent, proofs.Shares.same_more}
use Rattle.extent_list.proofs.tag_rules.have_same_tags.Goals as goal

pub loop-i-preserved : goal.loop-i-preserved
loop-i-preserved c =
    let owned : c.loop-i.i < length c.args.owners.now = search rules in
    same_more c.args.owners.now c.args.shared.now c.loop-i.i no_extent owned c.loop-i-test.true (search rules) c.loop-i.invariant

pub returns : goal.returns
returns c = λ yes.
    subst (λ xs. HaveSameTags xs c.args.shared.now) (take_all c.loop-i.i c.args.owners.now (search rules))
    (subst (HaveSameTags (take c.loop-i.i c.args.owners.now)) (take_all c.loop-i.i c.args.shared.now (omega (arith, c.loop-i-test.false))) c.loop-i.invariant)
