use Rattle.std.proofs.Common.{◌<◌, length, subst, sym}
use Rattle.workers.proofs.Parting.{act_linked, pass_inside}
use Rattle.workers.proofs.worklists.link.Goals as goal

pub bounds-heads-pass : goal.bounds-heads-pass
bounds-heads-pass c =
    subst (λ n. n < length c.args.heads.now) (sym c.pass_of-pass.ensures)
    (pass_inside c.args.hosts c.args.lanes c.args.lines.now c.index-lines-place.result c.in-Do.actor c.in-Do.lane c.in-Do.act c.args.place c.args.heads.now c.args.next.now
    c.requires.place c.index-lines-place.is c.in-Do.is c.requires.sound c.requires.parted)

pub bounds-heads-pass-in-Do : goal.bounds-heads-pass-in-Do
bounds-heads-pass-in-Do c =
    subst (λ n. n < length c.args.heads.now) (sym c.pass_of-pass.ensures)
    (pass_inside c.args.hosts c.args.lanes c.args.lines.now c.index-lines-place.result c.in-Do.actor c.in-Do.lane c.in-Do.act c.args.place c.args.heads.now c.args.next.now
    c.requires.place c.index-lines-place.is c.in-Do.is c.requires.sound c.requires.parted)

pub returns-in-Do : goal.returns-in-Do
returns-in-Do c =
    let inside =
    subst (λ n. n < length c.args.heads.now) (sym c.pass_of-pass.ensures)
    (pass_inside c.args.hosts c.args.lanes c.args.lines.now c.index-lines-place.result c.in-Do.actor c.in-Do.lane c.in-Do.act c.args.place c.args.heads.now c.args.next.now
    c.requires.place c.index-lines-place.is c.in-Do.is c.requires.sound c.requires.parted) in
    act_linked c.args.hosts c.args.lanes c.args.lines.now c.index-lines-place.result c.in-Do.actor c.in-Do.lane c.in-Do.act c.pass_of-pass.result c.args.place c.args.heads.now c.args.next.now
    c.requires.place c.index-lines-place.is c.in-Do.is c.pass_of-pass.ensures inside c.requires.parted
