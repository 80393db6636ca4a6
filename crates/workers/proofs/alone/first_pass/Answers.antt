use Rattle.std.proofs.Common.{◌+◌, ◌*◌, ◌<◌, subst, sym}
use Rattle.workers.proofs.Parting.{first_inside}
use Rattle.workers.proofs.alone.first_pass.Goals as goal

pub returns-in-Some-Do : goal.returns-in-Some-Do
returns-in-Some-Do c =
    subst (λ n. n < c.args.hosts * c.args.lanes + 2) (sym c.pass_of.ensures)
    (first_inside c.args.hosts c.args.lanes c.args.lines.now c.in-Some-Do.field-0.now c.in-Some-Do.actor c.in-Some-Do.lane c.in-Some-Do.field-0-2 c.in-Some-Do.ensures.value c.in-Some-Do.field-0-is
    c.requires.sound)
