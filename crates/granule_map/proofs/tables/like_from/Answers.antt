use Rattle.std.proofs.Common.{◌∙◌, eqb, sym, ap, arith}
use Rattle.granule_map.proofs.Flags.{flag_at}
use Rattle.granule_map.proofs.tables.like_from.Goals as goal

pub returns-clause-alike : goal.returns-clause-alike
returns-clause-alike c = λ k from below.
    let bytes = c.args.flags.now in
    let same = c.alike_from.ensures.alike k from below in
    let first = c.alike_from.ensures.alike c.args.from (omega arith) c.alike_from.ensures.later in
    flag_at bytes k (omega (arith, below, c.alike_from.ensures.within, c.requires.within))
    ∙ ap (λ n. eqb n 1) (same ∙ sym first)
    ∙ sym (flag_at bytes c.args.from (omega (arith, c.requires.below, c.requires.within)))
    ∙ c.requires.here
