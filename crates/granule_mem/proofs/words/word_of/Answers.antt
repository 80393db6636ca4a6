use Rattle.std.{proofs.Common.ap, proofs.Common.sym, specs.Prelude.unwrap_or}
use Rattle.granule_mem.proofs.Few.{found_at}
use Rattle.granule_mem.proofs.words.word_of.Goals as goal

pub returns-in-Some : goal.returns-in-Some
returns-in-Some c =
    let first = c.in-Some.ensures in
    sym (ap (λ o. unwrap_or o 0) (found_at c.args.few.now c.args.word c.in-Some.place (0, 0) first.within first.here first.none_before))
