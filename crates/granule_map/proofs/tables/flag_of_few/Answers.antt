use Rattle.std.proofs.Common.{◌≡◌, ◌+◌, ◌<◌, ◌≤◌, ◌∙◌, ℕ, ap, eqb, get_or, length, refl, subst, sym, true, arith}
use Rattle.dcd_base.specs.declared.media.Run.{Run}
use Rattle.granule_map.{specs.Parts.flags_in, proofs.Flags.flag_at}
use Rattle.granule_map.proofs.tables.flag_of_few.Goals as goal

pub returns-then-are_few_alike : goal.returns-then-are_few_alike
returns-then-are_few_alike c =
    let bytes = c.args.flags.now in
    let first = c.run.inside.0.0.0 in
    let within = subst (λ (run : Run). run.first + run.count ≤ length bytes) (sym c.run.view_is) c.requires in
    subst (λ (run : Run). (k : ℕ) → run.first ≤ k → k < run.first + run.count → get_or (flags_in bytes) k true ≡ c.is_set.result) c.run.view_is
    (λ k from below.
    flag_at bytes k (omega (arith, below, within))
    ∙ ap (λ n. eqb n 1) (c.if-are_few_alike.ensures.alike refl k from below)
    ∙ sym (flag_at bytes first (c.if-are_few_alike.ensures.within refl))
    ∙ c.is_set.ensures)
