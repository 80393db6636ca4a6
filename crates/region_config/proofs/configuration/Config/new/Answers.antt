use Rattle.std.proofs.Common.{◌∙◌, sym}
use Rattle.region_config.proofs.Faultless.{after_count, count_found}
use Rattle.region_config.proofs.configuration.Config.new.Goals as goal

pub returns-then-has_bad_count : goal.returns-then-has_bad_count
returns-then-has_bad_count c = λ _. count_found _ (sym c.has_bad_count.ensures ∙ c.if-has_bad_count.true)

pub invariant_of-result : goal.invariant_of-result
invariant_of-result c =
    after_count c.in-Ok.layout (rw c.in-Ok.ensures (sym c.has_bad_count.ensures ∙ c.if-has_bad_count.false))
    ∙ sym c.fault.ensures
    ∙ c.in-None.is

pub returns-in-None : goal.returns-in-None
returns-in-None c =
    (after_count _ (sym c.has_bad_count.ensures ∙ c.if-has_bad_count.false) ∙ rw c.in-Ok.ensures at (sym c.fault.ensures ∙ c.in-None.is), c.in-Ok.ensures)

pub returns-in-Some : goal.returns-in-Some
returns-in-Some c = λ _.
    after_count _ (sym c.has_bad_count.ensures ∙ c.if-has_bad_count.false) ∙ rw c.in-Ok.ensures at (sym c.fault.ensures ∙ c.in-Some.is)
