use Rattle.std.proofs.{Common.◌∙◌, Common.ap, Common.subst, Common.sym, lemmas.Option.none-some, lemmas.Option.same_Some}
use Rattle.device_plain.specs.kept_journal.specs.Lending.{lent, lent_entry}
use Rattle.journal_core.specs.declared.entries.Entry.{Entry}
use Rattle.host_driver.{specs.Spelling.AreSpelledIn, proofs.Spelled.spelled_alone}
use Rattle.host_driver.proofs.spelling.last_is_spelled.Goals as goal

pub returns-in-Some : goal.returns-in-Some
returns-in-Some c = λ before e is.
    subst (λ (x : Entry). AreSpelledIn x.effects) (same_Some (lent_entry c.in-Some.entry) e (ap lent (sym c.in-Some.is) ∙ c.last.ensures.last before e is))
    (spelled_alone (lent_entry c.in-Some.entry).effects (subst AreSpelledIn c.effects_without_extents.ensures c.left_are_spelled.ensures))

pub returns-in-None : goal.returns-in-None
returns-in-None c = λ before e is. absurd (none-some e (ap lent (sym c.in-None.is) ∙ c.last.ensures.last before e is))
