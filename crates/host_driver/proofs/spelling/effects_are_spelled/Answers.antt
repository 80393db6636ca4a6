use Rattle.std.proofs.Common.{ap, subst, ◌∙◌}
use Rattle.device_plain.specs.kept_journal.specs.Tokens.{without_extents}
use Rattle.host_driver.{specs.Spelling.AreSpelledIn, proofs.Spelled.spelled_alone}
use Rattle.host_driver.proofs.spelling.effects_are_spelled.Goals as goal

pub returns : goal.returns
returns c = spelled_alone c.args.effects.now (subst AreSpelledIn (c.among.ensures ∙ ap without_extents c.as_slice.ensures) c.left_are_spelled.ensures)
