use Rattle.std.proofs.Common.{◌≡◌, ◌∙◌, length, subst}
use Rattle.granule_map.{specs.Tables.CellTable, proofs.Flags.flags_long}
use Rattle.granule_map.proofs.tables.GranuleTable.len.Goals as goal

pub returns-clause-each : goal.returns-clause-each
returns-clause-each c = subst (λ (t : CellTable). length t.unclean ≡ length t.states) c.self.view_is (flags_long c.self.inside.unclean.items ∙ c.self.invariant.each)
