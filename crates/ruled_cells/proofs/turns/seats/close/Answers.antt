use Rattle.std.proofs.Common.{sym, ◌∙◌}
use Rattle.core.specs.Mem.Slots.{slots_counts}
use Rattle.ruled_cells.proofs.TurnsApart.{closes_apart}
use Rattle.ruled_cells.proofs.turns.seats.close.Goals as goal

pub returns-clause-settled : goal.returns-clause-settled
returns-clause-settled g c =
    let t = c.close_with.result in
    closes_apart _ _ (g.P.Protocol.holds c.args.store.shared.key) _ _ c.args.seat.me.0 _ _ (sym (slots_counts t.slots).0 ∙ c.close_with.ensures.counts.1) c.requires.live c.requires.no_turn c.requires.alone c.close_with.ensures.values.2
