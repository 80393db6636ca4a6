use Rattle.std.proofs.Common.{◌∙◌}
use Rattle.ruled_cells.proofs.TurnsApart.{opens_apart}
use Rattle.ruled_cells.proofs.turns.seats.open.Goals as goal

pub vacant-requires : goal.vacant-requires
vacant-requires g c =
    let r = c.requires in
    let key = c.args.about.now in
    opens_apart (g.P.Protocol.seats key) (g.P.Protocol.holds key) c.args.cells _ _ _ r.cells.0 (c.as_slice.ensures.value ∙ c.in_ok-words.ensures) r.seats.0 r.seats.1 r.rule
