use Rattle.std.proofs.Common.{arith}
use Rattle.ruled_cells.proofs.{TurnSeats.joins, TurnsApart.joins_apart}
use Rattle.ruled_cells.proofs.turns.seats.absorb.Goals as goal

pub join_seat-requires : goal.join_seat-requires
join_seat-requires g c =
    let b = c.requires.board in
    let l = c.requires.live in
    let holds = g.P.Protocol.holds c.args.board.now.key in
    let d = c.args.seat.now.me.0 in
    let e = c.args.other.me.0 in
    (b.0, b.1, l.2, omega (arith, b), joins_apart _ _ holds _ _ d e _ _ (joins _ _ holds _ _ d e g.M.Merging.both g.M.Merging.spent l.0 l.1 c.requires.no_turn c.requires.rule))
