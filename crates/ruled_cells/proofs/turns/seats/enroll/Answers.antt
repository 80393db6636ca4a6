use Rattle.std.proofs.Common.{arith}
use Rattle.ruled_cells.proofs.{TurnSeats.splits, TurnsApart.splits_apart}
use Rattle.ruled_cells.proofs.turns.seats.enroll.Goals as goal

pub split_seat-requires : goal.split_seat-requires
split_seat-requires g c =
    let b = c.requires.board in
    let m = c.requires.makes in
    let holds = g.P.Protocol.holds c.args.board.now.key in
    let d = c.args.seat.now.me.0 in
    (b.0, omega (arith, b), splits_apart _ _ holds _ d _ _ (splits _ _ holds _ d g.M.Admission.new m.0 m.1 m.2 c.requires.rule))
