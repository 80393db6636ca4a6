use Rattle.std.proofs.Common.{refl, ◌∙◌}
use Rattle.ruled_cells.{specs.Turning.NoTurn, specs.Turning.TakesTurn, proofs.TurnCalls.same_start, proofs.TurnCalls.same_rests, proofs.TurnCalls.same_by}
use Rattle.ruled_cells.proofs.turns.steps.take.Goals as goal

pub loop-init : goal.loop-init
loop-init g c = record { can = tt; finite = tt; board = (refl, refl); same = same_start c.args.number c.args.seat.now.me c.requires.resting }

pub try_take-requires : goal.try_take-requires
try_take-requires g c =
    let b = c.requires.board in
    let i = c.loop.invariant in
    let first = c.args.seat.now.me in
    let now = c.loop.seat.me in record {
      board = (i.board.0 ∙ b.0, b.1, b.2);
      resting = same_rests c.args.number first now c.requires.resting i.same;
      no_turn = same_by (λ taken v. NoTurn taken c.args.cell) first now i.same c.requires.no_turn;
      rule = same_by (λ taken v. TakesTurn (g.P.Protocol.holds c.args.board.now.key) c.args.board.now.table_id.slots c.args.number taken v c.args.cell g.M.Outcome.then) first now i.same c.requires.rule;
    }
