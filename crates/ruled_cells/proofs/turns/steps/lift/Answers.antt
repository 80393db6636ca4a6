use Rattle.std.proofs.Common.{arith, ◌∙◌}
use mathlib.Core.Option.{none}
use Rattle.atomic_table.specs.Table.{step}
use Rattle.ruled_cells.{specs.Turning.laid_back, proofs.TurnPlays.lays, proofs.TurnsApart.allows_apart, proofs.TurnCalls.out, proofs.TurnCalls.moves_on}
use Rattle.ruled_cells.proofs.turns.steps.lift.Goals as goal

pub exchange-requires : goal.exchange-requires
exchange-requires g c = (c.requires.board.0, out c.args.cell _ c.args.seat.now.me c.requires.moving.1.holds)

pub load-requires : goal.load-requires
load-requires g c =
    let b = c.requires.board in
    let e = c.exchange.ensures in
    let at = c.word_of.ensures in
    let slots = c.args.board.now.table_id.slots in
    let holds = g.P.Protocol.holds c.args.board.now.key in
    let me = c.exchange.new.seat.me in (
      e.0 ∙ b.0,
      omega (arith, at, b),
      allows_apart _ _ holds me slots _ c.args.cell _ (λ n. n) (λ w. laid_back (step slots w 0 0 none) me) at (omega (arith, b)) (lays _ _ holds me slots _ c.args.cell (moves_on c.args.cell _ _ c.args.seat.now.me me c.requires.moving.1 e.3) b.1),
    )
