use Rattle.std.proofs.Common.{arith, subst}
use mathlib.Core.Option.{none}
use Rattle.atomic_table.specs.Table.{step}
use Rattle.ruled_cells.{specs.Turning.picked_up, proofs.TurnPlays.picks, proofs.TurnsApart.allows_apart, proofs.TurnsApart.in_row_at}
use Rattle.ruled_cells.proofs.turns.steps.pick.Goals as goal

pub load-requires : goal.load-requires
load-requires g c =
    let b = c.requires.board in
    let at = c.word_of.ensures in
    let slots = c.args.board.now.table_id.slots in
    let holds = g.P.Protocol.holds c.args.board.now.key in
    let me = c.args.seat.now.me in (
      b.0,
      omega (arith, at, b),
      allows_apart _ _ holds me slots _ c.args.cell _ (λ n. n) (λ w. picked_up (step slots w 0 0 none) me) at (omega (arith, b))
          (picks _ _ holds me slots _ c.args.number c.args.cell c.requires.turn.0 c.requires.resting c.requires.turn.1 b.1),
    )

pub returns-clause-moving : goal.returns-clause-moving
returns-clause-moving g c = subst (λ w. picked_up (step c.args.board.now.table_id.slots w 0 0 none) c.args.seat.now.me c.load.result c.load.new.seat.me) (in_row_at _ c.args.cell c.word_of.ensures) c.load.ensures.2
