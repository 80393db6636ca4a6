use Rattle.std.proofs.Common.{eqb, ◌+◌, arith, subst}
use mathlib.Core.Option.{none}
use prog.Atomic.{either}
use Rattle.atomic_table.specs.Table.{step}
use Rattle.ruled_cells.{specs.Turning.tried, proofs.TurnPlays.tries, proofs.TurnsApart.allows_apart, proofs.TurnsApart.in_row_at}
use Rattle.ruled_cells.proofs.turns.steps.attempt.Goals as goal

pub compare_exchange-requires : goal.compare_exchange-requires
compare_exchange-requires g c =
    let b = c.requires.board in
    let at = c.word_of.ensures in
    let slots = c.args.board.now.table_id.slots in
    let holds = g.P.Protocol.holds c.args.board.now.key in
    let me = c.args.seat.now.me in
    rw c.from.ensures (
      b.0,
      omega (arith, at, b),
      allows_apart _ _ holds me slots _ c.args.cell _ (λ n. either (eqb n 0) (c.args.number + 1) n) (λ w. tried g.M.Outcome.then (step slots w 0 (c.args.number + 1) none) me) at (omega (arith, b))
          (tries _ _ holds me slots _ c.args.number c.args.cell g.M.Outcome.then c.requires.resting b.1 c.requires.no_turn c.requires.rule),
    )

pub returns-clause-tried : goal.returns-clause-tried
returns-clause-tried g c = subst (λ w. tried g.M.Outcome.then (step c.args.board.now.table_id.slots w 0 (c.args.number + 1) none) c.args.seat.now.me c.compare_exchange.result c.compare_exchange.new.seat.me)
    (in_row_at _ c.args.cell c.word_of.ensures) c.compare_exchange.ensures.2
