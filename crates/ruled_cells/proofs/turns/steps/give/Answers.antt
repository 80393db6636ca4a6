use Rattle.std.proofs.Common.{arith, ap, sym, subst, ◌∙◌}
use mathlib.Core.Option.{none}
use Rattle.atomic_table.specs.Table.{step}
use Rattle.ruled_cells.proofs.{TurnCalls.filled_moves, TurnCalls.given_is, TurnPlays.gives_back, TurnsApart.allows_apart, TurnsApart.in_row_at}
use Rattle.ruled_cells.specs.Turning.{HasTurn, GivesTurn, given_back}
use Rattle.ruled_cells.proofs.turns.steps.give.Goals as goal

pub store-requires : goal.store-requires
store-requires g c =
    let b = c.requires.board in
    let r = c.requires.rule in
    let e = c.fill.ensures.moving in
    let at = c.word_of.ensures in
    let slots = c.args.board.now.table_id.slots in
    let holds = g.P.Protocol.holds c.args.board.now.key in
    let me = c.fill.new.seat.me in (
      c.fill.ensures.board.0 ∙ b.0,
      omega (arith, at, b),
      allows_apart _ _ holds me slots _ c.args.cell _ (λ _. 0) (λ w _. given_back g.M.Outcome.then (step slots w 0 0 none) me 0) at (omega (arith, b))
          (gives_back _ _ holds me slots _ c.args.number c.args.cell r.0 c.args.value g.M.Outcome.then (ap (λ m. m.0.number) e ∙ c.requires.resting.number)
          (filled_moves c.args.cell c.args.number r.0 c.args.value c.args.seat.now.me me c.requires.resting r.1 e)
          (subst (λ m. HasTurn m.0.taken c.args.cell r.0) (sym e) r.1) b.1
          (subst (λ m. GivesTurn holds slots c.args.number m.0.taken m.0.client c.args.cell r.0 c.args.value g.M.Outcome.then) (sym e) r.2)),
    )

pub returns-clause-given : goal.returns-clause-given
returns-clause-given g c =
    let r = c.requires.rule in
    let given = subst (λ w. given_back g.M.Outcome.then (step c.args.board.now.table_id.slots w 0 0 none) c.fill.new.seat.me 0 c.store.new.seat.me) (in_row_at _ c.args.cell c.word_of.ensures) c.store.ensures.2 in
    given_is g.M.Outcome.then c.args.number c.args.cell r.0 c.args.value c.args.seat.now.me c.fill.new.seat.me c.store.new.seat.me r.1 c.fill.ensures.moving given
