use Rattle.std.proofs.Common.{◌*◌, arith, ap, ◌∙◌}
use mathlib.Core.Option.{none}
use Rattle.atomic_table.specs.Table.{step}
use Rattle.ruled_cells.{specs.Turning.marks_seat, proofs.TurnPlays.marks, proofs.TurnsApart.allows_apart}
use Rattle.ruled_cells.proofs.turns.steps.mark.Goals as goal

pub store-requires : goal.store-requires
store-requires g c =
    let b = c.requires.board in
    let at = c.word_of.ensures in
    let slots = c.args.board.now.table_id.slots in
    let holds = g.P.Protocol.holds c.args.board.now.key in
    let me = c.args.seat.now.me in (
      b.0,
      omega (arith, at, b),
      allows_apart _ _ holds me slots _ slots _ (λ _. c.args.value) (λ w _. marks_seat g.M.Marking.then (step slots w c.args.value 0 none) me c.args.value) (at ∙ ap (λ n. 8 * n) b.1) (omega arith)
          (marks _ _ holds me slots _ c.args.number c.args.value g.M.Marking.then c.requires.resting c.requires.rule),
    )
