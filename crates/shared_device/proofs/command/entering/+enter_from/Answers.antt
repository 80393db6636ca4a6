use Rattle.std.proofs.Common.{◌+◌, ◌≤◌, rules, set, suc, None, arith, ap, sym, subst, ◌∙◌}
use lib.ListN.{get_elem?}
use Rattle.block_shard.specs.ruled_cells.specs.Seats.{HasCell, seat_view, turns_of}
use Rattle.shared_device.proofs.EnteringSteps.{may_after, may_give, noted_more, noted_till, still_of, touched_more, touched_till}
use Rattle.shared_device.{proofs.TurnsBack.set_back, specs.Entering.HasNoted, specs.Entering.HasTouched}
use Rattle.shared_device.proofs.command.entering.+enter_from.Goals as goal

pub note-requires-clause-touched : goal.note-requires-clause-touched
note-requires-clause-touched g t c =
    let found = c.first_touched-at.ensures in
    subst (λ n. HasTouched c.args.seat.now n c.args.plan.entry) c.if-at-eq16.true
    (touched_till c.args.seat.now c.args.index c.first_touched-at.result c.args.plan.entry found.from found.apart c.requires.touched)

pub returns-then-at-eq16-clause-view : goal.returns-then-at-eq16-clause-view
returns-then-at-eq16-clause-view g t c =
    let found = c.first_touched-at.ensures in
    noted_till c.args.index c.first_touched-at.result c.args.plan.entry (seat_view c.args.seat.now) (seat_view c.note.new.seat) found.from found.apart
    (subst (λ n. HasNoted n c.args.plan.entry (seat_view c.args.seat.now) (seat_view c.note.new.seat)) (sym c.if-at-eq16.true) c.note.ensures.view)

pub enter_from-requires : goal.enter_from-requires
enter_from-requires g t c κs within =
    let r = c.requires in
    let at = c.first_touched-at.result in
    let found = c.first_touched-at.ensures in
    let took = c.take-shard.ensures in
    let more = found.from in
    let less : at + 1 ≤ 16 = (let i = found.until in let n = c.if-at-eq16.false in omega (arith, i, n)) in
    let may = may_after c.args.seat.now c.take-shard.new.seat at _ c.args.control.now c.args.plan took.seat took.turn.0 took.view r.may in
    let before = touched_till c.args.seat.now c.args.index at c.args.plan.entry found.from found.apart r.touched in
    let touched = touched_more c.args.seat.now c.take-shard.new.seat at c.args.plan.entry c.take-shard.result took.turn.0 took.turn.1 before in
    (omega (arith, more, less), (search rules, ((still_of _ _ _ took.seat r.of.0, r.of.1), (less, (may, touched)))))

pub give-requires-clause-may : goal.give-requires-clause-may
give-requires-clause-may g t c =
    let at = c.first_touched-at.result in
    let found = c.first_touched-at.ensures in
    let took = c.take-shard.ensures in
    let rest = c.enter_from.ensures in
    let touch = found.touched (let i = found.until in let n = c.if-at-eq16.false in omega (arith, i, n)) in
    let may = may_after c.args.seat.now c.take-shard.new.seat at _ c.args.control.now c.args.plan took.seat took.turn.0 took.view c.requires.may in
    let config = took.told.config_is ∙ ap (λ v. v.about.config) (sym took.view) in
    may_give c.take-shard.new.seat c.enter_from.new.seat c.args.control.now c.args.plan at c.take-shard.result c.change.new.cell
    may took.turn.1 config rest.turns rest.view touch c.change.ensures.made c.change.ensures.follows

pub returns-clause-turns : goal.returns-clause-turns
returns-clause-turns g t c =
    let at = c.first_touched-at.result in
    let more = c.first_touched-at.ensures.from in
    let took = c.take-shard.ensures in
    c.give.ensures.turn
    ∙ ap (λ l. set l (suc at) None) (c.enter_from.ensures.turns ∙ took.turn.0)
    ∙ set_back (turns_of c.args.seat.now) (suc at) _ (c.requires.touched.no_others at more)

pub returns-clause-view : goal.returns-clause-view
returns-clause-view g t c =
    let e = c.args.plan.entry in
    let at = c.first_touched-at.result in
    let found = c.first_touched-at.ensures in
    let took = c.take-shard.ensures in
    let rest = c.enter_from.ensures in
    let touch = found.touched (let i = found.until in let n = c.if-at-eq16.false in omega (arith, i, n)) in
    let has : HasCell c.enter_from.new.seat at c.take-shard.result = ap (λ l. get_elem? l (suc at)) rest.turns ∙ took.turn.1 in
    let noted = noted_more c.take-shard.new.seat c.enter_from.new.seat c.give.new.seat e at c.take-shard.result c.change.new.cell
    has touch c.change.ensures.made.entries_are rest.view c.give.ensures.told in
    noted_till c.args.index at e (seat_view c.args.seat.now) (seat_view c.give.new.seat) found.from found.apart
    (subst (λ v. HasNoted at e v (seat_view c.give.new.seat)) took.view noted)
