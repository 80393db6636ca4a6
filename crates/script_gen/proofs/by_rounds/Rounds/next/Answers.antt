use Rattle.std.proofs.Common.{◌<◌, ◌++◌, ap, ◌∙◌, arith}
use Rattle.script_gen.{specs.Drawing.draws_after, specs.Drawing.round_by, proofs.RoundSteps.next_round}
use Rattle.script_gen.proofs.by_rounds.Rounds.next.Goals as goal

pub returns-clause-next : goal.returns-clause-next
returns-clause-next c =
    let r = c.self.inside in
    let below : r.round < 256 = omega (arith, c.if-self-eq-ROUNDS.false, c.self.invariant) in
    let state_is = c.in_ok-append_round.ensures.draws ∙ ap (λ x. draws_after x 128) c.copy-draws.ensures in
    let none = c.in_ok-lines.ensures.items in
    let lines_are = c.in_ok-append_round.ensures.lines ∙ (λ i. none i ++ round_by r.round (c.copy-draws.ensures i)) in
    rw (← c.self.view_is, c.from_vec.ensures) (next_round r.round r.draws c.append_round.new.draws c.append_round.new.lines.items below state_is lines_are)
