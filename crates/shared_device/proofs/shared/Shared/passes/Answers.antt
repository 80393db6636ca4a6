use Rattle.std.proofs.{Common.◌≡◌, Common.◌+◌, Common.length, Common.ap, Common.◌∙◌, Common.subst, Common.arith, lemmas.List.length_push}
use Rattle.block_shard.specs.ruled_cells.{proofs.ClosingSteps.at_end, proofs.ClosingSteps.in_front, specs.Calls.IsNew}
use Rattle.shared_device.{specs.Passing.IsNewPass, proofs.Fresh.each_led}
use Rattle.shared_device.proofs.shared.Shared.passes.Goals as goal

pub pass-requires-clause-new : goal.pass-requires-clause-new
pass-requires-clause-new c =
    let rest = c.pop.new.self.items in
    let ok = c.pop.new.self.ok.0 in
    let is = c.len-in-Some.ensures in
    let len : length rest ≡ c.len-in-Some.result = omega (arith, ok, is) in
    subst (λ n. IsNew c.args.self.now.cells (record { config = c.args.self.now.config; actors = c.args.actors.now }) n c.in-Some.seat) len
    (c.loop-seat.invariant.left (length rest) c.in-Some.seat (at_end c.loop-seat.seats.items rest c.in-Some.seat c.in-Some.ensures.items))

pub loop-seat-preserved : goal.loop-seat-preserved
loop-seat-preserved c =
    let i = c.loop-seat.invariant in
    let all = c.loop-seat.seats.items in
    let rest = c.pop.new.self.items in
    let ok = c.pop.new.self.ok.0 in
    let is = c.len-in-Some.ensures in
    let len : c.len-in-Some.result ≡ length rest = omega (arith, ok, is) in
    let items = c.in-Some.ensures.items in
    let long : length all ≡ length rest + 1 = ap length items ∙ length_push rest c.in-Some.seat in
    let led = ap length c.append_first.ensures.items in
    let count = i.count in record {
      left = λ k s at. i.left k s (in_front all rest c.in-Some.seat items k s at);
      count = omega (arith, long, led, count);
      each = each_led (IsNewPass c.args.self.now c.args.actors.now) c.loop-seat.passes.items _ c.pass.result (length rest) (length all) c.append_first.ensures.items long
          (subst (λ n. IsNewPass c.args.self.now c.args.actors.now n c.pass.result) len c.pass.ensures) i.each;
      room = let room = i.room in let same = c.append_first.ensures.room in omega (arith, room, same);
    }

pub returns-clause-each : goal.returns-clause-each
returns-clause-each c = λ k p at.
    let ok = c.loop-seat.seats.ok.0 in
    let none = c.in_default.ensures.cases.0 in
    let here : length c.loop-seat.seats.items + k ≡ k = omega (arith, ok, none) in
    subst (λ n. IsNewPass c.args.self.now c.args.actors.now n p) here (c.loop-seat.invariant.each k p at)
