use Rattle.std.proofs.Common.{◌≡◌, ap, length, sym, subst, drop, arith}
use Rattle.script_runner.{specs.ScriptPasses.AreNewPasses, specs.ScriptPasses.HaveRun, proofs.LinesRan.front_taken}
use Rattle.script_runner.proofs.running.run_afresh.Goals as goal

pub run_lines-requires-clause-new : goal.run_lines-requires-clause-new
run_lines-requires-clause-new g c κs within =
    subst (AreNewPasses c.in_ok-device.device c.args.lanes) (sym c.as_mut_slice.ensures.value) c.in_ok-device.ensures.new

pub returns-clause-ran : goal.returns-clause-ran
returns-clause-ran g c =
    let old = c.in_ok-device.passes in
    let new = c.run_lines.new.passes in
    let ok = old.ok.0 in
    let same = c.run_lines.auto.passes in
    let value = ap length c.as_mut_slice.ensures.value in
    let long : length new ≡ old.len = omega (arith, ok, same, value) in
    subst (HaveRun c.in_ok-device.device c.args.lanes c.args.lines.now) (sym (front_taken old.len new (drop (length new) old.items) long)) c.in_ok-run_lines.ensures.ran
