use Rattle.std.proofs.Common.{◌≡◌, ◌+◌, length, take, ap, arith, subst, sym, ◌∙◌}
use Rattle.std.{specs.Prelude.IsTrue, proofs.lemmas.List.length-take-le, proofs.lemmas.List.take_all}
use Rattle.region_config.specs.Configurations.{Configuration}
use Rattle.host_driver.{proofs.InTurns.as_own, proofs.InTurns.line_fits, proofs.InTurns.lines_more, proofs.InTurns.one_line_more, proofs.InTurns.rest_own, specs.Journals.is_fitting}
use Rattle.host_driver.specs.Running.{HasLines}
use Rattle.host_driver.proofs.driving.run_all.Goals as goal

pub run_line-requires-clause-turns : goal.run_line-requires-clause-turns
run_line-requires-clause-turns c =
    as_own c.args.driver.now.host c.args.driver.now.most c.loop-line.device c.loop-line.driver c.loop-line.invariant.lines.turns

pub run_line-requires-clause-rest : goal.run_line-requires-clause-rest
run_line-requires-clause-rest c =
    rest_own c.args.driver.now.host c.args.driver.now.most c.loop-line.device c.loop-line.driver c.loop-line.invariant.lines.turns c.loop-line.invariant.lines.rest

pub run_line-requires-clause-fits : goal.run_line-requires-clause-fits
run_line-requires-clause-fits c =
    subst (λ (k : Configuration). IsTrue (is_fitting k.hosts c.line-item.result)) (sym c.loop-line.invariant.lines.config)
    (line_fits c.args.device.now.config.hosts c.args.lines.now c.loop-line.line-index c.line-item.result c.loop-line-test.true c.line-item.is c.requires.fitting)

pub loop-line-preserved : goal.loop-line-preserved
loop-line-preserved c =
    let count : c.loop-line.number ≡ length (take c.loop-line.line-index c.args.lines.now) =
    c.loop-line.invariant.number ∙ sym (length-take-le c.loop-line.line-index c.args.lines.now (omega (arith, c.loop-line-test.true))) in
    record {
      number = ap (λ n. n + 1) c.loop-line.invariant.number;
      lines = subst (λ done. HasLines c.args.device.now.config c.args.driver.now.host c.args.driver.now.most done c.run_line.new.device c.run_line.new.driver)
          (sym (one_line_more c.args.lines.now c.loop-line.line-index c.line-item.result c.loop-line-test.true c.line-item.is))
          (lines_more c.args.device.now.config c.args.driver.now.host c.args.driver.now.most (take c.loop-line.line-index c.args.lines.now) c.line-item.result c.loop-line.number
          c.loop-line.device c.run_line.new.device c.loop-line.driver c.run_line.new.driver count c.loop-line.invariant.lines c.in_ok-run_line.ensures.line c.in_ok-run_line.ensures.rest);
    }

pub returns : goal.returns
returns c =
    subst (λ done. HasLines c.args.device.now.config c.args.driver.now.host c.args.driver.now.most done c.loop-line.device c.loop-line.driver)
    (take_all c.loop-line.line-index c.args.lines.now c.loop-line-test.false) c.loop-line.invariant.lines
