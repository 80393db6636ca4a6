use Rattle.std.proofs.Common.{◌≡◌, ◌+◌, [], ◌∷◌, ◌++◌, length, take, sym, ap, subst, ◌∙◌, arith}
use Rattle.std.proofs.lemmas.List.{length-take-le, take_more}
use Rattle.region_config.specs.Configurations.{Configuration}
use Rattle.report.specs.script_codec.specs.{Covering.Runs, declared.script_line.Line.Line}
use Rattle.pool_planner.{specs.PlanRuns.AddsScriptLine, proofs.PlanRunning.one_more_line}
use Rattle.pool_planner.proofs.running.run_lines.Goals as goal

pub loop-line-preserved : goal.loop-line-preserved
loop-line-preserved c =
    let i = c.loop-line.line-index in
    let line : Line = c.line-item.result in
    let hosts : c.loop-line.device.config.hosts ≡ c.args.device.now.config.hosts = ap (λ (k : Configuration). k.hosts) c.loop-line.invariant.config in
    let adds : AddsScriptLine c.args.device.now.config.hosts c.args.lanes (c.loop-line.number + 1) line c.loop-line.device.journal c.run_line.new.device.journal =
    subst (λ n. AddsScriptLine n c.args.lanes (c.loop-line.number + 1) line c.loop-line.device.journal c.run_line.new.device.journal) hosts c.in_ok-run_line.ensures.ran in
    let more : take (i + 1) c.args.lines.now ≡ take i c.args.lines.now ++ line ∷ [] =
    take_more c.args.lines.now i line c.loop-line-test.true ∙ ap (λ x. take i c.args.lines.now ++ x ∷ []) (sym c.line-item.is) in
    let counted : c.loop-line.number + 1 ≡ length (take i c.args.lines.now) + 1 =
    omega (arith, c.loop-line.invariant.number, length-take-le i c.args.lines.now (omega (arith, c.loop-line-test.true))) in
    record {
      number = omega (arith, c.loop-line.invariant.number);
      config = c.in_ok-run_line.ensures.config ∙ c.loop-line.invariant.config;
      ran = subst (λ lines. Runs c.args.device.now.config.hosts c.args.lanes 1 lines c.run_line.new.device.journal) (sym more)
          (one_more_line c.args.device.now.config.hosts c.args.lanes (c.loop-line.number + 1) (take i c.args.lines.now) line c.loop-line.device.journal c.run_line.new.device.journal counted c.loop-line.invariant.ran adds);
    }
