use Rattle.std.proofs.Common.{◌≡◌, ◌+◌, ◌∷◌, [], ◌++◌, take, length, List, ap, arith, subst, sym, ◌∙◌}
use Rattle.std.proofs.lemmas.List.{length-take-le, take_more}
use Rattle.region_config.specs.Configurations.{Configuration}
use Rattle.script_gen.specs.script_codec.specs.declared.script_line.Line.{Line}
use Rattle.script_runner.{specs.Fronts.RunsLine, specs.Fronts.RunsLines, proofs.Fronts.runs_one_more}
use Rattle.script_runner.proofs.lines.run_lines.Goals as goal

pub loop-line-preserved : goal.loop-line-preserved
loop-line-preserved c =
    let line : Line = c.line-item.result in
    let lines : List Line = c.as_slice-line-items.result.now in
    let done : List Line = take c.loop-line.line-index lines in
    let more : take (c.loop-line.line-index + 1) lines ≡ done ++ line ∷ [] =
    take_more lines c.loop-line.line-index line c.loop-line-test.true ∙ ap (λ l. done ++ l ∷ []) (sym c.line-item.is) in
    let counted : c.loop-line.number ≡ c.args.behind + length done =
    omega (arith, c.loop-line.invariant.number, length-take-le c.loop-line.line-index lines c.loop-line.auto.line-index-end) in
    let hosts : c.loop-line.device.config.hosts ≡ c.args.device.now.config.hosts = ap (λ (k : Configuration). k.hosts) c.loop-line.invariant.config in
    let ran : RunsLine c.args.device.now.config.hosts c.args.lanes (c.loop-line.number + 1) line c.loop-line.device.journal c.run_line.new.device.journal =
    subst (λ n. RunsLine n c.args.lanes (c.loop-line.number + 1) line c.loop-line.device.journal c.run_line.new.device.journal) hosts c.in_ok-run_line.ensures.ran in
    record {
      number = omega (arith, c.loop-line.invariant.number);
      ran = subst (λ ls. RunsLines c.args.device.now.config.hosts c.args.lanes c.args.behind ls c.args.device.now.journal c.run_line.new.device.journal) (sym more)
          (runs_one_more c.args.device.now.config.hosts c.args.lanes c.args.behind done line c.loop-line.number c.args.device.now.journal c.loop-line.device.journal c.run_line.new.device.journal counted c.loop-line.invariant.ran ran);
      config = c.in_ok-run_line.ensures.config ∙ c.loop-line.invariant.config;
    }
