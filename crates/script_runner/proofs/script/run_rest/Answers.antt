use Rattle.std.proofs.Common.{◌≡◌, ◌+◌, ◌∷◌, [], ◌++◌, Ok, ap, arith, subst, sym, ◌∙◌}
use Rattle.std.proofs.lemmas.List.{length_push}
use Rattle.region_config.specs.Configurations.{Configuration}
use Rattle.script_gen.specs.script_codec.{specs.LineByLine.IsRead, specs.LineByLine.TakesLine, specs.declared.script_line.Line.Line, proofs.Lists.lines_go_on, proofs.Lists.with_lines}
use Rattle.script_runner.{specs.Fronts.RunsLine, proofs.Fronts.ran_one_more}
use Rattle.script_runner.proofs.script.run_rest.Goals as goal

pub loop-line-preserved : goal.loop-line-preserved
loop-line-preserved c =
    let line : Line = c.read.new.line in
    let done = c.loop-line.invariant.done in
    let taken : TakesLine c.loop-line.reader c.read.new.self line = subst (λ found. IsRead c.loop-line.reader c.read.new.self line (Ok found)) c.if-branch.true c.in_ok-read.ensures.next in
    let hosts : c.loop-line.device.config.hosts ≡ c.args.device.now.config.hosts = ap (λ (k : Configuration). k.hosts) c.loop-line.invariant.config in
    let ran : RunsLine c.args.device.now.config.hosts c.args.lanes (c.loop-line.number + 1) line c.loop-line.device.journal c.run_line.new.device.journal =
    subst (λ n. RunsLine n c.args.lanes (c.loop-line.number + 1) line c.loop-line.device.journal c.run_line.new.device.journal) hosts c.in_ok-run_line.ensures.ran in
    record {
      done = done ++ line ∷ [];
      number = ap (λ n. n + 1) c.loop-line.invariant.number ∙ sym (length_push done line);
      count = omega (arith, length_push done line, taken.left_is, c.loop-line.invariant.count);
      read = lines_go_on done line c.read.new.self.rest ∙ sym (ap (with_lines done) taken.is) ∙ c.loop-line.invariant.read;
      hosts = c.in_ok-read.ensures.hosts ∙ c.loop-line.invariant.hosts;
      lanes = c.in_ok-read.ensures.lanes ∙ c.loop-line.invariant.lanes;
      config = c.in_ok-run_line.ensures.config ∙ c.loop-line.invariant.config;
      ran = ran_one_more c.args.device.now.config.hosts c.args.lanes done line c.loop-line.number c.loop-line.device.journal c.run_line.new.device.journal c.loop-line.invariant.number c.loop-line.invariant.ran ran;
    }
