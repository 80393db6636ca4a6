use Rattle.std.proofs.Common.{◌≡◌, ◌++◌, [], List, None, length, append-nil, append_assoc, ap, arith, length-append, refl, subst, sym, ◌∙◌}
use Rattle.region_config.specs.Configurations.{Configuration}
use Rattle.script_gen.specs.{script_codec.specs.declared.script_line.Line.Line, Drawing.IsNextRound, Drawing.IsRound, Generated.generated, Generated.generated_config, Generated.generated_lines}
use Rattle.script_runner.{specs.Fronts.RanLines, specs.Fronts.RunsLines, proofs.Fronts.ran_all, proofs.Fronts.ran_none}
use Rattle.script_runner.proofs.generated.run_rounds.Goals as goal

pub loop-device-init : goal.loop-device-init
loop-device-init c = record {
  done = [];
  number = refl;
  parts = sym c.new-rounds.ensures.rest;
  count = omega (arith, c.new-rounds.ensures.lines);
  config = c.in_ok-device.ensures.config ∙ c.in_ok-config.ensures;
  ran = ran_none generated_config.hosts 1 c.in_ok-device.device.journal c.in_ok-device.ensures.fresh;
}

pub loop-device-preserved : goal.loop-device-preserved
loop-device-preserved c =
    let done = c.loop-device.invariant.done in
    let lines : List Line = c.in-Some.lines in
    let round : IsRound c.loop-device.rounds c.next.new.self lines = subst (λ found. IsNextRound c.loop-device.rounds c.next.new.self found) c.in-Some.is c.in_ok-lines.ensures.next in
    let hosts = ap (λ (k : Configuration). k.hosts) c.loop-device.invariant.config in
    let ran : RunsLines generated_config.hosts 1 c.loop-device.number lines c.loop-device.device.journal c.run_lines.new.device.journal =
    subst (λ n. RunsLines n 1 c.loop-device.number lines c.loop-device.device.journal c.run_lines.new.device.journal) hosts c.in_ok-number.ensures.ran in
    record {
      done = done ++ lines;
      number = omega (arith, c.in_ok-number.ensures.number, c.loop-device.invariant.number, length-append done lines);
      parts = c.loop-device.invariant.parts ∙ ap (λ xs. done ++ xs) round.rest ∙ sym (append_assoc done lines c.next.new.self.rest);
      count = omega (arith, c.loop-device.invariant.count, ap length round.rest, length-append lines c.next.new.self.rest, length-append done lines);
      config = c.in_ok-number.ensures.config ∙ c.loop-device.invariant.config;
      ran = ran.goes_on done c.loop-device.invariant.number c.loop-device.invariant.ran;
    }

pub returns-clause-ran : goal.returns-clause-ran
unfolding generated
returns-clause-ran c =
    let done = c.loop-device.invariant.done in
    let device = c.loop-device.device in
    let none : IsNextRound c.loop-device.rounds c.next.new.self None = subst (IsNextRound c.loop-device.rounds c.next.new.self) c.in_default.is c.in_ok-lines.ensures.next in
    let whole : generated_lines c.args.seed ≡ done = c.loop-device.invariant.parts ∙ ap (λ xs. done ++ xs) none.0 ∙ append-nil done in
    let ran : RanLines device.config.hosts 1 done device.journal =
    subst (λ (k : Configuration). RanLines k.hosts 1 done device.journal) (sym c.loop-device.invariant.config) c.loop-device.invariant.ran in
    ran_all (generated c.args.seed) done device.config device.journal c.loop-device.invariant.config whole ran
