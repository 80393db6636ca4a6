use Rattle.std.proofs.{Common.◌∙◌, Common.List, Common.subst, lemmas.Result.IfOk-weaker}
use Rattle.region_config.specs.Configurations.{Configuration}
use Rattle.device_plain.specs.device_rules.specs.Legal.{Legal}
use Rattle.report.specs.script_codec.specs.{Covering.Runs, declared.script_line.Line.Line}
use Rattle.pool_planner.specs.PlanEnds.{IsDemandsEnd, IsPlannedEnd}
use Rattle.pool_planner.proofs.deciding.decide_demands.Goals as goal

pub returns : goal.returns
returns c =
    let s = c.args.script in
    let q = c.args.demands.now in
    let device = c.run_lines.new.device in
    let same = c.in_ok-run_lines.ensures.config ∙ c.in_ok-device.ensures.config in
    let legal : Legal s.config device.journal = subst (λ (d : Configuration). Legal d device.journal) same c.journal-journal.ensures.legal in
    let ran : Runs s.config.hosts s.lanes 1 s.lines device.journal =
    subst (λ (d : Configuration). Runs d.hosts s.lanes 1 s.lines device.journal) c.in_ok-device.ensures.config
    (subst (λ (lines : List Line). Runs c.in_ok-device.device.config.hosts s.lanes 1 lines device.journal) c.as_slice.ensures c.in_ok-run_lines.ensures.ran) in
    IfOk-weaker c.decide_plan.result
    (λ e. IsPlannedEnd device.config device.journal q e.0 e.1)
    (λ e. IsDemandsEnd s q e.0 e.1)
    (λ e ends. record {
      journal = device.journal;
      runs = record { legal = legal; runs = ran };
      ends = subst (λ (d : Configuration). IsPlannedEnd d device.journal q e.0 e.1) same ends;
    })
    c.decide_plan.ensures
