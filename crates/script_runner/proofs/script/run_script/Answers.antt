use Rattle.std.proofs.{Common.subst, Common.sym, Common.◌∙◌, lemmas.Result.err_from_is_err_and}
use Rattle.region_config.specs.Configurations.{Configuration}
use Rattle.script_runner.{specs.Fronts.RanRest, proofs.Fronts.fault_behind, proofs.Fronts.ran_script}
use Rattle.script_runner.proofs.script.run_script.Goals as goal

pub returns-clause-ran : goal.returns-clause-ran
returns-clause-ran c =
    let device = c.run_rest.new.device in
    let ran : RanRest device.config.hosts c.in_ok-head.head.lanes c.in_ok-head.reader.rest device.journal =
    subst (λ (k : Configuration). RanRest k.hosts c.in_ok-head.head.lanes c.in_ok-head.reader.rest device.journal) (sym c.in_ok-run_rest.ensures.config) c.in_ok-run_rest.ensures.ran in
    ran_script c.args.input c.in_ok-head.head c.in_ok-head.reader device.config device.journal c.in_ok-head.ensures
    (c.in_ok-run_rest.ensures.config ∙ c.in_ok-device.ensures.config) ran

pub returns-in_err-run_rest-clause-fault : goal.returns-in_err-run_rest-clause-fault
returns-in_err-run_rest-clause-fault c =
    let p = err_from_is_err_and c.from_residual-in_err-run_rest.result c.from_residual-in_err-run_rest.ensures.1 in
    rw (p.1, p.2) (λ real. fault_behind c.args.input c.in_ok-head.head c.in_ok-head.reader _ c.in_ok-head.ensures (c.in_err-run_rest.ensures.fault real))
