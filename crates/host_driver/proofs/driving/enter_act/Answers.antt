use Rattle.std.proofs.Common.{subst, ap, ◌∙◌}
use Rattle.region_config.specs.Configurations.{Configuration}
use Rattle.device_plain.specs.Devices.{Appends}
use Rattle.report.specs.script_codec.specs.Covering.{pass_of}
use Rattle.host_driver.proofs.driving.enter_act.Goals as goal

pub returns-clause-entered : goal.returns-clause-entered
returns-clause-entered c =
    subst (λ n. Appends c.args.device.now c.enter.new.self n c.args.line c.args.actor c.args.act)
    (c.pass_of-pass.ensures ∙ ap (λ n. pass_of n 1 c.args.actor 0) (c.hosts-hosts.ensures.value ∙ ap (λ (k : Configuration). k.hosts) (c.first_config.ensures ∙ c.control.ensures.config)))
    c.in_ok-enter.ensures.entered
