use Rattle.std.proofs.Common.{subst, ap, ◌∙◌}
use Rattle.region_config.specs.{Configurations.Configuration, Soundness.IsSound}
use Rattle.device_plain.specs.Devices.{Enters}
use Rattle.report.specs.script_codec.specs.Covering.{pass_of}
use Rattle.host_driver.proofs.settling.step_act.Goals as goal

pub returns-clause-entered : goal.returns-clause-entered
returns-clause-entered c =
    subst (λ n. Enters c.args.device.now c.step.new.self n 0 c.args.actor c.args.act.now c.in_ok-reply.reply)
    (c.pass_of-pass.ensures ∙ ap (λ n. pass_of n 1 c.args.actor 0) (c.hosts-hosts.ensures.value ∙ ap (λ (k : Configuration). k.hosts) (c.first_config.ensures ∙ c.control.ensures.config)))
    c.in_ok-reply.ensures.entered

pub returns-clause-sound : goal.returns-clause-sound
returns-clause-sound c = subst IsSound (c.first_config.ensures ∙ c.control.ensures.config) c.hosts-hosts.ensures.sound
