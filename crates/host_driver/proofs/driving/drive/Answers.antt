use Rattle.std.{proofs.Common.◌<◌, proofs.Common.[], proofs.Common.refl, proofs.Common.subst, proofs.Common.sym, proofs.Common.◌∙◌, specs.Prelude.IsTrue, specs.List.list_all}
use Rattle.region_config.specs.{Configurations.Configuration, Soundness.IsSound}
use Rattle.host_driver.{specs.Journals.is_fitting, specs.Running.HasLines, specs.Standing.Standing, specs.Standing.first_standing, proofs.InTurns.all_driven, proofs.InTurns.lines_first}
use Rattle.host_driver.proofs.driving.drive.Goals as goal

pub run_all-requires-clause-begun : goal.run_all-requires-clause-begun
run_all-requires-clause-begun c =
    let known = subst (λ (k : Configuration). c.args.host < k.hosts) (sym c.in_ok-device.ensures.config) c.requires.known in
    subst (λ (k : Standing). HasLines c.in_ok-device.device.config k.host k.most [] c.in_ok-device.device k) (sym c.new-driver.ensures)
    (lines_first c.in_ok-device.device.config c.args.host c.args.most known c.in_ok-device.device (first_standing c.args.host c.args.most) refl c.in_ok-device.ensures.fresh refl)

pub run_all-requires-clause-fitting : goal.run_all-requires-clause-fitting
run_all-requires-clause-fitting c =
    subst (λ lines. IsTrue (list_all (is_fitting c.in_ok-device.device.config.hosts) lines)) (sym c.as_slice.ensures)
    (subst (λ (k : Configuration). IsTrue (list_all (is_fitting k.hosts) c.args.lines.now)) (sym c.in_ok-device.ensures.config) c.requires.fitting)

pub returns-clause-config : goal.returns-clause-config
returns-clause-config c = c.in_ok-run_all.ensures.config ∙ c.in_ok-device.ensures.config

pub returns-clause-drive : goal.returns-clause-drive
returns-clause-drive c =
    let sound : IsSound c.args.config =
    subst IsSound (c.first_config.ensures ∙ c.control.ensures.config ∙ c.in_ok-run_all.ensures.config ∙ c.in_ok-device.ensures.config) c.hosts-hosts.ensures.sound in
    let ran : HasLines c.args.config c.args.host c.args.most c.args.lines.now c.run_all.new.device c.run_all.new.driver =
    subst (λ lines. HasLines c.args.config c.args.host c.args.most lines c.run_all.new.device c.run_all.new.driver) c.as_slice.ensures
    (subst (λ (k : Standing). HasLines c.args.config k.host k.most c.as_slice.result.now c.run_all.new.device c.run_all.new.driver) c.new-driver.ensures
    (subst (λ k. HasLines k c.new-driver.result.host c.new-driver.result.most c.as_slice.result.now c.run_all.new.device c.run_all.new.driver) c.in_ok-device.ensures.config c.in_ok-run_all.ensures)) in
    all_driven c.args.config c.args.host c.args.most sound c.args.lines.now c.run_all.new.device c.run_all.new.driver ran
