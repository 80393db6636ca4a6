use Rattle.std.proofs.Common.{◌<◌, ◌≤◌, length, refl, sym, ap, subst, arith}
use Rattle.control_core.specs.device_rules.specs.Views.{View}
use Rattle.region_config.specs.{Configurations.Configuration, declared.region_spec.RegionSpec.RegionSpec}
use Rattle.device_plain.proofs.NewBlocks.{is_set, keeps_size, past_regions, refused_unsupported, set_supported, unsupported, with_size}
use Rattle.device_plain.{proofs.ToldAlone.takes_told, specs.Alone.IsAlone, specs.Telling.resized}
use Rattle.isolation_laws.specs.{Solo.block_set, declared.items.Item.Item}
use Rattle.device_plain.proofs.alone.Alone.resize.Goals as goal

pub returns-then-region-regions : goal.returns-then-region-regions
returns-then-region-regions c = λ c' v word alone.
    let past : length c.args.self.now.present.regions ≤ c.args.region = omega (arith, c.regions.ensures.value, c.if-region-regions.true) in
    subst (λ (u : View). IsAlone c' c.args.host u word c.args.self.now) (sym (past_regions c' c.args.host v word c.args.self.now c.args.region c.args.size alone past)) alone

pub returns-in-Ok : goal.returns-in-Ok
returns-in-Ok c = λ c'.
    let known : c.args.region < length c.args.self.now.present.regions = omega (arith, c.regions.ensures.value, c.if-region-regions.false) in
    let same = ap (λ (spec : RegionSpec). spec.sanitize) c.region-sanitize.ensures.value in
    takes_told c' c.args.host (Item.Block c.args.region c.args.size) (resized c.args.host c.args.region) (with_size c.args.region c.args.size)
    c.args.self.now (record c.args.self.now { present = c.set_block_size.new.self }) c.tell_size.new.self
    (λ v word alone. keeps_size c' c.args.host v word c.args.self.now c.args.region c.args.size alone known c.set_block_size.new.self c.in-Ok.ensures.set)
    (λ v word alone. is_set c' c.args.host v word c.args.self.now c.args.region c.args.size alone known (set_supported _ _ _ same c.in-Ok.ensures.answer))
    (λ d v n. refl)
    c.tell_size.result (c.tell_size.ensures c')

pub returns-in-Err : goal.returns-in-Err
returns-in-Err c = λ c' v word alone.
    let known : c.args.region < length c.args.self.now.present.regions = omega (arith, c.regions.ensures.value, c.if-region-regions.false) in
    let same = ap (λ (spec : RegionSpec). spec.sanitize) c.region-sanitize.ensures.value in
    let stays = unsupported c' c.args.host v word c.args.self.now c.args.region c.args.size alone known (refused_unsupported _ _ _ _ same c.in-Err.ensures.answer) in
    subst (λ (n : Configuration). IsAlone c' c.args.host (block_set c' c.args.host v c.args.region c.args.size) word (record c.args.self.now { present = n })) (sym c.in-Err.ensures.kept)
    (subst (λ (u : View). IsAlone c' c.args.host u word c.args.self.now) (sym stays) alone)
