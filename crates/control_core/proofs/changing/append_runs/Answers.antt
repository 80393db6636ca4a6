use Rattle.std.proofs.Common.{◌≡◌, ℕ, ◌+◌, ◌<◌, ◌≤◌, ◌∙◌, ap, arith, get_or}
use Rattle.cci_codec.specs.dcd_base.specs.declared.media.Run.{Run}
use Rattle.extent_list.specs.media_map.specs.region_config.specs.Granules.{granule_total}
use Rattle.control_core.{specs.PutChanges.change_to, proofs.Changed.added_more, proofs.Changed.inside_more, proofs.SoundChanges.sound_more}
use Rattle.control_core.proofs.changing.append_runs.Goals as goal

pub loop-at-preserved : goal.loop-at-preserved
loop-at-preserved c =
    let n = granule_total c.args.config.now in
    let later = c.alike_up_to-next.ensures.later in
    let pushed = c.in_ok-push.ensures.pushed in
    let bits = c.at-bits.ensures in
    let here = c.change_of.ensures ∙ ap (λ held. change_to c.args.effect.now held c.loop-at.at c.alike_up_to-next.result) bits in
    let same : (g : ℕ) → c.loop-at.at ≤ g → g < c.alike_up_to-next.result → get_or c.args.holders.now g 0 ≡ get_or c.args.holders.now c.loop-at.at 0 =
    λ g from below. c.alike_up_to-next.ensures.same g from below ∙ bits in
    let end : c.min-end.result ≤ granule_total c.args.config.now = omega (arith, c.min-end.ensures, c.requires.granules) in
    let known : c.loop-at.at < granule_total c.args.config.now = omega (arith, c.loop-at-test.true, end) in
    let within : c.alike_up_to-next.result ≤ c.min-end.result = omega (arith, c.alike_up_to-next.ensures.within, c.min-most.ensures) in
    let below : c.alike_up_to-next.result ≤ granule_total c.args.config.now = omega (arith, within, end) in
    let first = ap (λ (r : Run). r.first) c.region.view_is in
    let count = ap (λ (r : Run). r.count) c.region.view_is in
    let to : c.alike_up_to-next.result ≤ c.go_to_region.new.region.first + c.go_to_region.new.region.count =
    omega (arith, c.alike_up_to-next.ensures.within, c.min-most.ensures, c.saturating_add-in-loop-at.ensures, first, count) in
    record {
      added = added_more n c.args.holders.now c.args.effect.now c.args.run.now.first c.loop-at.at c.alike_up_to-next.result c.args.changes.now c.loop-at.changes c.push.new.self c.change_of.result
          c.loop-at.invariant.from later c.loop-at.invariant.added pushed here same;
      inside = λ all. inside_more n c.loop-at.at c.alike_up_to-next.result c.args.holders.now c.args.effect.now c.loop-at.changes c.push.new.self c.change_of.result
          later below (c.loop-at.invariant.inside all) pushed here;
      sound = λ none all. sound_more c.args.config.now c.loop-at.at c.alike_up_to-next.result c.args.holders.now c.args.effect.now c.go_to_region.new.region c.loop-at.changes c.push.new.self c.change_of.result
          later known c.requires.of_device c.go_to_region.ensures.region c.go_to_region.ensures.from to none (c.loop-at.invariant.sound none all) pushed here;
      region = λ some. c.go_to_region.ensures.region;
      from = omega (arith, c.loop-at.invariant.from, later);
      most = omega (arith, c.loop-at.invariant.most, within);
    }
