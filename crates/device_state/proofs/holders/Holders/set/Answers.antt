use Rattle.std.proofs.Common.{◌≡◌, ℕ, ◌+◌, min, ap, ◌∙◌, subst, length, arith}
use Rattle.std.specs.Prelude.{if◌then◌else◌}
use Rattle.cci_codec.specs.dcd_base.specs.{declared.media.Run.Run, Hosts.with_host, Hosts.without_host}
use Rattle.device_state.{specs.Entered.held_in, proofs.HolderSteps.whole_held}
use Rattle.device_state.proofs.holders.Holders.set.Goals as goal

pub returns : goal.returns
returns c =
    let f = λ (b : ℕ). if c.args.held then with_host b c.args.host else without_host b c.args.host in
    let long : c.len-len.result ≡ length c.args.self.now = omega (arith, ap length c.self.view_is) in
    subst (λ (run : Run). c.set_each.new.self ≡ held_in f run c.args.self.now) c.run.view_is
    (whole_held f _ c.min-first.result c.min-end.result c.args.self.now c.set_each.new.self
    (c.min-first.ensures ∙ ap (min c.run.inside.0.0.0) long)
    (c.min-end.ensures ∙ ap (min (c.run.inside.0.0.0 + c.run.inside.0.1.0)) long)
    c.set_each.ensures.granules c.set_each.ensures.each)
