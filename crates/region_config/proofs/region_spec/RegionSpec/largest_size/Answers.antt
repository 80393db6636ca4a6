use Rattle.std.proofs.{Common.sym, Common.◌∙◌, Common.arith, lemmas.Nat.one_shl, lemmas.Nat.pow_pos}
use Rattle.region_config.proofs.Powers.{largest_is}
use Rattle.region_config.proofs.region_spec.RegionSpec.largest_size.Goals as goal

pub returns : goal.returns
returns c =
    let shifted = one_shl c.ilog2.result 64 c.ilog2.ensures.bound in
    record {
      value = shifted ∙ sym (largest_is c.args.self.now c.ilog2.result c.ilog2.ensures.power_le c.ilog2.ensures.next_power_gt c.ilog2.ensures.bound);
      some = omega (arith, shifted, pow_pos c.ilog2.result);
    }
