use Rattle.std.{proofs.Common.◌≡◌, proofs.Common.true, proofs.Common.false, proofs.Common.sym, proofs.Common.◌∙◌, specs.Int.is_power_of_two, proofs.lemmas.Bool.Decides.same_from_decides}
use Rattle.region_config.proofs.Powers.{supported, supported_is}
use Rattle.region_config.proofs.region_spec.RegionSpec.supports.Goals as goal

pub returns-then-is_power_of_two : goal.returns-then-is_power_of_two
returns-then-is_power_of_two c =
    let power : is_power_of_two c.args.size ≡ true = sym c.is_power_of_two.ensures ∙ c.if-is_power_of_two.true in
    rw power at (same_from_decides _ _ (supported_is c.args.self.now c.args.size c.ranges.size.fits) (supported c.args.self.now c.args.size))

pub returns-else-is_power_of_two : goal.returns-else-is_power_of_two
returns-else-is_power_of_two c =
    let power : is_power_of_two c.args.size ≡ false = sym c.is_power_of_two.ensures ∙ c.if-is_power_of_two.false in
    c.if-is_power_of_two.false ∙ rw power at (same_from_decides _ _ (supported_is c.args.self.now c.args.size c.ranges.size.fits) (supported c.args.self.now c.args.size))
