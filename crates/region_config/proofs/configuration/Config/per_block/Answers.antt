use Rattle.std.proofs.{Common.◌≡◌, Common.◌%◌, Common.◌/◌, Common.ap, Common.arith, Common.◌∙◌, Math.Facts.Fits-of_lt, Math.Nat.mul-mod_left}
use Rattle.region_config.{specs.Granules.region_spec, proofs.Faultless.granules_within, proofs.Faultless.some_granules, proofs.WholeBlocks.few_in_block, proofs.WholeBlocks.whole_blocks}
use Rattle.region_config.proofs.configuration.Config.per_block.Goals as goal

pub returns-clause-value : goal.returns-clause-value
returns-clause-value c =
    let spec : c.region-spec.result ≡ region_spec c.args.self.now c.args.region = rw c.layout.ensures.same at c.region-spec.ensures ∙ ap (region_spec c.args.self.now) c.region.view_is in
    λ i. (spec i).block / c.granule_size.ensures.value i

pub overflow_cast-result : goal.overflow_cast-result
overflow_cast-result c =
    let spec : c.region-spec.result ≡ region_spec c.args.self.now c.args.region = rw c.layout.ensures.same at c.region-spec.ensures ∙ ap (region_spec c.args.self.now) c.region.view_is in
    let w = whole_blocks c.args.self.now c.args.region c.requires c.layout.ensures.fine in
    let is : c.region-spec.result.block / c.granule_size.result ≡ w.per = (λ i. (spec i).block / c.granule_size.ensures.value i) ∙ w.per_is in
    let few = few_in_block c.args.self.now c.args.region (some_granules c.args.self.now c.args.region (c.layout.ensures.sound.each c.args.region c.requires)) w in
    Fits-of_lt (omega (arith, is, few, granules_within c.args.self.now c.args.region c.requires, c.layout.ensures.sound.granules))

pub returns-clause-some : goal.returns-clause-some
returns-clause-some c =
    let spec : c.region-spec.result ≡ region_spec c.args.self.now c.args.region = rw c.layout.ensures.same at c.region-spec.ensures ∙ ap (region_spec c.args.self.now) c.region.view_is in
    let w = whole_blocks c.args.self.now c.args.region c.requires c.layout.ensures.fine in
    let is : c.region-spec.result.block / c.granule_size.result ≡ w.per = (λ i. (spec i).block / c.granule_size.ensures.value i) ∙ w.per_is in
    omega (arith, w.some, is)

pub returns-clause-whole : goal.returns-clause-whole
returns-clause-whole c =
    let spec : c.region-spec.result ≡ region_spec c.args.self.now c.args.region = rw c.layout.ensures.same at c.region-spec.ensures ∙ ap (region_spec c.args.self.now) c.region.view_is in
    let w = whole_blocks c.args.self.now c.args.region c.requires c.layout.ensures.fine in
    let is : c.region-spec.result.block / c.granule_size.result ≡ w.per = (λ i. (spec i).block / c.granule_size.ensures.value i) ∙ w.per_is in
    (λ i. w.granules i % is i) ∙ mul-mod_left w.blocks w.per
