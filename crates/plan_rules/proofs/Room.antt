-- What is to be gained is no more than a region has.
use Rattle.std.proofs.Common.{◌≡◌, ℕ, ◌*◌, ◌/◌, ◌^◌, ◌<◌, ◌≤◌, Bool, true, not, ◌==◌, List, length, get_or, refl, sym, ap, subst, ◌∙◌, arith, div-add-mod'}
use Rattle.std.proofs.{Math.Nat.div-mul-le_self, Math.Nat.mul-le-mul_right, Math.Nat.mul_assoc, lemmas.Bool.eq-eqb, lemmas.List.Filters.length-filter_both, lemmas.List.FromFn.length-range_with_len}
use Rattle.std.{proofs.lemmas.List.Sums.get_or-le-sum_by, specs.List.AllByRecursion, specs.List.filter, specs.List.range_with_len, specs.Prelude.if◌then◌else◌}
use Rattle.dcd_base.specs.declared.media.Run.{Run}
use Rattle.region_config.{proofs.Faultless.lengths_of_sound, proofs.PresentBlocks.granules_in-with_blocks, proofs.PresentBlocks.region_spec-with_blocks, specs.Configurations.Configuration}
use Rattle.region_config.specs.{Granules.granule_size, Granules.is_supported, Granules.region_granules, Granules.region_spec, Granules.with_blocks, Soundness.IsSound}
use Rattle.journal_core.specs.declared.outcome.Effect.{Effect}
use Rattle.granule_map.specs.Blocks.{block_count}
use Rattle.selection.specs.Selections.{is_free_block}
use Rattle.isolation_laws.specs.device_rules.{specs.Adding.area_of, specs.Adding.per_block, specs.Adding.region_free_blocks, proofs.Homes.size_same, proofs.Homes.supported_whole}
use Rattle.plan_rules.{specs.declared.demands.Demand.Demand, specs.declared.demands.Demands.Demands, specs.Holding.gain, specs.Planning.need_in, specs.Planning.no_demand, proofs.WithoutFault.by_index}

few_pass : (test : ℕ → Bool) (n : ℕ) → length (filter test (range_with_len 0 n)) ≤ n
few_pass test n = omega (arith, length-filter_both test (λ k. not (test k)) (λ k. refl) (range_with_len 0 n), length-range_with_len 0 n)

-- as many free blocks as a region has are no longer than it
pub free_fits : (c : Configuration) → IsSound c → (b : ℕ → ℕ) (free : ℕ → Bool) (r : ℕ) → r < length c.regions → is_supported (region_spec c r) (b r) ≡ true →
    (n : ℕ) → n ≤ region_free_blocks (with_blocks c b) free r → n * b r < 2 ^ 64
free_fits c sound b free r known supports n less =
    let size : ℕ = granule_size c r in
    let per : ℕ = b r / size in
    let block : (region_spec (with_blocks c b) r).block / granule_size (with_blocks c b) r ≡ per = λ i. (region_spec-with_blocks c b r known i).block / size_same c b r i in
    let area : Run = area_of (with_blocks c b) r in
    let all : block_count area (per_block (with_blocks c b) r) ≡ region_granules c r / per = λ i. granules_in-with_blocks c b r i / block i in
    let blocks : n ≤ region_granules c r / per = omega (arith, less, few_pass (is_free_block free area (per_block (with_blocks c b) r)) (block_count area (per_block (with_blocks c b) r)), all) in
    let granules : n * per ≤ region_granules c r = omega (arith, mul-le-mul_right per blocks, div-mul-le_self (region_granules c r) per) in
    let whole : n * b r ≡ n * per * size = ap (λ m. n * m) (omega (arith, div-add-mod' (b r) size, supported_whole c r (b r) supports)) ∙ sym (mul_assoc n per size) in
    omega (arith, whole, mul-le-mul_right size granules, div-mul-le_self (region_spec c r).length size, lengths_of_sound c sound r known)

-- each gain is a part of what its region needs
pub all_needed : (c : Configuration) (past : List Effect) (q : Demands) → AllByRecursion (λ (x : Demand). gain c past x ≤ need_in c past q x.region) q.demands
all_needed c past q = by_index (λ (x : Demand). gain c past x ≤ need_in c past q x.region) q.demands no_demand (λ i below.
    let x : Demand = get_or q.demands i no_demand in
    let own : (if x.region == x.region then gain c past x else 0) ≡ gain c past x = ap (λ b. if b then gain c past x else 0) (eq-eqb x.region x.region refl) in
    subst (λ n. n ≤ need_in c past q x.region) own (get_or-le-sum_by (λ (y : Demand). if y.region == x.region then gain c past y else 0) q.demands i no_demand below))
