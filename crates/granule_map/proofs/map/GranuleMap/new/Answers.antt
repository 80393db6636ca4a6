use Rattle.std.proofs.Common.{◌≡◌, ◌∙◌, List, ℕ, replicate, ap, sym, subst, arith, rules}
use Rattle.dcd_base.specs.{Words.zero_tag, declared.capacity.Tag.Tag}
use Rattle.granule_map.{specs.Told.AreKept, specs.Told.states_of, proofs.Kept.all_free, proofs.Kept.free_kept}
use Rattle.granule_map.proofs.map.GranuleMap.new.Goals as goal

pub invariant_of-result : goal.invariant_of-result
invariant_of-result c =
    let marks : c.in_ok-vec.field-0.items ≡ replicate c.args.count 0 = search rules in
    let hosts : c.in_ok-vec-2.field-0.items ≡ replicate c.args.count 0 = search rules in
    let tags : c.in_ok-vec-3.field-0.items ≡ replicate c.args.count zero_tag = search rules in
    record {
      kept = subst (λ (ms : List ℕ). AreKept ms c.in_ok-vec-2.field-0.items c.in_ok-vec-3.field-0.items) (sym marks)
          (subst (λ (hs : List ℕ). AreKept (replicate c.args.count 0) hs c.in_ok-vec-3.field-0.items) (sym hosts)
          (subst (λ (ts : List Tag). AreKept (replicate c.args.count 0) (replicate c.args.count 0) ts) (sym tags)
          (free_kept c.args.count c.ranges.count.fits)));
      none_below = λ g below. absurd (omega (arith, below));
    }

pub returns-clause-states : goal.returns-clause-states
returns-clause-states c =
    let marks : c.in_ok-vec.field-0.items ≡ replicate c.args.count 0 = search rules in
    let hosts : c.in_ok-vec-2.field-0.items ≡ replicate c.args.count 0 = search rules in
    let tags : c.in_ok-vec-3.field-0.items ≡ replicate c.args.count zero_tag = search rules in
    ap (λ (ms : List ℕ). states_of ms c.in_ok-vec-2.field-0.items c.in_ok-vec-3.field-0.items) marks
    ∙ ap (λ (hs : List ℕ). states_of (replicate c.args.count 0) hs c.in_ok-vec-3.field-0.items) hosts
    ∙ ap (λ (ts : List Tag). states_of (replicate c.args.count 0) (replicate c.args.count 0) ts) tags
    ∙ all_free c.args.count
