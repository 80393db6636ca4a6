use Rattle.std.proofs.Common.{◌≡◌, ◌++◌, ap, sym, subst, ◌∙◌, rules, arith, length}
use Rattle.std.{specs.Prelude.flat_map, specs.Prelude.filter, proofs.lemmas.List.Sorted.answers_always}
use Rattle.cci_codec.specs.dcd_base.specs.declared.steps.Stamp.{Stamp}
use Rattle.journal_core.proofs.Merges.{stamp_key, sorted_by_stamp, merged_at, merged-rising, merged-ties, merged-length}
use Rattle.journal_core.specs.Merging.{Rising, has_stamp}
use Rattle.journal_core.proofs.merging.merge.Goals as goal

is_merged : goal.returns-clause-merged
is_merged c =
    c.from_vec.ensures
    ∙ sorted_by_stamp _ _
    (c.in_ok-sort_by_key.ensures.sorted stamp_key (answers_always _ _ _ (λ f a r g h. search rules)))
    (c.sort_by_key.ensures.stable stamp_key (answers_always _ _ _ (λ f a r g h. search rules)))
    ∙ merged_at c.args.control.now c.args.shards.now c.loop-shard.shard-index _ c.loop-shard.invariant (omega (arith, c.loop-shard-test.false))

pub returns-clause-merged : goal.returns-clause-merged
returns-clause-merged c = is_merged c

pub returns-clause-rising : goal.returns-clause-rising
returns-clause-rising c = subst (λ journal. Rising journal) (sym (is_merged c)) (merged-rising c.args.control.now c.args.shards.now)

pub returns-clause-ties : goal.returns-clause-ties
returns-clause-ties c = subst (λ journal. (s : Stamp) → filter (has_stamp s) journal ≡ filter (has_stamp s) (c.args.control.now ++ flat_map (λ shard. shard) c.args.shards.now)) (sym (is_merged c)) (merged-ties c.args.control.now c.args.shards.now)

pub returns-clause-length : goal.returns-clause-length
returns-clause-length c = ap length (is_merged c) ∙ merged-length c.args.control.now c.args.shards.now
