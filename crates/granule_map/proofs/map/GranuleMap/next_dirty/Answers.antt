use Rattle.std.{proofs.Common.◌-◌, proofs.Common.◌∙◌, proofs.Common.sym, proofs.Common.ap, specs.List.find, specs.List.range_with_len}
use Rattle.granule_map.{specs.StateLists.is_dirty_at, proofs.Stretches.next_found, proofs.Stretches.none_next}
use Rattle.granule_map.proofs.map.GranuleMap.next_dirty.Goals as goal

pub returns-then-dirty-end : goal.returns-then-dirty-end
returns-then-dirty-end c =
    sym (ap (λ n. find (is_dirty_at c.args.self.now.states) (range_with_len c.args.from (n - c.args.from))) (sym c.len-end.ensures)
    ∙ next_found (is_dirty_at c.args.self.now.states) c.args.from c.len-end.result c.next_dirty_below-dirty.result c.next_dirty_below-dirty.ensures c.if-dirty-end.true)

pub returns-else-dirty-end : goal.returns-else-dirty-end
returns-else-dirty-end c =
    sym (ap (λ n. find (is_dirty_at c.args.self.now.states) (range_with_len c.args.from (n - c.args.from))) (sym c.len-end.ensures)
    ∙ none_next (is_dirty_at c.args.self.now.states) c.args.from c.len-end.result c.next_dirty_below-dirty.result c.next_dirty_below-dirty.ensures c.if-dirty-end.false)
