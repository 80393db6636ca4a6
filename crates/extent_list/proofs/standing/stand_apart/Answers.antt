use Rattle.std.proofs.{Common.◌≡◌, Common.◌+◌, Common.arith, Common.get_or, Common.inr, Common.rules, Common.subst, Common.◌∙◌, lemmas.List.take_all}
use Rattle.extent_list.{specs.Apart.StandApart, proofs.standing.stand_apart.Goals.then-high-extent, proofs.standing.stand_apart.Goals.else-high-extent+then-end-low}
use Rattle.extent_list.proofs.ApartLists.{above_apart, begins_min, begins_new, below_apart, below_high, ends_more, ends_new, lie_more, no_extent}
use Rattle.extent_list.proofs.standing.stand_apart.Goals as goal

pub loop-extent-preserved : goal.loop-extent-preserved
loop-extent-preserved c =
    let xs = c.args.list.now in
    let i = c.loop-extent.extent-index in
    let known = c.loop-extent-test.true in
    let low = c.loop-extent.low in
    let high = c.loop-extent.high in
    let inside = c.loop-extent.invariant.inside in
    let before = c.loop-extent.invariant.apart in
    let long : c.in-Some.end ≡ (get_or c.args.list.now c.loop-extent.extent-index no_extent).start + (get_or c.args.list.now c.loop-extent.extent-index no_extent).length = search rules in
    elim c.if-high-extent.branch [
      | then-high-extent w ↦ record {
        apart = above_apart xs i no_extent known low high inside w.if-high-extent.true before;
        inside = lie_more xs i no_extent known low high inside c.if-high-extent.low c.if-high-extent.high
            (omega (arith, w.low-is, w.min-low.ensures)) (omega (arith, w.high-is, long, w.if-high-extent.true)) (omega (arith, w.low-is, w.min-low.ensures)) (omega (arith, w.high-is, long));
        ends = ends_new xs i c.if-high-extent.high (w.high-is ∙ long);
        begins = begins_min xs i low c.if-high-extent.low (w.low-is ∙ w.min-low.ensures) c.loop-extent.invariant.begins;
        order = inr (omega (arith, w.high-is, w.low-is, w.min-low.ensures, long));
      }
      | else-high-extent+then-end-low w ↦
          let ends = below_high low high (get_or xs i no_extent).start c.loop-extent.invariant.order w.if-high-extent.false in
          record {
            apart = below_apart xs i no_extent known low high inside (omega (arith, w.if-end-low.true, long)) before;
            inside = lie_more xs i no_extent known low high inside c.if-high-extent.low c.if-high-extent.high
                (omega (arith, w.low-is, w.if-end-low.true, long)) (omega (arith, w.high-is)) (omega (arith, w.low-is)) (omega (arith, w.high-is, long, w.if-end-low.true, ends));
            ends = ends_more xs i high c.if-high-extent.high w.high-is c.loop-extent.invariant.ends;
            begins = begins_new xs i c.if-high-extent.low w.low-is;
            order = inr (omega (arith, w.high-is, w.low-is, w.if-end-low.true, long, ends));
          }
    ]

pub returns-clause-apart : goal.returns-clause-apart
returns-clause-apart c = λ yes. subst StandApart (take_all c.loop-extent.extent-index c.args.list.now (omega (arith, c.loop-extent-test.false))) c.loop-extent.invariant.apart
