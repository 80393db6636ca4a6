use Rattle.std.proofs.Common.{◌<◌, ◌∙◌, true, false, length, sym, arith}
use Rattle.granule_map.proofs.{Kept.counted_one, Kept.one_or_none, map.GranuleMap.count.Goals.then-is_same_state, map.GranuleMap.count.Goals.else-is_same_state}
use Rattle.granule_map.specs.StateLists.{same_state}
use Rattle.granule_map.proofs.map.GranuleMap.count.Goals as goal

pub loop-granule-preserved : goal.loop-granule-preserved
loop-granule-preserved c =
    let below : c.loop-granule.granule < length c.args.self.now.states = omega (arith, c.loop-granule-test.true, c.len-granule-end.ensures) in
    let more = counted_one (same_state c.args.state) c.args.self.now.states c.loop-granule.granule c.at.result c.at.ensures below in
    elim c.if-is_same_state.branch [
      | then-is_same_state w ↦ (let one = one_or_none (same_state c.args.state c.at.result) true 1 (sym c.is_same_state.ensures ∙ w.if-is_same_state.true) in
          (omega (arith, w.count-is, more, one, c.loop-granule.invariant.0), omega (arith, w.count-is, c.loop-granule.invariant.1)))
      | else-is_same_state w ↦ (let none = one_or_none (same_state c.args.state c.at.result) false 1 (sym c.is_same_state.ensures ∙ w.if-is_same_state.false) in
          (omega (arith, w.count-is, more, none, c.loop-granule.invariant.0), omega (arith, w.count-is, c.loop-granule.invariant.1)))
    ]
