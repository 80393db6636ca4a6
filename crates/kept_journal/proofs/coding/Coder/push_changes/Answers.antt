use Rattle.std.proofs.Common.{rules, arith, get_or, refl}
use Rattle.kept_journal.proofs.ByteBits.{all_of, difference_behind, next_difference, no_difference}
use Rattle.kept_journal.proofs.CoderChanges.{change_ends, change_skips, change_starts, change_tells}
use Rattle.kept_journal.proofs.coding.Coder.push_changes.Goals as goal

pub loop-differing-init : goal.loop-differing-init
loop-differing-init c = (
  change_starts c.args.self.now c.args.slot c.args.number _ _ (search rules) (search rules) refl c.to_le_bytes-wanted.ensures,
  search rules,
  all_of _,
)

pub bounds-wanted-place : goal.bounds-wanted-place
bounds-wanted-place c =
    let before = c.loop-differing.invariant in
    let next = next_difference (get_or c.args.self.now.slots c.args.slot 0) c.args.number _ _ before.2 (search rules) (search rules) before.1 c.loop-differing-test.true in
    omega (arith, next.0)

pub push_change-requires-clause-place : goal.push_change-requires-clause-place
push_change-requires-clause-place c =
    let before = c.loop-differing.invariant in
    let next = next_difference (get_or c.args.self.now.slots c.args.slot 0) c.args.number _ _ before.2 (search rules) (search rules) before.1 c.loop-differing-test.true in
    omega (arith, next.0)

pub loop-differing-preserved : goal.loop-differing-preserved
loop-differing-preserved c =
    let before = c.loop-differing.invariant in
    let next = next_difference (get_or c.args.self.now.slots c.args.slot 0) c.args.number _ _ before.2 (search rules) (search rules) before.1 c.loop-differing-test.true in (
      change_tells (change_skips c.args.number _ before.0 c.to_le_bytes-wanted.ensures (omega arith) (omega (arith, next.0)) next.1) c.requires next.0 c.push_change.ensures,
      omega (arith, next.0),
      difference_behind (get_or c.args.self.now.slots c.args.slot 0) c.args.number _ _ before.2 _,
    )

pub loop-differing-smaller : goal.loop-differing-smaller
loop-differing-smaller c =
    let before = c.loop-differing.invariant in
    let next = next_difference (get_or c.args.self.now.slots c.args.slot 0) c.args.number _ _ before.2 (search rules) (search rules) before.1 c.loop-differing-test.true in
    omega (arith, next.0)

pub returns-clause-coded : goal.returns-clause-coded
returns-clause-coded c =
    let before = c.loop-differing.invariant in
    let same = no_difference (get_or c.args.self.now.slots c.args.slot 0) c.args.number _ _ before.2 c.loop-differing-test.false in
    change_ends c.args.number (change_skips c.args.number 8 before.0 c.to_le_bytes-wanted.ensures before.1 (omega arith) same) refl c.to_le_bytes-wanted.ensures (search rules)
