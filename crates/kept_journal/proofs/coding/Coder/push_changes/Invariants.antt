use Rattle.std.{proofs.Common.◌≡◌, proofs.Common.◌≤◌, proofs.Common.◌*◌, proofs.Common.◌-◌, proofs.Common.◌/◌, proofs.Common.◌^◌, specs.Int.w64, specs.Int.to_le_bytes, specs.Int.Bits.bit_xor}
use Rattle.kept_journal.proofs.CoderChanges.{InChange}
use Rattle.kept_journal.proofs.coding.Coder.push_changes.Given as goal

abbrev pub invariant-loop-differing : goal.invariant-loop-differing
invariant-loop-differing l =
    InChange l.fn.self l.self l.slot l.place (to_le_bytes w64 l.told) l.wanted
    × (l.place ≤ 8)
    × (l.differing ≡ bit_xor l.told l.number / 2 ^ (8 * l.place))

abbrev pub decreases-loop-differing : goal.decreases-loop-differing
decreases-loop-differing l = 8 - l.place
