-- The stamp of the next load or store of a shard.
use Rattle.std.specs.Prelude.{◌≡◌, ◌⊎◌, ◌+◌, ◌≤◌, if◌then◌else◌}
use Rattle.dcd_base.specs.declared.steps.Stamp.{Stamp}
use Rattle.journal_core.specs.Merging.{is_later}
use Rattle.ruled_cells.specs.Stamps.{Below, stamp}

-- the later of two stamps
abbrev pub later_of : Stamp → Stamp → Stamp
later_of s t = if is_later s t then s else t

-- the number of the later of what the caller has seen and the clock, and one more than its count
abbrev pub next_stamp : Stamp → Stamp → Stamp
next_stamp seen clock = let last = later_of seen clock in stamp last.number (last.count + 1)

-- It is above both, has the number of one of them, and its count is at most one above that of one of them.
pub record IsNextStamp (seen clock s : Stamp) : Type 0 where
  pub above_seen : Below seen s
  pub above_clock : Below clock s
  pub number : (s.number ≡ seen.number) ⊎ (s.number ≡ clock.number)
  pub counted : (s.count ≤ seen.count + 1) ⊎ (s.count ≤ clock.count + 1)
