-- What a driver keeps, with the room that its lists have.
use Rattle.std.specs.Prelude.{ℕ, ◌≤◌, drop}
use Rattle.host_driver.specs.{Driving.Driven, declared.kept.Kept.Kept}

-- what it keeps, without the room
abbrev pub kept_in : Kept → Driven
kept_in k = record {
  table = k.table.extents;
  offered = k.offered.extents;
  asked = k.asked.extents;
  due = k.due;
  records = drop k.at k.page;
  handles = k.handles;
  idle = k.idle;
}

-- Each of its lists takes so many extents more without memory.
pub record HasSpare (n : ℕ) (k : Kept) : Type 0 where
  pub table : n ≤ k.table.spare
  pub offered : n ≤ k.offered.spare
  pub asked : n ≤ k.asked.spare
