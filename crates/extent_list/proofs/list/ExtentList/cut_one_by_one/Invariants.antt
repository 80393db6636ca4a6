use Rattle.std.proofs.Common.{◌≡◌, ◌+◌, ◌≤◌, length, take, true}
use Rattle.extent_list.specs.{Apart.StandApart, ExtentLists.cut_all}
use Rattle.extent_list.proofs.list.ExtentList.cut_one_by_one.Given as goal

abbrev pub invariant-loop-extent : goal.invariant-loop-extent
invariant-loop-extent l = record {
  cut : l.self.extents ≡ cut_all (take l.extent-index l.leaving) l.initial.self.extents;
  spare : length l.leaving ≤ l.self.spare + l.extent-index;
  room : length l.initial.self.extents + l.initial.self.spare ≤ length l.self.extents + l.self.spare;
  apart : l.apart ≡ true → StandApart l.self.extents;
}
