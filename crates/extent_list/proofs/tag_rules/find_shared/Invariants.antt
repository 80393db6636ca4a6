use Rattle.std.proofs.Common.{◌≡◌, ◌≤◌, length, take}
use Rattle.extent_list.specs.Listing.{shared_of}
use Rattle.extent_list.proofs.tag_rules.find_shared.Given as goal

abbrev pub invariant-loop-extent : goal.invariant-loop-extent
invariant-loop-extent l = record {
  shared : l.shared ≡ shared_of l.config l.host l.owners (take l.extent-index l.list);
  few : length l.shared ≤ l.extent-index;
}
