use Rattle.std.proofs.Common.{◌≡◌, ◌⊎◌, ◌≤◌, take}
use Rattle.extent_list.{specs.Apart.StandApart, proofs.ApartLists.BeginsAt, proofs.ApartLists.EndsAt, proofs.ApartLists.LieIn}
use Rattle.extent_list.proofs.standing.stand_apart.Given as goal

abbrev pub invariant-loop-extent : goal.invariant-loop-extent
invariant-loop-extent l = record {
  apart : StandApart (take l.extent-index l.list);
  inside : LieIn l.low l.high (take l.extent-index l.list);
  ends : EndsAt l.list l.extent-index l.high;
  begins : BeginsAt l.list l.extent-index l.low;
  order : (l.high ≡ 0) ⊎ (l.low ≤ l.high);
}
