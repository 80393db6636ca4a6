use Rattle.std.proofs.Common.{◌≡◌, ◌+◌, ◌*◌, ◌++◌, flat_map, take}
use Rattle.fm_payloads.specs.ManagerPayloads.{tag_bytes}
use Rattle.fm_payloads.proofs.replies.put_tags.Given as goal

abbrev pub invariant-loop-tag : goal.invariant-loop-tag
invariant-loop-tag l = record {
  place : l.place ≡ l.at + 24 * l.tag-index;
  put : take l.place l.out ≡ take l.at l.fn.out ++ flat_map tag_bytes (take l.tag-index l.tags);
}
