use Rattle.std.proofs.Common.{◌≡◌, ◌-◌, ◌≤◌, length}
use Rattle.script_codec.{specs.Fields.many_from, specs.Heads.region_from, proofs.Lists.with_fields}
use Rattle.script_codec.proofs.heads.regions_at.Given as goal

abbrev pub invariant-loop : goal.invariant-loop
invariant-loop l = record {
  within : l.place ≤ length l.bytes;
  count : length l.regions.items ≡ l.counter;
  read : with_fields l.regions.items (many_from region_from (l.count - l.counter) l.bytes l.place) ≡ many_from region_from l.count l.bytes l.at;
}
