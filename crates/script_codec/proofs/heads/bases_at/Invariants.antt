use Rattle.std.{proofs.Common.◌≡◌, proofs.Common.◌-◌, proofs.Common.◌≤◌, proofs.Common.length, specs.Int.w64}
use Rattle.script_codec.{specs.Fields.many_from, specs.Fields.number_from, proofs.Lists.with_fields}
use Rattle.script_codec.proofs.heads.bases_at.Given as goal

abbrev pub invariant-loop : goal.invariant-loop
invariant-loop l = record {
  within : l.place ≤ length l.bytes;
  count : length l.bases.items ≡ l.counter;
  read : with_fields l.bases.items (many_from (number_from w64) (l.count - l.counter) l.bytes l.place) ≡ many_from (number_from w64) l.count l.bytes l.at;
}
