use Rattle.std.{proofs.Common.◌≡◌, proofs.Common.◌≤◌, proofs.Common.◌^◌, proofs.Common.drop, specs.Option.option_map}
use Rattle.text_lines.specs.Numbers.{capped_64, digits_from}
use Rattle.text_lines.proofs.numbers.value_of.Given as goal

abbrev pub invariant-loop-c : goal.invariant-loop-c
invariant-loop-c l = record {
  small : l.value ≤ 2 ^ 64;
  value : option_map capped_64 (digits_from l.base l.value (drop l.c-index l.digits)) ≡ option_map capped_64 (digits_from l.base 0 l.digits);
}
