use Rattle.std.proofs.Common.{◌≡◌, length}
use Rattle.journal_check.proofs.Claiming.{IsClaimedTo}
use Rattle.journal_check.proofs.following.follow_lines.Given as goal

abbrev pub invariant-loop : goal.invariant-loop
invariant-loop l = record {
  config : l.device.config ≡ l.script.config;
  count : length l.device.journal ≡ l.counter;
  claimed : IsClaimedTo l.script l.text l.device.journal l.fronts.items l.rest;
}
