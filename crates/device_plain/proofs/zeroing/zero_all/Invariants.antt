use Rattle.std.proofs.Common.{◌≡◌, length, take}
use Rattle.device_plain.specs.Accesses.{AreZeroed}
use Rattle.device_plain.proofs.zeroing.zero_all.Given as goal

abbrev pub invariant-loop-i : goal.invariant-loop-i
invariant-loop-i l = record {
  zeroed : AreZeroed l.initial.words l.words (take l.i l.effects);
  granules : length l.words ≡ length l.initial.words;
}
