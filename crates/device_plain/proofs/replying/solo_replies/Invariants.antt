use Rattle.std.proofs.Common.{◌≡◌, take}
use Rattle.device_plain.specs.Alone.{IsAlone, solo_replies}
use Rattle.isolation_laws.specs.Solo.{solo_view, solo_word}
use Rattle.device_plain.proofs.replying.solo_replies.Given as goal

abbrev pub invariant-loop-i : goal.invariant-loop-i
invariant-loop-i l = record {
  alone : IsAlone l.config l.host (solo_view l.config l.host (take l.i l.items)) (λ d. solo_word l.config l.host d (take l.i l.items)) l.alone;
  replied : l.replies ≡ solo_replies l.config l.host (take l.i l.items);
}
