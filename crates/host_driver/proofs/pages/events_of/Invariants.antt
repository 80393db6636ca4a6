use Rattle.std.proofs.Common.{◌≡◌, ◌++◌, ◌*◌, ◌-◌, length, map}
use Rattle.dcd_base.specs.Layouts.{pieces}
use Rattle.host_driver.specs.Pages.{bad_record, event_in}
use Rattle.host_driver.proofs.pages.events_of.Given as goal

-- The first records are read and sound.
abbrev pub invariant-loop-index : goal.invariant-loop-index
invariant-loop-index l = record {
  whole : length l.rest ≡ 128 * (l.count - l.index);
  read : l.events ++ map event_in (pieces 128 (l.count - l.index) l.rest) ≡ map event_in (pieces 128 l.count l.bytes);
  sound : bad_record l.index (pieces 128 (l.count - l.index) l.rest) ≡ bad_record 0 (pieces 128 l.count l.bytes);
}
