-- What a place owns says the same to every thread.
use mir.Raw.{raw}
use base.Shift.{Keyless}
use denote.Memory.{lone}
use denote.Param.Send.{IsSend, owning_send, sendable}
use denote.RawPtr.{Ptr}
use Rattle.std.{specs.Prelude.Option, specs.Prelude.Some, specs.Prelude.None, proofs.Crossing.frees}
use Rattle.std_alloc.proofs.SendSync as any
use Rattle.dcd_c.{proofs.sessions.Session.TheSendSync.the_send, specs.Places.place_owns, specs.Places.the_heap, specs.contracts.places.Place.the_row, specs.contracts.places.Place.the_type}
use Rattle.dcd_c.specs.declared.sessions.Session.{Session}
use Rattle.dcd_c.specs.contracts.sessions.Session as device

owned_keyless : (at : Ptr) (o : Option Session) → Keyless (place_owns at o)
owned_keyless at None = tt
owned_keyless at (Some d) = (any.lies device.the_row the_send at d, frees.frees the_heap (raw (lone (device.the_row).mir)) at)

pub send : IsSend the_row
send = owning_send the_type (search sendable, tt) (λ d. owned_keyless d.at d.device) (λ k x w. tt)
