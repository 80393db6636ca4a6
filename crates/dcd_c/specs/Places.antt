-- What a place for a device owns: the device and the right to free its block, if there is one.
use Rattle.std.specs.{Box.Ownership.box_owns, Prelude.Bool, Prelude.true, Prelude.false, Prelude.Option, Prelude.Some, Prelude.None, contracts.impls.GlobalAllocator.TheImpl.ghosts}
use Rattle.std.specs.declared.alloc.Global.{Global}
use base.Fml.{Fml, ftrue}
use denote.RawPtr.{Ptr}
use Rattle.dcd_c.specs.{declared.sessions.Session.Session, contracts.sessions.Session.the_row}

-- the C library's heap, of which there is one
abbrev pub the_heap : Global
the_heap = record { memory = record { seal = tt } }

abbrev pub place_owns : Ptr → Option Session → Fml
place_owns at None = ftrue
place_owns at (Some device) = box_owns (ghosts.dealloc_token the_heap) the_row at device

-- whether there is one
abbrev pub has_device : Option Session → Bool
has_device None = false
has_device (Some device) = true
