-- That a device has nothing from what the others are sent.
use Rattle.std.specs.Prelude.{◌≡◌, ℕ, slice_get}
use Rattle.device_plain.specs.Devices.{Plain}
use Rattle.tunnel_fabric.specs.{declared.fabric_scripts.FabricScript.FabricScript, Sending.DidAllSent, Sending.sent}

-- Where both fabrics have the same configuration for the device and send it the same, its journals are equal.
abbrev pub SameJournals : FabricScript → FabricScript → ℕ → Type 0
SameJournals left right number =
    slice_get left.configs number ≡ slice_get right.configs number → sent left number ≡ sent right number →
    (one other : Plain) → DidAllSent left number one → DidAllSent right number other → one.journal ≡ other.journal
