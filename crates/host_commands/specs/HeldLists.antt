-- What is held of the lists of several messages.
use Rattle.std.specs.Prelude.{ℕ, ◌==◌, List, [], if◌then◌else◌}
use Rattle.cci_codec.specs.dcd_base.specs.declared.ids.HostId.{HostId}
use Rattle.journal_core.specs.declared.outcome.{Effect.Effect, HeldKind.HeldKind}
use Rattle.extent_list.specs.HostLists.{Lists}
use Rattle.device_commands.specs.device_rules.specs.ResponseOutcomes.{unhold}

-- the held list of the command ends
abbrev pub unheld_by : HostId → Lists → ℕ → List Effect
unheld_by h l opcode =
    if opcode == 0x4802 then unhold h HeldKind.Responses l.responses
    else if opcode == 0x4803 then unhold h HeldKind.Releases l.releases
    else []
