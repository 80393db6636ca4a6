use Rattle.std.{proofs.Common.◌≡◌, proofs.Common.◌++◌, proofs.Common.take, specs.Prelude.flat_map}
use Rattle.host_payloads.specs.HostPayloads.{region_bytes}
use Rattle.manager_commands.proofs.get_host_dc_region_configuration.append_regions.Given as goal

abbrev pub invariant-loop-i : goal.invariant-loop-i
invariant-loop-i l = l.payload ≡ l.fn.payload ++ flat_map region_bytes (take l.i l.views)
