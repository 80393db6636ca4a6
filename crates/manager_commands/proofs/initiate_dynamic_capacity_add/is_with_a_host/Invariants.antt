use Rattle.std.{proofs.Common.◌≡◌, proofs.Common.false, specs.List.list_any, specs.List.range_with_len}
use Rattle.manager_commands.specs.InitiateDynamicCapacityAdd.{lists_have}
use Rattle.device_state.specs.StateAfter.{part_of}
use Rattle.manager_commands.proofs.initiate_dynamic_capacity_add.is_with_a_host.Given as goal

abbrev pub invariant-loop-host : goal.invariant-loop-host
invariant-loop-host l = list_any (λ h. lists_have l.tag (part_of l.state h).lists) (range_with_len 0 l.host) ≡ false
