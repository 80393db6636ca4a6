-- Entering a legal step keeps what is kept, and each of its effects is of the device.
use Rattle.std.{proofs.Common.List, proofs.Common.[], proofs.Common.◌∷◌, proofs.Common.◌++◌, specs.Prelude.All}
use Rattle.journal_core.specs.declared.entries.Entry.{Entry}
use Rattle.extent_list.specs.media_map.specs.region_config.specs.{Configurations.Configuration, Soundness.IsSound}
use Rattle.device_rules.{proofs.GranuleCommands.granules_kept, specs.Legal.Legal, specs.Legal.Meets}
use Rattle.device_state.{proofs.DeviceEffects.of_device as legal_of_device, proofs.Fitting.room_for_all, proofs.Keeping.kept-entered as step_kept, specs.Entered.IsEntered}
use Rattle.device_state.specs.{EnteredLists.Fits, EnteredLists.lists_of, StateAfter.IsStateAfter, Updates.IsOfDevice, declared.state.State.State}

pub of_device : (c : Configuration) → IsSound c → (before : List Entry) → Legal c before → (e : Entry) → Meets c before e → All (IsOfDevice c) e.effects
of_device c sound before legal e meets = legal_of_device c before e legal meets

pub kept-entered : (c : Configuration) → IsSound c → (before : List Entry) → Legal c before → (e : Entry) → Meets c before e → (old now : State) →
    IsStateAfter c before old → IsEntered c e.effects old now → IsStateAfter c (before ++ e ∷ []) now
kept-entered c sound before legal e meets old now kept entered =
    step_kept c sound before legal e meets old now kept entered (granules_kept c sound before legal e meets)

pub fits : (c : Configuration) → IsSound c → (before : List Entry) → Legal c before → (e : Entry) → Meets c before e → (s : State) → IsStateAfter c before s → Fits c (lists_of s) 1 e.effects
fits c sound before legal e meets s kept = room_for_all c sound before legal e meets s kept
