-- A host of a state that a legal journal leads to has few extents.
use Rattle.std.proofs.{Common.◌<◌, Common.◌≤◌, Common.List, Common.flat_map, Common.sym, Common.subst, Common.arith, lemmas.List.length-append, lemmas.List.Concat.length-flat_map}
use Rattle.event_records.specs.dcd_base.specs.declared.{capacity.Extent.Extent, ids.HostId.HostId}
use Rattle.extent_list.specs.{HostLists.Lists, HostLists.extent_total, media_map.specs.region_config.specs.Configurations.Configuration}
use Rattle.device_state.specs.{StateAfter.IsReached, StateAfter.part_of, declared.state.State.State, device_rules.proofs.LegalSound.legal_is_sound}
use Rattle.device_state.specs.device_rules.specs.Views.{View, view_of}

pub few_extents : (c : Configuration) (s : State) → IsReached c s → (h : HostId) → h < c.hosts → extent_total (part_of s h).lists ≤ 64
few_extents c s reached h known =
    let v : View = view_of c h reached.journal in
    let sound = legal_is_sound c reached.sound reached.journal reached.legal in
    subst (λ (l : Lists). extent_total l ≤ 64) (sym (reached.kept.parts h known).lists_are)
    (omega (arith, sound.stands.few h, length-append v.accepted (flat_map (λ (xs : List Extent). xs) v.offers), length-flat_map (λ (xs : List Extent). xs) v.offers))
