-- The changes of a step name some granules each, all of one region, and hosts of the device alone.
use Rattle.std.proofs.Common.{◌≡◌, ℕ, ◌+◌, ◌-◌, ◌<◌, ◌≤◌, false, List, [], ◌∷◌, ◌++◌, get_or, sym, subst, ◌∙◌, arith}
use Rattle.std.{specs.Prelude.All, proofs.lemmas.List.Elements.All-push}
use Rattle.cci_codec.specs.dcd_base.specs.{declared.ids.HostId.HostId, declared.media.Change.Change, declared.media.Run.Run, Hosts.has_host}
use Rattle.manager_commands.specs.device_state.specs.Updates.{IsOfDevice}
use Rattle.journal_core.specs.declared.outcome.Effect.{Effect}
use Rattle.extent_list.specs.media_map.specs.region_config.specs.{Configurations.Configuration, Granules.granule_total}
use Rattle.device_commands.specs.device_rules.specs.ChangedRuns.{IsWithinRegion, IsSoundChange}
use Rattle.control_core.{specs.PutChanges.NameNoOthers, specs.PutChanges.bits_by, specs.PutChanges.is_zero, proofs.ChangedHolders.with_other, proofs.ChangedHolders.without_other}

-- an effect of the device gives nothing to a host that the device has not
no_others_by : (c : Configuration) (e : Effect) → IsOfDevice c e → (bits : ℕ) (h : HostId) → c.hosts ≤ h → has_host bits h ≡ false → has_host (bits_by e bits) h ≡ false
no_others_by c (Effect.Take k run) of bits h other none = with_other bits k h (λ same. omega (arith, of, other, same)) ∙ none
no_others_by c (Effect.Leave k run) of bits h other none = without_other bits k h (λ same. omega (arith, of, other, same)) ∙ none
no_others_by c e of bits h other none = none

-- one more change, of granules of a region
pub sound_more : (c : Configuration) (at next : ℕ) (holders : List ℕ) (e : Effect) (region : Run) (mid new : List Change) (change : Change) → at < next → at < granule_total c → IsOfDevice c e →
    IsWithinRegion c region → region.first ≤ at → next ≤ region.first + region.count → NameNoOthers c holders → All (IsSoundChange c) mid → new ≡ mid ++ change ∷ [] →
    change ≡ record { run = record { first = at; count = next - at }; holders = bits_by e (get_or holders at 0); zero = is_zero e } → All (IsSoundChange c) new
sound_more c at next holders e region mid new change later known of is from to none all pushed change_is =
    let one : IsSoundChange c (record { run = record { first = at; count = next - at }; holders = bits_by e (get_or holders at 0); zero = is_zero e }) = record {
      some = omega (arith, later);
      region = record { region = is.region; known = is.known; from = omega (arith, is.from, from); to = omega (arith, is.to, to, later) };
      hosts = λ h other. no_others_by c e of (get_or holders at 0) h other (none at h known other);
    } in
    subst (All (IsSoundChange c)) (sym pushed) (All-push (IsSoundChange c) mid change all (subst (IsSoundChange c) (sym change_is) one))
