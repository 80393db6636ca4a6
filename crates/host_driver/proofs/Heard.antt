-- The device reads what the driver asks.
use Rattle.std.proofs.Common.{◌≡◌, ℕ, ◌^◌, ◌<◌, ◌≤◌, true, false, List, [], ◌∷◌, length, map, Ok, refl, ◌⊎◌, inl, inr, arith}
use Rattle.std.{specs.Prelude.nat_le, specs.List.AllByRecursion, proofs.lemmas.Bool.and_parts, proofs.lemmas.Bool.cases_Bool, proofs.lemmas.Bool.leb-true, proofs.lemmas.List.length-map}
use Rattle.dcd_base.{proofs.Agreement.Agrees-spelled, proofs.EventCommands.clear_fits, specs.EventCommands.FitsHandle, specs.Layouts.FitsField, specs.Layouts.spelling}
use Rattle.dcd_base.specs.declared.capacity.Extent.{Extent}
use Rattle.host_payloads.proofs.{HostLaws.host_only, Written.list_fits}
use Rattle.host_payloads.specs.HostPayloads.{FitsListed, host_fields, host_opcode, host_request, lists_untagged}
use Rattle.host_payloads.specs.declared.requests.HostRequest.{HostRequest}
use Rattle.host_driver.{specs.Driving.Driven, specs.Driving.bare, specs.Driving.can_take, specs.Driving.gives, specs.Driving.given_by, specs.Driving.taken_by, proofs.Listed.bare_untagged}

abbrev pub Hears : HostRequest → Type 0
Hears q = host_request (host_opcode q) (spelling (host_fields q)) ≡ Ok q

heard : (q : HostRequest) → lists_untagged q ≡ true → AllByRecursion FitsField (host_fields q) → Hears q
heard q untagged fits = host_only (spelling (host_fields q)) q untagged (Agrees-spelled (host_fields q) fits)

pub page_heard : Hears (HostRequest.GetEvents 4)
page_heard = heard (HostRequest.GetEvents 4) refl (omega arith, tt)

pub clear_heard : (handles : List ℕ) → length handles ≤ 255 → AllByRecursion FitsHandle handles → Hears (HostRequest.ClearEvents 4 false handles)
clear_heard handles few fit = heard (HostRequest.ClearEvents 4 false handles) refl (clear_fits 4 false handles (omega arith) few fit)

bare_fits : (xs : List Extent) → AllByRecursion FitsListed xs → AllByRecursion FitsListed (map bare xs)
bare_fits [] all = tt
bare_fits (x ∷ xs) (first, all) = ((first.0, first.1), bare_fits xs all)

few_listed : (xs : List Extent) → length xs ≤ 64 → length (map bare xs) < 2 ^ 32
few_listed xs few = omega (arith, length-map xs bare, few)

pub response_heard : (xs : List Extent) → length xs ≤ 64 → AllByRecursion FitsListed xs → Hears (HostRequest.AddResponse false (map bare xs))
response_heard xs few fit = heard (HostRequest.AddResponse false (map bare xs)) (bare_untagged xs) (list_fits false (map bare xs) (few_listed xs few) (bare_fits xs fit))

pub release_heard : (xs : List Extent) → length xs ≤ 64 → AllByRecursion FitsListed xs → Hears (HostRequest.GiveBack false (map bare xs))
release_heard xs few fit = heard (HostRequest.GiveBack false (map bare xs)) (bare_untagged xs) (list_fits false (map bare xs) (few_listed xs few) (bare_fits xs fit))

-- ---- what is taken and what is given back

pub taken_is : (most : ℕ) (d : Driven) → ((taken_by most d ≡ d.offered) × (length d.offered ≤ 64)) ⊎ (taken_by most d ≡ [])
taken_is most d = elim (cases_Bool (can_take most d)) [
  | inl takes ↦ inl (rw takes refl, leb-true (length d.offered) 64 (and_parts (nat_le (length d.offered) 64) _ takes).0)
  | inr none ↦ inr (rw none refl)
]

pub given_is : (d : Driven) → ((given_by d ≡ d.asked) × (length d.asked ≤ 64)) ⊎ (given_by d ≡ [])
given_is d = elim (cases_Bool (nat_le (length d.asked) 64)) [
  | inl gives ↦ inl (rw gives refl, leb-true (length d.asked) 64 gives)
  | inr none ↦ inr (rw none refl)
]
