-- The messages of a plan are read as what they say.
use Rattle.std.proofs.Common.{◌≡◌, ℕ, suc, ◌+◌, ◌%◌, ◌^◌, ◌<◌, true, false, List, [], ◌∷◌, length, map, get_or, Ok, refl, ap, ◌∙◌, arith, get_or-drop}
use Rattle.std.{specs.List.AllByRecursion, specs.List.list_all, proofs.lemmas.List.length-drop, proofs.lemmas.List.length-map}
use Rattle.dcd_base.{proofs.Agreement.Agrees-spelled, proofs.EventCommands.clear_fits, specs.EventCommands.FitsHandle, specs.Layouts.FitsField, specs.Layouts.spelling, specs.Words.zero_tag}
use Rattle.dcd_base.specs.declared.{capacity.Extent.Extent, ids.HostId.HostId, steps.LogId.LogId}
use Rattle.region_config.specs.{Configurations.Configuration, Soundness.IsSound}
use Rattle.fm_payloads.{specs.ManagerPayloads.manager_fields, specs.ManagerPayloads.manager_request, specs.declared.requests.FmRequest.FmRequest, proofs.ManagerLaws.manager_only}
use Rattle.event_log.specs.Logs.{Log, records_in}
use Rattle.event_records.specs.declared.events.Event.{Event}
use Rattle.journal_core.specs.{Entries.effects, declared.entries.Entry.Entry}
use Rattle.isolation_laws.{specs.device_rules.specs.Legal.Legal, specs.device_rules.specs.Logs.log_of, specs.device_rules.proofs.LegalLogs.legal_logs, proofs.LogSizes.few_records}
use Rattle.host_payloads.proofs.{HostLaws.host_only, Written.list_fits}
use Rattle.host_payloads.specs.HostPayloads.{FitsListed, host_fields, host_opcode, host_request, is_untagged, lists_untagged}
use Rattle.host_payloads.specs.declared.requests.HostRequest.{HostRequest}
use Rattle.plan_rules.specs.Listing.{listed}

abbrev pub IsHeard : HostRequest → Type 0
IsHeard q = host_request (host_opcode q) (spelling (host_fields q)) ≡ Ok q

heard : (q : HostRequest) → lists_untagged q ≡ true → AllByRecursion FitsField (host_fields q) → IsHeard q
heard q untagged fits = host_only (spelling (host_fields q)) q untagged (Agrees-spelled (host_fields q) fits)

-- what is listed has no tag, and the numbers of the extent
pub listed_untagged : (xs : List Extent) → list_all is_untagged (map listed xs) ≡ true
listed_untagged [] = refl
listed_untagged (x ∷ xs) = listed_untagged xs

listed_fit : (xs : List Extent) → AllByRecursion FitsListed xs → AllByRecursion FitsListed (map listed xs)
listed_fit [] fit = tt
listed_fit (x ∷ xs) fit = ((fit.0.0, fit.0.1), listed_fit xs fit.1)

pub response_heard : (xs : List Extent) → length (map listed xs) < 2 ^ 32 → AllByRecursion FitsListed xs → IsHeard (HostRequest.AddResponse false (map listed xs))
response_heard xs few fit = heard (HostRequest.AddResponse false (map listed xs)) (listed_untagged xs) (list_fits false (map listed xs) few (listed_fit xs fit))

pub release_heard : (xs : List Extent) → list_all is_untagged xs ≡ true → length xs < 2 ^ 32 → AllByRecursion FitsListed xs → IsHeard (HostRequest.GiveBack false xs)
release_heard xs untagged few fit = heard (HostRequest.GiveBack false xs) untagged (list_fits false xs few fit)

-- ---- the manager's

pub add_heard : (c : Configuration) → IsSound c → (h : HostId) (r bytes : ℕ) → h < c.hosts → r < length c.regions → bytes < 2 ^ 64 →
    manager_request 0x5604 (spelling (manager_fields (FmRequest.Add h 0 r bytes zero_tag []))) ≡ Ok (FmRequest.Add h 0 r bytes zero_tag [])
add_heard c sound h r bytes host known few =
    let fits : AllByRecursion FitsField (manager_fields (FmRequest.Add h 0 r bytes zero_tag [])) =
    (omega (arith, host, sound.hosts), (omega arith, (omega (arith, known, sound.regions), (few, ((refl, refl), (omega arith, tt)))))) in
    manager_only (spelling (manager_fields (FmRequest.Add h 0 r bytes zero_tag []))) (FmRequest.Add h 0 r bytes zero_tag []) (Agrees-spelled (manager_fields (FmRequest.Add h 0 r bytes zero_tag [])) fits)

-- ---- all handles of a host's log

each_handle : (xs : List Event) → ((k : ℕ) (d : Event) → k < length xs → (get_or xs k d).handle < 2 ^ 16) → AllByRecursion FitsHandle (map (λ (e : Event). e.handle) xs)
each_handle [] each = tt
each_handle (x ∷ xs) each = (each 0 x (omega arith), each_handle xs (λ k d below. each (suc k) d (omega (arith, below))))

pub clear_heard : (c : Configuration) (journal : List Entry) → Legal c journal → (h : HostId) → IsHeard (HostRequest.ClearEvents 4 false (map (λ (e : Event). e.handle) (records_in (log_of (LogId.Host h) (effects journal)))))
clear_heard c journal legal h =
    let log : Log = log_of (LogId.Host h) (effects journal) in
    let records : List Event = records_in log in
    let history = (legal_logs c journal legal).history (LogId.Host h) in
    heard (HostRequest.ClearEvents 4 false (map (λ (e : Event). e.handle) records)) refl
    (clear_fits 4 false (map (λ (e : Event). e.handle) records) (omega arith) (omega (arith, length-map records (λ (e : Event). e.handle), few_records c journal legal h))
    (each_handle records (λ k d below.
    let place : log.cleared + k < length log.ever = omega (arith, below, length-drop log.cleared log.ever) in
    let told : (get_or records k d).handle ≡ 1 + (log.cleared + k) % 65535 = ap (λ (e : Event). e.handle) (get_or-drop log.cleared log.ever k d) ∙ history.handles (log.cleared + k) d place in
    omega (arith, told))))
