-- What is appended piece by piece is the one spelling.
use Rattle.std.proofs.Common.{◌≡◌, ℕ, ◌^◌, ◌<◌, Bool, true, List, [], ◌∷◌, ◌++◌, length, flat_map, sym, ap, ◌∙◌, Result, Ok, Err}
use Rattle.std.{specs.Prelude.OnOk, specs.List.AllByRecursion, specs.Int.w32, proofs.lemmas.List.Concat.flat_map-append}
use Rattle.event_records.specs.{Records.record_bytes, Records.record_fields, dcd_base.proofs.Agreement.Agrees-spelled, dcd_base.proofs.Pieces.spelling_each, dcd_base.proofs.Places.flag_fits}
use Rattle.event_records.specs.dcd_base.specs.{Layouts.Number, Layouts.Reserved, Layouts.FitsField, Layouts.flag, Layouts.spell, Layouts.spelling, declared.capacity.Extent.Extent}
use Rattle.event_records.specs.declared.events.Event.{Event}
use Rattle.host_payloads.{specs.declared.views.Counts.Counts, specs.declared.views.RegionView.RegionView, specs.declared.requests.HostRequest.HostRequest, proofs.HostLaws.host_only}
use Rattle.host_payloads.specs.HostPayloads.{configuration_head, configuration_head_fields, configuration_payload, counts_bytes, counts_fields, events_head, events_head_fields, events_payload, region_bytes, view_fields, FitsListed, host_fields, host_opcode, host_request, list_fields, list_head, listed_bytes, listed_fields, lists_untagged}

spelling_listed : (xs : List Extent) → spelling (flat_map listed_fields xs) ≡ flat_map listed_bytes xs
unfolding listed_bytes
spelling_listed xs = spelling_each listed_fields xs

pub list_spelled : (more : Bool) (xs : List Extent) → list_head (length xs) more ++ flat_map listed_bytes xs ≡ spelling (list_fields more xs)
unfolding list_head
list_spelled more xs = ap (λ rest. spelling (Number w32 (length xs) ∷ flag more ∷ Reserved 3 ∷ []) ++ rest) (sym (spelling_listed xs))

-- ---- the numbers fit

fits_listed : (xs : List Extent) → AllByRecursion FitsListed xs → AllByRecursion FitsField (flat_map listed_fields xs)
fits_listed [] fit = tt
fits_listed (x ∷ xs) fit = (fit.0.0, (fit.0.1, (tt, fits_listed xs fit.1)))

pub list_fits : (more : Bool) (xs : List Extent) → length xs < 2 ^ 32 → AllByRecursion FitsListed xs → AllByRecursion FitsField (list_fields more xs)
list_fits more xs few fit = (few, (flag_fits more, (tt, fits_listed xs fit)))

-- ---- what is written is read again

pub host_again : {E : Type 0} (r : Result (Unit {0}) E) (q : HostRequest) → lists_untagged q ≡ true → AllByRecursion FitsField (host_fields q) → OnOk r (host_request (host_opcode q) (spelling (host_fields q)) ≡ Ok q)
host_again (Ok x) q untagged fits = host_only (spelling (host_fields q)) q untagged (Agrees-spelled (host_fields q) fits)
host_again (Err e) q untagged fits = tt

-- ---- replies

pub events_spelled : (missed : ℕ) (more : Bool) (events : List Event) → events_head missed more (length events) ++ flat_map record_bytes events ≡ events_payload missed more events
unfolding events_head events_payload record_bytes
events_spelled missed more events =
    let head = events_head_fields missed more (length events) in
    ap (λ rest. spelling head ++ rest) (sym (spelling_each record_fields events)) ∙ sym (flat_map-append spell head (flat_map record_fields events))

pub configuration_spelled : (total : ℕ) (views : List RegionView) (counts : Counts) → configuration_head total (length views) ++ flat_map region_bytes views ++ counts_bytes counts ≡ configuration_payload total views counts
unfolding configuration_head configuration_payload region_bytes counts_bytes
configuration_spelled total views counts =
    let head = configuration_head_fields total (length views) in
    let regions = flat_map view_fields views in
    ap (λ rest. spelling head ++ rest ++ spelling (counts_fields counts)) (sym (spelling_each view_fields views))
    ∙ ap (λ front. front ++ spelling (counts_fields counts)) (sym (flat_map-append spell head regions))
    ∙ sym (flat_map-append spell (head ++ regions) (counts_fields counts))
