-- A payload is read as a request exactly where it reads so, and as that one.
use Rattle.std.proofs.Common.{◌≡◌, ℕ, ◌-◌, ◌/◌, drop, Bool, true, false, cond, eqb, List, [], ◌∷◌, length, map, get_or, Result, Ok, Err, refl, sym, ap, subst, ◌∙◌}
use Rattle.std.{proofs.lemmas.Bool.eqb-true, specs.Int.w32, specs.List.list_all, specs.Prelude.IfOk}
use Rattle.event_records.specs.dcd_base.proofs.{Agreement.Agrees, EventCommands.clear_agrees, EventCommands.clear_is, Fields.IsBytes, PayloadLengths.sized_at, PayloadLengths.sized_is}
use Rattle.event_records.specs.dcd_base.proofs.Places.{Reads-from, all_from, end_found, end_only, number_found, number_only, byte_found, byte_only}
use Rattle.event_records.specs.dcd_base.{proofs.Widths.wide_32, specs.EventCommands.handles_in, specs.EventCommands.clear_length, specs.Layouts.Reads, specs.Layouts.number_at, specs.Layouts.pieces}
use Rattle.event_records.specs.dcd_base.specs.{Payloads.has_flag, Payloads.Gives, declared.capacity.Extent.Extent, declared.faults.PayloadFault.PayloadFault}
use Rattle.host_payloads.{specs.declared.requests.HostRequest.HostRequest, proofs.Asked.list_agrees, proofs.Asked.list_is}
use Rattle.host_payloads.specs.HostPayloads.{list_fields, list_length, listed_extent, listed_extents, is_untagged, host_opcode, host_fields, lists_untagged, IsHostRequest, events_asked, clear_asked, configuration_asked, extents_asked, listed_in, of_list, host_request}

events_found : (payload : List ℕ) (q : HostRequest) → IsBytes payload → events_asked payload ≡ Ok q → IsHostRequest 0x0100 payload q
unfolding events_asked
events_found payload q small e =
    let at = sized_is 1 payload (HostRequest.GetEvents (get_or payload 0 0)) q e in
    subst (IsHostRequest 0x0100 payload) at.1 (refl, record { untagged = refl; reads = Reads-from payload _ small (byte_found payload 0 1 _ small refl (end_found payload 1 at.0)) })

clear_found : (payload : List ℕ) (q : HostRequest) → IsBytes payload → clear_asked payload ≡ Ok q → IsHostRequest 0x0101 payload q
unfolding clear_asked
clear_found payload q small e =
    let at = sized_is (clear_length payload) payload (HostRequest.ClearEvents (get_or payload 0 0) (has_flag payload 1) (handles_in payload)) q e in
    subst (IsHostRequest 0x0101 payload) at.1 (refl, record { untagged = refl; reads = Reads-from payload _ small (clear_agrees payload small at.0) })

configuration_found : (payload : List ℕ) (q : HostRequest) → IsBytes payload → configuration_asked payload ≡ Ok q → IsHostRequest 0x4800 payload q
unfolding configuration_asked
configuration_found payload q small e =
    let at = sized_is 2 payload (HostRequest.GetConfiguration (get_or payload 0 0) (get_or payload 1 0)) q e in
    let second = byte_found payload 1 2 _ small refl (end_found payload 2 at.0) in
    subst (IsHostRequest 0x4800 payload) at.1 (refl, record { untagged = refl; reads = Reads-from payload _ small (byte_found payload 0 1 _ small refl second) })

extents_found : (payload : List ℕ) (q : HostRequest) → IsBytes payload → extents_asked payload ≡ Ok q → IsHostRequest 0x4801 payload q
unfolding extents_asked
extents_found payload q small e =
    let at = sized_is 8 payload (HostRequest.GetExtents (number_at w32 payload 0) (number_at w32 payload 4)) q e in
    let second = number_found w32 wide_32 payload 4 8 _ small refl (end_found payload 8 at.0) in
    subst (IsHostRequest 0x4801 payload) at.1 (refl, record { untagged = refl; reads = Reads-from payload _ small (number_found w32 wide_32 payload 0 4 _ small refl second) })

of_list_is : (make : Bool → List Extent → HostRequest) (r : Result (Bool × List Extent) PayloadFault) (q : HostRequest) → of_list make r ≡ Ok q → (x : Bool × List Extent) × (r ≡ Ok x) × (make x.0 x.1 ≡ q)
of_list_is make (Ok x) q e = (x, refl, cc e)
of_list_is make (Err fault) q e = absurd (cc e)

untagged_pieces : (ps : List (List ℕ)) → list_all is_untagged (map listed_extent ps) ≡ true
untagged_pieces [] = refl
untagged_pieces (b ∷ ps) = untagged_pieces ps

-- the flag and the list of a payload that is read as a list
list_found : (payload : List ℕ) (x : Bool × List Extent) → IsBytes payload → listed_in payload ≡ Ok x → (list_all is_untagged x.1 ≡ true) × Reads payload (list_fields x.0 x.1)
unfolding listed_in
list_found payload x small e =
    let at = sized_is (list_length payload) payload (has_flag payload 4, listed_extents payload) x e in
    let P : Bool × List Extent → Type 0 = λ y. (list_all is_untagged y.1 ≡ true) × Reads payload (list_fields y.0 y.1) in
    subst P at.1 (untagged_pieces (pieces 24 ((length payload - 8) / 24) (drop 8 payload)), Reads-from payload _ small (list_agrees payload small at.0))

response_found : (payload : List ℕ) (q : HostRequest) → IsBytes payload → of_list (λ more xs. HostRequest.AddResponse more xs) (listed_in payload) ≡ Ok q → IsHostRequest 0x4802 payload q
response_found payload q small e =
    let at = of_list_is _ (listed_in payload) q e in
    let list = list_found payload at.0 small at.1 in
    subst (IsHostRequest 0x4802 payload) at.2 (refl, record { untagged = list.0; reads = list.1 })

return_found : (payload : List ℕ) (q : HostRequest) → IsBytes payload → of_list (λ more xs. HostRequest.GiveBack more xs) (listed_in payload) ≡ Ok q → IsHostRequest 0x4803 payload q
return_found payload q small e =
    let at = of_list_is _ (listed_in payload) q e in
    let list = list_found payload at.0 small at.1 in
    subst (IsHostRequest 0x4803 payload) at.2 (refl, record { untagged = list.0; reads = list.1 })

if_found : (opcode n : ℕ) (payload : List ℕ) (r rest : Result HostRequest PayloadFault) (q : HostRequest) → (r ≡ Ok q → IsHostRequest n payload q) → (rest ≡ Ok q → IsHostRequest opcode payload q) → cond (eqb opcode n) r rest ≡ Ok q → IsHostRequest opcode payload q
if_found opcode n payload r rest q here there e =
    elim (eqb opcode n) as (λ b. eqb opcode n ≡ b → cond b r rest ≡ Ok q → IsHostRequest opcode payload q) [
      | true ↦ λ same at. subst (λ o. IsHostRequest o payload q) (sym (eqb-true opcode n same)) (here at)
      | false ↦ λ other at. there at
    ] refl e

-- What is read is a request as which the payload reads, under its opcode.
pub host_found : (opcode : ℕ) (payload : List ℕ) (q : HostRequest) → IsBytes payload → host_request opcode payload ≡ Ok q → IsHostRequest opcode payload q
unfolding host_request
host_found opcode payload q small e =
    if_found opcode 0x0100 payload _ _ q (events_found payload q small) (
    if_found opcode 0x0101 payload _ _ q (clear_found payload q small) (
    if_found opcode 0x4800 payload _ _ q (configuration_found payload q small) (
    if_found opcode 0x4801 payload _ _ q (extents_found payload q small) (
    if_found opcode 0x4802 payload _ _ q (response_found payload q small) (
    if_found opcode 0x4803 payload _ _ q (return_found payload q small) (λ none. absurd (cc none))))))) e

-- A payload that agrees with a request's fields is that request.
pub host_only : (payload : List ℕ) (q : HostRequest) → lists_untagged q ≡ true → Agrees payload (host_fields q) → host_request (host_opcode q) payload ≡ Ok q
unfolding host_request events_asked clear_asked configuration_asked extents_asked listed_in
host_only payload (HostRequest.GetEvents log) untagged a =
    let only = byte_only payload 0 1 log [] refl (all_from payload _ a) in
    sized_at 1 payload _ _ (end_only payload 1 only.1) (ap (λ n. HostRequest.GetEvents n) only.0)
host_only payload (HostRequest.ClearEvents log all handles) untagged a =
    let is = clear_is payload log all handles a in
    sized_at (clear_length payload) payload _ _ is.0 (ap (λ n. HostRequest.ClearEvents n (has_flag payload 1) (handles_in payload)) is.1 ∙ ap (λ b. HostRequest.ClearEvents log b (handles_in payload)) is.2 ∙ ap (λ hs. HostRequest.ClearEvents log all hs) is.3)
host_only payload (HostRequest.GetConfiguration count first) untagged a =
    let one = byte_only payload 0 1 count _ refl (all_from payload _ a) in
    let two = byte_only payload 1 2 first _ refl one.1 in
    sized_at 2 payload _ _ (end_only payload 2 two.1) (ap (λ n. HostRequest.GetConfiguration n (get_or payload 1 0)) one.0 ∙ ap (λ n. HostRequest.GetConfiguration count n) two.0)
host_only payload (HostRequest.GetExtents count first) untagged a =
    let one = number_only w32 wide_32 payload 0 4 count _ refl (all_from payload _ a) in
    let two = number_only w32 wide_32 payload 4 8 first _ refl one.1 in
    sized_at 8 payload _ _ (end_only payload 8 two.1) (ap (λ n. HostRequest.GetExtents n (number_at w32 payload 4)) one.0 ∙ ap (λ n. HostRequest.GetExtents count n) two.0)
host_only payload (HostRequest.AddResponse more xs) untagged a =
    let is = list_is payload more xs untagged a in
    let same : listed_in payload ≡ Ok (more, xs) = sized_at (list_length payload) payload _ _ is.0 (ap (λ b. (b, listed_extents payload)) is.1 ∙ ap (λ ys. (more, ys)) is.2) in
    ap (of_list (λ m ys. HostRequest.AddResponse m ys)) same
host_only payload (HostRequest.GiveBack more xs) untagged a =
    let is = list_is payload more xs untagged a in
    let same : listed_in payload ≡ Ok (more, xs) = sized_at (list_length payload) payload _ _ is.0 (ap (λ b. (b, listed_extents payload)) is.1 ∙ ap (λ ys. (more, ys)) is.2) in
    ap (of_list (λ m ys. HostRequest.GiveBack m ys)) same

-- ---- of what a call gives

pub asked_of : (opcode : ℕ) (payload : List ℕ) (r : Result HostRequest PayloadFault) → IsBytes payload → Gives r (host_request opcode payload) → IfOk r (λ q. IsHostRequest opcode payload q)
asked_of opcode payload (Ok q) small given = host_found opcode payload q small given
asked_of opcode payload (Err fault) small given = tt

pub given_of : (opcode : ℕ) (payload : List ℕ) (r : Result HostRequest PayloadFault) → Gives r (host_request opcode payload) → (q : HostRequest) → IsHostRequest opcode payload q → Gives r (Ok q)
given_of opcode payload r given q asked =
    let here : Agrees payload (host_fields q) = record { fits = asked.1.reads.fits; agrees = asked.1.reads.agrees } in
    let read : host_request opcode payload ≡ Ok q = subst (λ o. host_request o payload ≡ Ok q) (sym asked.0) (host_only payload q asked.1.untagged here) in
    subst (Gives r) read given
