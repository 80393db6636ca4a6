-- A payload is read as a request exactly where it reads so, and as that one.
use Rattle.std.proofs.Common.{◌≡◌, ℕ, ◌+◌, ◌-◌, ◌*◌, ◌/◌, true, false, cond, eqb, List, [], ◌∷◌, length, get_or, map, flat_map, take, drop, Result, Ok, Err, refl, sym, ap, subst, ◌∙◌, arith}
use Rattle.std.{specs.Prelude.IfOk, specs.Prelude.OnOk, specs.List.AllByRecursion, specs.Int.w16, specs.Int.w32, specs.Int.w64, proofs.lemmas.Bool.eqb-true, proofs.lemmas.List.length-map}
use Rattle.dcd_base.proofs.{Agreement.Agrees, Agreement.Agrees-spelled, EventCommands.clear_agrees, EventCommands.clear_is, Fields.IsBytes}
use Rattle.dcd_base.proofs.{PayloadLengths.counted_at, PayloadLengths.counted_is, PayloadLengths.sized_at, PayloadLengths.sized_is, Pieces.length-pieces}
use Rattle.dcd_base.proofs.{WholeExtents.extents_agree, WholeExtents.extents_are, Widths.wide_16, Widths.wide_32, Widths.wide_64}
use Rattle.dcd_base.specs.{EventCommands.clear_length, EventCommands.handles_in, Extents.whole_extent, Extents.extent_fields}
use Rattle.dcd_base.specs.{Layouts.FitsField, Layouts.Number, Layouts.Raw, Layouts.Reads, Layouts.number_at, Layouts.pieces, Layouts.spelling, Payloads.has_flag, Payloads.tag_at, Payloads.Gives}
use Rattle.dcd_base.specs.declared.{capacity.Extent.Extent, capacity.Tag.Tag, faults.PayloadFault.PayloadFault}
use Rattle.dcd_base.proofs.Places.{FieldsAt, Reads-from, all_from, byte_found, byte_only, end_found, end_only, flag_found, flag_only, number_found, number_only, raw_found, raw_only, reserved_found, reserved_only}
use Rattle.fm_payloads.specs.declared.{placing.Placed.Placed, requests.FmRequest.FmRequest}
use Rattle.fm_payloads.specs.ManagerPayloads.{IsManagerRequest, manager_clear_asked, manager_events_asked, info_asked, lists_asked, made_of, manager_fields, manager_opcode, manager_request, placed_fields, placed_in, placed_length, regions_asked, setting_asked, tag_in, tags_asked, to_add, to_remove, whole_extents}

-- ---- what is read is asked

events_found : (payload : List ℕ) (q : FmRequest) → IsBytes payload → manager_events_asked payload ≡ Ok q → IsManagerRequest 0x0100 payload q
unfolding manager_events_asked
events_found payload q small e =
    let at = sized_is 1 payload (FmRequest.GetEvents (get_or payload 0 0)) q e in
    subst (IsManagerRequest 0x0100 payload) at.1 (refl, Reads-from payload _ small (byte_found payload 0 1 _ small refl (end_found payload 1 at.0)))

clear_found : (payload : List ℕ) (q : FmRequest) → IsBytes payload → manager_clear_asked payload ≡ Ok q → IsManagerRequest 0x0101 payload q
unfolding manager_clear_asked
clear_found payload q small e =
    let at = sized_is (clear_length payload) payload (FmRequest.ClearEvents (get_or payload 0 0) (has_flag payload 1) (handles_in payload)) q e in
    subst (IsManagerRequest 0x0101 payload) at.1 (refl, Reads-from payload _ small (clear_agrees payload small at.0))

info_found : (payload : List ℕ) (q : FmRequest) → IsBytes payload → info_asked payload ≡ Ok q → IsManagerRequest 0x5600 payload q
unfolding info_asked
info_found payload q small e =
    let at = sized_is 0 payload FmRequest.GetInfo q e in
    subst (IsManagerRequest 0x5600 payload) at.1 (refl, Reads-from payload _ small (end_found payload 0 at.0))

regions_found : (payload : List ℕ) (q : FmRequest) → IsBytes payload → regions_asked payload ≡ Ok q → IsManagerRequest 0x5601 payload q
unfolding regions_asked
regions_found payload q small e =
    let at = sized_is 4 payload (FmRequest.GetRegions (number_at w16 payload 0) (get_or payload 2 0) (get_or payload 3 0)) q e in
    let bytes = byte_found payload 2 3 _ small refl (byte_found payload 3 4 _ small refl (end_found payload 4 at.0)) in
    subst (IsManagerRequest 0x5601 payload) at.1 (refl, Reads-from payload _ small (number_found w16 wide_16 payload 0 2 _ small refl bytes))

setting_found : (payload : List ℕ) (q : FmRequest) → IsBytes payload → setting_asked payload ≡ Ok q → IsManagerRequest 0x5602 payload q
unfolding setting_asked
setting_found payload q small e =
    let at = sized_is 16 payload (FmRequest.SetRegion (get_or payload 0 0) (has_flag payload 12) (number_at w64 payload 4)) q e in
    let flag = flag_found payload 12 13 _ refl (reserved_found payload 13 16 3 _ refl (end_found payload 16 at.0)) in
    let block = reserved_found payload 1 4 3 _ refl (number_found w64 wide_64 payload 4 12 _ small refl flag) in
    subst (IsManagerRequest 0x5602 payload) at.1 (refl, Reads-from payload _ small (byte_found payload 0 1 _ small refl block))

lists_found : (payload : List ℕ) (q : FmRequest) → IsBytes payload → lists_asked payload ≡ Ok q → IsManagerRequest 0x5603 payload q
unfolding lists_asked
lists_found payload q small e =
    let at = sized_is 12 payload (FmRequest.GetExtentLists (number_at w16 payload 0) (number_at w32 payload 4) (number_at w32 payload 8)) q e in
    let counts = number_found w32 wide_32 payload 4 8 _ small refl (number_found w32 wide_32 payload 8 12 _ small refl (end_found payload 12 at.0)) in
    subst (IsManagerRequest 0x5603 payload) at.1 (refl, Reads-from payload _ small (number_found w16 wide_16 payload 0 2 _ small refl (reserved_found payload 2 4 2 _ refl counts)))

tags_found : (payload : List ℕ) (q : FmRequest) → IsBytes payload → tags_asked payload ≡ Ok q → IsManagerRequest 0x5608 payload q
unfolding tags_asked
tags_found payload q small e =
    let at = sized_is 8 payload (FmRequest.ListTags (number_at w32 payload 0) (number_at w32 payload 4)) q e in
    subst (IsManagerRequest 0x5608 payload) at.1 (refl, Reads-from payload _ small (number_found w32 wide_32 payload 0 4 _ small refl (number_found w32 wide_32 payload 4 8 _ small refl (end_found payload 8 at.0))))

-- the fields that an add and a release have in common
abbrev PlacedReads : List ℕ → Placed → Type 0
PlacedReads payload p = Reads payload (placed_fields p.host p.choice p.region p.length p.tag p.extents)

placed_found : (payload : List ℕ) (p : Placed) → IsBytes payload → placed_in payload ≡ Ok p → PlacedReads payload p
unfolding placed_in
placed_found payload p small e =
    let n = number_at w32 payload 28 in
    let k = (length payload - 32) / 40 in
    let at = sized_is (placed_length payload) payload (record { host = number_at w16 payload 0; choice = get_or payload 2 0; region = get_or payload 3 0; length = number_at w64 payload 4; tag = tag_at payload 12; extents = whole_extents payload }) p e in
    let all : length payload ≡ 32 + 40 * n = counted_is 32 40 n payload at.0 in
    let same : k ≡ n = omega (arith, all) in
    let count : n ≡ length (whole_extents payload) = sym (length-map (pieces 40 k (drop 32 payload)) whole_extent ∙ length-pieces 40 k (drop 32 payload) ∙ same) in
    let counted = number_found w32 wide_32 payload 28 32 _ small refl (extents_agree payload 32 k small (omega (arith, all, same))) in
    let named = subst (λ c. FieldsAt payload 28 (Number w32 c ∷ flat_map extent_fields (whole_extents payload))) count counted in
    let tagged = number_found w64 wide_64 payload 4 12 _ small refl (raw_found payload 12 28 16 _ small refl named) in
    let here = number_found w16 wide_16 payload 0 2 _ small refl (byte_found payload 2 3 _ small refl (byte_found payload 3 4 _ small refl tagged)) in
    subst (PlacedReads payload) at.1 (Reads-from payload _ small here)

tag_found : (payload : List ℕ) (t : Tag) → IsBytes payload → tag_in payload ≡ Ok t → Reads payload (Raw 16 t.0 ∷ [])
unfolding tag_in
tag_found payload t small e =
    let at = sized_is 16 payload (tag_at payload 0) t e in
    subst (λ (u : Tag). Reads payload (Raw 16 u.0 ∷ [])) at.1 (Reads-from payload _ small (raw_found payload 0 16 16 _ small refl (end_found payload 16 at.0)))

made_of_is : {X : Type 0} (make : X → FmRequest) (r : Result X PayloadFault) (q : FmRequest) → made_of make r ≡ Ok q → (x : X) × (r ≡ Ok x) × (make x ≡ q)
made_of_is make (Ok x) q e = (x, refl, cc e)
made_of_is make (Err fault) q e = absurd (cc e)

add_found : (payload : List ℕ) (q : FmRequest) → IsBytes payload → made_of to_add (placed_in payload) ≡ Ok q → IsManagerRequest 0x5604 payload q
add_found payload q small e =
    let at = made_of_is to_add (placed_in payload) q e in
    subst (IsManagerRequest 0x5604 payload) at.2 (refl, placed_found payload at.0 small at.1)

remove_found : (payload : List ℕ) (q : FmRequest) → IsBytes payload → made_of to_remove (placed_in payload) ≡ Ok q → IsManagerRequest 0x5605 payload q
remove_found payload q small e =
    let at = made_of_is to_remove (placed_in payload) q e in
    subst (IsManagerRequest 0x5605 payload) at.2 (refl, placed_found payload at.0 small at.1)

reference_found : (payload : List ℕ) (q : FmRequest) → IsBytes payload → made_of (λ t. FmRequest.AddReference t) (tag_in payload) ≡ Ok q → IsManagerRequest 0x5606 payload q
reference_found payload q small e =
    let at = made_of_is (λ t. FmRequest.AddReference t) (tag_in payload) q e in
    subst (IsManagerRequest 0x5606 payload) at.2 (refl, tag_found payload at.0 small at.1)

dereference_found : (payload : List ℕ) (q : FmRequest) → IsBytes payload → made_of (λ t. FmRequest.RemoveReference t) (tag_in payload) ≡ Ok q → IsManagerRequest 0x5607 payload q
dereference_found payload q small e =
    let at = made_of_is (λ t. FmRequest.RemoveReference t) (tag_in payload) q e in
    subst (IsManagerRequest 0x5607 payload) at.2 (refl, tag_found payload at.0 small at.1)

if_found : (opcode n : ℕ) (payload : List ℕ) (r rest : Result FmRequest PayloadFault) (q : FmRequest) → (r ≡ Ok q → IsManagerRequest n payload q) → (rest ≡ Ok q → IsManagerRequest opcode payload q) → cond (eqb opcode n) r rest ≡ Ok q → IsManagerRequest opcode payload q
if_found opcode n payload r rest q here there e =
    elim (eqb opcode n) as (λ b. eqb opcode n ≡ b → cond b r rest ≡ Ok q → IsManagerRequest opcode payload q) [
      | true ↦ λ same at. subst (λ o. IsManagerRequest o payload q) (sym (eqb-true opcode n same)) (here at)
      | false ↦ λ other at. there at
    ] refl e

-- What is read is a request as which the payload reads, under its opcode.
pub manager_found : (opcode : ℕ) (payload : List ℕ) (q : FmRequest) → IsBytes payload → manager_request opcode payload ≡ Ok q → IsManagerRequest opcode payload q
unfolding manager_request
manager_found opcode payload q small e =
    if_found opcode 0x0100 payload _ _ q (events_found payload q small) (
    if_found opcode 0x0101 payload _ _ q (clear_found payload q small) (
    if_found opcode 0x5600 payload _ _ q (info_found payload q small) (
    if_found opcode 0x5601 payload _ _ q (regions_found payload q small) (
    if_found opcode 0x5602 payload _ _ q (setting_found payload q small) (
    if_found opcode 0x5603 payload _ _ q (lists_found payload q small) (
    if_found opcode 0x5604 payload _ _ q (add_found payload q small) (
    if_found opcode 0x5605 payload _ _ q (remove_found payload q small) (
    if_found opcode 0x5606 payload _ _ q (reference_found payload q small) (
    if_found opcode 0x5607 payload _ _ q (dereference_found payload q small) (
    if_found opcode 0x5608 payload _ _ q (tags_found payload q small) (λ none. absurd (cc none)))))))))))) e

-- ---- what is asked is read

placed_only : (payload : List ℕ) (p : Placed) → Agrees payload (placed_fields p.host p.choice p.region p.length p.tag p.extents) → placed_in payload ≡ Ok p
unfolding placed_in
placed_only payload p a =
    let host = number_only w16 wide_16 payload 0 2 p.host _ refl (all_from payload _ a) in
    let choice = byte_only payload 2 3 p.choice _ refl host.1 in
    let region = byte_only payload 3 4 p.region _ refl choice.1 in
    let size = number_only w64 wide_64 payload 4 12 p.length _ refl region.1 in
    let tag = raw_only payload 12 28 16 p.tag.0 _ refl size.1 in
    let count = number_only w32 wide_32 payload 28 32 (length p.extents) _ refl tag.1 in
    let list = extents_are payload 32 p.extents count.1 in
    let k : (length payload - 32) / 40 ≡ length p.extents = omega (arith, list.0) in
    let extents : whole_extents payload ≡ p.extents = ap (λ n. map whole_extent (pieces 40 n (drop 32 payload))) k ∙ list.1 in
    let made : ℕ → ℕ → ℕ → ℕ → List ℕ → List Extent → Placed = λ h c r l t xs. record { host = h; choice = c; region = r; length = l; tag = record { 0 = t }; extents = xs } in
    let is : made (number_at w16 payload 0) (get_or payload 2 0) (get_or payload 3 0) (number_at w64 payload 4) (take 16 (drop 12 payload)) (whole_extents payload) ≡ p =
    ap (λ h. made h (get_or payload 2 0) (get_or payload 3 0) (number_at w64 payload 4) (take 16 (drop 12 payload)) (whole_extents payload)) host.0
    ∙ ap (λ c. made p.host c (get_or payload 3 0) (number_at w64 payload 4) (take 16 (drop 12 payload)) (whole_extents payload)) choice.0
    ∙ ap (λ r. made p.host p.choice r (number_at w64 payload 4) (take 16 (drop 12 payload)) (whole_extents payload)) region.0
    ∙ ap (λ l. made p.host p.choice p.region l (take 16 (drop 12 payload)) (whole_extents payload)) size.0
    ∙ ap (λ t. made p.host p.choice p.region p.length t (whole_extents payload)) tag.0
    ∙ ap (λ xs. made p.host p.choice p.region p.length p.tag.0 xs) extents in
    sized_at (placed_length payload) payload _ _ (counted_at 32 40 (number_at w32 payload 28) payload (rw count.0 list.0)) is

tag_only : (payload : List ℕ) (t : Tag) → Agrees payload (Raw 16 t.0 ∷ []) → tag_in payload ≡ Ok t
unfolding tag_in
tag_only payload t a =
    let tag = raw_only payload 0 16 16 t.0 _ refl (all_from payload _ a) in
    let made : List ℕ → Tag = λ bytes. record { 0 = bytes } in
    sized_at 16 payload (tag_at payload 0) t (end_only payload 16 tag.1) (ap made tag.0)

-- A payload that agrees with a request's fields is that request.
pub manager_only : (payload : List ℕ) (q : FmRequest) → Agrees payload (manager_fields q) → manager_request (manager_opcode q) payload ≡ Ok q
unfolding manager_request manager_events_asked manager_clear_asked info_asked regions_asked setting_asked lists_asked tags_asked
manager_only payload (FmRequest.GetEvents log) a =
    let only = byte_only payload 0 1 log [] refl (all_from payload _ a) in
    sized_at 1 payload _ _ (end_only payload 1 only.1) (ap (λ n. FmRequest.GetEvents n) only.0)
manager_only payload (FmRequest.ClearEvents log all handles) a =
    let is = clear_is payload log all handles a in
    sized_at (clear_length payload) payload _ _ is.0 (ap (λ n. FmRequest.ClearEvents n (has_flag payload 1) (handles_in payload)) is.1 ∙ ap (λ b. FmRequest.ClearEvents log b (handles_in payload)) is.2 ∙ ap (λ hs. FmRequest.ClearEvents log all hs) is.3)
manager_only payload FmRequest.GetInfo a = sized_at 0 payload _ _ (end_only payload 0 (all_from payload _ a)) refl
manager_only payload (FmRequest.GetRegions host count first) a =
    let one = number_only w16 wide_16 payload 0 2 host _ refl (all_from payload _ a) in
    let two = byte_only payload 2 3 count _ refl one.1 in
    let three = byte_only payload 3 4 first _ refl two.1 in
    sized_at 4 payload _ _ (end_only payload 4 three.1) (ap (λ n. FmRequest.GetRegions n (get_or payload 2 0) (get_or payload 3 0)) one.0 ∙ ap (λ n. FmRequest.GetRegions host n (get_or payload 3 0)) two.0 ∙ ap (λ n. FmRequest.GetRegions host count n) three.0)
manager_only payload (FmRequest.SetRegion region sanitize block) a =
    let one = byte_only payload 0 1 region _ refl (all_from payload _ a) in
    let two = number_only w64 wide_64 payload 4 12 block _ refl (reserved_only payload 1 4 3 _ refl one.1) in
    let three = flag_only payload 12 13 sanitize _ refl two.1 in
    let rest = reserved_only payload 13 16 3 _ refl three.1 in
    sized_at 16 payload _ _ (end_only payload 16 rest) (ap (λ n. FmRequest.SetRegion n (has_flag payload 12) (number_at w64 payload 4)) one.0 ∙ ap (λ b. FmRequest.SetRegion region b (number_at w64 payload 4)) three.0 ∙ ap (λ n. FmRequest.SetRegion region sanitize n) two.0)
manager_only payload (FmRequest.GetExtentLists host count first) a =
    let one = number_only w16 wide_16 payload 0 2 host _ refl (all_from payload _ a) in
    let two = number_only w32 wide_32 payload 4 8 count _ refl (reserved_only payload 2 4 2 _ refl one.1) in
    let three = number_only w32 wide_32 payload 8 12 first _ refl two.1 in
    sized_at 12 payload _ _ (end_only payload 12 three.1) (ap (λ n. FmRequest.GetExtentLists n (number_at w32 payload 4) (number_at w32 payload 8)) one.0 ∙ ap (λ n. FmRequest.GetExtentLists host n (number_at w32 payload 8)) two.0 ∙ ap (λ n. FmRequest.GetExtentLists host count n) three.0)
manager_only payload (FmRequest.Add host policy region bytes tag xs) a =
    ap (made_of to_add) (placed_only payload (record { host = host; choice = policy; region = region; length = bytes; tag = tag; extents = xs }) a)
manager_only payload (FmRequest.Remove host flags region bytes tag xs) a =
    ap (made_of to_remove) (placed_only payload (record { host = host; choice = flags; region = region; length = bytes; tag = tag; extents = xs }) a)
manager_only payload (FmRequest.AddReference tag) a = ap (made_of (λ t. FmRequest.AddReference t)) (tag_only payload tag a)
manager_only payload (FmRequest.RemoveReference tag) a = ap (made_of (λ t. FmRequest.RemoveReference t)) (tag_only payload tag a)
manager_only payload (FmRequest.ListTags first count) a =
    let one = number_only w32 wide_32 payload 0 4 first _ refl (all_from payload _ a) in
    let two = number_only w32 wide_32 payload 4 8 count _ refl one.1 in
    sized_at 8 payload _ _ (end_only payload 8 two.1) (ap (λ n. FmRequest.ListTags n (number_at w32 payload 4)) one.0 ∙ ap (λ n. FmRequest.ListTags first n) two.0)

-- ---- of what a call gives

pub asked_of : (opcode : ℕ) (payload : List ℕ) (r : Result FmRequest PayloadFault) → IsBytes payload → Gives r (manager_request opcode payload) → IfOk r (λ q. IsManagerRequest opcode payload q)
asked_of opcode payload (Ok q) small given = manager_found opcode payload q small given
asked_of opcode payload (Err fault) small given = tt

pub given_of : (opcode : ℕ) (payload : List ℕ) (r : Result FmRequest PayloadFault) → Gives r (manager_request opcode payload) → (q : FmRequest) → IsManagerRequest opcode payload q → Gives r (Ok q)
given_of opcode payload r given q asked =
    let here : Agrees payload (manager_fields q) = record { fits = asked.1.fits; agrees = asked.1.agrees } in
    let read : manager_request opcode payload ≡ Ok q = subst (λ o. manager_request o payload ≡ Ok q) (sym asked.0) (manager_only payload q here) in
    subst (Gives r) read given

-- what is written is read again
pub manager_again : {E : Type 0} (r : Result (Unit {0}) E) (q : FmRequest) → AllByRecursion FitsField (manager_fields q) → OnOk r (manager_request (manager_opcode q) (spelling (manager_fields q)) ≡ Ok q)
manager_again (Ok x) q fits = manager_only (spelling (manager_fields q)) q (Agrees-spelled (manager_fields q) fits)
manager_again (Err e) q fits = tt
