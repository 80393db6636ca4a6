-- A payload is read as a page exactly where it reads so, and as that one.
use Rattle.std.proofs.Common.{◌≡◌, ℕ, ◌+◌, ◌-◌, ◌*◌, ◌/◌, ◌^◌, ◌<◌, ◌≤◌, List, [], ◌∷◌, ◌++◌, length, map, flat_map, drop, Result, Ok, Err, refl, sym, ap, subst, ◌∙◌, arith}
use Rattle.std.{specs.Prelude.IfOk, specs.List.AllByRecursion, specs.Int.w32, proofs.lemmas.List.length-map}
use Rattle.event_records.specs.dcd_base.proofs.{Agreement.Agrees, Agreement.Agrees-spelled, Fields.IsBytes}
use Rattle.event_records.specs.dcd_base.proofs.{PayloadLengths.counted_at, PayloadLengths.counted_is, PayloadLengths.sized_at, PayloadLengths.sized_is, Pieces.length-pieces}
use Rattle.event_records.specs.dcd_base.proofs.Places.{FieldsAt, Reads-from, all_from, number_found, number_only, reserved_found, reserved_only}
use Rattle.event_records.specs.dcd_base.proofs.{WholeExtents.extents_agree, WholeExtents.extents_are, WholeExtents.extents_fit, WholeExtents.extents_spelled, Widths.wide_32}
use Rattle.event_records.specs.dcd_base.specs.Extents.{FitsExtent, extent_bytes, whole_extent, extent_fields}
use Rattle.event_records.specs.dcd_base.specs.{Layouts.Number, Layouts.Reserved, Layouts.FitsField, Layouts.number_at, Layouts.pieces, Layouts.spelling, Payloads.Gives}
use Rattle.event_records.specs.dcd_base.specs.declared.{capacity.Extent.Extent, faults.PayloadFault.PayloadFault}
use Rattle.host_payloads.specs.HostPayloads.{IsPage, extents_payload, extents_in_page, page_fields, page_head, page_in, page_length}
use Rattle.host_payloads.specs.declared.pages.ExtentsPage.{ExtentsPage}

-- ---- pages

page_found : (payload : List ℕ) (page : ExtentsPage) → IsBytes payload → page_in payload ≡ Ok page → IsPage payload page
unfolding page_in
page_found payload page small e =
    let n = number_at w32 payload 0 in
    let k = (length payload - 16) / 40 in
    let at = sized_is (page_length payload) payload (record { total = number_at w32 payload 4; generation = number_at w32 payload 8; extents = extents_in_page payload }) page e in
    let all : length payload ≡ 16 + 40 * n = counted_is 16 40 n payload at.0 in
    let same : k ≡ n = omega (arith, all) in
    let count : n ≡ length (extents_in_page payload) = sym (length-map (pieces 40 k (drop 16 payload)) whole_extent ∙ length-pieces 40 k (drop 16 payload) ∙ same) in
    let extents = extents_agree payload 16 k small (omega (arith, all, same)) in
    let rest = number_found w32 wide_32 payload 4 8 _ small refl (number_found w32 wide_32 payload 8 12 _ small refl (reserved_found payload 12 16 4 _ refl extents)) in
    let counted = number_found w32 wide_32 payload 0 4 _ small refl rest in
    let named = subst (λ c. FieldsAt payload 0 (Number w32 c ∷ Number w32 (number_at w32 payload 4) ∷ Number w32 (number_at w32 payload 8) ∷ Reserved 4 ∷ flat_map extent_fields (extents_in_page payload))) count counted in
    subst (IsPage payload) at.1 (Reads-from payload _ small named)

page_only : (payload : List ℕ) (page : ExtentsPage) → Agrees payload (page_fields page.total page.generation page.extents) → page_in payload ≡ Ok page
unfolding page_in
page_only payload page a =
    let xs = page.extents in
    let first = number_only w32 wide_32 payload 0 4 (length xs) _ refl (all_from payload _ a) in
    let total = number_only w32 wide_32 payload 4 8 page.total _ refl first.1 in
    let generation = number_only w32 wide_32 payload 8 12 page.generation _ refl total.1 in
    let list = extents_are payload 16 xs (reserved_only payload 12 16 4 _ refl generation.1) in
    let k : (length payload - 16) / 40 ≡ length xs = omega (arith, list.0) in
    let made : ℕ → ℕ → List Extent → ExtentsPage = λ t g ys. record { total = t; generation = g; extents = ys } in
    let is : made (number_at w32 payload 4) (number_at w32 payload 8) (extents_in_page payload) ≡ page =
    ap (λ t. made t (number_at w32 payload 8) (extents_in_page payload)) total.0 ∙ ap (λ g. made page.total g (extents_in_page payload)) generation.0
    ∙ ap (λ ys. made page.total page.generation ys) (ap (λ n. map whole_extent (pieces 40 n (drop 16 payload))) k ∙ list.1) in
    sized_at (page_length payload) payload _ _ (counted_at 16 40 (number_at w32 payload 0) payload (rw first.0 list.0)) is

-- ---- of what a call gives

pub page_of_given : (payload : List ℕ) (r : Result ExtentsPage PayloadFault) → IsBytes payload → Gives r (page_in payload) → IfOk r (λ page. IsPage payload page)
page_of_given payload (Ok page) small given = page_found payload page small given
page_of_given payload (Err fault) small given = tt

pub given_of_page : (payload : List ℕ) (r : Result ExtentsPage PayloadFault) → Gives r (page_in payload) → (page : ExtentsPage) → IsPage payload page → Gives r (Ok page)
given_of_page payload r given page reads = subst (Gives r) (page_only payload page (record { fits = reads.fits; agrees = reads.agrees })) given

-- ---- pages as they are written

pub page_spelled : (total generation : ℕ) (xs : List Extent) → page_head (length xs) total generation ++ flat_map extent_bytes xs ≡ extents_payload total generation xs
unfolding page_head extents_payload
page_spelled total generation xs = ap (λ rest. spelling (Number w32 (length xs) ∷ Number w32 total ∷ Number w32 generation ∷ Reserved 4 ∷ []) ++ rest) (sym (extents_spelled xs))

pub page_fits : (total generation : ℕ) (xs : List Extent) → total < 2 ^ 32 → generation < 2 ^ 32 → length xs ≤ 50 → AllByRecursion FitsExtent xs → AllByRecursion FitsField (page_fields total generation xs)
page_fits total generation xs t g few fit = (omega (arith, few), (t, (g, (tt, extents_fit xs fit))))

pub page_again : (total generation : ℕ) (xs : List Extent) → AllByRecursion FitsField (page_fields total generation xs) → page_in (extents_payload total generation xs) ≡ Ok (record { total = total; generation = generation; extents = xs })
unfolding extents_payload
page_again total generation xs fits = page_only (spelling (page_fields total generation xs)) (record { total = total; generation = generation; extents = xs }) (Agrees-spelled _ fits)
