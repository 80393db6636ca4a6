-- The payloads of the event commands, read and written.
use Rattle.std.proofs.Common.{◌≡◌, ℕ, ◌+◌, ◌*◌, ◌<◌, ◌≤◌, Bool, List, [], ◌∷◌, ◌++◌, length, get_or, map, flat_map, drop, refl, sym, ap, subst, ◌∙◌, arith}
use Rattle.std.{proofs.lemmas.List.length-drop, proofs.lemmas.List.length-map, proofs.lemmas.List.Concat.flat_map_single, specs.Int.w8, specs.Int.w16, specs.Int.from_le_bytes}
use Rattle.std.specs.List.{AllByRecursion}
use Rattle.dcd_base.proofs.{Agreement.Agrees, Fields.IsBytes, PayloadLengths.counted_at, PayloadLengths.counted_is, Pieces.each_is_good, Pieces.length-pieces, Pieces.pieces_found, Pieces.pieces_only}
use Rattle.dcd_base.proofs.Widths.{IsBytes-drop, wide_16}
use Rattle.dcd_base.specs.EventCommands.{clear_fields, clear_length, handle_fields, handles_in, FitsHandle}
use Rattle.dcd_base.specs.{Layouts.FitsField, Layouts.Number, Layouts.Reserved, Layouts.pieces, Layouts.spelling, Layouts.u16_bytes, Layouts.u8_bytes, Payloads.has_flag, Words.flag_of}
use Rattle.dcd_base.proofs.Places.{FieldsAt, all_from, byte_found, byte_only, end_found, end_only, flag_fits, flag_found, flag_only, number_found, number_only, reserved_found, reserved_only}

-- ---- handles

pub handle_found : (b : List ℕ) → length b ≡ 2 → IsBytes b → Agrees b (Number w16 (from_le_bytes w16 b) ∷ [])
handle_found b len small = (number_found w16 wide_16 b 0 2 [] small refl (end_found b 2 len)).rest

pub handle_only : (h : ℕ) → Unit {0} → (b : List ℕ) → Agrees b (Number w16 h ∷ []) → (length b ≡ 2) × (from_le_bytes w16 b ≡ h)
handle_only h good b a =
    let step = number_only w16 wide_16 b 0 2 h [] refl (all_from b _ a) in
    (end_only b 2 step.1, step.0)

-- ---- the lists of the payloads

pub handles_found : (payload : List ℕ) (at n : ℕ) → IsBytes payload → length payload ≡ at + 2 * n → FieldsAt payload at (handle_fields (map (from_le_bytes w16) (pieces 2 n (drop at payload))))
handles_found payload at n small len =
    let handles = map (from_le_bytes w16) (pieces 2 n (drop at payload)) in
    let all = pieces_found (from_le_bytes w16) (λ h. Number w16 h ∷ []) 2 handle_found n (drop at payload) (omega (arith, len, length-drop at payload)) (IsBytes-drop at payload small) in
    record { within = omega (arith, len); rest = subst (λ fs. Agrees (drop at payload) fs) (flat_map_single (Number w16) handles) all }

pub handles_only : (payload : List ℕ) (at : ℕ) (handles : List ℕ) → FieldsAt payload at (handle_fields handles) → (length payload ≡ at + 2 * length handles) × (map (from_le_bytes w16) (pieces 2 (length handles) (drop at payload)) ≡ handles)
handles_only payload at handles here =
    let a = subst (λ fs. Agrees (drop at payload) fs) (sym (flat_map_single (Number w16) handles)) here.rest in
    let all = pieces_only (from_le_bytes w16) (λ h. Number w16 h ∷ []) 2 (λ h. Unit {0}) handle_only handles (each_is_good handles) (drop at payload) a in
    (omega (arith, all.0, here.within, length-drop at payload), all.1)

-- ---- 0101h: a log, a flag, a count, handles

pub clear_agrees : (payload : List ℕ) → IsBytes payload → length payload ≡ clear_length payload → FieldsAt payload 0 (clear_fields (get_or payload 0 0) (has_flag payload 1) (handles_in payload))
clear_agrees payload small len =
    let n = get_or payload 2 0 in
    let all : length payload ≡ 6 + 2 * n = counted_is 6 2 n payload len in
    let count : n ≡ length (handles_in payload) = sym (length-map (pieces 2 n (drop 6 payload)) (from_le_bytes w16) ∙ length-pieces 2 n (drop 6 payload)) in
    let counted = byte_found payload 2 3 _ small refl (reserved_found payload 3 6 3 _ refl (handles_found payload 6 n small all)) in
    let named = subst (λ k. FieldsAt payload 2 (Number w8 k ∷ Reserved 3 ∷ handle_fields (handles_in payload))) count counted in
    byte_found payload 0 1 _ small refl (flag_found payload 1 2 _ refl named)

pub clear_is : (payload : List ℕ) (log : ℕ) (all : Bool) (handles : List ℕ) → Agrees payload (clear_fields log all handles)
    → (length payload ≡ clear_length payload) × (get_or payload 0 0 ≡ log) × (has_flag payload 1 ≡ all) × (handles_in payload ≡ handles)
clear_is payload log all handles a =
    let first = byte_only payload 0 1 log _ refl (all_from payload _ a) in
    let second = flag_only payload 1 2 all _ refl first.1 in
    let third = byte_only payload 2 3 (length handles) _ refl second.1 in
    let list = handles_only payload 6 handles (reserved_only payload 3 6 3 _ refl third.1) in
    (counted_at 6 2 (get_or payload 2 0) payload (rw third.0 list.0), first.0, second.0, ap (λ n. map (from_le_bytes w16) (pieces 2 n (drop 6 payload))) third.0 ∙ list.1)

-- ---- as they are written

spelling_handles : (handles : List ℕ) → spelling (handle_fields handles) ≡ flat_map u16_bytes handles
spelling_handles [] = refl
spelling_handles (h ∷ handles) = ap (λ rest. u16_bytes h ++ rest) (spelling_handles handles)

pub clear_spelled : (log : ℕ) (all : Bool) (handles : List ℕ) → (u8_bytes log ++ flag_of all ∷ u8_bytes (length handles) ++ 0 ∷ 0 ∷ 0 ∷ []) ++ flat_map u16_bytes handles ≡ spelling (clear_fields log all handles)
clear_spelled log all handles = ap (λ rest. (u8_bytes log ++ flag_of all ∷ u8_bytes (length handles) ++ 0 ∷ 0 ∷ 0 ∷ []) ++ rest) (sym (spelling_handles handles))

fits_handles : (handles : List ℕ) → AllByRecursion FitsHandle handles → AllByRecursion FitsField (handle_fields handles)
fits_handles [] fit = tt
fits_handles (h ∷ handles) fit = (fit.0, fits_handles handles fit.1)

pub clear_fits : (log : ℕ) (all : Bool) (handles : List ℕ) → log < 256 → length handles ≤ 255 → AllByRecursion FitsHandle handles → AllByRecursion FitsField (clear_fields log all handles)
clear_fits log all handles small few fit = (small, (flag_fits all, (omega (arith, few), (tt, fits_handles handles fit))))
