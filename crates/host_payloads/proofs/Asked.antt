-- What a payload reads as a list of extents is the list that it is, and the other way round.
use Rattle.std.proofs.Common.{◌≡◌, ℕ, ◌+◌, ◌-◌, ◌*◌, ◌/◌, Bool, true, List, ◌∷◌, length, map, flat_map, drop, refl, sym, ap, subst, ◌∙◌, arith}
use Rattle.std.{specs.List.list_all, specs.Int.w32, proofs.lemmas.List.length-drop, proofs.lemmas.List.length-map}
use Rattle.event_records.specs.dcd_base.proofs.{Agreement.Agrees, Fields.IsBytes, PayloadLengths.counted_at, PayloadLengths.counted_is, Pieces.length-pieces, Pieces.pieces_found, Pieces.pieces_only}
use Rattle.event_records.specs.dcd_base.proofs.Places.{FieldsAt, all_from, number_found, number_only, flag_found, flag_only, reserved_found, reserved_only}
use Rattle.event_records.specs.dcd_base.proofs.Widths.{IsBytes-drop, wide_32}
use Rattle.event_records.specs.dcd_base.specs.{Layouts.Number, Layouts.Reserved, Layouts.pieces, Layouts.number_at, Layouts.flag, Payloads.has_flag, declared.capacity.Extent.Extent}
use Rattle.host_payloads.proofs.Shapes.{listed_found, listed_only, each_untagged, IsUntagged}
use Rattle.host_payloads.specs.HostPayloads.{list_fields, list_length, listed_extent, listed_extents, listed_fields, is_untagged}

-- ---- 4802h and 4803h: a count, a flag, extents

pub list_agrees : (payload : List ℕ) → IsBytes payload → length payload ≡ list_length payload → FieldsAt payload 0 (list_fields (has_flag payload 4) (listed_extents payload))
list_agrees payload small len =
    let n = number_at w32 payload 0 in
    let k = (length payload - 8) / 24 in
    let all : length payload ≡ 8 + 24 * n = counted_is 8 24 n payload len in
    let same : k ≡ n = omega (arith, all) in
    let count : n ≡ length (listed_extents payload) = sym (length-map (pieces 24 k (drop 8 payload)) listed_extent ∙ length-pieces 24 k (drop 8 payload) ∙ same) in
    let extents = pieces_found listed_extent listed_fields 24 listed_found k (drop 8 payload) (omega (arith, all, same, length-drop 8 payload)) (IsBytes-drop 8 payload small) in
    let listed : FieldsAt payload 8 (flat_map listed_fields (listed_extents payload)) = record { within = omega (arith, all); rest = extents } in
    let counted = number_found w32 wide_32 payload 0 4 _ small refl (flag_found payload 4 5 _ refl (reserved_found payload 5 8 3 _ refl listed)) in
    subst (λ c. FieldsAt payload 0 (Number w32 c ∷ flag (has_flag payload 4) ∷ Reserved 3 ∷ flat_map listed_fields (listed_extents payload))) count counted

pub list_is : (payload : List ℕ) (more : Bool) (xs : List Extent) → list_all is_untagged xs ≡ true → Agrees payload (list_fields more xs)
    → (length payload ≡ list_length payload) × (has_flag payload 4 ≡ more) × (listed_extents payload ≡ xs)
list_is payload more xs untagged a =
    let first = number_only w32 wide_32 payload 0 4 (length xs) _ refl (all_from payload _ a) in
    let second = flag_only payload 4 5 more _ refl first.1 in
    let list = reserved_only payload 5 8 3 _ refl second.1 in
    let extents = pieces_only listed_extent listed_fields 24 IsUntagged listed_only xs (each_untagged xs untagged) (drop 8 payload) list.rest in
    let all : length payload ≡ 8 + 24 * length xs = omega (arith, extents.0, list.within, length-drop 8 payload) in
    let k : (length payload - 8) / 24 ≡ length xs = omega (arith, all) in
    (counted_at 8 24 (number_at w32 payload 0) payload (rw first.0 all), second.0, ap (λ n. map listed_extent (pieces 24 n (drop 8 payload))) k ∙ extents.1)
