-- Extents with their tags, read and written.
use Rattle.std.proofs.Common.{◌≡◌, ℕ, ◌+◌, ◌*◌, List, [], ◌∷◌, length, map, flat_map, drop, refl, ap, ◌∙◌, arith}
use Rattle.std.{specs.List.AllByRecursion, specs.Int.w16, specs.Int.w64, proofs.lemmas.List.length-drop}
use Rattle.dcd_base.proofs.{Agreement.Agrees, Agreement.fits-append, Fields.IsBytes, Pieces.each_is_good, Pieces.pieces_found, Pieces.pieces_only, Pieces.spelling_each}
use Rattle.dcd_base.proofs.Widths.{IsBytes-drop, wide_16, wide_64}
use Rattle.dcd_base.specs.{Extents.extent_bytes, Extents.extent_fields, Extents.whole_extent, Extents.FitsExtent, Layouts.FitsField, Layouts.pieces, Layouts.spelling, declared.capacity.Extent.Extent}
use Rattle.dcd_base.proofs.Places.{FieldsAt, all_from, end_found, end_only, number_found, number_only, raw_found, raw_only, reserved_found, reserved_only}

pub same_extent : (x y : Extent) → x.start ≡ y.start → x.length ≡ y.length → x.tag.0 ≡ y.tag.0 → x.sequence ≡ y.sequence → x ≡ y
same_extent x y s l t q =
    let made : ℕ → ℕ → List ℕ → ℕ → Extent = λ a b c d. record { start = a; length = b; tag = record { 0 = c }; sequence = d } in
    ap (λ a. made a x.length x.tag.0 x.sequence) s ∙ ap (λ b. made y.start b x.tag.0 x.sequence) l ∙ ap (λ c. made y.start y.length c x.sequence) t ∙ ap (λ d. made y.start y.length y.tag.0 d) q

pub whole_found : (b : List ℕ) → length b ≡ 40 → IsBytes b → Agrees b (extent_fields (whole_extent b))
whole_found b len small =
    let after = reserved_found b 34 40 6 [] refl (end_found b 40 len) in
    let tagged = raw_found b 16 32 16 _ small refl (number_found w16 wide_16 b 32 34 _ small refl after) in
    (number_found w64 wide_64 b 0 8 _ small refl (number_found w64 wide_64 b 8 16 _ small refl tagged)).rest

pub whole_only : (x : Extent) → Unit {0} → (b : List ℕ) → Agrees b (extent_fields x) → (length b ≡ 40) × (whole_extent b ≡ x)
whole_only x good b a =
    let start = number_only w64 wide_64 b 0 8 x.start _ refl (all_from b _ a) in
    let len = number_only w64 wide_64 b 8 16 x.length _ refl start.1 in
    let tag = raw_only b 16 32 16 x.tag.0 _ refl len.1 in
    let sequence = number_only w16 wide_16 b 32 34 x.sequence _ refl tag.1 in
    let rest = reserved_only b 34 40 6 [] refl sequence.1 in
    (end_only b 40 rest, same_extent (whole_extent b) x start.0 len.0 tag.0 sequence.0)

-- ---- whole extents at the end of a payload

pub extents_agree : (payload : List ℕ) (at n : ℕ) → IsBytes payload → length payload ≡ at + 40 * n → FieldsAt payload at (flat_map extent_fields (map whole_extent (pieces 40 n (drop at payload))))
extents_agree payload at n small len = record {
  within = omega (arith, len);
  rest = pieces_found whole_extent extent_fields 40 whole_found n (drop at payload) (omega (arith, len, length-drop at payload)) (IsBytes-drop at payload small);
}

pub extents_are : (payload : List ℕ) (at : ℕ) (xs : List Extent) → FieldsAt payload at (flat_map extent_fields xs) → (length payload ≡ at + 40 * length xs) × (map whole_extent (pieces 40 (length xs) (drop at payload)) ≡ xs)
extents_are payload at xs here =
    let all = pieces_only whole_extent extent_fields 40 (λ x. Unit {0}) whole_only xs (each_is_good xs) (drop at payload) here.rest in
    (omega (arith, all.0, here.within, length-drop at payload), all.1)

pub extents_spelled : (xs : List Extent) → spelling (flat_map extent_fields xs) ≡ flat_map extent_bytes xs
unfolding extent_bytes
extents_spelled xs = spelling_each extent_fields xs

pub extents_fit : (xs : List Extent) → AllByRecursion FitsExtent xs → AllByRecursion FitsField (flat_map extent_fields xs)
extents_fit [] fit = tt
extents_fit (x ∷ xs) fit = fits-append (extent_fields x) (flat_map extent_fields xs) fit.0 (extents_fit xs fit.1)
