-- What is appended piece by piece is the one spelling.
use Rattle.std.proofs.Common.{◌≡◌, ℕ, List, [], ◌∷◌, ◌++◌, length, map, flat_map, refl, sym, ap, ◌∙◌}
use Rattle.std.{specs.Int.w64, proofs.lemmas.List.Concat.flat_map-append}
use Rattle.dcd_base.{proofs.Pieces.spelling_each, proofs.WholeExtents.extents_spelled, specs.Extents.extent_bytes, specs.Extents.extent_fields}
use Rattle.dcd_base.specs.{Layouts.Number, Layouts.spell, Layouts.spelling, Layouts.u64_bytes, declared.capacity.Extent.Extent, declared.capacity.Tag.Tag, declared.tags.TagView.TagView}
use Rattle.fm_payloads.specs.ManagerPayloads.{info_head, info_head_fields, info_payload, placed_fields, placed_head, placed_head_fields, tag_bytes, tag_fields, tags_head, tags_head_fields, tags_payload}

pub placed_spelled : (host choice region bytes : ℕ) (tag : Tag) (xs : List Extent) → placed_head host choice region bytes tag (length xs) ++ flat_map extent_bytes xs ≡ spelling (placed_fields host choice region bytes tag xs)
unfolding placed_head
placed_spelled host choice region bytes tag xs =
    let head = placed_head_fields host choice region bytes tag (length xs) in
    ap (λ rest. spelling head ++ rest) (sym (extents_spelled xs)) ∙ sym (flat_map-append spell head (flat_map extent_fields xs))

sizes_spelled : (sizes : List ℕ) → spelling (map (Number w64) sizes) ≡ flat_map u64_bytes sizes
sizes_spelled [] = refl
sizes_spelled (s ∷ sizes) = ap (λ rest. u64_bytes s ++ rest) (sizes_spelled sizes)

pub info_spelled : (hosts granules free dirty : ℕ) (sizes : List ℕ) → info_head hosts (length sizes) granules free dirty ++ flat_map u64_bytes sizes ≡ info_payload hosts granules free dirty sizes
unfolding info_head info_payload
info_spelled hosts granules free dirty sizes =
    let head = info_head_fields hosts (length sizes) granules free dirty in
    ap (λ rest. spelling head ++ rest) (sym (sizes_spelled sizes)) ∙ sym (flat_map-append spell head (map (Number w64) sizes))

pub tags_spelled : (first total : ℕ) (views : List TagView) → tags_head first (length views) total ++ flat_map tag_bytes views ≡ tags_payload first total views
unfolding tags_head tags_payload tag_bytes
tags_spelled first total views =
    let head = tags_head_fields first (length views) total in
    ap (λ rest. spelling head ++ rest) (sym (spelling_each tag_fields views)) ∙ sym (flat_map-append spell head (flat_map tag_fields views))
