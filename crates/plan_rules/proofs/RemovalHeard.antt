-- A removal of listed extents is read as what it says, whatever tags of sixteen numbers the extents have.
use Rattle.std.proofs.Common.{◌≡◌, ℕ, ◌+◌, ◌-◌, ◌*◌, ◌/◌, ◌%◌, ◌^◌, ◌<◌, List, [], ◌∷◌, ◌++◌, length, map, flat_map, take, drop, Ok, refl, sym, ap, ◌∙◌, arith}
use Rattle.std.{proofs.Math.Seq.drop-append_seam, proofs.Math.Seq.take-append_seam, proofs.lemmas.List.length-append, specs.Int.from_le_bytes, specs.Int.to_le_bytes, specs.Int.w16, specs.Int.w32}
use Rattle.std.specs.List.{AllByRecursion}
use Rattle.dcd_base.proofs.{PayloadLengths.counted_at, PayloadLengths.sized_at, Pieces.spelling_each, WholeExtents.same_extent, Widths.wide_16, Widths.wide_32, Widths.wide_64}
use Rattle.dcd_base.specs.{Extents.extent_fields, Extents.whole_extent, Layouts.number_at, Layouts.pieces, Layouts.spelling, Words.zero_tag, declared.capacity.Extent.Extent}
use Rattle.fm_payloads.specs.ManagerPayloads.{made_of, manager_fields, manager_request, placed_in, placed_length, to_remove, whole_extents}
use Rattle.fm_payloads.specs.declared.{placing.Placed.Placed, requests.FmRequest.FmRequest}

-- The extent's numbers and its tag have their widths.
pub record IsTellable (x : Extent) : Type 0 where
  pub start : x.start < 2 ^ 64
  pub long : x.length < 2 ^ 64
  pub tag : length x.tag.0 ≡ 16
  pub sequence : x.sequence < 2 ^ 16

-- ---- an extent

own_bytes : Extent → List ℕ
own_bytes x = spelling (extent_fields x)

behind_tag : Extent → List ℕ
behind_tag x = to_le_bytes w16 x.sequence ++ (0 ∷ 0 ∷ 0 ∷ 0 ∷ 0 ∷ 0 ∷ [])

own_length : (x : Extent) → IsTellable x → length (own_bytes x) ≡ 40
unfolding own_bytes
own_length x can = omega (arith, can.tag, length-append x.tag.0 (to_le_bytes w16 x.sequence ++ (0 ∷ 0 ∷ 0 ∷ 0 ∷ 0 ∷ 0 ∷ [])))

after_tag : (x : Extent) → IsTellable x → drop 32 (own_bytes x) ≡ behind_tag x
unfolding own_bytes behind_tag
after_tag x can = ap (λ n. drop n (x.tag.0 ++ behind_tag x)) (sym can.tag) ∙ drop-append_seam x.tag.0 (behind_tag x)

read_back : (x : Extent) → IsTellable x → whole_extent (own_bytes x) ≡ x
unfolding own_bytes behind_tag
read_back x can = same_extent (whole_extent (own_bytes x)) x
    (wide_64.again x.start can.start) (wide_64.again x.length can.long)
    (ap (λ n. take n (x.tag.0 ++ behind_tag x)) (sym can.tag) ∙ take-append_seam x.tag.0 (behind_tag x))
    (ap (from_le_bytes w16) (after_tag x can) ∙ wide_16.again x.sequence can.sequence)

-- ---- a list

all_length : (xs : List Extent) → AllByRecursion IsTellable xs → length (flat_map own_bytes xs) ≡ 40 * length xs
all_length [] can = refl
all_length (x ∷ xs) can = omega (arith, length-append (own_bytes x) (flat_map own_bytes xs), own_length x can.0, all_length xs can.1)

all_back : (xs : List Extent) → AllByRecursion IsTellable xs → map whole_extent (pieces 40 (length xs) (flat_map own_bytes xs)) ≡ xs
all_back [] can = refl
all_back (x ∷ xs) can =
    let rest : List ℕ = flat_map own_bytes xs in
    let first : take 40 (own_bytes x ++ rest) ≡ own_bytes x = ap (λ n. take n (own_bytes x ++ rest)) (sym (own_length x can.0)) ∙ take-append_seam (own_bytes x) rest in
    let later : drop 40 (own_bytes x ++ rest) ≡ rest = ap (λ n. drop n (own_bytes x ++ rest)) (sym (own_length x can.0)) ∙ drop-append_seam (own_bytes x) rest in
    (λ i. whole_extent (first i) ∷ map whole_extent (pieces 40 (length xs) (later i))) ∙ (λ i. read_back x can.0 i ∷ all_back xs can.1 i)

-- ---- the message

pub removal_heard : (h r : ℕ) (xs : List Extent) → h < 2 ^ 16 → r < 256 → length xs < 2 ^ 32 → AllByRecursion IsTellable xs →
    manager_request 0x5605 (spelling (manager_fields (FmRequest.Remove h 17 r 0 zero_tag xs))) ≡ Ok (FmRequest.Remove h 17 r 0 zero_tag xs)
unfolding manager_request placed_in own_bytes
removal_heard h r xs host region few can =
    let payload : List ℕ = spelling (manager_fields (FmRequest.Remove h 17 r 0 zero_tag xs)) in
    let rest : List ℕ = spelling (flat_map extent_fields xs) in
    let told : rest ≡ flat_map own_bytes xs = spelling_each extent_fields xs in
    let long : length rest ≡ 40 * length xs = ap length told ∙ all_length xs can in
    let count : number_at w32 payload 28 ≡ length xs = wide_32.again (length xs) few in
    let all : length payload ≡ 32 + 40 * number_at w32 payload 28 = omega (arith, long, count) in
    let number : (length payload - 32) / 40 ≡ length xs = omega (arith, long) in
    let extents : whole_extents payload ≡ xs = (λ i. map whole_extent (pieces 40 (number i) (told i))) ∙ all_back xs can in
    let made : ℕ → ℕ → List Extent → Placed = λ host region list. record { host = host; choice = 17; region = region; length = 0; tag = zero_tag; extents = list } in
    ap (made_of to_remove) (sized_at (placed_length payload) payload _ (made h r xs) (counted_at 32 40 (number_at w32 payload 28) payload all)
    (λ i. made (wide_16.again h host i) ((let same : r % 256 ≡ r = omega (arith, region) in same) i) (extents i)))
