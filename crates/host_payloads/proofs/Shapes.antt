-- Extents without tags in a payload, both ways.
use Rattle.std.proofs.Common.{◌≡◌, ℕ, Bool, true, false, List, [], ◌∷◌, length, refl, sym}
use Rattle.std.{specs.Prelude.◌&&◌, specs.Prelude.replicate, specs.List.list_all, specs.List.AllByRecursion, specs.Int.w64, specs.Cmp.Lexicographic.same_text, proofs.lemmas.Bool.eqb-true}
use Rattle.event_records.specs.dcd_base.proofs.{Agreement.Agrees, Fields.IsBytes}
use Rattle.event_records.specs.dcd_base.proofs.Places.{all_from, end_found, end_only, number_found, number_only, reserved_found, reserved_only}
use Rattle.event_records.specs.dcd_base.{proofs.WholeExtents.same_extent, proofs.Widths.wide_64, specs.Words.is_zero_tag, specs.declared.capacity.Extent.Extent, specs.declared.capacity.Tag.Tag}
use Rattle.host_payloads.specs.HostPayloads.{listed_fields, listed_extent, is_untagged}

pub listed_found : (b : List ℕ) → length b ≡ 24 → IsBytes b → Agrees b (listed_fields (listed_extent b))
listed_found b len small =
    let after = reserved_found b 16 24 8 [] refl (end_found b 24 len) in
    (number_found w64 wide_64 b 0 8 _ small refl (number_found w64 wide_64 b 8 16 _ small refl after)).rest

and_both : (a b : Bool) → (a && b) ≡ true → (a ≡ true) × (b ≡ true)
and_both true b e = (refl, e)
and_both false b e = absurd cc

tag_is : (t : Tag) → is_zero_tag t ≡ true → replicate 16 0 ≡ t.0
tag_is t e = sym (same_text t.0 (replicate 16 0) (sym e))

abbrev pub IsUntagged : Extent → Type 0
IsUntagged x = is_untagged x ≡ true

pub each_untagged : (xs : List Extent) → list_all is_untagged xs ≡ true → AllByRecursion IsUntagged xs
each_untagged [] e = tt
each_untagged (x ∷ xs) e =
    let both = and_both (is_untagged x) (list_all is_untagged xs) e in
    (both.0, each_untagged xs both.1)

pub listed_only : (x : Extent) → IsUntagged x → (b : List ℕ) → Agrees b (listed_fields x) → (length b ≡ 24) × (listed_extent b ≡ x)
listed_only x good b a =
    let untagged = and_both (is_zero_tag x.tag) _ good in
    let start = number_only w64 wide_64 b 0 8 x.start _ refl (all_from b _ a) in
    let len = number_only w64 wide_64 b 8 16 x.length _ refl start.1 in
    let rest = reserved_only b 16 24 8 [] refl len.1 in
    (end_only b 24 rest, same_extent (listed_extent b) x start.0 len.0 (tag_is x.tag untagged.0) (sym (eqb-true x.sequence 0 untagged.1)))
