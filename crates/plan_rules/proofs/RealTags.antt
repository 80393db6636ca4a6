-- Extents whose tags others have too have no more tags.
use Rattle.std.proofs.Common.{◌≡◌, ◌<◌, ◌≤◌, Bool, true, false, not, ◌||◌, List, [], ◌∷◌, ◌++◌, length, map, refl, ap, sym, ◌∙◌, inl, inr, arith}
use Rattle.std.{specs.Prelude.fold, specs.Prelude.if◌then◌else◌, specs.List.filter, proofs.lemmas.List.Folds.list_any-append}
use Rattle.std.proofs.lemmas.Bool.{cases_Bool, false≢true, false_from_ne_true, not-true, not_from_false, or_from, or_left, or_parts, or_right}
use Rattle.dcd_base.specs.{Words.has_tag, Words.is_zero_tag, Words.same_tag, declared.capacity.Extent.Extent, declared.capacity.Tag.Tag}
use Rattle.extent_list.specs.ExtentLists.{has_extent_of, real_tags, tags_of}
use Rattle.isolation_laws.specs.device_rules.proofs.OneAnswer.{tags_of-has}
use Rattle.isolation_laws.specs.device_rules.proofs.TagSteps.{has_tag-filter, has_tag-kept, same_tag-back, same_tag-is, same_tag-self, without_tag}

-- ---- lists without a tag twice

abbrev Single : List Tag → Type 0
Single [] = Unit {0}
Single (t ∷ tags) = (has_tag tags t ≡ false) × Single tags

other_way : (t u : Tag) → same_tag t u ≡ false → same_tag u t ≡ false
other_way t u other = same_tag-back u t ∙ other

-- one more that is not there
single_push : (tags : List Tag) (t : Tag) → Single tags → has_tag tags t ≡ false → Single (tags ++ t ∷ [])
single_push [] t single new = (refl, tt)
single_push (u ∷ tags) t single new =
    let parts = or_parts (same_tag t u) (has_tag tags t) new in
    (list_any-append (same_tag u) tags (t ∷ []) ∙ or_from (has_tag tags u) (same_tag u t || false) single.0 (or_from (same_tag u t) false (other_way t u parts.0) refl), single_push tags t single.1 parts.1)

single_fold : (seen tags : List Tag) → Single seen → Single (fold (λ seen t. if has_tag seen t then seen else seen ++ t ∷ []) seen tags)
single_fold seen [] single = single
single_fold seen (t ∷ tags) single = single_fold (if has_tag seen t then seen else seen ++ t ∷ []) tags (one (has_tag seen t) refl)
  where
    one : (b : Bool) → has_tag seen t ≡ b → Single (if b then seen else seen ++ t ∷ [])
    one true is = single
    one false is = single_push seen t single is

single_filter : (p : Tag → Bool) (tags : List Tag) → Single tags → Single (filter p tags)
single_filter p [] single = tt
single_filter p (t ∷ tags) single = elim (cases_Bool (p t)) [
  | inr fails ↦ rw fails (single_filter p tags single.1)
  | inl passes ↦ rw passes (false_from_ne_true (has_tag (filter p tags) t) (λ there. false≢true (sym single.0 ∙ (has_tag-filter p tags t there).0)), single_filter p tags single.1)
]

-- ---- no more than those among which they are

-- one is taken out
shorter : (tags : List Tag) (t : Tag) → has_tag tags t ≡ true → length (without_tag tags t) < length tags
shorter [] t there = absurd (false≢true there)
shorter (u ∷ tags) t there = elim (cases_Bool (same_tag u t)) [
  | inl same ↦ rw same (omega (arith, no_longer tags))
  | inr other ↦ rw other (omega (arith, shorter tags t (rw (other_way u t other) at there)))
]
  where
    no_longer : (us : List Tag) → length (without_tag us t) ≤ length us
    no_longer [] = omega arith
    no_longer (v ∷ us) = elim (cases_Bool (same_tag v t)) [
      | inl same ↦ rw same (omega (arith, no_longer us))
      | inr other ↦ rw other (omega (arith, no_longer us))
    ]

few_among : (tags all : List Tag) → Single tags → ((t : Tag) → has_tag tags t ≡ true → has_tag all t ≡ true) → length tags ≤ length all
few_among [] all single among = omega arith
few_among (t ∷ tags) all single among =
    let there = among t (or_left (same_tag t t) (has_tag tags t) (same_tag-self t)) in
    let rest = few_among tags (without_tag all t) single.1 (λ u has. has_tag-kept (λ v. not (same_tag v t)) all u (among u (or_right (same_tag u t) (has_tag tags u) has))
    (not_from_false (same_tag u t) (false_from_ne_true (same_tag u t) (λ same. false≢true (sym single.0 ∙ ap (has_tag tags) (sym (same_tag-is u t same)) ∙ has))))) in
    omega (arith, rest, shorter all t there)

-- ---- tags of extents

-- a tag that is seen is one of the list
fold_has : (seen tags : List Tag) (t : Tag) → has_tag (fold (λ seen t. if has_tag seen t then seen else seen ++ t ∷ []) seen tags) t ≡ true → (has_tag seen t || has_tag tags t) ≡ true
fold_has seen [] t e = or_left (has_tag seen t) false e
fold_has seen (u ∷ tags) t e = elim (cases_Bool (has_tag (if has_tag seen u then seen else seen ++ u ∷ []) t)) [
  | inl now ↦ by (has_tag seen u) now
  | inr none_now ↦ (let rest = fold_has (if has_tag seen u then seen else seen ++ u ∷ []) tags t e in
      or_right (has_tag seen t) (has_tag (u ∷ tags) t) (or_right (same_tag t u) (has_tag tags t) (sym (ap (λ b. b || has_tag tags t) none_now) ∙ rest)))
]
  where
    by : (b : Bool) → has_tag (if b then seen else seen ++ u ∷ []) t ≡ true → (has_tag seen t || has_tag (u ∷ tags) t) ≡ true
    by true now = or_left (has_tag seen t) (has_tag (u ∷ tags) t) now
    by false now = elim (cases_Bool (has_tag seen t)) [
      | inl was ↦ or_left (has_tag seen t) (has_tag (u ∷ tags) t) was
      | inr new ↦ (let either : (has_tag seen t || (same_tag t u || false)) ≡ true = sym (list_any-append (same_tag t) seen (u ∷ [])) ∙ now in
          or_right (has_tag seen t) (has_tag (u ∷ tags) t) (elim (cases_Bool (same_tag t u)) [
            | inl same ↦ or_left (same_tag t u) (has_tag tags t) same
            | inr other ↦ absurd (false≢true (rw (new, other) at either))
          ]))
    ]

has_extent-of : (xs : List Extent) (t : Tag) → has_tag (map (λ x. x.tag) xs) t ≡ true → has_extent_of t xs ≡ true
has_extent-of [] t e = e
has_extent-of (x ∷ xs) t e = elim (cases_Bool (same_tag t x.tag)) [
  | inl same ↦ or_left (same_tag x.tag t) (has_extent_of t xs) (same_tag-back x.tag t ∙ same)
  | inr other ↦ or_right (same_tag x.tag t) (has_extent_of t xs) (has_extent-of xs t (rw other at e))
]

tags_of-from : (xs : List Extent) (t : Tag) → has_tag (tags_of xs) t ≡ true → has_extent_of t xs ≡ true
tags_of-from xs t e = has_extent-of xs t (fold_has [] (map (λ x. x.tag) xs) t e)

-- where each tag but zero is one of the others', there are no more
pub real_few : (xs ys : List Extent) → ((t : Tag) → is_zero_tag t ≡ false → has_extent_of t xs ≡ true → has_extent_of t ys ≡ true) → length (real_tags xs) ≤ length (real_tags ys)
real_few xs ys among =
    let real : Tag → Bool = λ t. not (is_zero_tag t) in
    few_among (real_tags xs) (real_tags ys) (single_filter real (tags_of xs) (single_fold [] (map (λ x. x.tag) xs) tt))
    (λ t has. let parts = has_tag-filter real (tags_of xs) t has in
    has_tag-kept real (tags_of ys) t (tags_of-has ys t (among t (not-true (is_zero_tag t) parts.1) (tags_of-from xs t parts.0))) parts.1)
