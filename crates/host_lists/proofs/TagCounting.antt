-- How many tags there are with one extent more.
use Rattle.std.proofs.Common.{◌≡◌, ◌||◌, ◌&&◌, ℕ, zero, suc, ◌+◌, ◌^◌, ◌-◌, ◌<◌, ◌≤◌, Bool, true, false, inl, inr, if◌then◌else◌, List, [], ◌∷◌, ◌++◌, length, get_or, take, map, fold, not, refl, sym, ap, ◌∙◌, append_assoc, append-nil, arith}
use Rattle.std.proofs.lemmas.{Bool.cases_Bool, Cmp.nat_list_eq_equiv, List.length_push, List.length-map, List.map-append, List.take_more, List.Elements.filter-append}
use Rattle.std.proofs.lemmas.List.{Folds.list_all_at, Folds.list_any-append, Sums.count_by-le-length, Sums.fold_push, Sums.length-filter}
use Rattle.std.specs.{List.list_all, Prelude.filter, Prelude.min}
use Rattle.extent_list.specs.ExtentLists.{has_extent_of, tags_of}
use Rattle.extent_list.specs.dcd_codes.specs.dcd_base.specs.{Words.distinct_tags, Words.has_tag, Words.is_zero_tag, Words.same_tag, declared.capacity.Extent.Extent, declared.capacity.Tag.Tag}
use Rattle.host_lists.specs.Tags.{capped, is_new, tag_count}

-- the tags seen, and one more unless it is among them
abbrev add : List Tag → Tag → List Tag
add seen t = if has_tag seen t then seen else seen ++ t ∷ []

or_false : (b : Bool) → (b || false) ≡ b
or_false true = refl
or_false false = refl

or_assoc : (a b c : Bool) → (a || (b || c)) ≡ ((a || b) || c)
or_assoc true b c = refl
or_assoc false b c = refl

same-congr : (t u : Tag) (seen : List Tag) → same_tag t u ≡ true → has_tag seen t ≡ has_tag seen u
same-congr t u [] same = refl
same-congr t u (x ∷ seen) same = rw (nat_list_eq_equiv.congr t.0 u.0 x.0 same, same-congr t u seen same) refl

has_tag-add : (seen : List Tag) (u t : Tag) → has_tag (add seen u) t ≡ (has_tag seen t || same_tag t u)
has_tag-add seen u t = elim (cases_Bool (has_tag seen u)) [
  | inl here ↦ elim (cases_Bool (same_tag t u)) [
    | inl same ↦ rw (here, same, same-congr t u seen same, here) refl
    | inr other ↦ rw (here, other) (sym (or_false (has_tag seen t)))
  ]
  | inr none ↦ rw none (list_any-append (same_tag t) seen (u ∷ []) ∙ ap (λ b. has_tag seen t || b) (or_false (same_tag t u)))
]

has_tag-fold : (seen tags : List Tag) (t : Tag) → has_tag (fold add seen tags) t ≡ (has_tag seen t || has_tag tags t)
has_tag-fold seen [] t = sym (or_false (has_tag seen t))
has_tag-fold seen (u ∷ tags) t =
    has_tag-fold (add seen u) tags t ∙ ap (λ b. b || has_tag tags t) (has_tag-add seen u t) ∙ sym (or_assoc (has_tag seen t) (same_tag t u) (has_tag tags t))

has_extent-map : (t : Tag) (xs : List Extent) → has_extent_of t xs ≡ has_tag (map (λ x. x.tag) xs) t
has_extent-map t [] = refl
has_extent-map t (x ∷ xs) = rw (nat_list_eq_equiv.symm x.tag.0 t.0, has_extent-map t xs) refl

-- an extent has the tag exactly where it is among the tags
has_extent-tags : (t : Tag) (xs : List Extent) → has_tag (tags_of xs) t ≡ has_extent_of t xs
has_extent-tags t xs = has_tag-fold [] (map (λ x. x.tag) xs) t ∙ sym (has_extent-map t xs)

abbrev pub is_real : Tag → Bool
is_real t = not (is_zero_tag t)

-- a count, and one more where the test holds
abbrev pub one_more : Bool → ℕ → ℕ
one_more new n = if new then n + 1 else n

real-push : (seen : List Tag) (t : Tag) (new : Bool) → is_real t ≡ new → length (filter is_real (seen ++ t ∷ [])) ≡ one_more new (length (filter is_real seen))
real-push seen t true is = ap length (filter-append is_real seen (t ∷ [])) ∙ rw is (length_push (filter is_real seen) t)
real-push seen t false is = ap length (filter-append is_real seen (t ∷ [])) ∙ rw is (ap length (append-nil (filter is_real seen)))

and_not_true : (b : Bool) → (b && not true) ≡ false
and_not_true true = refl
and_not_true false = refl

and_not_false : (b : Bool) → (b && not false) ≡ b
and_not_false true = refl
and_not_false false = refl

real-add : (seen : List Tag) (t : Tag) (here : Bool) → has_tag seen t ≡ here → length (filter is_real (add seen t)) ≡ one_more (is_real t && not here) (length (filter is_real seen))
real-add seen t true is = rw is (ap (λ b. one_more b (length (filter is_real seen))) (sym (and_not_true (is_real t))))
real-add seen t false is =
    rw is (real-push seen t (is_real t) refl ∙ ap (λ b. one_more b (length (filter is_real seen))) (sym (and_not_false (is_real t))))

-- one extent more has one tag more, where its tag is new
pub tag_count-push : (xs : List Extent) (x : Extent) → tag_count (xs ++ x ∷ []) ≡ one_more (is_new xs x.tag) (tag_count xs)
tag_count-push xs x =
    ap (λ tags. length (filter is_real (distinct_tags tags))) (map-append (λ (y : Extent). y.tag) xs (x ∷ []))
    ∙ ap (λ tags. length (filter is_real tags)) (fold_push add [] (map (λ (y : Extent). y.tag) xs) x.tag)
    ∙ real-add (tags_of xs) x.tag (has_extent_of x.tag xs) (has_extent-tags x.tag xs)

pub tag_count_more : (before xs : List Extent) (i : ℕ) (d : Extent) → i < length xs → tag_count (before ++ take (i + 1) xs) ≡ one_more (is_new (before ++ take i xs) (get_or xs i d).tag) (tag_count (before ++ take i xs))
tag_count_more before xs i d known =
    ap (λ ys. tag_count (before ++ ys)) (take_more xs i d known)
    ∙ ap tag_count (sym (append_assoc before (take i xs) (get_or xs i d ∷ [])))
    ∙ tag_count-push (before ++ take i xs) (get_or xs i d)

-- what an index past the end reads
abbrev pub no_extent : Extent
no_extent = record { start = 0; length = 0; tag = record { 0 = [] }; sequence = 0 }

-- an extent more that has no tag makes no tag more
pub untagged_more : (before xs : List Extent) (i : ℕ) (d : Extent) → i < length xs → is_zero_tag (get_or xs i d).tag ≡ true → tag_count (before ++ take i xs) ≡ tag_count before
    → tag_count (before ++ take (i + 1) xs) ≡ tag_count before
untagged_more before xs i d known none same = tag_count_more before xs i d known ∙ rw none same

-- the capped count after one extent more
pub capped_new : (n m tags more : ℕ) → m ≡ n + 1 → tags ≡ capped n → more ≡ min (tags + 1) (2 ^ 32 - 1) → more ≡ capped m
capped_new n m tags more count is one = omega (arith, count, is, one)

-- no more tags than extents
length-fold : (seen tags : List Tag) → length (fold add seen tags) ≤ length seen + length tags
length-fold seen [] = omega arith
length-fold seen (t ∷ tags) = elim (cases_Bool (has_tag seen t)) [
  | inl here ↦ rw here (omega (arith, length-fold seen tags))
  | inr none ↦ rw none (omega (arith, length-fold (seen ++ t ∷ []) tags, length_push seen t))
]

pub tag_count_le : (xs : List Extent) → tag_count xs ≤ length xs
tag_count_le xs = omega (arith, length-filter is_real (tags_of xs), count_by-le-length is_real (tags_of xs), length-fold [] (map (λ (x : Extent). x.tag) xs), length-map xs (λ (x : Extent). x.tag))
