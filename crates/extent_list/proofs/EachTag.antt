-- The tags of a list, each once, and a row over them.
use Rattle.std.proofs.Common.{◌≡◌, ◌||◌, ℕ, ◌+◌, ◌<◌, Bool, true, false, inl, inr, if◌then◌else◌, List, [], ◌∷◌, ◌++◌, Option, Some, None, length, get_or, take, drop, map, fold, not, refl, sym, ap, ◌∙◌, append-nil, append_assoc}
use Rattle.std.proofs.lemmas.{Bool.cases_Bool, Cmp.nat_list_eq_equiv, List.map-append, List.take_more, List.take-append-drop, List.Folds.list_any-append, List.Sums.fold_push}
use Rattle.dcd_base.specs.{declared.capacity.Extent.Extent, declared.capacity.Tag.Tag, Words.◌or◌, Words.distinct_tags, Words.has_tag, Words.same_tag, Words.where_true}
use Rattle.dcd_codes.{specs.declared.rules.Rule.Rule, specs.Rules.each_in, proofs.RuleSteps.first_by-append}
use Rattle.extent_list.specs.ExtentLists.{has_extent_of, tags_of}

-- the tags seen, and one more unless it is among them
abbrev add : List Tag → Tag → List Tag
add seen t = if has_tag seen t then seen else seen ++ t ∷ []

pub or_false : (b : Bool) → (b || false) ≡ b
or_false true = refl
or_false false = refl

pub or_assoc : (a b c : Bool) → (a || (b || c)) ≡ ((a || b) || c)
or_assoc true b c = refl
or_assoc false b c = refl

same-congr : (t u : Tag) (seen : List Tag) → same_tag t u ≡ true → has_tag seen t ≡ has_tag seen u
same-congr t u [] same = refl
same-congr t u (x ∷ seen) same = rw (nat_list_eq_equiv.congr t.0 u.0 x.0 same, same-congr t u seen same) refl

has_tag-add : (seen : List Tag) (u t : Tag) → has_tag (add seen u) t ≡ (has_tag seen t || same_tag t u)
has_tag-add seen u t = elim (cases_Bool (has_tag seen u)) [
  | inl here ↦ elim (cases_Bool (same_tag t u)) [
    | inl same ↦ rw (here, same, same-congr t u seen same, here) refl
    | inr other ↦ rw (here, other) (sym (or_false (has_tag seen t)))
  ]
  | inr none ↦ rw none (list_any-append (same_tag t) seen (u ∷ []) ∙ ap (λ b. has_tag seen t || b) (or_false (same_tag t u)))
]

has_tag-fold : (seen tags : List Tag) (t : Tag) → has_tag (fold add seen tags) t ≡ (has_tag seen t || has_tag tags t)
has_tag-fold seen [] t = sym (or_false (has_tag seen t))
has_tag-fold seen (u ∷ tags) t =
    has_tag-fold (add seen u) tags t ∙ ap (λ b. b || has_tag tags t) (has_tag-add seen u t) ∙ sym (or_assoc (has_tag seen t) (same_tag t u) (has_tag tags t))

has_extent-map : (t : Tag) (xs : List Extent) → has_extent_of t xs ≡ has_tag (map (λ x. x.tag) xs) t
has_extent-map t [] = refl
has_extent-map t (x ∷ xs) = rw (nat_list_eq_equiv.symm x.tag.0 t.0, has_extent-map t xs) refl

-- an extent has the tag exactly where it is among the tags
has_extent-tags : (t : Tag) (xs : List Extent) → has_tag (tags_of xs) t ≡ has_extent_of t xs
has_extent-tags t xs = has_tag-fold [] (map (λ x. x.tag) xs) t ∙ sym (has_extent-map t xs)

-- one extent more
tags-more : (xs : List Extent) (i : ℕ) (d : Extent) → i < length xs → tags_of (take (i + 1) xs) ≡ add (tags_of (take i xs)) (get_or xs i d).tag
tags-more xs i d known =
    ap tags_of (take_more xs i d known)
    ∙ ap distinct_tags (map-append (λ (x : Extent). x.tag) (take i xs) (get_or xs i d ∷ []))
    ∙ fold_push add [] (map (λ x. x.tag) (take i xs)) (get_or xs i d).tag

-- the tags of a front are a front of the tags
fold-front : (seen tags : List Tag) → (rest : List Tag) × (fold add seen tags ≡ seen ++ rest)
fold-front seen [] = ([], sym (append-nil seen))
fold-front seen (t ∷ tags) = elim (cases_Bool (has_tag seen t)) [
  | inl here ↦ rw here (fold-front seen tags)
  | inr none ↦ let more = fold-front (seen ++ t ∷ []) tags in rw none (t ∷ more.0, more.1 ∙ append_assoc seen (t ∷ []) more.0)
]

fold-append : (seen xs ys : List Tag) → fold add seen (xs ++ ys) ≡ fold add (fold add seen xs) ys
fold-append seen [] ys = refl
fold-append seen (x ∷ xs) ys = fold-append (add seen x) xs ys

tags-front : (n : ℕ) (xs : List Extent) → (rest : List Tag) × (tags_of xs ≡ tags_of (take n xs) ++ rest)
tags-front n xs =
    let tag : Extent → Tag = λ x. x.tag in
    let more = fold-front (tags_of (take n xs)) (map tag (drop n xs)) in
    (more.0, ap tags_of (sym (take-append-drop n xs)) ∙ ap distinct_tags (map-append tag (take n xs) (drop n xs)) ∙ fold-append [] (map tag (take n xs)) (map tag (drop n xs)) ∙ more.1)

-- ---- a row over the tags, each by itself

abbrev pub over : (Tag → Option Rule) → List Tag → Option Rule
over check tags = each_in tags (λ before t. check t)

over-push : (check : Tag → Option Rule) (tags : List Tag) (t : Tag) → over check (tags ++ t ∷ []) ≡ (over check tags or check t)
over-push check tags t = first_by-append (λ before u. check u) [] tags (t ∷ []) ∙ ap (λ r. over check tags or r) (or_none (check t))
  where
    or_none : (r : Option Rule) → (r or None) ≡ r
    or_none None = refl
    or_none (Some rule) = refl

-- the tag of the next extent, unless it was seen
abbrev pub next : (Tag → Option Rule) → List Extent → Extent → Option Rule
next check before x = where_true (not (has_extent_of x.tag before)) (check x.tag)

-- no tag so far breaks a rule, and the next is another question
over-more : (check : Tag → Option Rule) (xs : List Extent) (i : ℕ) (d : Extent) → i < length xs → over check (tags_of (take i xs)) ≡ None
    → over check (tags_of (take (i + 1) xs)) ≡ next check (take i xs) (get_or xs i d)
over-more check xs i d known none =
    let x = get_or xs i d in
    let seen = has_extent-tags x.tag (take i xs) in
    ap (over check) (tags-more xs i d known) ∙ elim (cases_Bool (has_extent_of x.tag (take i xs))) [
      | inl here ↦ rw (seen, here) none
      | inr new ↦ rw (seen, new) (over-push check (tags_of (take i xs)) x.tag ∙ rw none refl)
    ]

pub over_more : (check : Tag → Option Rule) (xs : List Extent) (i : ℕ) (d : Extent) → i < length xs → over check (tags_of (take i xs)) ≡ None
    → next check (take i xs) (get_or xs i d) ≡ None → over check (tags_of (take (i + 1) xs)) ≡ None
over_more check xs i d known none broken = over-more check xs i d known none ∙ broken

pub over_found : (check : Tag → Option Rule) (xs : List Extent) (i : ℕ) (d : Extent) (rule : Rule) → i < length xs → over check (tags_of (take i xs)) ≡ None
    → next check (take i xs) (get_or xs i d) ≡ Some rule → over check (tags_of xs) ≡ Some rule
over_found check xs i d rule known none broken =
    let front = tags-front (i + 1) xs in
    let here : over check (tags_of (take (i + 1) xs)) ≡ Some rule = over-more check xs i d known none ∙ broken in
    ap (over check) front.1 ∙ first_by-append (λ before u. check u) [] (tags_of (take (i + 1) xs)) front.0 ∙ rw here refl

pub next_is : (check : Tag → Option Rule) (before front : List Extent) (x : Extent) → front ≡ before → next check before x ≡ next check front x
next_is check before front x is = ap (λ b. next check b x) (sym is)
