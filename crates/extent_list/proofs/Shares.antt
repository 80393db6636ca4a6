-- When no tag is listed in part: without shareable regions, and where both lists have the same tags.
use Rattle.std.proofs.Common.{◌≡◌, ℕ, ◌+◌, ◌<◌, ◌≤◌, true, false, cond, inl, inr, List, [], ◌∷◌, ◌++◌, None, length, get_or, map, take, refl, sym, ap, ◌∙◌, arith}
use Rattle.std.proofs.lemmas.{Bool.cases_Bool, Bool.cases_lt, Bool.le-ltb, Cmp.nat_list_eq_equiv, List.get_or-map, List.get_or_past, List.length-map, List.take_all, List.take_more}
use Rattle.std.{proofs.lemmas.List.Elements.filter_more, proofs.lemmas.List.Sums.count_by_more_no, proofs.lemmas.List.Sums.count_by_more_yes, specs.List.filter}
use Rattle.dcd_base.specs.{declared.capacity.Extent.Extent, declared.capacity.Tag.Tag, declared.ids.HostId.HostId, Words.same_tag}
use Rattle.dcd_codes.specs.Rules.{first_by}
use Rattle.extent_list.specs.{ExtentLists.count_of_tag, ExtentLists.marked, ExtentLists.tags_of, Listing.incomplete, Listing.is_shareable_at, Listing.shared_of, Listing.some_left, Listing.too_few_of}
use Rattle.extent_list.specs.Sharing.{HasNoShareable, HaveSameTags}
use Rattle.media_map.specs.{Places.region_at, region_config.specs.Configurations.Configuration, region_config.specs.Granules.no_region, region_config.specs.Granules.region_spec}

none-shared : (c : Configuration) (h : HostId) (owners list : List Extent) → HasNoShareable c → shared_of c h owners list ≡ []
none-shared c h owners [] none = refl
none-shared c h owners (x ∷ list) none = rw (none (region_at c h x.start)) (none-shared c h owners list none)

pub none_incomplete : (c : Configuration) (h : HostId) (owners list : List Extent) → HasNoShareable c → incomplete c h owners list ≡ None
none_incomplete c h owners list none = ap (some_left owners) (none-shared c h owners list none)

-- no region up to this one is shareable
abbrev pub NoneBelow : Configuration → ℕ → Type 0
NoneBelow c n = (r : ℕ) → r < n → (region_spec c r).shareable ≡ false

pub none_more : (c : Configuration) (n : ℕ) → NoneBelow c n → (region_spec c n).shareable ≡ false → NoneBelow c (n + 1)
none_more c n below next r lt = elim (cases_lt r n) [
  | inl less ↦ below r less
  | inr from ↦ (let is : r ≡ n = omega (arith, lt, from) in ap (λ k. (region_spec c k).shareable) is ∙ next)
]

pub none_at_all : (c : Configuration) (n : ℕ) → length c.regions ≤ n → NoneBelow c n → HasNoShareable c
none_at_all c n all below r = elim (cases_lt r n) [
  | inl less ↦ below r less
  | inr from ↦ rw (get_or_past c.regions r no_region (omega (arith, all, from))) refl
]

-- as many of each tag with one more of the same tag
module _ (xs ys : List Extent) (i : ℕ) (d : Extent) (in_xs : i < length xs) (in_ys : i < length ys) (same : same_tag (get_or xs i d).tag (get_or ys i d).tag ≡ true) where
  pub same_more : HaveSameTags (take i xs) (take i ys) → HaveSameTags (take (i + 1) xs) (take (i + 1) ys)
  same_more before t =
      let alike : same_tag (get_or xs i d).tag t ≡ same_tag (get_or ys i d).tag t = nat_list_eq_equiv.congr (get_or xs i d).tag.0 (get_or ys i d).tag.0 t.0 same in
      elim (cases_Bool (same_tag (get_or ys i d).tag t)) [
        | inl here ↦ count_by_more_yes (λ (x : Extent). same_tag x.tag t) xs i d in_xs (alike ∙ here) ∙ ap (λ n. n + 1) (before t) ∙ sym (count_by_more_yes (λ (x : Extent). same_tag x.tag t) ys i d in_ys here)
        | inr other ↦ count_by_more_no (λ (x : Extent). same_tag x.tag t) xs i d in_xs (alike ∙ other) ∙ before t ∙ sym (count_by_more_no (λ (x : Extent). same_tag x.tag t) ys i d in_ys other)
      ]

-- The first so many listed extents are all in shareable regions, and have the tags of as many owners.
pub record SharedSoFar (c : Configuration) (h : HostId) (owners list : List Extent) (i : ℕ) : Type 0 where
  pub same : HaveSameTags (take i owners) (take i (map (marked owners) list))
  pub all : filter (is_shareable_at c h) (take i (map (marked owners) list)) ≡ take i (map (marked owners) list)

pub none_so_far : (c : Configuration) (h : HostId) (owners list : List Extent) → SharedSoFar c h owners list 0
none_so_far c h owners list = record { same = λ t. refl; all = refl }

module _ (c : Configuration) (h : HostId) (owners list : List Extent) (i : ℕ) (d : Extent) (in_owners : i < length owners) (in_list : i < length list) where
  pub shared_more : is_shareable_at c h (get_or list i d) ≡ true → same_tag (get_or owners i d).tag (marked owners (get_or list i d)).tag ≡ true → SharedSoFar c h owners list i → SharedSoFar c h owners list (i + 1)
  shared_more shareable same before =
      let ys : List Extent = map (marked owners) list in
      let there : get_or ys i d ≡ marked owners (get_or list i d) = get_or-map (marked owners) list i d d in_list in
      let inside : i < length ys = omega (arith, length-map list (marked owners), in_list) in
      let tagged : same_tag (get_or owners i d).tag (get_or ys i d).tag ≡ true = ap (λ (x : Extent). same_tag (get_or owners i d).tag x.tag) there ∙ same in
      let shared : is_shareable_at c h (get_or ys i d) ≡ true = ap (is_shareable_at c h) there ∙ shareable in
      record {
        same = same_more owners ys i d in_owners inside tagged before.same;
        all =
            filter_more (is_shareable_at c h) ys i d inside
            ∙ ap (λ b. filter (is_shareable_at c h) (take i ys) ++ cond b (get_or ys i d ∷ []) []) shared
            ∙ ap (λ (xs : List Extent). xs ++ get_or ys i d ∷ []) before.all
            ∙ sym (take_more ys i d inside);
      }

pub all_so_far : (c : Configuration) (h : HostId) (owners list : List Extent) (i : ℕ) → length owners ≤ i → length list ≤ i → SharedSoFar c h owners list i → HaveSameTags owners (shared_of c h owners list)
all_so_far c h owners list i owned listed so t =
    let ys : List Extent = map (marked owners) list in
    ap (count_of_tag t) (sym (take_all i owners owned))
    ∙ so.same t
    ∙ ap (count_of_tag t) (sym so.all ∙ ap (filter (is_shareable_at c h)) (take_all i ys (omega (arith, length-map list (marked owners), listed))))

none-left : (owners shared : List Extent) → HaveSameTags owners shared → (before tags : List Tag) → first_by (λ seen t. too_few_of owners shared t) before tags ≡ None
none-left owners shared same before [] = refl
none-left owners shared same before (t ∷ tags) =
    rw (le-ltb (count_of_tag t shared) (count_of_tag t owners) (omega (arith, same t))) (none-left owners shared same (before ++ t ∷ []) tags)

pub none_left : (owners shared : List Extent) → HaveSameTags owners shared → some_left owners shared ≡ None
none_left owners shared same = none-left owners shared same [] (tags_of shared)
