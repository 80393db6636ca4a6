-- What is told of a tag twice is told once.
use Rattle.std.proofs.Common.{◌≡◌, ℕ, suc, ◌+◌, ◌-◌, ◌^◌, ◌<◌, Bool, true, false, List, [], ◌∷◌, get_or, length, take, refl, sym, ap, ◌∙◌, arith}
use Rattle.std.{proofs.lemmas.Bool.eqb-true, proofs.lemmas.List.Sums.fold_more, specs.List.list_any}
use Rattle.std.specs.Prelude.{◌==◌, IsTrue, fold, if◌then◌else◌, map}
use Rattle.cci_codec.specs.dcd_base.specs.{Hosts.has_host, Hosts.with_host, Hosts.without_host, Words.same_tag, declared.capacity.Extent.Extent, declared.capacity.Tag.Tag, declared.ids.HostId.HostId}
use Rattle.device_rules.proofs.TagSearches.{one_tag}
use Rattle.extent_list.specs.{HostLists.Lists, ExtentLists.has_extent_of}
use Rattle.tag_refs.specs.{Tables.entries_changed, Tables.is_entry_of, Tables.set_by, declared.entries.TagEntry.TagEntry}
use Rattle.device_state.proofs.HolderBits.{with_same, with_without, without_same, without_with}
use Rattle.device_state.specs.EnteredLists.{each_tag, told}

with_twice : (n h : ℕ) → h < 16 → with_host (with_host n h) h ≡ with_host n h
with_twice n h known = ap (λ b. if b then with_host n h else with_host n h + 2 ^ h) (with_same n h known)

without_twice : (n h : ℕ) → without_host (without_host n h) h ≡ without_host n h
without_twice n h = ap (λ b. if b then without_host n h - 2 ^ h else without_host n h) (without_same n h)

bits_over : (n h : ℕ) (b d : Bool) → h < 16 → (if b then with_host (if d then with_host n h else without_host n h) h else without_host (if d then with_host n h else without_host n h) h) ≡
    (if b then with_host n h else without_host n h)
bits_over n h true true known = with_twice n h known
bits_over n h true false known = with_without n h
bits_over n h false true known = without_with n h known
bits_over n h false false known = without_twice n h

set_over : (h : ℕ) (held offered was had : Bool) (e : TagEntry) → h < 16 → set_by h held offered (set_by h was had e) ≡ set_by h held offered e
set_over h held offered was had e known i = record e { holders = bits_over e.holders h held was known i; offered = bits_over e.offered h offered had known i }

entry_over : (t : Tag) (h : ℕ) (held offered was had : Bool) (e : TagEntry) (b : Bool) → h < 16 → is_entry_of t e ≡ b →
    (if is_entry_of t (if b then set_by h was had e else e) then set_by h held offered (if b then set_by h was had e else e) else (if b then set_by h was had e else e)) ≡
    (if b then set_by h held offered e else e)
entry_over t h held offered was had e true known is =
    ap (λ b. if b then set_by h held offered (set_by h was had e) else set_by h was had e) is ∙ set_over h held offered was had e known
entry_over t h held offered was had e false known is = ap (λ b. if b then set_by h held offered e else e) is

changed_over : (t : Tag) (h : ℕ) (held offered was had : Bool) (es : List TagEntry) → h < 16 →
    entries_changed t (set_by h held offered) (entries_changed t (set_by h was had) es) ≡ entries_changed t (set_by h held offered) es
changed_over t h held offered was had [] known = refl
changed_over t h held offered was had (e ∷ es) known =
    λ i. entry_over t h held offered was had e (is_entry_of t e) known refl i ∷ changed_over t h held offered was had es known i

-- what is told last of a tag counts
pub told_again : (h : HostId) (l before : Lists) (t : Tag) (entries : List TagEntry) → h < 16 → told h l (t ∷ []) (told h before (t ∷ []) entries) ≡ told h l (t ∷ []) entries
told_again h l before t entries known =
    changed_over t h (has_extent_of t l.accepted) (list_any (has_extent_of t) l.offers) (has_extent_of t before.accepted) (list_any (has_extent_of t) before.offers) entries known

module _ (h : HostId) (l : Lists) (xs : List Extent) (entries : List TagEntry) where
  has : Tag → Bool
  has t = has_extent_of t l.accepted

  offers : Tag → Bool
  offers t = list_any (has_extent_of t) l.offers

  step : List TagEntry → Extent → List TagEntry
  step now x = entries_changed x.tag (set_by h (has x.tag) (offers x.tag)) now

  over : ℕ → List TagEntry
  over n = told h l (each_tag (take n xs)) entries

  by_extents : (ys : List Extent) (now : List TagEntry) → told h l (each_tag ys) now ≡ fold step now ys
  unfolding step has offers
  by_extents [] now = refl
  by_extents (y ∷ ys) now = by_extents ys (step now y)

  -- one tag more is told
  pub told_more : (n : ℕ) (d : Extent) → n < length xs →
      told h l (each_tag (take (n + 1) xs)) entries ≡ told h l ((get_or xs n d).tag ∷ []) (told h l (each_tag (take n xs)) entries)
  unfolding step has offers
  told_more n d inside = by_extents (take (n + 1) xs) entries ∙ fold_more step entries xs n d inside ∙ ap (λ now. step now (get_or xs n d)) (sym (by_extents (take n xs) entries))

  -- the tag of the extent before is told by then
  pub told_before : (i : ℕ) (d : Extent) → h < 16 → i < length xs → 0 < i → IsTrue (same_tag (get_or xs (i - 1) d).tag (get_or xs i d).tag) →
      told h l (each_tag (take (i + 1) xs)) entries ≡ told h l (each_tag (take i xs)) entries
  unfolding over step has offers
  told_before i d known below after same =
      told_more i d below
      ∙ ap (λ now. step now (get_or xs i d)) before
      ∙ ap (λ t. entries_changed t (set_by h (has t) (offers t)) (step (over (i - 1)) (get_or xs (i - 1) d))) (sym one)
      ∙ changed_over (get_or xs (i - 1) d).tag h (has (get_or xs (i - 1) d).tag) (offers (get_or xs (i - 1) d).tag) (has (get_or xs (i - 1) d).tag) (offers (get_or xs (i - 1) d).tag) (over (i - 1)) known
      ∙ sym before
    where
      before : over i ≡ step (over (i - 1)) (get_or xs (i - 1) d)
      before = ap over (omega (arith, after)) ∙ told_more (i - 1) d (omega (arith, below))

      one : (get_or xs (i - 1) d).tag ≡ (get_or xs i d).tag
      one = one_tag (get_or xs (i - 1) d).tag (get_or xs i d).tag same

-- where no tag is open nothing is told
pub none_told : (h : HostId) (l : Lists) (ts : List Tag) (entries : List TagEntry) → (length entries == 0) ≡ true → entries ≡ told h l ts entries
none_told h l [] [] none = refl
none_told h l (t ∷ ts) [] none = none_told h l ts [] none
none_told h l ts (e ∷ entries) none = absurd (omega (arith, eqb-true (suc (length entries)) 0 none))
