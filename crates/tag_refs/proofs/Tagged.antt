-- What a change of one tag makes of the entries, none of which has the tag of another.
use Rattle.std.proofs.Common.{ℕ, zero, suc, ◌≡◌, Bool, true, false, true≢false, cond, List, [], ◌∷◌, ◌++◌, map, take, slice_get, Some, refl, sym, ◌∙◌, ap, subst}
use Rattle.std.{proofs.lemmas.Cmp.nat_list_eq_equiv, proofs.lemmas.Map.Keys.IsDistinct-head, proofs.lemmas.Map.Keys.IsDistinct-tail, specs.Cmp.Lexicographic.same_text}
use Rattle.std.specs.{List.AllByRecursion, List.IsDistinct, Map.lookup, Map.set_value, Map.remove_entry, Map.values_of, Map.keys_of}
use Rattle.dcd_base.specs.{Words.same_tag, declared.capacity.Tag.Tag}
use Rattle.tag_refs.specs.{declared.entries.TagEntry.TagEntry, Stored.stored, Tables.entries_changed, Tables.entries_without, Tables.entry_with, Tables.has_entry, Tables.is_entry_of}

-- no two of the entries have one tag
abbrev pub AreApart : List TagEntry → Type 0
AreApart xs = IsDistinct same_tag (map (λ e. e.tag) xs)

-- none of the entries has the tag
abbrev pub AreOthers : Tag → List TagEntry → Type 0
AreOthers t xs = AllByRecursion (λ e. is_entry_of t e ≡ false) xs

one_tag : (t u : Tag) → same_tag t u ≡ true → t ≡ u
one_tag t u same = let bytes : t.0 ≡ u.0 = same_text t.0 u.0 (sym same) in λ i. record { 0 = bytes i }

others_apart : (u : Tag) (xs : List TagEntry) → AllByRecursion (λ v. same_tag u v ≡ false) (map (λ e. e.tag) xs) → AreOthers u xs
others_apart u [] others = tt
others_apart u (x ∷ xs) others = (others.0, others_apart u xs others.1)

-- behind the entry of a tag there is no other of it
pub others : (t : Tag) (x : TagEntry) (xs : List TagEntry) → is_entry_of t x ≡ true → AreApart (x ∷ xs) → AreOthers t xs
others t x xs here apart = subst (λ u. AreOthers u xs) (sym (one_tag t x.tag here)) (others_apart x.tag xs (IsDistinct-head same_tag x.tag (map (λ e. e.tag) xs) apart))

-- ---- the entry that is found

pub lookup_stored : (t : Tag) (xs : List TagEntry) → lookup (same_tag t) (stored xs) ≡ entry_with t xs
lookup_stored t [] = refl
lookup_stored t (x ∷ xs) = ap (cond (is_entry_of t x) (Some x)) (lookup_stored t xs)

pub values_stored : (xs : List TagEntry) → values_of (stored xs) ≡ xs
values_stored [] = refl
values_stored (x ∷ xs) = ap (λ ys. x ∷ ys) (values_stored xs)

the_same : (x e : TagEntry) → Some x ≡ Some e → x ≡ e
the_same x e same = cc

-- one entry fewer leaves the others apart
rest_apart : (x : TagEntry) (xs : List TagEntry) → AreApart (x ∷ xs) → AreApart xs
rest_apart x xs apart = IsDistinct-tail same_tag x.tag (map (λ e. e.tag) xs) apart

-- ---- the change of the entry that is found

module _ (t : Tag) (f : TagEntry → TagEntry) where
  changed_others : (xs : List TagEntry) → AreOthers t xs → entries_changed t f xs ≡ xs
  changed_others [] others = refl
  changed_others (x ∷ xs) others = rw others.0 (ap (λ ys. x ∷ ys) (changed_others xs others.1))

  module _ (same : (e : TagEntry) → (f e).tag ≡ e.tag) where
    -- as it is stored
    pub set_stored : (xs : List TagEntry) (e : TagEntry) → AreApart xs → entry_with t xs ≡ Some e
        → set_value (same_tag t) (stored xs) (f e) ≡ stored (entries_changed t f xs)
    set_stored [] e apart found = refl
    set_stored (x ∷ xs) e apart found = by (is_entry_of t x) refl (set_stored xs e (rest_apart x xs apart))
      where
        by : (b : Bool) → is_entry_of t x ≡ b → (entry_with t xs ≡ Some e → set_value (same_tag t) (stored xs) (f e) ≡ stored (entries_changed t f xs))
            → set_value (same_tag t) (stored (x ∷ xs)) (f e) ≡ stored (entries_changed t f (x ∷ xs))
        by true here rest =
            let is : x ≡ e = the_same x e (rw here at found) in
            rw (here, changed_others xs (others t x xs here apart), ← is)
            (ap (λ (u : Tag). (u, f x) ∷ stored xs) (sym (same x)))
        by false here rest = rw here (ap (λ ys. (x.tag, x) ∷ ys) (rest (rw here at found)))

-- ---- how the table is stored

keys_apart : (u : Tag) (xs : List TagEntry) → AllByRecursion (λ v. same_tag u v ≡ false) (keys_of (stored xs))
    → AllByRecursion (λ v. same_tag u v ≡ false) (map (λ e. e.tag) xs)
keys_apart u [] apart = tt
keys_apart u (x ∷ xs) apart = (apart.0, keys_apart u xs apart.1)

pub stored_apart : (xs : List TagEntry) → IsDistinct same_tag (keys_of (stored xs)) → AreApart xs
unfolding IsDistinct
stored_apart [] apart = tt
stored_apart (x ∷ xs) apart = (keys_apart x.tag xs apart.0, stored_apart xs apart.1)

pub stored_push : (xs : List TagEntry) (e : TagEntry) → stored xs ++ (e.tag, e) ∷ [] ≡ stored (xs ++ e ∷ [])
stored_push [] e = refl
stored_push (x ∷ xs) e = ap (λ ys. (x.tag, x) ∷ ys) (stored_push xs e)

other_at : (u : Tag) (xs : List TagEntry) (i : ℕ) (e : TagEntry) → AllByRecursion (λ v. same_tag u v ≡ false) (map (λ e. e.tag) xs)
    → slice_get xs i ≡ Some e → same_tag u e.tag ≡ false
other_at u [] i e others at = cc
other_at u (x ∷ xs) zero e others at = subst (λ y. same_tag u y.tag ≡ false) (the_same x e at) others.0
other_at u (x ∷ xs) (suc i) e others at = other_at u xs i e others.1 at

-- an entry's tag is not that of one before it
pub absent_before : (xs : List TagEntry) (i : ℕ) (e : TagEntry) → AreApart xs → slice_get xs i ≡ Some e → has_entry e.tag (take i xs) ≡ false
absent_before [] i e apart at = cc
absent_before (x ∷ xs) zero e apart at = refl
absent_before (x ∷ xs) (suc i) e apart at =
    let other = other_at x.tag xs i e (IsDistinct-head same_tag x.tag (map (λ e. e.tag) xs) apart) at in
    rw (nat_list_eq_equiv.symm e.tag.0 x.tag.0 ∙ other) (absent_before xs i e (rest_apart x xs apart) at)

others_of_none : (t : Tag) (xs : List TagEntry) → has_entry t xs ≡ false → AreOthers t xs
others_of_none t [] none = tt
others_of_none t (x ∷ xs) none = by (is_entry_of t x) refl (others_of_none t xs)
  where
    by : (b : Bool) → is_entry_of t x ≡ b → (has_entry t xs ≡ false → AreOthers t xs) → AreOthers t (x ∷ xs)
    by true here rest = absurd (true≢false (rw here at none))
    by false here rest = (here, rest (rw here at none))

-- a change of a tag that is not live changes nothing
pub none_changed : (t : Tag) (f : TagEntry → TagEntry) (xs : List TagEntry) → has_entry t xs ≡ false → xs ≡ entries_changed t f xs
none_changed t f xs none = sym (changed_others t f xs (others_of_none t xs none))

-- ---- the entry that is taken out

others_stay : (t : Tag) (xs : List TagEntry) → AreOthers t xs → entries_without t xs ≡ xs
others_stay t [] others = refl
others_stay t (x ∷ xs) others = rw others.0 (ap (λ ys. x ∷ ys) (others_stay t xs others.1))

-- as it is stored
pub without_stored : (t : Tag) (xs : List TagEntry) → AreApart xs → remove_entry (same_tag t) (stored xs) ≡ stored (entries_without t xs)
without_stored t [] apart = refl
without_stored t (x ∷ xs) apart = by (is_entry_of t x) refl (without_stored t xs (rest_apart x xs apart))
  where
    by : (b : Bool) → is_entry_of t x ≡ b → remove_entry (same_tag t) (stored xs) ≡ stored (entries_without t xs) →
        remove_entry (same_tag t) (stored (x ∷ xs)) ≡ stored (entries_without t (x ∷ xs))
    by true here rest = rw here (sym (ap stored (others_stay t xs (others t x xs here apart))))
    by false here rest = rw here (ap (λ ys. (x.tag, x) ∷ ys) rest)

-- none is left
pub none_left : (t : Tag) (xs : List TagEntry) → has_entry t (entries_without t xs) ≡ false
none_left t [] = refl
none_left t (x ∷ xs) = by (is_entry_of t x) refl (none_left t xs)
  where
    by : (b : Bool) → is_entry_of t x ≡ b → has_entry t (entries_without t xs) ≡ false → has_entry t (entries_without t (x ∷ xs)) ≡ false
    by true here rest = rw here rest
    by false here rest = rw here (rw here rest)
