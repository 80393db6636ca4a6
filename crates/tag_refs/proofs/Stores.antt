-- What a write of the entry of a tag, and its removal, make of the table as it is stored.
use Rattle.std.proofs.Common.{◌≡◌, false, List, [], ◌∷◌, ◌++◌, Option, Some, None, is_some, MutBor, refl, sym, ◌∙◌, ap, subst, true≢false}
use Rattle.std.specs.{List.IsDistinct, Map.lookup, Map.set_value, Map.remove_entry, Map.values_of, Map.keys_of, Option.option_copied_mut}
use Rattle.dcd_base.specs.{Words.same_tag, declared.capacity.Tag.Tag}
use Rattle.indexmap.{specs.IndexMap.IndexMap, specs.IndexMap.get, specs.IndexMap.insert_entry, proofs.CallerLemmas.insert_entry-new}
use Rattle.tag_refs.proofs.Tagged.{lookup_stored, set_stored, stored_apart, stored_push, values_stored, without_stored}
use Rattle.tag_refs.specs.{Stored.IsStored, Stored.stored, Tables.AreTags, Tables.entries_changed, Tables.entries_without, Tables.entry_with, Tables.has_entry, declared.entries.TagEntry.TagEntry}

pub values_at : (pairs : List (Tag × TagEntry)) (xs : List TagEntry) → pairs ≡ stored xs → values_of pairs ≡ xs
values_at pairs xs is = ap values_of is ∙ values_stored xs

-- what a reference to a found entry says
pub some_copied : {X : Type 0} (found : Option (MutBor X)) → is_some (option_copied_mut found) ≡ is_some found
some_copied None = refl
some_copied (Some x) = refl

pub IsStored-at : (pairs : List (Tag × TagEntry)) (xs : List TagEntry) → pairs ≡ stored xs → IsStored pairs
IsStored-at pairs xs is = is ∙ sym (ap stored (values_at pairs xs is))

pub found_live : (t : Tag) (pairs : List (Tag × TagEntry)) → IsStored pairs → has_entry t (values_of pairs) ≡ is_some (lookup (same_tag t) pairs)
found_live t pairs as_stored =
    ap is_some (sym (lookup_stored t (values_of pairs)) ∙ ap (lookup (same_tag t)) (sym as_stored))

pub values_apart : (pairs : List (Tag × TagEntry)) → IsStored pairs → IsDistinct same_tag (keys_of pairs) → AreTags (values_of pairs)
values_apart pairs as_stored unique =
    stored_apart (values_of pairs) (subst (λ (ps : List (Tag × TagEntry)). IsDistinct same_tag (keys_of ps)) as_stored unique)

-- the table as other entries are stored
pub record Becomes (xs : List TagEntry) (after : List (Tag × TagEntry)) : Type 0 where
  pub as_stored : IsStored after
  pub entries : values_of after ≡ xs

becomes : (xs : List TagEntry) (after : List (Tag × TagEntry)) → after ≡ stored xs → Becomes xs after
becomes xs after is = record { as_stored = IsStored-at after xs is; entries = values_at after xs is }

-- the entry v of the tag is written as w, by the change f
pub after_write : (t : Tag) (f : TagEntry → TagEntry) → ((e : TagEntry) → (f e).tag ≡ e.tag) →
    (pairs : List (Tag × TagEntry)) → IsStored pairs → IsDistinct same_tag (keys_of pairs) →
    (v w : TagEntry) → Some v ≡ lookup (same_tag t) pairs → w ≡ f v →
    (after : List (Tag × TagEntry)) → after ≡ set_value (same_tag t) pairs w → Becomes (entries_changed t f (values_of pairs)) after
after_write t f same pairs as_stored unique v w found written after is =
    let entry_found : entry_with t (values_of pairs) ≡ Some v = sym (lookup_stored t (values_of pairs)) ∙ ap (lookup (same_tag t)) (sym as_stored) ∙ sym found in
    becomes (entries_changed t f (values_of pairs)) after
    (is ∙ ap (λ (ps : List (Tag × TagEntry)). set_value (same_tag t) ps w) as_stored
    ∙ ap (set_value (same_tag t) (stored (values_of pairs))) written
    ∙ set_stored t f same (values_of pairs) v (values_apart pairs as_stored unique) entry_found)

-- the entry of the tag is taken out
pub after_removal : (t : Tag) (pairs : List (Tag × TagEntry)) → IsStored pairs → IsDistinct same_tag (keys_of pairs) →
    (after : List (Tag × TagEntry)) → after ≡ remove_entry (same_tag t) pairs → Becomes (entries_without t (values_of pairs)) after
after_removal t pairs as_stored unique after is =
    becomes (entries_without t (values_of pairs)) after
    (is ∙ ap (remove_entry (same_tag t)) as_stored ∙ without_stored t (values_of pairs) (values_apart pairs as_stored unique))

none_there : {X : Type 0} {o : Option X} → is_some o ≡ false → o ≡ None
none_there {o = None} none = refl
none_there {o = Some x} none = absurd (true≢false none)

-- a new entry goes last
pub pushed : {S : Type 0} (m : IndexMap Tag TagEntry S) (e : TagEntry) → IsStored m.entries → has_entry e.tag (values_of m.entries) ≡ false →
    (after : List (Tag × TagEntry)) → after ≡ insert_entry same_tag m.entries e.tag e → Becomes (values_of m.entries ++ e ∷ []) after
pushed m e as_stored new after is =
    let none : get same_tag m e.tag ≡ None = none_there (sym (found_live e.tag m.entries as_stored) ∙ new) in
    becomes (values_of m.entries ++ e ∷ []) after
    (is ∙ insert_entry-new same_tag m e.tag e none
    ∙ ap (λ (ps : List (Tag × TagEntry)). ps ++ (e.tag, e) ∷ []) as_stored
    ∙ stored_push (values_of m.entries) e)
