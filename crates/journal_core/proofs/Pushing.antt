-- One more entry in a merge.
use Rattle.std.proofs.Common.{◌≡◌, Bool, true, false, cond, List, [], ◌∷◌, ◌++◌, refl, sym, ap, ◌∙◌, append-nil, append_assoc}
use Rattle.std.proofs.lemmas.List.{Elements.All-cons, Elements.All-head, Elements.All-nil, Elements.All-tail, Sums.fold-append}
use Rattle.std.specs.Prelude.{All, IsFalse}
use Rattle.journal_core.{proofs.Inserting.insert_all, proofs.Merges.inserted-last, specs.Merging.in_order, specs.Merging.insert_entry, specs.Merging.is_later, specs.Merging.merged}
use Rattle.journal_core.specs.declared.entries.Entry.{Entry}

-- what all entries are, all are that are put in order
inserted_all : (P : Entry → Type 0) (e : Entry) (journal : List Entry) → P e → All P journal → All P (insert_entry e journal)
inserted_all P e [] one all = All-cons P e [] one (All-nil P)
inserted_all P e (f ∷ journal) one all =
    by (is_later f.stamp e.stamp) (inserted_all P e journal one (All-tail P f journal all))
  where
    by : (b : Bool) → All P (insert_entry e journal) → All P (cond b (e ∷ f ∷ journal) (f ∷ insert_entry e journal))
    by true later = All-cons P e (f ∷ journal) one all
    by false later = All-cons P f (insert_entry e journal) (All-head P f journal all) later

folded_all : (P : Entry → Type 0) (done entries : List Entry) → All P done → All P entries → All P (insert_all done entries)
folded_all P done [] before all = before
folded_all P done (e ∷ entries) before all =
    folded_all P (insert_entry e done) entries (inserted_all P e done (All-head P e entries all) before) (All-tail P e entries all)

pub all_in_order : (P : Entry → Type 0) (entries : List Entry) → All P entries → All P (in_order entries)
all_in_order P entries all = folded_all P [] entries (All-nil P) all

-- one list in the place of the shards
pub merged_of_one : (control shard : List Entry) → merged control (shard ∷ []) ≡ in_order (control ++ shard)
merged_of_one control shard = ap (λ es. in_order (control ++ es)) (append-nil shard)

-- one more entry of the one list is put into the merge
pub merged-shard_push : (control shard : List Entry) (e : Entry) → merged control ((shard ++ e ∷ []) ∷ []) ≡ insert_entry e (merged control (shard ∷ []))
merged-shard_push control shard e =
    merged_of_one control (shard ++ e ∷ [])
    ∙ ap in_order (sym (append_assoc control shard (e ∷ [])))
    ∙ fold-append (λ journal e. insert_entry e journal) [] (control ++ shard) (e ∷ [])
    ∙ ap (insert_entry e) (sym (merged_of_one control shard))

-- so it comes last where no other is later
pub merged-shard_last : (control shard : List Entry) (e : Entry) → All (λ (f : Entry). IsFalse (is_later f.stamp e.stamp)) (merged control (shard ∷ []))
    → merged control ((shard ++ e ∷ []) ∷ []) ≡ merged control (shard ∷ []) ++ e ∷ []
merged-shard_last control shard e all = merged-shard_push control shard e ∙ inserted-last e (merged control (shard ∷ [])) all

not_behind : (f e : Entry) (journal : List Entry) → is_later e.stamp f.stamp ≡ true → insert_entry f (journal ++ e ∷ []) ≡ insert_entry f journal ++ e ∷ []
not_behind f e [] later = ap (λ b. cond b (f ∷ e ∷ []) (e ∷ f ∷ [])) later
not_behind f e (g ∷ journal) later =
    by (is_later g.stamp f.stamp) (not_behind f e journal later)
  where
    by : (b : Bool) → insert_entry f (journal ++ e ∷ []) ≡ insert_entry f journal ++ e ∷ [] →
        cond b (f ∷ g ∷ journal ++ e ∷ []) (g ∷ insert_entry f (journal ++ e ∷ [])) ≡ cond b (f ∷ g ∷ journal) (g ∷ insert_entry f journal) ++ e ∷ []
    by true rest = refl
    by false rest = ap (λ l. g ∷ l) rest

all_not_behind : (e : Entry) (done entries : List Entry) → All (λ (f : Entry). is_later e.stamp f.stamp ≡ true) entries → insert_all (done ++ e ∷ []) entries ≡ insert_all done entries ++ e ∷ []
all_not_behind e done [] all = refl
all_not_behind e done (f ∷ entries) all =
    ap (λ l. insert_all l entries) (not_behind f e done (All-head (λ (f : Entry). is_later e.stamp f.stamp ≡ true) f entries all))
    ∙ all_not_behind e (insert_entry f done) entries (All-tail (λ (f : Entry). is_later e.stamp f.stamp ≡ true) f entries all)

-- One more entry of the control, later than all of the one list, and than which none of the control is later, comes last.
pub merged-control_last : (control shard : List Entry) (e : Entry) → All (λ (f : Entry). IsFalse (is_later f.stamp e.stamp)) control →
    All (λ (f : Entry). is_later e.stamp f.stamp ≡ true) shard → merged (control ++ e ∷ []) (shard ∷ []) ≡ merged control (shard ∷ []) ++ e ∷ []
merged-control_last control shard e last later =
    merged_of_one (control ++ e ∷ []) shard
    ∙ fold-append (λ journal e. insert_entry e journal) [] (control ++ e ∷ []) shard
    ∙ ap (λ l. insert_all l shard) (fold-append (λ journal e. insert_entry e journal) [] control (e ∷ [])
    ∙ inserted-last e (insert_all [] control) (folded_all (λ (f : Entry). IsFalse (is_later f.stamp e.stamp)) [] control (All-nil (λ (f : Entry). IsFalse (is_later f.stamp e.stamp))) last))
    ∙ all_not_behind e (insert_all [] control) shard later
    ∙ ap (λ l. l ++ e ∷ []) (sym (merged_of_one control shard ∙ fold-append (λ journal e. insert_entry e journal) [] control shard))
