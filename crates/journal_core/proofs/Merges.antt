-- The order of the stamps, as a sort by their two numbers has it.
use Rattle.std.proofs.Common.{◌≡◌, ℕ, suc, ◌+◌, get_or, Bool, true, false, cond, take, take_all, length, ◌≤◌, ◌++◌, ◌&&◌, ◌||◌, ◌==◌, not, arith, List, [], ◌∷◌, refl, sym, ap, ◌∙◌, subst}
use Rattle.std.proofs.lemmas.{Bool.Decides.nat_tests, Cmp.then_total, List.Elements.All-cons, List.Elements.filter-append, List.Kept.AllPairs-cons, List.Sorted.ranks_by}
use Rattle.std.specs.{Cmp.IsStrictWeakOrder, Cmp.nat_cmp_total, Cmp.on_total, List.filter, List.All, List.Sorted.IsSortedByKey, List.Sorted.IsStableByKey, List.Sorted.ties}
use Rattle.std.specs.{Ordering.is_lt, Ordering.nat_cmp, Ordering.ordering_then, Prelude.fold, Prelude.flat_map, Prelude.IsFalse, declared.cmp.Ordering.Ordering}
use Rattle.std.specs.declared.cmp.Ordering.TheVariants.{Less, Equal, Greater}
use Rattle.cci_codec.specs.dcd_base.specs.declared.steps.{Stamp.Stamp, Actor.Actor}
use Rattle.journal_core.specs.{Merging.is_later, Merging.insert_entry, Merging.in_order, Merging.merged, Merging.has_stamp, Merging.Rising, declared.acts.Act.Act, declared.acts.Reply.Reply}
use Rattle.journal_core.specs.declared.entries.Entry.{Entry}
use Rattle.journal_core.proofs.Sorting.{Rises, rises_from_sorted, sorted_once, NoneBelow, insert_all_rises, insert_all_stable, insert_all_length, insert_by, insert_all, stable_sort}

abbrev pub stamp_key : Entry → ℕ × ℕ
stamp_key e = (e.stamp.number, e.stamp.count)

abbrev pub key_cmp : ℕ × ℕ → ℕ × ℕ → Ordering
key_cmp x y = ordering_then (nat_cmp x.0 y.0) (nat_cmp x.1 y.1)

abbrev pub comes_before : Entry → Entry → Bool
comes_before e f = is_lt (key_cmp (stamp_key e) (stamp_key f))

ranked : IsStrictWeakOrder comes_before
ranked = ranks_by (then_total (on_total (λ (k : ℕ × ℕ). k.0) nat_cmp_total) (on_total (λ (k : ℕ × ℕ). k.1) nat_cmp_total)) stamp_key

by_tests : (p q r s : Bool) → p || (q && r) ≡ is_lt (ordering_then (cond p Less (cond q Equal Greater)) (cond r Less (cond s Equal Greater)))
by_tests true q r s = refl
by_tests false false r s = refl
by_tests false true true s = refl
by_tests false true false true = refl
by_tests false true false false = refl

later_is_before : (e f : Entry) → is_later f.stamp e.stamp ≡ comes_before e f
later_is_before e f = by_tests _ _ _ _

insert_is : (e : Entry) (journal : List Entry) → insert_entry e journal ≡ insert_by comes_before e journal
insert_is e [] = refl
insert_is e (f ∷ journal) =
    (λ i. cond (later_is_before e f i) (e ∷ f ∷ journal) (f ∷ insert_is e journal i))

insert_all_is : (done entries : List Entry) → fold (λ journal e. insert_entry e journal) done entries ≡ insert_all comes_before done entries
insert_all_is done [] = refl
insert_all_is done (e ∷ entries) =
    ap (λ journal. fold (λ journal e. insert_entry e journal) journal entries) (insert_is e done) ∙ insert_all_is (insert_by comes_before e done) entries

-- ---- what holds of the merge

apart : (e f : Stamp) → not (is_later f e) && not (is_later e f) ≡ (f.number == e.number) && (f.count == e.count)
apart e f = grind (arith, nat_tests)

-- what a stable sort by the stamps gives
pub sorted_by_stamp : (xs ys : List Entry) → IsSortedByKey stamp_key key_cmp ys → IsStableByKey stamp_key key_cmp xs ys → ys ≡ fold (λ journal e. insert_entry e journal) [] xs
sorted_by_stamp xs ys up same = stable_sort comes_before ranked xs ys up same ∙ sym (insert_all_is [] xs)

pub merged_at : (control : List Entry) (shards : List (List Entry)) (n : ℕ) (entries : List Entry) → entries ≡ control ++ flat_map (λ entries. entries) (take n shards) → length shards ≤ n → fold (λ journal e. insert_entry e journal) [] entries ≡ merged control shards
merged_at control shards n entries is all =
    ap (λ es. fold (λ journal e. insert_entry e journal) [] es) (is ∙ ap (λ lists. control ++ flat_map (λ entries. entries) lists) (take_all n shards all))

-- ---- what holds of the merge of any lists

abbrev all_of : List Entry → List (List Entry) → List Entry
all_of control shards = control ++ flat_map (λ shard. shard) shards

none_later : (e : Entry) (journal : List Entry) → NoneBelow comes_before e journal → All (λ (f : Entry). IsFalse (is_later e.stamp f.stamp)) journal
none_later e [] none = λ k d under. absurd (omega (arith, under))
none_later e (f ∷ journal) none =
    All-cons (λ (f : Entry). IsFalse (is_later e.stamp f.stamp)) f journal (later_is_before f e ∙ none.0) (none_later e journal none.1)

rising : (journal : List Entry) → Rises comes_before journal → Rising journal
rising [] up = λ i j d first under. absurd (omega (arith, under))
rising (e ∷ journal) up =
    AllPairs-cons (λ (e f : Entry). IsFalse (is_later e.stamp f.stamp)) e journal (none_later e journal up.0) (rising journal up.1)

-- no stamp of it is later than one behind it
pub in_order-rising : (entries : List Entry) → Rising (in_order entries)
in_order-rising entries =
    rising (in_order entries) (subst (Rises comes_before) (sym (insert_all_is [] entries)) (insert_all_rises comes_before ranked [] entries tt))

pub merged-rising : (control : List Entry) (shards : List (List Entry)) → Rising (merged control shards)
merged-rising control shards = in_order-rising (all_of control shards)

tied_by_stamp : (e f : Entry) → ties comes_before e f ≡ has_stamp e.stamp f
tied_by_stamp e f = sym (λ i. not (later_is_before e f i) && not (later_is_before f e i)) ∙ apart e.stamp f.stamp

-- an entry with the stamp
with_stamp : Stamp → Entry
with_stamp s = record { pass = 0; line = 0; actor = Actor.Manager; act = Act.Load 0; reply = Reply.Stored; effects = []; stamp = s }

with_stamp-stamp : (s : Stamp) → (with_stamp s).stamp ≡ s
unfolding with_stamp
with_stamp-stamp s = refl

tied_to_stamp : (s : Stamp) (e : Entry) → ties comes_before (with_stamp s) e ≡ has_stamp s e
tied_to_stamp s e = tied_by_stamp (with_stamp s) e ∙ ap (λ t. has_stamp t e) (with_stamp-stamp s)

-- its entries with one stamp stand in the order of the lists, those of the control first
pub in_order-ties : (entries : List Entry) (s : Stamp) → filter (has_stamp s) (in_order entries) ≡ filter (has_stamp s) entries
in_order-ties entries s =
    sym (λ i. filter (λ f. tied_to_stamp s f i) (in_order entries))
    ∙ ap (filter (ties comes_before (with_stamp s))) (insert_all_is [] entries)
    ∙ insert_all_stable comes_before ranked (with_stamp s) [] entries tt
    ∙ (λ i. filter (λ f. tied_to_stamp s f i) entries)

pub merged-ties : (control : List Entry) (shards : List (List Entry)) (s : Stamp) → filter (has_stamp s) (merged control shards) ≡ filter (has_stamp s) (control ++ flat_map (λ shard. shard) shards)
merged-ties control shards s = in_order-ties (all_of control shards) s

-- it has as many entries as the lists
pub in_order-length : (entries : List Entry) → length (in_order entries) ≡ length entries
in_order-length entries = ap length (insert_all_is [] entries) ∙ insert_all_length comes_before [] entries

pub merged-length : (control : List Entry) (shards : List (List Entry)) → length (merged control shards) ≡ length (control ++ flat_map (λ shard. shard) shards)
merged-length control shards = in_order-length (all_of control shards)

rises_of : (journal : List Entry) → Rising journal → Rises comes_before journal
rises_of journal up = rises_from_sorted comes_before ranked journal (λ k d low high. sym (later_is_before (get_or journal (k + 1) d) (get_or journal k d)) ∙ up k (k + 1) d (omega arith) high)

-- The merge is the one journal of which this is so: no stamp is later than one behind it, and those with one
-- stamp stand in the order of the lists.
pub in_order-once : (journal entries : List Entry) → Rising journal → ((s : Stamp) → filter (has_stamp s) journal ≡ filter (has_stamp s) entries) → journal ≡ in_order entries
in_order-once journal entries up same =
    sorted_once comes_before ranked journal (in_order entries) (rises_of journal up) (rises_of (in_order entries) (in_order-rising entries))
    (λ x. (λ i. filter (λ f. tied_by_stamp x f i) journal) ∙ same x.stamp ∙ sym (in_order-ties entries x.stamp) ∙ sym (λ i. filter (λ f. tied_by_stamp x f i) (in_order entries)))

pub merged-once : (journal control : List Entry) (shards : List (List Entry)) → Rising journal → ((s : Stamp) → filter (has_stamp s) journal ≡ filter (has_stamp s) (control ++ flat_map (λ shard. shard) shards)) → journal ≡ merged control shards
merged-once journal control shards up same = in_order-once journal (all_of control shards) up same

-- what was put in order in two parts is put in order as one
pub in_order-twice : (xs ys : List Entry) → in_order (in_order xs ++ in_order ys) ≡ in_order (xs ++ ys)
in_order-twice xs ys =
    in_order-once (in_order (in_order xs ++ in_order ys)) (xs ++ ys) (in_order-rising (in_order xs ++ in_order ys)) (λ s.
    in_order-ties (in_order xs ++ in_order ys) s
    ∙ filter-append (has_stamp s) (in_order xs) (in_order ys)
    ∙ (λ i. in_order-ties xs s i ++ in_order-ties ys s i)
    ∙ sym (filter-append (has_stamp s) xs ys))

-- an entry than which no other is later goes to the end
pub inserted-last : (e : Entry) (journal : List Entry) → All (λ (f : Entry). IsFalse (is_later f.stamp e.stamp)) journal → insert_entry e journal ≡ journal ++ e ∷ []
inserted-last e [] all = refl
inserted-last e (f ∷ journal) all =
    (λ i. cond (all 0 f (omega arith) i) (e ∷ f ∷ journal) (f ∷ insert_entry e journal))
    ∙ ap (λ entries. f ∷ entries) (inserted-last e journal (λ k d under. all (suc k) d (omega (arith, under))))
