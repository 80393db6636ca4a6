-- Some of many lists, put in order as one.
use Rattle.std.proofs.Common.{◌≡◌, ℕ, ◌+◌, ◌<◌, ◌≤◌, List, [], ◌++◌, drop, take, take_all, get_or, length, sym, ap, subst, ◌∙◌, append-nil}
use Rattle.std.{specs.Prelude.flat_map, proofs.Math.Seq.take-add, proofs.lemmas.List.drop-drop, proofs.lemmas.List.drop_all, proofs.lemmas.List.drop_more, proofs.lemmas.Grind.flat_map-append}
use Rattle.journal_core.{proofs.Inserting.in_order_alone, proofs.Merges.in_order-twice, specs.Merging.AllRise, specs.Merging.Rising, specs.Merging.in_order, specs.Merging.merged}
use Rattle.journal_core.specs.declared.entries.Entry.{Entry}
use Rattle.kept_journal.specs.Lending.{some_lists}

-- the lists from a place on are those before another and those from it on
parts_meet : (lists : List (List Entry)) (at n m : ℕ) → some_lists lists at (n + m) ≡ some_lists lists at n ++ some_lists lists (at + n) m
parts_meet lists at n m =
    ap (flat_map (λ entries. entries)) (take-add n m (drop at lists))
    ∙ flat_map-append (λ entries. entries) (take n (drop at lists)) (take m (drop n (drop at lists)))
    ∙ ap (λ rest. some_lists lists at n ++ flat_map (λ entries. entries) (take m rest)) (drop-drop n at lists)

pub list_there : (lists : List (List Entry)) (at : ℕ) (list : List Entry) → at < length lists → list ≡ get_or lists at list → list ≡ some_lists lists at 1
list_there lists at list under is =
    is ∙ sym (append-nil (get_or lists at list)) ∙ sym (ap (λ rest. flat_map (λ entries. entries) (take 1 rest)) (drop_more lists at list under))

pub list_past : (lists : List (List Entry)) (at : ℕ) → length lists ≤ at → [] ≡ some_lists lists at 1
list_past lists at over = sym (ap (λ rest. flat_map (λ entries. entries) (take 1 rest)) (drop_all at lists over))

pub rises_there : (lists : List (List Entry)) (at : ℕ) (list : List Entry) → AllRise lists → at < length lists → list ≡ get_or lists at list → Rising list
rises_there lists at list all under is = subst Rising (sym is) (all at list under)

pub pair_of_ones : (lists : List (List Entry)) (at : ℕ) (xs ys : List Entry) → xs ≡ some_lists lists at 1 → ys ≡ some_lists lists (at + 1) 1 → in_order (xs ++ ys) ≡ in_order (some_lists lists at 2)
pair_of_ones lists at xs ys first second = ap in_order ((λ i. first i ++ second i) ∙ sym (parts_meet lists at 1 1))

pub pair_of_parts : (lists : List (List Entry)) (at n : ℕ) (xs ys : List Entry) → xs ≡ in_order (some_lists lists at n) → ys ≡ in_order (some_lists lists (at + n) n) →
    in_order (xs ++ ys) ≡ in_order (some_lists lists at (n + n))
pair_of_parts lists at n xs ys first second =
    (λ i. in_order (first i ++ second i))
    ∙ in_order-twice (some_lists lists at n) (some_lists lists (at + n) n)
    ∙ ap in_order (sym (parts_meet lists at n n))

pub whole_of_parts : (control xs : List Entry) (lists : List (List Entry)) → Rising control → length lists ≤ 16 → xs ≡ in_order (some_lists lists 0 16) → in_order (control ++ xs) ≡ merged control lists
whole_of_parts control xs lists up few is =
    (λ i. in_order (sym (in_order_alone control up) i ++ is i))
    ∙ in_order-twice control (some_lists lists 0 16)
    ∙ ap (λ all. in_order (control ++ flat_map (λ entries. entries) all)) (take_all 16 lists few)
