-- Entries and the bytes that they take from the front.
use Rattle.std.proofs.Common.{◌≡◌, ℕ, suc, ◌+◌, ◌-◌, ◌≤◌, List, [], ◌∷◌, ◌++◌, drop, length, take, refl, sym, ap, subst, ◌∙◌, length-append, arith}
use Rattle.std.proofs.{lemmas.List.drop-append-le, lemmas.List.drop-drop, lemmas.List.length-drop, lemmas.List.take-append-le, lemmas.List.take_all, Math.Seq.drop-append_seam}
use Rattle.kept_journal.specs.{Keeping.CanBeLent, Keeping.entries_of, Keeping.kept_entry, Keeping.width_of, Keeping.widths, declared.kept_steps.Kept.Kept}
use Rattle.journal_core.{specs.Entries.next_entry, specs.Entries.next_stamp, specs.Merging.Rising, specs.declared.entries.Entry.Entry, specs.declared.outcome.Effect.Effect, proofs.Rising.rising_tail}

pub no_entries : (before : ℕ) (bytes : List ℕ) → entries_of before [] bytes ≡ []
unfolding entries_of
no_entries before bytes = refl

-- the first takes its bytes, and the others what is behind them
pub first_and_rest : (before : ℕ) (k : Kept) (kept : List Kept) (bytes : List ℕ) →
    entries_of before (k ∷ kept) bytes ≡ kept_entry (before + 1) k (take (width_of k) bytes) ∷ entries_of (before + 1) kept (drop (width_of k) bytes)
unfolding entries_of
first_and_rest before k kept bytes = refl

pub entries_of-length : (before : ℕ) (kept : List Kept) (bytes : List ℕ) → length (entries_of before kept bytes) ≡ length kept
unfolding entries_of
entries_of-length before [] bytes = refl
entries_of-length before (k ∷ kept) bytes = ap suc (entries_of-length (before + 1) kept (drop (width_of k) bytes))

-- ---- at the front

pub kept_first : (before : ℕ) (all kept : List Kept) (k : Kept) (bytes : List ℕ) → all ≡ k ∷ kept →
    entries_of before all bytes ≡ kept_entry (before + 1) k (take (width_of k) bytes) ∷ entries_of (before + 1) kept (drop (width_of k) bytes)
kept_first before all kept k bytes is = ap (λ l. entries_of before l bytes) is ∙ first_and_rest before k kept bytes

pub none_kept : (before : ℕ) (all : List Kept) (bytes : List ℕ) → length all ≡ 0 → entries_of before all bytes ≡ []
none_kept before [] bytes none = no_entries before bytes
none_kept before (k ∷ all) bytes none = absurd (omega (arith, none))

-- behind the first the rest can be lent
pub lent_on : (before : ℕ) (all kept : List Kept) (k : Kept) (bytes : List ℕ) → all ≡ k ∷ kept → CanBeLent before all bytes → CanBeLent (before + 1) kept (drop (width_of k) bytes)
lent_on before all kept k bytes is can = record {
  within = omega (arith, ap widths is, can.within, length-drop (width_of k) bytes);
  numbers = omega (arith, ap length is, can.numbers);
  rising = rising_tail (kept_entry (before + 1) k (take (width_of k) bytes)) (entries_of (before + 1) kept (drop (width_of k) bytes)) (subst Rising (kept_first before all kept k bytes is) can.rising);
}

-- ---- at the end

widths-push : (kept : List Kept) (k : Kept) → widths (kept ++ k ∷ []) ≡ widths kept + width_of k
widths-push [] k = omega arith
widths-push (x ∷ kept) k = omega (arith, widths-push kept k)

pub last_taken : (before : ℕ) (kept : List Kept) (k : Kept) (bytes : List ℕ) →
    entries_of before (kept ++ k ∷ []) bytes ≡ entries_of before kept bytes ++ kept_entry (before + length kept + 1) k (take (width_of k) (drop (widths kept) bytes)) ∷ []
unfolding entries_of
last_taken before [] k bytes = ap (λ n. kept_entry (n + 1) k (take (width_of k) bytes) ∷ []) alone
  where
    alone : before ≡ before + 0
    alone = omega arith
last_taken before (x ∷ kept) k bytes =
    ap (λ l. kept_entry (before + 1) x (take (width_of x) bytes) ∷ l) (last_taken (before + 1) kept k (drop (width_of x) bytes)
    ∙ ap (λ n. entries_of (before + 1) kept (drop (width_of x) bytes) ++ kept_entry n k (take (width_of k) (drop (widths kept) (drop (width_of x) bytes))) ∷ []) number
    ∙ ap (λ b. entries_of (before + 1) kept (drop (width_of x) bytes) ++ kept_entry (before + suc (length kept) + 1) k (take (width_of k) b) ∷ []) (drop-drop (widths kept) (width_of x) bytes))
  where
    number : (before + 1) + length kept + 1 ≡ before + suc (length kept) + 1
    number = omega arith

-- more bytes behind theirs change nothing
more_bytes : (before : ℕ) (kept : List Kept) (bytes more : List ℕ) → widths kept ≤ length bytes → entries_of before kept (bytes ++ more) ≡ entries_of before kept bytes
unfolding entries_of
more_bytes before [] bytes more within = refl
more_bytes before (k ∷ kept) bytes more within =
    ap (λ b. kept_entry (before + 1) k b ∷ entries_of (before + 1) kept (drop (width_of k) (bytes ++ more))) (take-append-le (width_of k) bytes more its)
    ∙ ap (λ b. kept_entry (before + 1) k (take (width_of k) bytes) ∷ entries_of (before + 1) kept b) (drop-append-le (width_of k) bytes more its)
    ∙ ap (λ l. kept_entry (before + 1) k (take (width_of k) bytes) ∷ l) (more_bytes (before + 1) kept (drop (width_of k) bytes) more others)
  where
    its : width_of k ≤ length bytes
    its = omega (arith, within)

    others : widths kept ≤ length (drop (width_of k) bytes)
    others = omega (arith, within, length-drop (width_of k) bytes)

-- one more, with its bytes behind the others
pub one_more : (kept : List Kept) (k : Kept) (bytes parts : List ℕ) → widths kept ≡ length bytes → width_of k ≡ length parts →
    entries_of 0 (kept ++ k ∷ []) (bytes ++ parts) ≡ entries_of 0 kept bytes ++ kept_entry (length (entries_of 0 kept bytes) + 1) k parts ∷ []
one_more kept k bytes parts all its =
    last_taken 0 kept k (bytes ++ parts)
    ∙ ap (λ n. entries_of 0 kept (bytes ++ parts) ++ kept_entry n k (take (width_of k) (drop (widths kept) (bytes ++ parts))) ∷ []) number
    ∙ ap (λ l. l ++ kept_entry (length kept + 1) k (take (width_of k) (drop (widths kept) (bytes ++ parts))) ∷ []) (more_bytes 0 kept bytes parts (omega (arith, all)))
    ∙ ap (λ n. entries_of 0 kept bytes ++ kept_entry (length kept + 1) k (take (width_of k) (drop n (bytes ++ parts))) ∷ []) all
    ∙ ap (λ b. entries_of 0 kept bytes ++ kept_entry (length kept + 1) k (take (width_of k) b) ∷ []) (drop-append_seam bytes parts)
    ∙ ap (λ b. entries_of 0 kept bytes ++ kept_entry (length kept + 1) k b ∷ []) (take_all (width_of k) parts (omega (arith, its)))
    ∙ ap (λ n. entries_of 0 kept bytes ++ kept_entry (n + 1) k parts ∷ []) (sym (entries_of-length 0 kept bytes))
  where
    number : 0 + length kept + 1 ≡ length kept + 1
    number = omega arith

widths_more : (kept : List Kept) (k : Kept) (bytes parts : List ℕ) → widths kept ≡ length bytes → width_of k ≡ length parts → widths (kept ++ k ∷ []) ≡ length (bytes ++ parts)
widths_more kept k bytes parts all its = omega (arith, widths-push kept k, all, its, length-append bytes parts)

pub put_behind : (kept all : List Kept) (k : Kept) (bytes parts more : List ℕ) (entries : List Entry) → all ≡ kept ++ k ∷ [] → more ≡ bytes ++ parts →
    entries_of 0 kept bytes ≡ entries → widths kept ≡ length bytes → width_of k ≡ length parts → entries_of 0 all more ≡ entries ++ kept_entry (length entries + 1) k parts ∷ []
put_behind kept all k bytes parts more entries is more_is view sum its =
    ap (λ l. entries_of 0 l more) is
    ∙ ap (λ b. entries_of 0 (kept ++ k ∷ []) b) more_is
    ∙ one_more kept k bytes parts sum its
    ∙ ap (λ l. l ++ kept_entry (length l + 1) k parts ∷ []) view

pub widths_behind : (kept all : List Kept) (k : Kept) (bytes parts more : List ℕ) → all ≡ kept ++ k ∷ [] → more ≡ bytes ++ parts →
    widths kept ≡ length bytes → width_of k ≡ length parts → widths all ≡ length more
widths_behind kept all k bytes parts more is more_is sum its = ap widths is ∙ widths_more kept k bytes parts sum its ∙ sym (ap length more_is)

-- the last one takes the bytes at the end
pub last_within : (all kept : List Kept) (k : Kept) (bytes : List ℕ) → all ≡ kept ++ k ∷ [] → widths all ≡ length bytes → width_of k ≤ length bytes
last_within all kept k bytes is sum = omega (arith, ap widths is, widths-push kept k, sum)

pub last_entry : (all kept : List Kept) (k : Kept) (bytes : List ℕ) → all ≡ kept ++ k ∷ [] → widths all ≡ length bytes →
    entries_of 0 all bytes ≡ entries_of 0 kept bytes ++ kept_entry (length kept + 1) k (drop (length bytes - width_of k) bytes) ∷ []
last_entry all kept k bytes is sum =
    ap (λ l. entries_of 0 l bytes) is
    ∙ last_taken 0 kept k bytes
    ∙ ap (λ n. entries_of 0 kept bytes ++ kept_entry n k (take (width_of k) (drop (widths kept) bytes)) ∷ []) number
    ∙ ap (λ n. entries_of 0 kept bytes ++ kept_entry (length kept + 1) k (take (width_of k) (drop n bytes)) ∷ []) at
    ∙ ap (λ b. entries_of 0 kept bytes ++ kept_entry (length kept + 1) k b ∷ []) (take_all (width_of k) (drop (length bytes - width_of k) bytes) (omega (arith, at, length-drop (length bytes - width_of k) bytes, total)))
  where
    number : 0 + length kept + 1 ≡ length kept + 1
    number = omega arith

    total : widths kept + width_of k ≡ length bytes
    total = omega (arith, ap widths is, widths-push kept k, sum)

    at : widths kept ≡ length bytes - width_of k
    at = omega (arith, total)

-- where there is a last one there are entries
pub some_last : (all kept : List Kept) (k : Kept) (bytes : List ℕ) (entries : List Entry) → all ≡ kept ++ k ∷ [] → entries_of 0 all bytes ≡ entries → ¬ (entries ≡ [])
some_last all kept k bytes entries is are none =
    absurd (omega (arith, entries_of-length 0 all bytes, ap length (are ∙ none), ap length is, length-append kept (k ∷ [])))

-- what is last is the last entry
inner : (xs ys : List Entry) (x y : Entry) → xs ++ x ∷ [] ≡ ys ++ y ∷ [] → x ≡ y
inner [] [] x y is = cc
inner [] (b ∷ ys) x y is = absurd (omega (arith, ap length is, length-append ys (y ∷ [])))
inner (a ∷ xs) [] x y is = absurd (omega (arith, ap length is, length-append xs (x ∷ [])))
inner (a ∷ xs) (b ∷ ys) x y is = inner xs ys x y (tails a b (xs ++ x ∷ []) (ys ++ y ∷ []) is)
  where
    tails : (a b : Entry) (xs ys : List Entry) → a ∷ xs ≡ b ∷ ys → xs ≡ ys
    tails a b xs ys is = cc

pub is_last : (all kept : List Kept) (k : Kept) (bytes : List ℕ) (entries before : List Entry) (e : Entry) → all ≡ kept ++ k ∷ [] → widths all ≡ length bytes →
    entries_of 0 all bytes ≡ entries → entries ≡ before ++ e ∷ [] → kept_entry (length kept + 1) k (drop (length bytes - width_of k) bytes) ≡ e
is_last all kept k bytes entries before e is sum view ends =
    inner (entries_of 0 kept bytes) before (kept_entry (length kept + 1) k (drop (length bytes - width_of k) bytes)) e
    (sym (last_entry all kept k bytes is sum) ∙ view ∙ ends)

pub none_last : (all : List Kept) (bytes : List ℕ) (entries before : List Entry) (e : Entry) → length all ≡ 0 → entries_of 0 all bytes ≡ entries → entries ≡ before ++ e ∷ [] → ⊥
none_last all bytes entries before e none view ends =
    omega (arith, none, entries_of-length 0 all bytes, ap length view, ap length ends, length-append before (e ∷ []))

-- an entry with the next stamp is the next one of what it says
pub is_next : (entries : List Entry) (e : Entry) (effects : List Effect) → e.stamp ≡ next_stamp entries → effects ≡ e.effects →
    next_entry entries e.pass e.line e.actor e.act (e.reply, effects) ≡ e
is_next entries e effects stamp same = λ i. record { pass = e.pass; line = e.line; actor = e.actor; act = e.act; reply = e.reply; effects = same i; stamp = sym stamp i }
