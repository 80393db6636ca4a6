-- What holds of each entry and those before it, over one more entry and over a part.
use Rattle.std.proofs.Common.{List, [], ◌∷◌, ◌++◌, sym, subst, append_assoc, append-nil}
use Rattle.journal_core.specs.{declared.entries.Entry.Entry, Entries.Each, Entries.EachFrom}

-- one more entry at the end
pub EachFrom-push : (before : List Entry) (P : List Entry → Entry → Type 0) (journal : List Entry) (e : Entry) → EachFrom before P journal → P (before ++ journal) e → EachFrom before P (journal ++ e ∷ [])
EachFrom-push before P [] e all last = (subst (λ b. P b e) (append-nil before) last, tt)
EachFrom-push before P (x ∷ journal) e all last =
    (all.0, EachFrom-push (before ++ x ∷ []) P journal e all.1 (subst (λ b. P b e) (sym (append_assoc before (x ∷ []) journal)) last))

-- a front keeps it
pub EachFrom-front : (before : List Entry) (P : List Entry → Entry → Type 0) (journal rest : List Entry) → EachFrom before P (journal ++ rest) → EachFrom before P journal
EachFrom-front before P [] rest all = tt
EachFrom-front before P (x ∷ journal) rest all = (all.0, EachFrom-front (before ++ x ∷ []) P journal rest all.1)

-- it holds of the entry at any place
pub EachFrom-at : (before : List Entry) (P : List Entry → Entry → Type 0) (journal : List Entry) (e : Entry) (rest : List Entry) → EachFrom before P (journal ++ e ∷ rest) → P (before ++ journal) e
EachFrom-at before P [] e rest all = subst (λ b. P b e) (sym (append-nil before)) all.0
EachFrom-at before P (x ∷ journal) e rest all =
    subst (λ b. P b e) (append_assoc before (x ∷ []) journal) (EachFrom-at (before ++ x ∷ []) P journal e rest all.1)

pub Each-push : (P : List Entry → Entry → Type 0) (journal : List Entry) (e : Entry) → Each P journal → P journal e → Each P (journal ++ e ∷ [])
Each-push P journal e all last = EachFrom-push [] P journal e all last

pub Each-front : (P : List Entry → Entry → Type 0) (journal rest : List Entry) → Each P (journal ++ rest) → Each P journal
Each-front P journal rest all = EachFrom-front [] P journal rest all
