-- What holds of each entry and those before it, at each place of the journal.
use Rattle.std.proofs.Common.{◌≡◌, List, [], ◌∷◌, ◌++◌, refl, sym, ap, subst, append-nil, append_assoc}
use Rattle.std.{specs.Prelude.All, proofs.lemmas.List.Elements.All-cons, proofs.lemmas.List.Elements.All-nil}
use Rattle.journal_core.{specs.declared.entries.Entry.Entry, specs.Entries.Each, specs.Entries.EachFrom, proofs.EachSteps.EachFrom-at}

from_places : (before : List Entry) (P : List Entry → Entry → Type 0) (journal : List Entry) →
    ((a : List Entry) (e : Entry) (b : List Entry) → journal ≡ a ++ e ∷ b → P (before ++ a) e) → EachFrom before P journal
from_places before P [] at = tt
from_places before P (x ∷ journal) at = (
  subst (λ l. P l x) (append-nil before) (at [] x journal refl),
  from_places (before ++ x ∷ []) P journal (λ a e b is. subst (λ l. P l e) (sym (append_assoc before (x ∷ []) a)) (at (x ∷ a) e b (ap (λ l. x ∷ l) is))),
)

-- it holds of each where it holds at each place
pub Each-from_places : (P : List Entry → Entry → Type 0) (journal : List Entry) →
    ((a : List Entry) (e : Entry) (b : List Entry) → journal ≡ a ++ e ∷ b → P a e) → Each P journal
Each-from_places P journal at = from_places [] P journal at

pub Each-at : (P : List Entry → Entry → Type 0) (journal a : List Entry) (e : Entry) (b : List Entry) → journal ≡ a ++ e ∷ b → Each P journal → P a e
Each-at P journal a e b is each = EachFrom-at [] P a e b (subst (Each P) is each)

all_from : (before : List Entry) (P : List Entry → Entry → Type 0) (Q : Entry → Type 0) → ((a : List Entry) (e : Entry) → P a e → Q e) →
    (journal : List Entry) → EachFrom before P journal → All Q journal
all_from before P Q weaker [] each = All-nil Q
all_from before P Q weaker (x ∷ journal) each = All-cons Q x journal (weaker before x each.0) (all_from (before ++ x ∷ []) P Q weaker journal each.1)

-- what it says of the entry alone is so of all
pub Each-all : (P : List Entry → Entry → Type 0) (Q : Entry → Type 0) → ((a : List Entry) (e : Entry) → P a e → Q e) →
    (journal : List Entry) → Each P journal → All Q journal
Each-all P Q weaker journal each = all_from [] P Q weaker journal each
