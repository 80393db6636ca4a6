-- Where an entry goes that is put into a journal, and a list that is in order by itself.
use Rattle.std.proofs.Common.{◌≡◌, Bool, true, false, cond, List, [], ◌∷◌, ◌++◌, refl, ap, ◌∙◌, append-nil, arith}
use Rattle.std.proofs.lemmas.{Bool.Decides.nat_tests, List.Elements.All-cons, List.Elements.All-head, List.Elements.All-nil, List.Elements.All-tail, List.Elements.All-weaker}
use Rattle.std.specs.Prelude.{fold, All, IsFalse}
use Rattle.cci_codec.specs.dcd_base.specs.declared.steps.Stamp.{Stamp}
use Rattle.journal_core.{proofs.Rising.rising_head, proofs.Rising.rising_tail, specs.Merging.Rising, specs.Merging.in_order, specs.Merging.insert_entry, specs.Merging.is_later}
use Rattle.journal_core.specs.declared.entries.Entry.{Entry}

-- The entry was put behind a front and before what is later.
pub record IsPut (e : Entry) (journal after : List Entry) : Type 0 where
  pub front : List Entry
  pub rest : List Entry
  pub was : journal ≡ front ++ rest
  pub now : after ≡ front ++ e ∷ rest
  pub later : All (λ (f : Entry). is_later f.stamp e.stamp ≡ true) rest

above_later : (e f g : Stamp) → is_later f e ≡ true → IsFalse (is_later f g) → is_later g e ≡ true
above_later e f g first second = grind (arith, nat_tests)

put_first : (e f : Entry) (journal : List Entry) → is_later f.stamp e.stamp ≡ true → Rising (f ∷ journal) → All (λ (g : Entry). is_later g.stamp e.stamp ≡ true) (f ∷ journal)
put_first e f journal later up =
    All-cons (λ (g : Entry). is_later g.stamp e.stamp ≡ true) f journal later
    (All-weaker (λ (g : Entry). IsFalse (is_later f.stamp g.stamp)) (λ (g : Entry). is_later g.stamp e.stamp ≡ true) (λ g h. above_later e.stamp f.stamp g.stamp later h) journal
    (rising_head f journal up))

pub insert_entry-put : (e : Entry) (journal : List Entry) → Rising journal → IsPut e journal (insert_entry e journal)
insert_entry-put e [] up = record { front = []; rest = []; was = refl; now = refl; later = All-nil (λ (f : Entry). is_later f.stamp e.stamp ≡ true) }
insert_entry-put e (f ∷ journal) up =
    by (is_later f.stamp e.stamp) refl (insert_entry-put e journal (rising_tail f journal up))
  where
    by : (b : Bool) → is_later f.stamp e.stamp ≡ b → IsPut e journal (insert_entry e journal) → IsPut e (f ∷ journal) (cond b (e ∷ f ∷ journal) (f ∷ insert_entry e journal))
    by true is rest = record { front = []; rest = f ∷ journal; was = refl; now = refl; later = put_first e f journal is up }
    by false is rest = record { front = f ∷ rest.front; rest = rest.rest; was = ap (λ l. f ∷ l) rest.was; now = ap (λ l. f ∷ l) rest.now; later = rest.later }

-- ---- many entries

abbrev pub insert_all : List Entry → List Entry → List Entry
insert_all done entries = fold (λ journal e. insert_entry e journal) done entries

-- an entry stays in front of all that are not earlier
pub first_stays : (x : Entry) (done zs : List Entry) → All (λ (z : Entry). IsFalse (is_later x.stamp z.stamp)) zs → insert_all (x ∷ done) zs ≡ x ∷ insert_all done zs
first_stays x done [] all = refl
first_stays x done (z ∷ zs) all =
    ap (λ b. insert_all (cond b (z ∷ x ∷ done) (x ∷ insert_entry z done)) zs) (All-head (λ (z : Entry). IsFalse (is_later x.stamp z.stamp)) z zs all)
    ∙ first_stays x (insert_entry z done) zs (All-tail (λ (z : Entry). IsFalse (is_later x.stamp z.stamp)) z zs all)

-- a list that rises is in order
pub in_order_alone : (xs : List Entry) → Rising xs → in_order xs ≡ xs
in_order_alone [] up = refl
in_order_alone (x ∷ xs) up = first_stays x [] xs (rising_head x xs up) ∙ ap (λ ys. x ∷ ys) (in_order_alone xs (rising_tail x xs up))

pub in_order_before_none : (xs : List Entry) → Rising xs → in_order (xs ++ []) ≡ xs
in_order_before_none xs up = ap in_order (append-nil xs) ∙ in_order_alone xs up
