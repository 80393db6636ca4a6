-- Each kind of step keeps the rule, but for the books.
use Rattle.std.proofs.Common.{◌≡◌, ◌≢◌, ℕ, zero, suc, ◌+◌, ◌<◌, ◌≤◌, true, false, List, [], ◌∷◌, ◌++◌, length, get_or, set, sym, refl, ap, ◌∙◌, subst, ⊎_elim, inl, arith, Option, Some, None, length-set, get_or-set_other, get_or-set_same}
use Rattle.std.proofs.lemmas.List.{length_push}
use mathlib.Core.Logic.{dite}
use mathlib.Core.Option.{some}
use native.Mathlib.Decide.{ℕ_discrete}
use lib.ListN.{get_elem?}
use Rattle.atomic_table.proofs.Lists.{at_set, set_here, set_else, at_last}
use Rattle.dcd_base.specs.declared.steps.{Stamp.Stamp, Actor.Actor}
use Rattle.journal_core.{specs.declared.entries.Entry.Entry, specs.Entries.is_control, proofs.Sorting.two}
use Rattle.ruled_cells.proofs.Order.{never, below_trans, below_itself, below_after, rise_push, pending_more, pending_done, pending_new}
use Rattle.ruled_cells.proofs.Places.{at_below, at_same, at_push}
use Rattle.ruled_cells.specs.{Laws.EntersOne, Laws.AccessEnters, Laws.ChangeIs, Laws.Stays, Laws.AccessKeeps, Laws.ChangeMakes, Ruling.Names, Ruling.IsOwn, Ruling.IsShard, Ruling.Ruled}
use Rattle.ruled_cells.specs.{Stamps.stamp, Stamps.Below, Stamps.Rise, Stamps.IsControlLog, Stamps.stamps_after, Stamps.pending, declared.about.About.About, declared.about.SeatView.SeatView}
use Rattle.ruled_cells.specs.declared.cell_value.CellValue.{CellValue, TheVariants.First, TheVariants.Rest}
use Rattle.ruled_cells.specs.Telling.{next_view, begun, noted_view, changed_view, entered_view, joint_view, spent_view, MayNote, MayGiveFirst, Alike, MayEnter}

-- what holds of the item that is put in a list and of the others holds of each
pub each_set : {A : Type 0} (P : ℕ → A → Type 0) (l : List A) (i : ℕ) (a : A) → P i a → ((j : ℕ) (b : A) → j ≢ i → get_elem? l j ≡ some b → P j b) → (j : ℕ) (b : A) → get_elem? (set l i a) j ≡ some b → P j b
each_set {A} P l i a here others j b e = ⊎_elim (λ (t : (j ≡ i) × (a ≡ b)). subst (λ (x : ℕ × A). P x.0 x.1) (λ c. (sym t.0 c, t.1 c)) here) (λ (t : (j ≢ i) × (get_elem? l j ≡ some b)). others j b t.0 t.1) (at_set l i j a b e)

-- what the laws say, by the number of a cell
pub record Laws {F S : Type 0} (w : Names F S) (access : ℕ → ℕ → Actor → S → S → Type 0) (change : Entry → S → S → Type 0) : Type 0 where
  pub enters : AccessEnters w.config_of w.entries w.clock w.belongs access
  pub changes : ChangeIs w.config_of w.entries w.clock change
  pub stays : Stays w.entries w.clock w.touches w.right
  pub keeps : AccessKeeps w.entries w.clock w.right access
  pub makes : ChangeMakes w.entries w.clock w.right change

module _ {F S : Type 0} where
  first_rest : {A : Type 0} (f : F) (s : S) → First f ≡ Rest s → A
  first_rest f s e = absurd (cc)

  pub first_same : (f g : F) → ◌≡◌ {A = CellValue F S} (First f) (First g) → f ≡ g
  first_same f g e = cc

  pub rest_same : (a b : S) → ◌≡◌ {A = CellValue F S} (Rest a) (Rest b) → a ≡ b
  rest_same a b e = cc

module _ {F S : Type 0} (w : Names F S) (about : About) where
  abbrev Vals : Type 0
  Vals = List (CellValue F S)

  module _ (log : List Entry) (words : List ℕ) (vals : Vals) (views : List SeatView) (r : Ruled w about log words vals views) where
    some_cell : 0 < length vals
    some_cell = at_below vals 0 (First r.first) r.chief

    wide_0 : 0 < length words
    wide_0 = let a = r.wide in omega (arith, a)

    -- a cell of the row is not cell 0
    pub row_above : (k : ℕ) (x : S) → get_elem? vals k ≡ some (Rest x) → 0 < k
    row_above zero x e = first_rest r.first x (at_same vals 0 (First r.first) (Rest x) r.chief e)
    row_above (suc k) x e = omega arith

    -- where no entry is noted, nothing is pending
    none_pending : r.entry ≡ None → (k : ℕ) → pending w.touches r.entry r.changed k ≡ false
    none_pending e k = ap (λ o. pending w.touches o r.changed k) e

    pub took_first_rule : (id : ℕ) (v : SeatView) → get_elem? views id ≡ some v → get_or words 0 0 ≡ 0 → Ruled w about log (set words 0 (id + 1)) vals (set views id (begun v))
    took_first_rule id v at z =
        let here : get_or (set words 0 (id + 1)) 0 0 ≡ id + 1 = get_or-set_same words 0 (id + 1) 0 wide_0 in record {
          first = r.first;
          entry = None;
          changed = [];
          log_is = r.log_is ∙ ap (stamps_after (w.journal r.first)) (r.at_rest z);
          wide = length-set words 0 (id + 1) ∙ r.wide;
          chief = r.chief;
          rest = r.rest;
          about_is = r.about_is;
          sound = r.sound;
          whole = r.whole;
          whole_journal = r.whole_journal;
          whole_sound = r.whole_sound;
          control = r.control;
          actors = r.actors;
          count = get_or-set_other words 0 (length vals) (id + 1) 0 (λ e. let a = some_cell in omega (arith, e, a)) ∙ r.count;
          at_rest = λ _. refl;
          at_work = each_set (λ j u. get_or (set words 0 (id + 1)) 0 0 ≡ j + 1 → (u.entry ≡ None) × (u.changed ≡ [])) views id (begun v) (λ _. (refl, refl)) (λ j u ne e h. absurd (ne (omega (arith, sym here ∙ h))));
          quiet = each_set (λ j u. get_or (set words 0 (id + 1)) 0 0 ≢ j + 1 → u.entry ≡ None) views id (begun v) (λ _. refl) (λ j u ne e _. r.quiet j u e (λ h. omega (arith, z, h)));
          shard = λ k x e. let o = r.shard k x e in record { config_is = o.config_is; own = o.own; rise = o.rise; tidy = o.tidy; low = o.low; steady = λ _. o.steady (none_pending (r.at_rest z) k); late = λ p. never false p refl };
          informed = each_set (λ j u. u.spent ≡ false → (u.about ≡ about) × (u.seen.number ≤ length log) × (u.number ≡ j)) views id (begun v) (r.informed id v at) (λ j u ne e. r.informed j u e);
        }

    pub took_shard_rule : (id k : ℕ) → 0 < k → k < length vals → get_or words k 0 ≡ 0 → Ruled w about log (set words k (id + 1)) vals views
    took_shard_rule id k pos lt z =
        let zero_word : get_or (set words k (id + 1)) 0 0 ≡ get_or words 0 0 = get_or-set_other words k 0 (id + 1) 0 (λ e. omega (arith, e, pos)) in record {
          first = r.first;
          entry = r.entry;
          changed = r.changed;
          log_is = r.log_is;
          wide = length-set words k (id + 1) ∙ r.wide;
          chief = r.chief;
          rest = r.rest;
          about_is = r.about_is;
          sound = r.sound;
          whole = r.whole;
          whole_journal = r.whole_journal;
          whole_sound = r.whole_sound;
          control = r.control;
          actors = r.actors;
          count = get_or-set_other words k (length vals) (id + 1) 0 (λ e. omega (arith, e, lt)) ∙ r.count;
          at_rest = λ h. r.at_rest (sym zero_word ∙ h);
          at_work = λ j v e h. r.at_work j v e (sym zero_word ∙ h);
          quiet = λ j v e h. r.quiet j v e (λ q. h (zero_word ∙ q));
          shard = λ j x e. let o = r.shard j x e in record {
            config_is = o.config_is;
            own = o.own;
            rise = o.rise;
            tidy = o.tidy;
            low = o.low;
            steady = o.steady;
            late = λ p. let l = o.late p in (
              l.0,
              l.1,
              dite (ℕ_discrete j k)
                  (λ (q : j ≡ k). never (pending w.touches r.entry r.changed j) p (none_pending (r.at_rest (sym l.2 ∙ (ap (λ (y : ℕ). get_or words y 0) q ∙ z))) j))
                  (λ ne. get_or-set_other words k j (id + 1) 0 ne ∙ (l.2 ∙ sym zero_word)),
            );
          };
          informed = r.informed;
        }

    -- what the seat that has the turn of a cell knows of what is pending there
    pub same_pending : (id : ℕ) (v : SeatView) (k : ℕ) (x : S) → get_elem? views id ≡ some v → get_elem? vals k ≡ some (Rest x) → get_or words k 0 ≡ id + 1 → pending w.touches r.entry r.changed k ≡ pending w.touches v.entry v.changed k
    same_pending id v k x at e h = dite (ℕ_discrete (get_or words 0 0) (id + 1))
        (λ (q : get_or words 0 0 ≡ id + 1). let a = r.at_work id v at q in (λ i. pending w.touches (sym a.0 i) (sym a.1 i) k))
        (λ away. let none : pending w.touches v.entry v.changed k ≡ false = ap (λ o. pending w.touches o v.changed k) (r.quiet id v at away) in
        ⊎_elim (λ (p : pending w.touches r.entry r.changed k ≡ true). absurd (away (sym ((r.shard k x e).late p).2 ∙ h))) (λ (p : pending w.touches r.entry r.changed k ≡ false). p ∙ sym none) (two (pending w.touches r.entry r.changed k)))

    -- the noted entry is the last of the journal
    pub noted_count : (e : Entry) → r.entry ≡ Some e → e.stamp.count ≡ 0
    noted_count e is =
        let before : List Entry = w.journal r.first in
        let longer : log ≡ before ++ e ∷ [] = r.log_is ∙ ap (stamps_after before) is in
        ap (λ (z : Stamp). z.count) (subst IsControlLog longer r.control (length before) e (at_last before e (length before) refl)).0

    pub gave_first_rule : (id : ℕ) (v : SeatView) (f g : F) → get_elem? views id ≡ some v → get_or words 0 0 ≡ id + 1 → get_elem? vals 0 ≡ some (First f) → MayGiveFirst w (length vals) v f g
        → Ruled w about log (set words 0 0) (set vals 0 (First g)) (set views id (begun v))
    gave_first_rule id v f g at h is may =
        let work = r.at_work id v at h in
        let same : f ≡ r.first = first_same f r.first (at_same vals 0 (First f) (First r.first) is r.chief) in
        let jg : w.journal g ≡ log = may.journal_is ∙ ((λ i. stamps_after (w.journal (same i)) (work.0 i)) ∙ sym r.log_is) in
        let here : get_or (set words 0 0) 0 0 ≡ 0 = get_or-set_same words 0 0 0 wide_0 in record {
          first = g;
          entry = None;
          changed = [];
          log_is = sym jg;
          wide = length-set words 0 0 ∙ (r.wide ∙ ap (λ (y : ℕ). y + 1) (sym (length-set vals 0 (First g))));
          chief = set_here vals 0 (First g) some_cell;
          rest = λ k x lt e. each_set (λ k x. 0 < k → (s : S) × (x ≡ Rest s)) vals 0 (First g) (λ lt. absurd (omega (arith, lt))) (λ k x ne e lt. r.rest k x lt e) k x e lt;
          about_is = may.about_is ∙ (ap w.about same ∙ r.about_is);
          sound = may.sound;
          whole = g;
          whole_journal = jg;
          whole_sound = may.sound;
          control = r.control;
          actors = r.actors;
          count = ap (λ (y : ℕ). get_or (set words 0 0) y 0) (length-set vals 0 (First g)) ∙ (get_or-set_other words 0 (length vals) 0 0 (λ e. let a = some_cell in omega (arith, e, a)) ∙ r.count);
          at_rest = λ _. refl;
          at_work = λ j u e q. absurd (omega (arith, sym here ∙ q));
          quiet = each_set (λ j u. get_or (set words 0 0) 0 0 ≢ j + 1 → u.entry ≡ None) views id (begun v) (λ _. refl) (λ j u ne e _. r.quiet j u e (λ q. ne (omega (arith, sym h ∙ q))));
          shard = λ k x e. ⊎_elim (λ (q : (k ≡ 0) × (First g ≡ Rest x)). first_rest g x q.1)
              (λ (q : (k ≢ 0) × (get_elem? vals k ≡ some (Rest x))). let o = r.shard k x q.1 in
              let done : pending w.touches r.entry r.changed k ≡ false = (λ i. pending w.touches (sym work.0 i) (sym work.1 i) k) ∙ may.none_left k (row_above k x q.1) (at_below vals k (Rest x) q.1) in
              record { config_is = o.config_is; own = o.own; rise = o.rise; tidy = o.tidy; low = o.low; steady = λ _. o.steady done; late = λ p. never false p refl })
              (at_set vals 0 k (First g) (Rest x) e);
          informed = each_set (λ j u. u.spent ≡ false → (u.about ≡ about) × (u.seen.number ≤ length log) × (u.number ≡ j)) views id (begun v) (r.informed id v at) (λ j u ne e. r.informed j u e);
        }

    -- the value of the cell k of the row is b, at which nothing is pending
    put_shard : (id k : ℕ) (v v' : SeatView) (a b : S) → get_elem? views id ≡ some v → get_elem? vals k ≡ some (Rest a) → v'.entry ≡ v.entry → v'.changed ≡ v.changed
        → (v'.spent ≡ false → (v'.about ≡ about) × (v'.seen.number ≤ length log) × (v'.number ≡ id)) → pending w.touches r.entry r.changed k ≡ false
        → IsShard w about (set words k 0) (w.journal r.first) log r.entry r.changed k b → Ruled w about log (set words k 0) (set vals k (Rest b)) (set views id v')
    put_shard id k v v' a b at is same_entry same_changed told free new =
        let pos : 0 < k = row_above k a is in
        let lt : k < length vals = at_below vals k (Rest a) is in
        let zero_word : get_or (set words k 0) 0 0 ≡ get_or words 0 0 = get_or-set_other words k 0 0 0 (λ e. omega (arith, e, pos)) in record {
          first = r.first;
          entry = r.entry;
          changed = r.changed;
          log_is = r.log_is;
          wide = length-set words k 0 ∙ (r.wide ∙ ap (λ (y : ℕ). y + 1) (sym (length-set vals k (Rest b))));
          chief = set_else vals k 0 (Rest b) (λ e. omega (arith, e, pos)) ∙ r.chief;
          rest = λ j x ps e. each_set (λ j x. 0 < j → (s : S) × (x ≡ Rest s)) vals k (Rest b) (λ _. (b, refl)) (λ j x ne e ps. r.rest j x ps e) j x e ps;
          about_is = r.about_is;
          sound = r.sound;
          whole = r.whole;
          whole_journal = r.whole_journal;
          whole_sound = r.whole_sound;
          control = r.control;
          actors = r.actors;
          count = ap (λ (y : ℕ). get_or (set words k 0) y 0) (length-set vals k (Rest b)) ∙ (get_or-set_other words k (length vals) 0 0 (λ e. omega (arith, e, lt)) ∙ r.count);
          at_rest = λ h. r.at_rest (sym zero_word ∙ h);
          at_work = each_set (λ j u. get_or (set words k 0) 0 0 ≡ j + 1 → (u.entry ≡ r.entry) × (u.changed ≡ r.changed)) views id v'
              (λ h. let q = r.at_work id v at (sym zero_word ∙ h) in (same_entry ∙ q.0, same_changed ∙ q.1)) (λ j u ne e h. r.at_work j u e (sym zero_word ∙ h));
          quiet = each_set (λ j u. get_or (set words k 0) 0 0 ≢ j + 1 → u.entry ≡ None) views id v' (λ h. same_entry ∙ r.quiet id v at (λ q. h (zero_word ∙ q))) (λ j u ne e h. r.quiet j u e (λ q. h (zero_word ∙ q)));
          shard = λ j x e. ⊎_elim
              (λ (q : (j ≡ k) × (Rest b ≡ Rest x)). subst (λ (z : ℕ × S). IsShard w about (set words k 0) (w.journal r.first) log r.entry r.changed z.0 z.1) (λ i. (sym q.0 i, rest_same b x q.1 i)) new)
              (λ (q : (j ≢ k) × (get_elem? vals j ≡ some (Rest x))). let o = r.shard j x q.1 in record {
                config_is = o.config_is;
                own = o.own;
                rise = o.rise;
                tidy = o.tidy;
                low = o.low;
                steady = o.steady;
                late = λ p. let l = o.late p in (l.0, l.1, get_or-set_other words k j 0 0 q.0 ∙ (l.2 ∙ sym zero_word));
              })
              (at_set vals k j (Rest b) (Rest x) e);
          informed = each_set (λ j u. u.spent ≡ false → (u.about ≡ about) × (u.seen.number ≤ length log) × (u.number ≡ j)) views id v' told (λ j u ne e. r.informed j u e);
        }

    -- a cell that is like the one taken
    pub gave_alike_rule : (id k : ℕ) (v : SeatView) (a b : S) → get_elem? views id ≡ some v → get_elem? vals k ≡ some (Rest a) → pending w.touches r.entry r.changed k ≡ false → Alike w a b → Ruled w about log (set words k 0) (set vals k (Rest b)) (set views id v)
    gave_alike_rule id k v a b at is free like =
        let o = r.shard k a is in
        put_shard id k v v a b at is refl refl (r.informed id v at) free record {
          config_is = like.config_is ∙ o.config_is;
          own = λ i e h. o.own i e (ap (λ es. get_elem? es i) (sym like.entries_are) ∙ h);
          rise = subst Rise (sym like.entries_are) o.rise;
          tidy = λ i e h below. o.tidy i e (ap (λ es. get_elem? es i) (sym like.entries_are) ∙ h) (subst (λ (z : Stamp). Below z e.stamp) like.clock_is below);
          low = subst (λ (z : Stamp). z.number ≤ length log) (sym like.clock_is) o.low;
          steady = λ _. like.right_too k log (o.steady free);
          late = λ p. never (pending w.touches r.entry r.changed k) p free;
        }

    -- a cell with one more access
    pub gave_access_rule : (access : ℕ → ℕ → Actor → S → S → Type 0) (change : Entry → S → S → Type 0) → Laws w access change → (id k : ℕ) (v : SeatView) (a b : S) → get_elem? views id ≡ some v → v.spent ≡ false → get_elem? vals k ≡ some (Rest a)
        → pending w.touches r.entry r.changed k ≡ false → (m : MayEnter w access k id v a b) (n : EntersOne w.config_of w.entries w.clock w.belongs k id m.actor a b) → Ruled w about log (set words k 0) (set vals k (Rest b)) (set views id (entered_view n.entry v))
    gave_access_rule access change laws id k v a b at used is free m n =
        let o = r.shard k a is in
        let t = r.informed id v at used in
        let seen_low : v.seen.number ≤ length log = t.1 in
        let low = o.low in
        let low' : (w.clock b).number ≤ length log = ⊎_elim (λ (q : (w.clock b).number ≡ v.seen.number). omega (arith, q, seen_low)) (λ (q : (w.clock b).number ≡ (w.clock a).number). omega (arith, q, low)) m.number in
        put_shard id k v (entered_view n.entry v) a b at is refl refl (λ q. (t.0, subst (λ (z : Stamp). z.number ≤ length log) n.clock_is low', t.2)) free record {
          config_is = n.config_is ∙ o.config_is;
          own = λ i e h. ⊎_elim (λ (q : get_elem? (w.entries a) i ≡ some e). o.own i e q)
              (λ (q : (n.entry ≡ e) × (i ≡ length (w.entries a))). subst (IsOwn w about k) q.0 record {
                belongs = subst (λ c. w.belongs c k n.entry) o.config_is n.belongs_here;
                access = n.access;
                counted = n.counted;
                actor = (λ i. get_elem? (sym t.0 i).actors (n.pass i)) ∙ (m.actor_is ∙ ap some (sym n.actor_is));
              })
              (at_push (w.entries a) n.entry e i (ap (λ es. get_elem? es i) (sym n.entries_are) ∙ h));
          rise = subst Rise (sym n.entries_are) (rise_push (w.entries a) n.entry o.rise (λ i f h. below_after f.stamp (w.clock a) n.entry.stamp (o.tidy i f h) (subst (Below (w.clock a)) n.clock_is m.above_clock)));
          tidy = λ i e h below. ⊎_elim (λ (q : get_elem? (w.entries a) i ≡ some e). o.tidy i e q (below_trans (w.clock a) (w.clock b) e.stamp m.above_clock below))
              (λ (q : (n.entry ≡ e) × (i ≡ length (w.entries a))). below_itself (w.clock b) e.stamp (n.clock_is ∙ ap (λ (z : Entry). z.stamp) q.0) below)
              (at_push (w.entries a) n.entry e i (ap (λ es. get_elem? es i) (sym n.entries_are) ∙ h));
          low = low';
          steady = λ _. laws.keeps k id m.actor a b log r.control o.tidy m.above_clock m.is_access (o.steady free);
          late = λ p. never (pending w.touches r.entry r.changed k) p free;
        }

    -- a cell changed by the noted entry
    pub gave_change_rule : (access : ℕ → ℕ → Actor → S → S → Type 0) (change : Entry → S → S → Type 0) → Laws w access change → (id k : ℕ) (v : SeatView) (a b : S) (e : Entry) → get_elem? views id ≡ some v → get_elem? vals k ≡ some (Rest a)
        → get_or words k 0 ≡ id + 1 → pending w.touches r.entry r.changed k ≡ true → v.entry ≡ Some e → change e a b → Ruled w about log (set words k 0) (set vals k (Rest b)) (set views id (changed_view k v))
    gave_change_rule access change laws id k v a b e at is turn waits noted does =
        let o = r.shard k a is in
        let l = o.late waits in
        let pos : 0 < k = row_above k a is in
        let lt : k < length vals = at_below vals k (Rest a) is in
        let zero_word : get_or (set words k 0) 0 0 ≡ get_or words 0 0 = get_or-set_other words k 0 0 0 (λ q. omega (arith, q, pos)) in
        let work = r.at_work id v at (sym l.2 ∙ turn) in
        let entry_is : r.entry ≡ Some e = sym work.0 ∙ noted in
        let longer : log ≡ w.journal r.first ++ e ∷ [] = r.log_is ∙ ap (stamps_after (w.journal r.first)) entry_is in
        let c = laws.changes e a b does in
        let control : IsControlLog (w.journal r.first ++ e ∷ []) = subst IsControlLog longer r.control in
        let number : e.stamp ≡ stamp (length (w.journal r.first) + 1) 0 = (control (length (w.journal r.first)) e (at_last (w.journal r.first) e (length (w.journal r.first)) refl)).0 in
        let number' : e.stamp.number ≡ length (w.journal r.first) + 1 = ap (λ (z : Stamp). z.number) number in
        let low = l.1 in
        let above : Below (w.clock a) e.stamp = inl (omega (arith, number', low)) in
        let size : length log ≡ length (w.journal r.first) + 1 = ap length longer ∙ length_push (w.journal r.first) e in record {
          first = r.first;
          entry = r.entry;
          changed = k ∷ r.changed;
          log_is = r.log_is;
          wide = length-set words k 0 ∙ (r.wide ∙ ap (λ (y : ℕ). y + 1) (sym (length-set vals k (Rest b))));
          chief = set_else vals k 0 (Rest b) (λ q. omega (arith, q, pos)) ∙ r.chief;
          rest = λ j x ps f. each_set (λ j x. 0 < j → (s : S) × (x ≡ Rest s)) vals k (Rest b) (λ _. (b, refl)) (λ j x ne f ps. r.rest j x ps f) j x f ps;
          about_is = r.about_is;
          sound = r.sound;
          whole = r.whole;
          whole_journal = r.whole_journal;
          whole_sound = r.whole_sound;
          control = r.control;
          actors = r.actors;
          count = ap (λ (y : ℕ). get_or (set words k 0) y 0) (length-set vals k (Rest b)) ∙ (get_or-set_other words k (length vals) 0 0 (λ q. omega (arith, q, lt)) ∙ r.count);
          at_rest = λ h. r.at_rest (sym zero_word ∙ h);
          at_work = each_set (λ j u. get_or (set words k 0) 0 0 ≡ j + 1 → (u.entry ≡ r.entry) × (u.changed ≡ k ∷ r.changed)) views id (changed_view k v)
              (λ h. (work.0, ap (λ (z : List ℕ). k ∷ z) work.1)) (λ j u ne f h. absurd (ne (let z = sym zero_word ∙ h in let y = sym l.2 ∙ turn in omega (arith, z, y))));
          quiet = each_set (λ j u. get_or (set words k 0) 0 0 ≢ j + 1 → u.entry ≡ None) views id (changed_view k v) (λ h. r.quiet id v at (λ q. h (zero_word ∙ q))) (λ j u ne f h. r.quiet j u f (λ q. h (zero_word ∙ q)));
          shard = λ j x f. ⊎_elim
              (λ (q : (j ≡ k) × (Rest b ≡ Rest x)). subst (λ (z : ℕ × S). IsShard w about (set words k 0) (w.journal r.first) log r.entry (k ∷ r.changed) z.0 z.1) (λ i. (sym q.0 i, rest_same b x q.1 i)) record {
                config_is = c.config_is ∙ o.config_is;
                own = λ i f h. o.own i f (ap (λ es. get_elem? es i) (sym c.entries_are) ∙ h);
                rise = subst Rise (sym c.entries_are) o.rise;
                tidy = λ i f h below. o.tidy i f (ap (λ es. get_elem? es i) (sym c.entries_are) ∙ h) (below_trans (w.clock a) e.stamp f.stamp above (subst (λ (z : Stamp). Below z f.stamp) c.clock_is below));
                low = subst (λ (z : Stamp). z.number ≤ length log) (sym c.clock_is) (omega (arith, number', size));
                steady = λ _. subst (w.right k b) (sym longer) (laws.makes k a b (w.journal r.first) e control o.tidy above does l.0);
                late = λ p. never (pending w.touches r.entry (k ∷ r.changed) k) p (pending_done w.touches r.entry r.changed k);
              })
              (λ (q : (j ≢ k) × (get_elem? vals j ≡ some (Rest x))). let y = r.shard j x q.1 in let same = pending_more w.touches r.entry r.changed k j q.0 in record {
                config_is = y.config_is;
                own = y.own;
                rise = y.rise;
                tidy = y.tidy;
                low = y.low;
                steady = λ p. y.steady (sym same ∙ p);
                late = λ p. let z = y.late (sym same ∙ p) in (z.0, z.1, get_or-set_other words k j 0 0 q.0 ∙ (z.2 ∙ sym zero_word));
              })
              (at_set vals k j (Rest b) (Rest x) f);
          informed = each_set (λ j u. u.spent ≡ false → (u.about ≡ about) × (u.seen.number ≤ length log) × (u.number ≡ j)) views id (changed_view k v) (r.informed id v at) (λ j u ne f. r.informed j u f);
        }

    -- a command or a scrub is noted
    pub noted_rule : (access : ℕ → ℕ → Actor → S → S → Type 0) (change : Entry → S → S → Type 0) → Laws w access change → (id : ℕ) (taken : List (Option (CellValue F S))) (v : SeatView) (f g : F) (e : Entry) → get_elem? views id ≡ some v → v.spent ≡ false
        → get_or words 0 0 ≡ id + 1 → get_elem? vals 0 ≡ some (First f) → MayNote w (length vals) id taken v f g e → ((k : ℕ) → 0 < k → k < length vals → w.touches k e ≡ true → get_or words k 0 ≡ id + 1)
        → Ruled w about (log ++ e ∷ []) (set words (length vals) (length (w.journal g))) vals (set views id (noted_view e v))
    noted_rule access change laws id taken v f g e at used turn is may turns =
        let m : ℕ = length (w.journal g) in
        let words' : List ℕ = set words (length vals) m in
        let t = r.informed id v at used in
        let work = r.at_work id v at turn in
        let none : r.entry ≡ None = sym work.0 ∙ may.not_yet in
        let same : f ≡ r.first = first_same f r.first (at_same vals 0 (First f) (First r.first) is r.chief) in
        let log_first : log ≡ w.journal r.first = r.log_is ∙ ap (stamps_after (w.journal r.first)) none in
        let whole_is : w.journal g ≡ log ++ e ∷ [] = may.longer ∙ ((λ i. w.journal (same i) ++ e ∷ []) ∙ ap (λ (l : List Entry). l ++ e ∷ []) (sym log_first)) in
        let long : length (log ++ e ∷ []) ≡ length log + 1 = length_push log e in
        let count_is : m ≡ length log + 1 = ap length whole_is ∙ long in
        let number : e.stamp ≡ stamp (length log + 1) 0 = may.stamp_is ∙ ap (λ (n : ℕ). stamp n 0) count_is in
        let number' : e.stamp.number ≡ length log + 1 = ap (λ (z : Stamp). z.number) number in
        let other : (k : ℕ) → k < length vals → get_or words' k 0 ≡ get_or words k 0 = λ k lt. get_or-set_other words (length vals) k m 0 (λ q. omega (arith, q, lt)) in
        let zero_word : get_or words' 0 0 ≡ get_or words 0 0 = other 0 some_cell in
        let control : IsControlLog (log ++ e ∷ []) = λ k h q. ⊎_elim (λ (p : get_elem? log k ≡ some h). r.control k h p)
        (λ (p : (e ≡ h) × (k ≡ length log)). subst (λ (z : Entry). (z.stamp ≡ stamp (k + 1) 0) × (is_control z.act ≡ true)) p.0 (number ∙ ap (λ (n : ℕ). stamp (n + 1) 0) (sym p.1), may.control)) (at_push log e h k q) in record {
          first = r.first;
          entry = Some e;
          changed = [];
          log_is = ap (λ (l : List Entry). l ++ e ∷ []) log_first;
          wide = length-set words (length vals) m ∙ r.wide;
          chief = r.chief;
          rest = r.rest;
          about_is = r.about_is;
          sound = r.sound;
          whole = g;
          whole_journal = whole_is;
          whole_sound = may.sound;
          control = control;
          actors = λ k h q. ⊎_elim (λ (p : get_elem? log k ≡ some h). r.actors k h p)
              (λ (p : (e ≡ h) × (k ≡ length log)). subst (λ (z : Entry). get_elem? about.actors z.pass ≡ some z.actor) p.0 ((λ i. get_elem? (sym t.0 i).actors (may.pass i)) ∙ may.actor)) (at_push log e h k q);
          count = get_or-set_same words (length vals) m 0 (let a = r.wide in omega (arith, a)) ∙ (count_is ∙ sym long);
          at_rest = λ h. absurd (omega (arith, zero_word, turn, h));
          at_work = each_set (λ j u. get_or words' 0 0 ≡ j + 1 → (u.entry ≡ Some e) × (u.changed ≡ [])) views id (noted_view e v) (λ _. (refl, refl)) (λ j u ne q h. absurd (ne (omega (arith, zero_word, turn, h))));
          quiet = each_set (λ j u. get_or words' 0 0 ≢ j + 1 → u.entry ≡ None) views id (noted_view e v) (λ h. absurd (h (zero_word ∙ turn))) (λ j u ne q h. r.quiet j u q (λ p. h (zero_word ∙ p)));
          shard = λ k x q. let o = r.shard k x q in let lt : k < length vals = at_below vals k (Rest x) q in let fresh = pending_new w.touches e k in let low = o.low in
              let right : w.right k x log = o.steady (none_pending none k) in record {
                config_is = o.config_is;
                own = o.own;
                rise = o.rise;
                tidy = o.tidy;
                low = omega (arith, low, long);
                steady = λ p. laws.stays k x log e control o.tidy o.low (sym fresh ∙ p) right;
                late = λ p. (subst (w.right k x) log_first right, subst (λ (l : List Entry). (w.clock x).number ≤ length l) log_first o.low, other k lt ∙ (turns k (row_above k x q) lt (sym fresh ∙ p) ∙ sym (zero_word ∙ turn)));
              };
          informed = each_set (λ j u. u.spent ≡ false → (u.about ≡ about) × (u.seen.number ≤ length (log ++ e ∷ [])) × (u.number ≡ j)) views id (noted_view e v)
              (λ h. (t.0, omega (arith, number', long), t.2)) (λ j u ne q h. let y = r.informed j u q h in let low = y.1 in (y.0, omega (arith, low, long), y.2));
        }

    -- a seat is made
    pub admitted_rule : (v : SeatView) → get_elem? views 0 ≡ some v → v.spent ≡ false → get_or words 0 0 ≢ length views + 1 → Ruled w about log words vals (views ++ next_view (length views) v ∷ [])
    admitted_rule v at used free =
        let u : SeatView = next_view (length views) v in record {
          first = r.first;
          entry = r.entry;
          changed = r.changed;
          log_is = r.log_is;
          wide = r.wide;
          chief = r.chief;
          rest = r.rest;
          about_is = r.about_is;
          sound = r.sound;
          whole = r.whole;
          whole_journal = r.whole_journal;
          whole_sound = r.whole_sound;
          control = r.control;
          actors = r.actors;
          count = r.count;
          at_rest = r.at_rest;
          at_work = λ j x e h. ⊎_elim (λ (p : get_elem? views j ≡ some x). r.at_work j x p h) (λ (p : (u ≡ x) × (j ≡ length views)). absurd (free (h ∙ ap (λ (z : ℕ). z + 1) p.1))) (at_push views u x j e);
          quiet = λ j x e h. ⊎_elim (λ (p : get_elem? views j ≡ some x). r.quiet j x p h) (λ (p : (u ≡ x) × (j ≡ length views)). ap (λ (z : SeatView). z.entry) (sym p.0)) (at_push views u x j e);
          shard = r.shard;
          informed = λ j x e h. ⊎_elim (λ (p : get_elem? views j ≡ some x). r.informed j x p h)
              (λ (p : (u ≡ x) × (j ≡ length views)). subst (λ (z : ℕ × SeatView). (z.1.about ≡ about) × (z.1.seen.number ≤ length log) × (z.1.number ≡ z.0)) (λ i. (sym p.1 i, p.0 i)) ((r.informed 0 v at used).0, omega arith, refl)) (at_push views u x j e);
        }

    -- a seat is taken in
    pub merged_rule : (id other : ℕ) (v u : SeatView) → get_elem? views id ≡ some v → get_or words 0 0 ≢ other + 1 → Ruled w about log words vals (set (set views id (joint_view v u)) other spent_view)
    merged_rule id other v u at free = record {
      first = r.first;
      entry = r.entry;
      changed = r.changed;
      log_is = r.log_is;
      wide = r.wide;
      chief = r.chief;
      rest = r.rest;
      about_is = r.about_is;
      sound = r.sound;
      whole = r.whole;
      whole_journal = r.whole_journal;
      whole_sound = r.whole_sound;
      control = r.control;
      actors = r.actors;
      count = r.count;
      at_rest = r.at_rest;
      at_work = let P : ℕ → SeatView → Type 0 = λ j x. get_or words 0 0 ≡ j + 1 → (x.entry ≡ r.entry) × (x.changed ≡ r.changed) in
          each_set P (set views id (joint_view v u)) other spent_view (λ h. absurd (free h)) (λ j x _ e. each_set P views id (joint_view v u) (r.at_work id v at) (λ j x _ e. r.at_work j x e) j x e);
      quiet = let P : ℕ → SeatView → Type 0 = λ j x. get_or words 0 0 ≢ j + 1 → x.entry ≡ None in
          each_set P (set views id (joint_view v u)) other spent_view (λ _. refl) (λ j x _ e. each_set P views id (joint_view v u) (r.quiet id v at) (λ j x _ e. r.quiet j x e) j x e);
      shard = r.shard;
      informed = let P : ℕ → SeatView → Type 0 = λ j x. x.spent ≡ false → (x.about ≡ about) × (x.seen.number ≤ length log) × (x.number ≡ j) in
          each_set P (set views id (joint_view v u)) other spent_view (λ h. absurd (let q : true ≡ false = h in (cc))) (λ j x _ e. each_set P views id (joint_view v u) (r.informed id v at) (λ j x _ e. r.informed j x e) j x e);
    }
