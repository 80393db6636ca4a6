-- Each kind of step keeps the whole rule, as the cells taken in turns ask it.
use Rattle.std.proofs.Common.{◌≡◌, ◌⊎◌, ℕ, ◌+◌, ◌<◌, ◌≤◌, true, false, List, [], ◌∷◌, ◌++◌, length, get_or, set, sym, refl, ap, ◌∙◌, subst, ⊎_elim, inl, inr, arith, Option, Some}
use mathlib.Core.Option.{some}
use lib.ListN.{get_elem?}
use Rattle.atomic_table.proofs.Lists.{set_again, at_last}
use Rattle.dcd_base.specs.declared.steps.{Stamp.Stamp, Actor.Actor}
use Rattle.journal_core.{specs.declared.entries.Entry.Entry, proofs.Sorting.two}
use Rattle.ruled_cells.proofs.BookSteps.{books_keep, books_gain, books_admit, books_merge}
use Rattle.ruled_cells.proofs.{CountSteps.few_in_all, CountSteps.counted_views, CountSteps.counted_put, CountSteps.counted_admit, CountSteps.counted_merge, Order.pending_some}
use Rattle.ruled_cells.proofs.{Places.at_below, Places.at_same, Weights.keeps_same, Weights.keeps_put, Weights.gains_put, Weights.gains_noted}
use Rattle.ruled_cells.specs.{Booking.weight_one, Booking.total, Booking.Whole, Ruling.Names, Ruling.Ruled, Stamps.stamp, Stamps.Below, Stamps.IsControlLog, Stamps.stamps_after, Stamps.pending}
use Rattle.ruled_cells.specs.{Turning.HasTurn, Turning.TakesTurn, Turning.GivesTurn, Turning.Marks, Turning.Admits, Turning.Merges, declared.about.About.About, declared.about.SeatView.SeatView}
use Rattle.ruled_cells.specs.declared.cell_value.CellValue.{CellValue, TheVariants.First, TheVariants.Rest}
use Rattle.ruled_cells.specs.Telling.{next_view, begun, noted_view, changed_view, entered_view, joint_view, spent_view, took_first, took_shard, noted_as, MayNote, MayGiveFirst, gave_first, Alike, MayEnter, MayGive, gave_shard}
use Rattle.ruled_cells.proofs.RuleSteps.{Laws, first_same, took_first_rule, took_shard_rule, same_pending, gave_first_rule, gave_alike_rule, gave_access_rule, gave_change_rule, noted_count, noted_rule, admitted_rule, merged_rule}

module _ {F S : Type 0} (w : Names F S) (about : About) where
  abbrev Holds : List ℕ → List (CellValue F S) → List SeatView → Type 0
  Holds = Whole w about

  same_views : (views : List SeatView) (id : ℕ) (v : SeatView) → get_elem? views id ≡ some v → (words : List ℕ) (vals : List (CellValue F S)) → Holds words vals views → Holds words vals (set views id v)
  same_views views id v at words vals h = subst (Holds words vals) (sym (set_again views id v at)) h

  pub takes_first : (cells id : ℕ) (taken : List (Option (CellValue F S))) (v : SeatView) → v.spent ≡ false → TakesTurn Holds cells id taken v 0 (took_first w)
  takes_first cells id taken v used words vals views x full crowd h has at z is =
      let r = h.ruled in
      let t = r.informed id v at used in
      let log_first : h.log ≡ w.journal r.first = r.log_is ∙ ap (stamps_after (w.journal r.first)) (r.at_rest z) in (
        begun v,
        record {
          log = h.log;
          ruled = took_first_rule w about h.log words vals views r id v at z;
          books = books_keep w h.log vals views h.books h.log vals (keeps_same w h.log vals) id v (begun v) at used refl refl refl refl;
          counted = counted_views w h.log vals views h.counted h.log (omega arith) id (begun v) (h.counted.seens id v at);
        },
        (r.first, at_same vals 0 x (First r.first) is r.chief, refl, r.sound, r.about_is ∙ sym t.0, subst IsControlLog log_first r.control, subst (λ (l : List Entry). v.seen.number ≤ length l) log_first t.1),
      )

  pub takes_shard : (cells id k : ℕ) (taken : List (Option (CellValue F S))) (v : SeatView) → v.spent ≡ false → 0 < k → TakesTurn Holds cells id taken v k (took_shard w)
  takes_shard cells id k taken v used pos words vals views x full crowd h has at z is =
      let r = h.ruled in
      let t = r.informed id v at used in
      let s = r.rest k x pos is in
      let is' : get_elem? vals k ≡ some (Rest s.0) = is ∙ ap some s.1 in
      let o = r.shard k s.0 is' in
      let small = few_in_all w h.log vals views h.books crowd in
      let clock = h.counted.clocks k s.0 is' in
      let seen = h.counted.seens id v at used in (
        v,
        same_views views id v at (set words k (id + 1)) vals record { log = h.log; ruled = took_shard_rule w about h.log words vals views r id k pos (at_below vals k x is) z; books = h.books; counted = h.counted },
        (s.0, s.1, refl, o.config_is ∙ ap (λ (a : About). a.config) (sym t.0), o.tidy, omega (arith, seen, small), omega (arith, clock, small)),
      )

  pub gives_first : (cells id : ℕ) (taken : List (Option (CellValue F S))) (v : SeatView) (f g : F) → v.spent ≡ false → HasTurn taken 0 (First f) → MayGiveFirst w cells v f g → GivesTurn Holds cells id taken v 0 (First f) (First g) (gave_first w)
  gives_first cells id taken v f g used turn may words vals views full crowd h has at =
      let r = h.ruled in
      let t = has.turn 0 (First f) turn in
      let keeps = keeps_put w h.log vals 0 (First f) (First g) t.1 refl in
      let same = keeps weight_one in (
        begun v,
        record {
          log = h.log;
          ruled = gave_first_rule w about h.log words vals views r id v f g at t.0 t.1 (subst (λ (z : ℕ). MayGiveFirst w z v f g) (sym full) may);
          books = books_keep w h.log vals views h.books h.log (set vals 0 (First g)) keeps id v (begun v) at used refl refl refl refl;
          counted = counted_put w h.log vals views h.counted 0 id (First g) (begun v) (omega (arith, same)) (λ s q. absurd (let p : First g ≡ Rest s = q in (cc))) (λ q. let a = h.counted.seens id v at used in omega (arith, a, same));
        },
        refl,
      )

  module _ (access : ℕ → ℕ → Actor → S → S → Type 0) (change : Entry → S → S → Type 0) (laws : Laws w access change) where
    pub alike : (id k : ℕ) (v : SeatView) (a b : S) (words : List ℕ) (vals : List (CellValue F S)) (views : List SeatView) → v.spent ≡ false → (h : Holds words vals views) → get_elem? views id ≡ some v → get_elem? vals k ≡ some (Rest a)
        → pending w.touches h.ruled.entry h.ruled.changed k ≡ false → Alike w a b → Holds (set words k 0) (set vals k (Rest b)) (set views id v)
    alike id k v a b words vals views used h at is free like =
        let keeps = keeps_put w h.log vals k (Rest a) (Rest b) is like.entries_are in
        let same = keeps weight_one in record {
          log = h.log;
          ruled = gave_alike_rule w about h.log words vals views h.ruled id k v a b at is free like;
          books = books_keep w h.log vals views h.books h.log (set vals k (Rest b)) keeps id v v at used refl refl refl refl;
          counted = counted_put w h.log vals views h.counted k id (Rest b) v (omega (arith, same))
              (λ s q. let p : s ≡ b = cc in let c = h.counted.clocks k a is in let e : (w.clock s).count ≡ (w.clock a).count = ap (λ (z : S). (w.clock z).count) p ∙ ap (λ (z : Stamp). z.count) like.clock_is in omega (arith, same, c, e))
              (λ q. let c = h.counted.seens id v at used in omega (arith, c, same));
        }

    enters : (id k : ℕ) (v : SeatView) (a b : S) (words : List ℕ) (vals : List (CellValue F S)) (views : List SeatView) → v.spent ≡ false → (h : Holds words vals views) → get_elem? views id ≡ some v → get_elem? vals k ≡ some (Rest a)
        → pending w.touches h.ruled.entry h.ruled.changed k ≡ false → (m : MayEnter w access k id v a b) → Holds (set words k 0) (set vals k (Rest b)) (set views id (entered_view (laws.enters k id m.actor a b m.is_access).entry v))
    enters id k v a b words vals views used h at is free m =
        let n = laws.enters k id m.actor a b m.is_access in
        let gains = gains_put w h.log vals k (Rest a) (Rest b) n.entry is n.entries_are in
        let more = gains weight_one in
        let c = h.counted.clocks k a is in
        let d = h.counted.seens id v at used in
        let count : (w.clock b).count ≡ n.entry.stamp.count = ap (λ (z : Stamp). z.count) n.clock_is in
        let low : (w.clock b).count ≤ total w weight_one h.log (set vals k (Rest b)) = ⊎_elim (λ (q : (w.clock b).count ≤ v.seen.count + 1). omega (arith, q, d, more)) (λ (q : (w.clock b).count ≤ (w.clock a).count + 1). omega (arith, q, c, more)) m.counted in record {
          log = h.log;
          ruled = gave_access_rule w about h.log words vals views h.ruled access change laws id k v a b at used is free m n;
          books = books_gain w h.log vals views h.books h.log (set vals k (Rest b)) n.entry gains id v (entered_view n.entry v) at used n.pass (subst (Below v.seen) n.clock_is m.above_seen) m.room refl refl refl used;
          counted = counted_put w h.log vals views h.counted k id (Rest b) (entered_view n.entry v) (omega (arith, more))
              (λ s q. let p : s ≡ b = cc in let e : (w.clock s).count ≡ (w.clock b).count = ap (λ (z : S). (w.clock z).count) p in omega (arith, low, e))
              (λ q. omega (arith, low, count));
        }

    changes : (id k : ℕ) (v : SeatView) (a b : S) (e : Entry) (words : List ℕ) (vals : List (CellValue F S)) (views : List SeatView) → v.spent ≡ false → (h : Holds words vals views) → get_elem? views id ≡ some v → get_elem? vals k ≡ some (Rest a)
        → get_or words k 0 ≡ id + 1 → pending w.touches h.ruled.entry h.ruled.changed k ≡ true → v.entry ≡ Some e → change e a b → Holds (set words k 0) (set vals k (Rest b)) (set views id (changed_view k v))
    changes id k v a b e words vals views used h at is turn waits noted does =
        let c = laws.changes e a b does in
        let keeps = keeps_put w h.log vals k (Rest a) (Rest b) is c.entries_are in
        let same = keeps weight_one in
        let r = h.ruled in
        let ruled = gave_change_rule w about h.log words vals views r access change laws id k v a b e at is turn waits noted does in
        let count : e.stamp.count ≡ 0 = noted_count w about h.log words vals views r e (sym ((r.at_work id v at (sym ((r.shard k a is).late waits).2 ∙ turn)).0) ∙ noted) in record {
          log = h.log;
          ruled = ruled;
          books = books_keep w h.log vals views h.books h.log (set vals k (Rest b)) keeps id v (changed_view k v) at used refl refl refl refl;
          counted = counted_put w h.log vals views h.counted k id (Rest b) (changed_view k v) (omega (arith, same))
              (λ s q. let p : s ≡ b = cc in let y : (w.clock s).count ≡ e.stamp.count = ap (λ (z : S). (w.clock z).count) p ∙ ap (λ (z : Stamp). z.count) c.clock_is in omega (arith, y, count))
              (λ q. let d = h.counted.seens id v at used in omega (arith, d, same));
        }

    given_back : (id k : ℕ) (taken : List (Option (CellValue F S))) (v : SeatView) (a b : S) → v.spent ≡ false → MayGive w access change k id taken v a b → (words : List ℕ) (vals : List (CellValue F S)) (views : List SeatView) (h : Holds words vals views) → ((f : F) → HasTurn taken 0 (First f) → get_elem? vals 0 ≡ some (First f)) → get_elem? views id ≡ some v → get_elem? vals k ≡ some (Rest a)
        → get_or words k 0 ≡ id + 1 → pending w.touches h.ruled.entry h.ruled.changed k ≡ pending w.touches v.entry v.changed k → (pending w.touches v.entry v.changed k ≡ true) ⊎ (pending w.touches v.entry v.changed k ≡ false)
        → (v' : SeatView) × Holds (set words k 0) (set vals k (Rest b)) (set views id v') × gave_shard w k v (Rest a) (Rest b) v'
    given_back id k taken v a b used may words vals views h chief at is turn same (inl p) =
        let e = pending_some w.touches v.entry v.changed k p in
        let right = ((h.ruled.shard k a is).late (same ∙ p)).0 in
        let does = may.at_pending e.0 e.1 p (λ f held. subst (λ (g : F). w.right k a (w.journal g)) (first_same h.ruled.first f (at_same vals 0 (First h.ruled.first) (First f) h.ruled.chief (chief f held))) right) in
        (changed_view k v, changes id k v a b e.0 words vals views used h at is turn (same ∙ p) e.1 does, (a, b, refl, refl, inl ((laws.changes e.0 a b does).entries_are, inr (p, refl))))
    given_back id k taken v a b used may words vals views h chief at is turn same (inr p) = ⊎_elim
        (λ (like : Alike w a b). (v, alike id k v a b words vals views used h at is (same ∙ p) like, (a, b, refl, refl, inl (like.entries_are, inl (p, refl)))))
        (λ (m : MayEnter w access k id v a b). let n = laws.enters k id m.actor a b m.is_access in
        (entered_view n.entry v, enters id k v a b words vals views used h at is (same ∙ p) m, (a, b, refl, refl, inr (n.entry, n.entries_are, n.clock_is, refl))))
        (may.at_others p)

    pub gives_shard : (cells id k : ℕ) (taken : List (Option (CellValue F S))) (v : SeatView) (a b : S) → v.spent ≡ false → HasTurn taken k (Rest a) → MayGive w access change k id taken v a b → GivesTurn Holds cells id taken v k (Rest a) (Rest b) (gave_shard w)
    gives_shard cells id k taken v a b used turn may words vals views full crowd h has at =
        let t = has.turn k (Rest a) turn in
        given_back id k taken v a b used may words vals views h (λ f held. (has.turn 0 (First f) held).1) at t.1 t.0 (same_pending w about h.log words vals views h.ruled id v k a at t.1 t.0) (two (pending w.touches v.entry v.changed k))

    pub notes : (cells id : ℕ) (taken : List (Option (CellValue F S))) (v : SeatView) (f g : F) (e : Entry) → v.spent ≡ false → MayNote w cells id taken v f g e → Marks Holds cells id taken v (length (w.journal g)) (noted_as e)
    notes cells id taken v f g e used may words vals views full crowd h has at =
        let t = has.turn 0 (First f) may.turn in
        let may' : MayNote w (length vals) id taken v f g e = subst (λ (z : ℕ). MayNote w z id taken v f g e) (sym full) may in
        let ruled = noted_rule w about h.log words vals views h.ruled access change laws id taken v f g e at used t.0 t.1 may'
        (λ k pos lt touched. let x = may'.turns k pos lt touched in (has.turn k x.0 x.1).0) in
        let stamp_is : e.stamp ≡ stamp (length h.log + 1) 0 = (ruled.control (length h.log) e (at_last h.log e (length h.log) refl)).0 in
        let number : e.stamp.number ≡ length h.log + 1 = ap (λ (z : Stamp). z.number) stamp_is in
        let count : e.stamp.count ≡ 0 = ap (λ (z : Stamp). z.count) stamp_is in
        let seen = (h.ruled.informed id v at used).1 in
        let above : Below v.seen e.stamp = inl (omega (arith, number, seen)) in
        let gains = gains_noted w h.log vals e in
        let more = gains weight_one in (
          noted_view e v,
          record {
            log = h.log ++ e ∷ [];
            ruled = subst (λ (z : ℕ). Ruled w about (h.log ++ e ∷ []) (set words z (length (w.journal g))) vals (set views id (noted_view e v))) full ruled;
            books = books_gain w h.log vals views h.books (h.log ++ e ∷ []) vals e gains id v (noted_view e v) at used may.pass above may.room refl refl refl used;
            counted = counted_views w h.log vals views h.counted (h.log ++ e ∷ []) (omega (arith, more)) id (noted_view e v) (λ q. omega (arith, count));
          },
          (refl, above),
        )

  pub admits : (v : SeatView) → v.spent ≡ false → Admits Holds v next_view
  admits v used words vals views h at free = record {
    log = h.log;
    ruled = admitted_rule w about h.log words vals views h.ruled v at used (free 0 (at_below vals 0 (First h.ruled.first) h.ruled.chief));
    books = books_admit w h.log vals views h.books v;
    counted = counted_admit w h.log vals views h.counted v;
  }

  pub merges : (id other : ℕ) (v u : SeatView) → v.spent ≡ false → u.spent ≡ false → Merges Holds id v other u (joint_view v u) spent_view
  merges id other v u used used' words vals views h at ne at' free = record {
    log = h.log;
    ruled = merged_rule w about h.log words vals views h.ruled id other v u at (free 0 (at_below vals 0 (First h.ruled.first) h.ruled.chief));
    books = books_merge w h.log vals views h.books id other v u at ne at' used used' (h.ruled.informed other u at' used').2;
    counted = counted_merge w h.log vals views h.counted id other v u at;
  }
