-- A counter under the rule.
use Rattle.std.proofs.Common.{◌≡◌, ◌⊎◌, ℕ, zero, suc, ◌+◌, ◌<◌, ◌≤◌, max, true, false, List, [], ◌∷◌, ◌++◌, length, sym, refl, ap, ◌∙◌, subst, ⊎_elim, inl, inr, arith, Option, None}
use Rattle.std.proofs.lemmas.List.{length_push}
use mathlib.Core.Option.{some, some-injective, some-ne-none}
use lib.ListN.{get_elem?}
use Rattle.dcd_base.specs.declared.steps.{Stamp.Stamp, Actor.Actor}
use Rattle.journal_core.specs.{declared.entries.Entry.Entry, Entries.is_control}
use Rattle.script_runner.specs.shared_device.specs.ruled_cells.proofs.{ClosingSteps.at_end, Order.never, Places.some_some, RuleSteps.rest_same}
use Rattle.script_runner.specs.shared_device.specs.ruled_cells.specs.{Calls.IsOf, Calls.AreAll, Calls.seats_of, Reads.ChiefReads, Ruling.Names, Ruling.names, Ruling.access_cell}
use Rattle.script_runner.specs.shared_device.specs.ruled_cells.specs.{Seats.IsSameSeat, Seats.NoTurns, Seats.seat_number, Stamps.stamps_after, Stamps.pending, Stamps.stamp}
use Rattle.script_runner.specs.shared_device.specs.ruled_cells.specs.{Telling.MayGive, Telling.GaveCell, Telling.entered_view, Telling.changed_view, Turning.HasTurn, declared.about.SeatView.SeatView}
use Rattle.script_runner.specs.shared_device.specs.ruled_cells.specs.declared.{cell_value.CellValue.CellValue, cell_value.CellValue.TheVariants.Rest, cells.Cells.Cells, seat.Seat.Seat}
use Rattle.threads_tests.specs.Tally.{Tally, Adds, IsAdded, MayHaveAdded, IsIdle, above_both, follows, tally_reads}

module _ {F : Type 0} (chief : ChiefReads F) where
  abbrev w : Names F Tally
  w = names chief tally_reads

  none_waits : (v : SeatView) (k : ℕ) → v.entry ≡ None → pending w.touches v.entry v.changed k ≡ false
  none_waits v k e = ap (λ o. pending w.touches o v.changed k) e

  -- what the seat knows then
  pub idle_again : (index number : ℕ) (seen stamps_after : Stamp) (v v' : SeatView) (a x y : Tally) → IsIdle number seen v → a ≡ x → MayHaveAdded number seen x y stamps_after → GaveCell w (suc index) v a y v' → IsIdle number stamps_after v' × (length v'.calls ≤ length v.calls + 1)
  idle_again index number seen stamps_after v v' a x y idle same done gave =
      let Goal : Type 0 = IsIdle number stamps_after v' × (length v'.calls ≤ length v.calls + 1) in
      let entries : a.entries ≡ x.entries = ap (λ (t : Tally). t.entries) same in
      ⊎_elim
      (λ (p : (y.entries ≡ a.entries) × (((pending w.touches v.entry v.changed (suc index) ≡ false) × (v' ≡ v)) ⊎ ((pending w.touches v.entry v.changed (suc index) ≡ true) × (v' ≡ changed_view (suc index) v)))).
      let stays : (v' ≡ v) → (stamps_after ≡ seen) → Goal = λ q r. (subst (IsIdle number stamps_after) (sym q) record { entry = idle.entry; actor = idle.actor; seen_is = r ∙ idle.seen_is }, let l : length v'.calls ≡ length v.calls = ap (λ (u : SeatView). length u.calls) q in omega (arith, l)) in
      ⊎_elim (λ (q : (pending w.touches v.entry v.changed (suc index) ≡ false) × (v' ≡ v)). ⊎_elim (λ (r : (y ≡ x) × (stamps_after ≡ seen)). stays q.1 r.1)
      (λ (r : IsAdded number seen x y × (stamps_after ≡ y.clock)). absurd (let z = r.0.adds in let l : length y.entries ≡ length x.entries + 1 = ap (λ (t : Tally). length t.entries) z.is ∙ length_push x.entries z.entry in
      let m : length y.entries ≡ length x.entries = ap length (p.0 ∙ entries) in omega (arith, l, m))) done)
      (λ (q : (pending w.touches v.entry v.changed (suc index) ≡ true) × (v' ≡ changed_view (suc index) v)). never (pending w.touches v.entry v.changed (suc index)) q.0 (none_waits v (suc index) idle.entry)) p.1)
      (λ (p : (e : Entry) × (y.entries ≡ a.entries ++ e ∷ []) × (y.clock ≡ e.stamp) × (v' ≡ entered_view e v)). ⊎_elim
      (λ (r : (y ≡ x) × (stamps_after ≡ seen)). absurd (let l : length y.entries ≡ length a.entries + 1 = ap length p.1 ∙ length_push a.entries p.0 in let m : length y.entries ≡ length a.entries = ap (λ (t : Tally). length t.entries) r.0 ∙ ap length (sym entries) in omega (arith, l, m)))
      (λ (r : IsAdded number seen x y × (stamps_after ≡ y.clock)). (
        subst (IsIdle number stamps_after) (sym p.3) record { entry = idle.entry; actor = idle.actor; seen_is = r.1 ∙ p.2 },
        let l : length v'.calls ≡ length v.calls + 1 = ap (λ (u : SeatView). length u.calls) p.3 ∙ length_push v.calls p.0 in omega (arith, l),
      )) done)
      gave

pub same_cell : {F S : Type 0} (taken : List (Option (CellValue F S))) (k : ℕ) (a b : S) → HasTurn taken k (Rest a) → HasTurn taken k (Rest b) → a ≡ b
same_cell {F} {S} taken k a b p q = rest_same a b (some_some (Rest a) (Rest b) (sym p ∙ q))

pub added : (pass : ℕ) (seen stamp : Stamp) (x : Tally) (index value : ℕ) (entries more : List Entry) (clock : Stamp) (e : Entry) → record { index = index; value = value; entries = entries; clock = clock } ≡ x → more ≡ entries ++ e ∷ [] → e.stamp ≡ stamp → stamp ≡ above_both seen x.clock
    → is_control e.act ≡ false → e.pass ≡ pass → e.actor ≡ Actor.Sanitizer → MayHaveAdded pass seen x (record { index = index; value = value + 1; entries = more; clock = stamp }) stamp
added pass seen stamp x index value entries more clock e is pushed at above access pass_is actor =
    let counted : 0 < e.stamp.count = (let q : e.stamp.count ≡ max seen.count x.clock.count + 1 = ap (λ (s : Stamp). s.count) (at ∙ above) in omega (arith, q)) in
    inr (record { adds = record { entry = e; is = (λ i. record { index = (is i).index; value = (is i).value + 1; entries = (pushed ∙ (λ j. (is j).entries ++ e ∷ [])) i; clock = (sym at) i }); access = access; counted = counted; pass = pass_is; actor_is = actor }; clock_is = above }, refl)

pair_at : {A : Type 0} (P : ℕ → A → Type 0) (a b : A) → P 0 a → P 1 b → (k : ℕ) (x : A) → get_elem? (a ∷ b ∷ []) k ≡ some x → P k x
pair_at P a b p q zero x e = subst (P 0) (some-injective a x e) p
pair_at P a b p q (suc zero) x e = subst (P 1) (some-injective b x e) q
pair_at P a b p q (suc (suc k)) x e = absurd (some-ne-none x (sym e))

module _ {F S : Type 0} where
  which : (one two : Seat F S) → seat_number one ≡ 0 → seat_number two ≡ 1 → (i : ℕ) → i < 2 → (k : ℕ) × (s : Seat F S) × (get_elem? (one ∷ two ∷ []) k ≡ some s) × (seat_number s ≡ i)
  which one two n m zero lt = (0, one, refl, n)
  which one two n m (suc zero) lt = (1, two, refl, m)
  which one two n m (suc (suc i)) lt = absurd (omega (arith, lt))

  -- two seats are all
  pub pair_all : (cells : Cells F S) (one two : Seat F S) (l : List (Seat F S)) → l ≡ one ∷ two ∷ [] → IsOf cells one → IsOf cells two → seats_of cells ≡ 2 → seat_number one ≡ 0 → seat_number two ≡ 1 → NoTurns one → NoTurns two → AreAll cells l
  pair_all cells one two l is of of' two_seats n m bare bare' = subst (AreAll cells) (sym is) record {
    some_seat = omega arith;
    of = pair_at (λ _ s. IsOf cells s) one two of of';
    no_turns = pair_at (λ _ s. NoTurns s) one two bare bare';
    each = λ i lt. which one two n m i (subst (λ (z : ℕ). i < z) two_seats lt);
  }

-- the last of a list of so many
pub last_at : {A : Type 0} (all front : List A) (a : A) (n : ℕ) → all ≡ front ++ a ∷ [] → length all ≡ n + 1 → (get_elem? all n ≡ some a) × (length front ≡ n)
last_at all front a n is long =
    let l : length front ≡ n = (let p = ap length is ∙ length_push front a in omega (arith, p, long)) in
    (ap (get_elem? all) (sym l) ∙ at_end all front a is, l)

module _ {F : Type 0} (chief : ChiefReads F) where
  abbrev tallies : Names F Tally
  tallies = names chief tally_reads

  -- a counter that is given back as it was taken
  pub may_put_back : (k number : ℕ) (taken : List (Option (CellValue F Tally))) (v : SeatView) (x : Tally) → v.entry ≡ None → MayGive tallies (access_cell Adds) follows k number taken v x x
  may_put_back k number taken v x none = record {
    at_pending = λ e is p right. never (pending tallies.touches v.entry v.changed k) p (ap (λ o. pending tallies.touches o v.changed k) none);
    at_others = λ _. inl record { config_is = refl; entries_are = refl; clock_is = refl; right_too = λ j log r. r };
  }

  pub same_view : (k : ℕ) (v v' : SeatView) (a x : Tally) → v.entry ≡ None → a ≡ x → GaveCell tallies k v a x v' → v' ≡ v
  same_view k v v' a x none same gave = ⊎_elim
      (λ (p : (x.entries ≡ a.entries) × (((pending tallies.touches v.entry v.changed k ≡ false) × (v' ≡ v)) ⊎ ((pending tallies.touches v.entry v.changed k ≡ true) × (v' ≡ changed_view k v)))).
      ⊎_elim (λ (q : (pending tallies.touches v.entry v.changed k ≡ false) × (v' ≡ v)). q.1)
      (λ (q : (pending tallies.touches v.entry v.changed k ≡ true) × (v' ≡ changed_view k v)). never (pending tallies.touches v.entry v.changed k) q.0 (ap (λ o. pending tallies.touches o v.changed k) none)) p.1)
      (λ (p : (e : Entry) × (x.entries ≡ a.entries ++ e ∷ []) × (x.clock ≡ e.stamp) × (v' ≡ entered_view e v)). absurd (let l : length x.entries ≡ length a.entries + 1 = ap length p.1 ∙ length_push a.entries p.0 in
      let m : length a.entries ≡ length x.entries = ap (λ (t : Tally). length t.entries) same in omega (arith, l, m)))
      gave

pub same_twice : {F S : Type 0} (s t u : Seat F S) → IsSameSeat s t → IsSameSeat t u → IsSameSeat s u
same_twice s t u p q = record { number = q.number ∙ p.number; among = q.among ∙ p.among; place = q.place ∙ p.place }

-- ---- a scrub that names the counter of index 0
