-- What a seat with the turn of the control may do at each step of a command, and what it knows then.
use Rattle.std.proofs.Common.{◌≡◌, ◌≢◌, ◌⊎◌, ℕ, zero, suc, ◌+◌, ◌^◌, ◌<◌, ◌≤◌, Bool, true, false, ◌&&◌, not, List, [], ◌∷◌, ◌++◌, length, set, sym, refl, ap, ◌∙◌, subst, ⊎_elim, inl, inr, arith, Option, Some, None, eq-eqb, ne_eqb, ◌==◌, ◌||◌}
use Rattle.std.proofs.lemmas.{Bool.cases_lt, Bool.or_left, Bool.or_right, List.length_push}
use mathlib.Core.Option.{some}
use native.Mathlib.Decide.{dec_lt}
use lib.ListN.{get_elem?}
use Rattle.atomic_table.proofs.Lists.{set_else}
use Rattle.control_core.specs.{declared.plan.Plan.Plan, device_rules.specs.ChangedRuns.AreChanges}
use Rattle.block_shard.specs.{journal_core.specs.Entries.effects, journal_core.specs.declared.entries.Entry.Entry, ruled_cells.proofs.Order.never}
use Rattle.block_shard.specs.ruled_cells.specs.{Calls.GaveIn, Calls.IsOf, Calls.MayGiveIn, Calls.MayNoteIn, Calls.row_of, Reads.about_of, Ruling.Names, Ruling.names}
use Rattle.block_shard.specs.ruled_cells.specs.Seats.{HasCell, HasFirst, IsSameSeat, NoCell, NoTurns, seat_number, seat_view, turns_of}
use Rattle.block_shard.specs.ruled_cells.specs.Stamps.{Below, has_index, pending, stamp}
use Rattle.block_shard.specs.ruled_cells.specs.{Telling.GaveCell, Telling.MayNote, Telling.changed_view, Telling.entered_view, Telling.last_of, Telling.noted_view, Turning.HasTurn}
use Rattle.block_shard.specs.ruled_cells.specs.declared.{about.SeatView.SeatView, cell_value.CellValue.CellValue, cell_value.CellValue.TheVariants.Rest, cells.Cells.Cells, seat.Seat.Seat}
use Rattle.block_shard.specs.shard_laws.specs.{Belonging.touches_shard, Changing.ChangedBy, Changing.MakesChanges, Owed.FollowsEffects, Right.stripe_reads, Stripes.Stripe}
use Rattle.region_config.specs.Configurations.{Configuration}
use Rattle.shared_device.{proofs.Turns.same_cell, proofs.Turns.still_there, proofs.TurnsBack.last_given, specs.Commanding.Commanding, specs.Commanding.commanding_reads}
use Rattle.shared_device.specs.Entering.{AreApart, HasNoted, HasOneMore, HasTouched, MayEnterStep}

abbrev Worker : Type 0
Worker = Seat Commanding Stripe

abbrev w : Names Commanding Stripe
w = names commanding_reads stripe_reads

at_or_below : (k index : ℕ) → k < index + 1 → Dec (k < index) → (k ≡ index) ⊎ (k < index)
at_or_below k index lt (yes less) = inr less
at_or_below k index lt (Dec.no more) = inl (omega (arith, lt, more))

at_or_above : (k index : ℕ) → index ≤ k → Dec (index < k) → (k ≡ index) ⊎ (index + 1 ≤ k)
at_or_above k index le (yes less) = inr (omega (arith, less))
at_or_above k index le (Dec.no more) = inl (omega (arith, le, more))

pub last_is : (l : List Entry) (e : Entry) → last_of (l ++ e ∷ []) ≡ e
last_is [] e = refl
last_is (x ∷ []) e = refl
last_is (x ∷ y ∷ l) e = last_is (y ∷ l) e

-- ---- a shard is taken, or not

-- what was told of an equal entry
pub told_touch : (index : ℕ) (e f : Entry) (told b : Bool) → f ≡ e → told ≡ touches_shard index f → told ≡ b → touches_shard index e ≡ b
told_touch index e f told b same is answer = ap (λ (z : Entry). touches_shard index z) (sym same) ∙ sym is ∙ answer

-- it does not touch one more
pub apart_more : (index at : ℕ) (e : Entry) → AreApart index at e → touches_shard at e ≡ false → AreApart index (at + 1) e
apart_more index at e apart touch k from lt = ⊎_elim
    (λ (same : k ≡ at). ap (λ n. touches_shard n e) same ∙ touch)
    (λ (less : k < at). apart k from less)
    (at_or_below k at lt (dec_lt k at))

-- with one shard more it still may
pub may_after : (s t : Worker) (index : ℕ) (o : Option (CellValue Commanding Stripe)) (c : Commanding) (plan : Plan) → IsSameSeat s t → turns_of t ≡ set (turns_of s) (suc index) o → seat_view t ≡ seat_view s
    → MayEnterStep s c plan → MayEnterStep t c plan
may_after s t index o c plan same turns view may = record {
  taken = may.taken;
  turn = still_there (turns_of s) (turns_of t) (suc index) 0 o _ turns (λ e. omega (arith, e)) may.turn;
  about_is = may.about_is ∙ ap (λ (v : SeatView). v.about) (sym view);
  same = may.same;
  step = may.step;
  idle = ap (λ (v : SeatView). v.entry) view ∙ may.idle;
  pass_is = may.pass_is ∙ sym same.number;
  actor_is = (λ i. get_elem? (view i).about.actors (same.number i)) ∙ may.actor_is;
  room = subst (λ (v : SeatView). length v.calls < 2 ^ 32) (sym view) may.room;
}

-- it touches none of these
pub touched_till : (s : Worker) (index at : ℕ) (e : Entry) → index ≤ at → AreApart index at e → HasTouched s index e → HasTouched s at e
touched_till s index at e le apart h = record {
  below = λ k lt t. elim (cases_lt k index) [
    | inl less ↦ h.below k less t
    | inr more ↦ never (touches_shard k e) t (apart k more lt)
  ];
  no_others = λ k above. h.no_others k (omega (arith, le, above));
}

pub touched_more : (s t : Worker) (index : ℕ) (e : Entry) (x : Stripe) → turns_of t ≡ set (turns_of s) (suc index) (Some (Rest x)) → HasCell t index x → HasTouched s index e → HasTouched t (index + 1) e
touched_more s t index e x turns has h = record {
  below = λ k lt touch. ⊎_elim
      (λ (same : k ≡ index). (x, subst (λ n. HasCell t n x) (sym same) has))
      (λ (less : k < index). let p = h.below k less touch in (p.0, else k (λ q. omega (arith, q, less)) ∙ p.1))
      (at_or_below k index lt (dec_lt k index));
  no_others = λ k le y q. h.no_others k (omega (arith, le)) y (sym (else k (λ r. omega (arith, r, le))) ∙ q);
}
  where
    else : (k : ℕ) → suc k ≢ suc index → get_elem? (turns_of t) (suc k) ≡ get_elem? (turns_of s) (suc k)
    else k apart = ap (λ l. get_elem? l (suc k)) turns ∙ set_else (turns_of s) (suc index) (suc k) (Some (Rest x)) apart

-- ---- noting

abbrev touched_cell : Worker → Entry → ℕ → Type 0
touched_cell s e k = (x : CellValue Commanding Stripe) × HasTurn (turns_of s) k x

turn_at : (s : Worker) (e : Entry) → HasTouched s 16 e → (k : ℕ) → 0 < k → k < 17 → w.touches k e ≡ true → touched_cell s e k
turn_at s e h zero pos lt t = absurd (omega (arith, pos))
turn_at s e h (suc k) pos lt t = let p = h.below k (omega (arith, lt)) t in (Rest p.0, p.1)

pub entry_stamp : (s : Worker) (c : Commanding) (plan : Plan) (may : MayEnterStep s c plan) → plan.entry.stamp ≡ stamp (length may.taken.entries + 1) 0
entry_stamp s c plan may = ap (λ (e : Entry). e.stamp) may.step.next.is ∙ ap (λ (l : List Entry). stamp (length l + 1) 0) may.same.entries_are

-- the control as it was taken, with the entry
pub longer_by : (s : Worker) (c d : Commanding) (plan : Plan) (may : MayEnterStep s c plan) → HasOneMore c d plan.entry → d.entries ≡ may.taken.entries ++ plan.entry ∷ []
longer_by s c d plan may more = more.entries_are ∙ ap (λ (l : List Entry). l ++ plan.entry ∷ []) may.same.entries_are

same_about : (s : Worker) (c d : Commanding) (plan : Plan) (may : MayEnterStep s c plan) → HasOneMore c d plan.entry → about_of commanding_reads d ≡ about_of commanding_reads may.taken
same_about s c d plan may more = λ i. record { config = (more.config_is ∙ may.same.config_is) i; actors = (more.actors_are ∙ may.same.actors_are) i }

pub may_note : (cells : Cells Commanding Stripe) (s : Worker) (c d : Commanding) (plan : Plan) → row_of cells ≡ 16 → MayEnterStep s c plan → HasTouched s 16 plan.entry → HasOneMore c d plan.entry
    → MayNoteIn commanding_reads stripe_reads cells s d (last_of d.entries)
may_note cells s c d plan sixteen may touched more =
    let e : Entry = plan.entry in
    let longer = longer_by s c d plan may more in
    let last : last_of d.entries ≡ e = ap last_of longer ∙ last_is may.taken.entries e in
    let long : length d.entries ≡ length may.taken.entries + 1 = ap length longer ∙ length_push may.taken.entries e in (
      may.taken,
      subst (λ (z : Entry). MayNote w (suc (row_of cells)) (seat_number s) (turns_of s) (seat_view s) may.taken d z) (sym last) record {
        turn = may.turn;
        not_yet = may.idle;
        about_is = same_about s c d plan may more;
        sound = more.legal;
        longer = longer;
        control = may.step.next.may.control;
        stamp_is = entry_stamp s c plan may ∙ ap (λ (n : ℕ). stamp n 0) (sym long);
        pass = may.pass_is;
        actor = may.actor_is;
        room = may.room;
        turns = λ k pos lt. turn_at s e touched k pos (omega (arith, lt, sixteen));
      },
    )

-- nothing is given back yet
pub noted_first : (e : Entry) (l : List Entry) (d : Commanding) (v v' : SeatView) → d.entries ≡ l ++ e ∷ [] → v' ≡ noted_view (last_of d.entries) v → Below v.seen (last_of d.entries).stamp → HasNoted 16 e v v'
noted_first e l d v v' longer view above =
    let last : last_of d.entries ≡ e = ap last_of longer ∙ last_is l e in record {
      changed = [];
      view_is = view ∙ ap (λ (z : Entry). noted_view z v) last;
      above = subst (λ (z : Entry). Below v.seen z.stamp) last above;
      done = λ k le lt t. absurd (omega (arith, le, lt));
      not_yet = λ k lt. refl;
    }

-- ---- giving back

-- the shard of the index is not given back yet
waits : (index : ℕ) (e : Entry) (v v' : SeatView) → HasNoted (index + 1) e v v' → touches_shard index e ≡ true → pending w.touches v'.entry v'.changed (suc index) ≡ true
waits index e v v' noted touch =
    let apart : has_index (suc index) noted.changed ≡ false = noted.not_yet index (omega arith) in
    ap (λ (u : SeatView). pending w.touches u.entry u.changed (suc index)) noted.view_is ∙ ((λ i. touch i && not (apart i)))

config_by : (s : Worker) (c : Commanding) (plan : Plan) (x : Stripe) (may : MayEnterStep s c plan) → x.config ≡ (seat_view s).about.config → c.config ≡ x.config
config_by s c plan x may config = may.same.config_is ∙ (ap (λ a. a.config) may.about_is ∙ sym config)

pub may_give : (s t : Worker) (c : Commanding) (plan : Plan) (index : ℕ) (x y : Stripe) → MayEnterStep s c plan → HasCell s index x → x.config ≡ (seat_view s).about.config → turns_of t ≡ turns_of s
    → HasNoted (index + 1) plan.entry (seat_view s) (seat_view t) → touches_shard index plan.entry ≡ true → MakesChanges x y plan.entry.stamp.number plan.changes
    → ((k : ℕ) (log : List Entry) → FollowsEffects k x y log plan.entry plan.changes) → MayGiveIn commanding_reads stripe_reads t index y
may_give s t c plan index x y may has config turns noted touch made follows =
    let e : Entry = plan.entry in
    let wait = waits index e (seat_view s) (seat_view t) noted touch in
    let log : List Entry = may.taken.entries in
    let at = entry_stamp s c plan may in
    let changes : AreChanges x.config (effects log) e.effects plan.changes =
    subst (λ (l : List Entry). AreChanges x.config (effects l) e.effects plan.changes) may.same.entries_are
    (subst (λ (d : Configuration). AreChanges d (effects c.entries) e.effects plan.changes) (config_by s c plan x may config) may.step.changes) in
    let first : HasFirst t may.taken = ap (λ l. get_elem? l 0) turns ∙ may.turn in (
      x,
      ap (λ l. get_elem? l (suc index)) turns ∙ has,
      record {
        at_pending = λ f is p right.
            let same : e ≡ f = (let q : Some e ≡ Some f = ap (λ (u : SeatView). u.entry) (sym noted.view_is) ∙ is in cc) in
            subst (λ (z : Entry). ChangedBy z x y) same
            (follows index log (right may.taken first) changes at (subst (λ (n : ℕ). MakesChanges x y n plan.changes) (ap (λ s. s.number) at) made));
        at_others = λ p. never (pending w.touches (seat_view t).entry (seat_view t).changed (suc index)) wait p;
      },
    )

gave_view : (index : ℕ) (v v' : SeatView) (a x y : Stripe) → pending w.touches v.entry v.changed (suc index) ≡ true → a ≡ x → y.entries ≡ x.entries → GaveCell w (suc index) v a y v' → v' ≡ changed_view (suc index) v
gave_view index v v' a x y wait same entries gave =
    let kept : y.entries ≡ a.entries = entries ∙ ap (λ (z : Stripe). z.entries) (sym same) in
    ⊎_elim
    (λ (p : (y.entries ≡ a.entries) × (((pending w.touches v.entry v.changed (suc index) ≡ false) × (v' ≡ v)) ⊎ ((pending w.touches v.entry v.changed (suc index) ≡ true) × (v' ≡ changed_view (suc index) v)))).
    ⊎_elim (λ (q : (pending w.touches v.entry v.changed (suc index) ≡ false) × (v' ≡ v)). never (pending w.touches v.entry v.changed (suc index)) wait q.0)
    (λ (q : (pending w.touches v.entry v.changed (suc index) ≡ true) × (v' ≡ changed_view (suc index) v)). q.1) p.1)
    (λ (p : (e : Entry) × (y.entries ≡ a.entries ++ e ∷ []) × (y.clock ≡ e.stamp) × (v' ≡ entered_view e v)). absurd (let l : length y.entries ≡ length a.entries + 1 = ap length p.1 ∙ length_push a.entries p.0 in let m = ap length kept in omega (arith, l, m)))
    gave

has_more : (k j : ℕ) (changed : List ℕ) → has_index k changed ≡ true → has_index k (j ∷ changed) ≡ true
has_more k j changed h = or_right (k == j) (has_index k changed) h

-- the shard of the index is given back
pub noted_more : (s t u : Worker) (e : Entry) (index : ℕ) (x y : Stripe) → HasCell t index x → touches_shard index e ≡ true → y.entries ≡ x.entries
    → HasNoted (index + 1) e (seat_view s) (seat_view t) → GaveIn commanding_reads stripe_reads t index y (seat_view u) → HasNoted index e (seat_view s) (seat_view u)
noted_more s t u e index x y has touch entries noted gave =
    let same = same_cell (turns_of t) (suc index) gave.0 x gave.1 has in
    let view = gave_view index (seat_view t) (seat_view u) gave.0 x y (waits index e (seat_view s) (seat_view t) noted touch) same entries gave.2 in
    record {
      changed = suc index ∷ noted.changed;
      view_is = view ∙ ap (λ (v : SeatView). changed_view (suc index) v) noted.view_is;
      above = noted.above;
      done = λ k le lt t'. ⊎_elim
          (λ (same : k ≡ index). or_left (suc k == suc index) (has_index (suc k) noted.changed) (eq-eqb (suc k) (suc index) (ap suc same)))
          (λ (more : index + 1 ≤ k). has_more (suc k) (suc index) noted.changed (noted.done k more lt t'))
          (at_or_above k index le (dec_lt index k));
      not_yet = λ k lt. (λ i. (ne_eqb (suc k) (suc index) (λ q. omega (arith, q, lt)) i) || (noted.not_yet k (omega (arith, lt)) i));
    }

-- shards that the entry does not touch
pub noted_till : (index at : ℕ) (e : Entry) (v v' : SeatView) → index ≤ at → AreApart index at e → HasNoted at e v v' → HasNoted index e v v'
noted_till index at e v v' le apart noted = record {
  changed = noted.changed;
  view_is = noted.view_is;
  above = noted.above;
  done = λ k from lt t. elim (cases_lt k at) [
    | inl less ↦ never (touches_shard k e) t (apart k from less)
    | inr more ↦ noted.done k more lt t
  ];
  not_yet = λ k lt. noted.not_yet k (omega (arith, lt, le));
}

-- ---- the control is given back

-- with the last turn no other is left
pub bare_after : (s t u : Worker) → turns_of t ≡ turns_of s → ((k : ℕ) → NoCell s k) → turns_of u ≡ set (turns_of t) 0 None → NoTurns u
bare_after s t u turns bare gave k = subst (λ l. (x : CellValue Commanding Stripe) → get_elem? l k ≢ some (Some x)) (sym (gave ∙ ap (λ l. set l 0 None) turns)) (last_given (turns_of s) bare k)

-- the control alone was taken
pub others_free : (s t : Worker) (o : Option (CellValue Commanding Stripe)) → NoTurns s → turns_of t ≡ set (turns_of s) 0 o → (k : ℕ) → NoCell t k
others_free s t o bare turns k x e = bare (suc k) x (sym (ap (λ l. get_elem? l (suc k)) turns ∙ set_else (turns_of s) 0 (suc k) o (λ q. omega (arith, q))) ∙ e)

pub still_of : (cells : Cells Commanding Stripe) (s t : Worker) → IsSameSeat s t → IsOf cells s → IsOf cells t
still_of cells s t same of = record { place = same.place ∙ of.place; among = same.among ∙ of.among }
