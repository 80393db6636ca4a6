-- From what comes of a task to how the run ends.
use Rattle.std.proofs.Common.{◌≡◌, ℕ, ◌+◌, List, [], Option, Some, None, inr, sym, subst}
use Rattle.dcd_base.specs.Streams.{HasRisen, Passes}
use Rattle.edge_io.{proofs.Inputs.told_is, specs.Ends.IsDecided, specs.Ends.UnlessAnswered, specs.Ends.stop_end, specs.Meanings.Decides, specs.Meanings.Meaning, specs.ReadEnds.TakesAtMost}
use Rattle.edge_io.specs.{Settling.IsSettled, Settling.IsStopped, declared.ends.End.End, declared.ends.Stop.Stop}
use Rattle.edge_io.specs.Runs.{AsksToRead, EndsAs, EndsSo, IsPlanned, IsRead, IsSound, IsTold, IsUnread, IsWritten, Seen}

same_task : {T : Type 0} (a b : T) → Some a ≡ Some b → a ≡ b
same_task a b e = cc

-- It is all that the words ask for.
abbrev Alone : {T E : Type 0} → Meaning T E → List (List ℕ) → Option T → Type 0
Alone {T} {E} m words found = (other : Option T) → m.asks words other → other ≡ found

module _ {T E : Type 0} (m : Meaning T E) (words : List (List ℕ)) (seen : Seen) where
  ends_at : (end : End) (Sound : Type 0) (status : E) → IsDecided end Sound → IsWritten m words seen status → EndsAs m words seen end status
  ends_at End.Done Sound status d w = w
  ends_at (End.Answer number) Sound status d w = w
  ends_at End.Refused Sound status d w = w
  ends_at (End.Refusal number) Sound status d w = w
  ends_at End.Usage Sound status d w = absurd d
  ends_at End.NoMemory Sound status d w = absurd d
  ends_at End.ReadFault Sound status d w = absurd d
  ends_at End.WriteFault Sound status d w = absurd d

  complete_at : (end : End) (Sound : Type 0) → IsDecided end Sound → (IsSound m words seen → Sound) → UnlessAnswered end (¬ IsSound m words seen)
  complete_at End.Done Sound d here = tt
  complete_at (End.Answer number) Sound d here = tt
  complete_at End.Refused Sound d here = λ s. d (here s)
  complete_at (End.Refusal number) Sound d here = λ s. d (here s)
  complete_at End.Usage Sound d here = absurd d
  complete_at End.NoMemory Sound d here = tt
  complete_at End.ReadFault Sound d here = absurd d
  complete_at End.WriteFault Sound d here = absurd d

  -- ---- the words ask for a task

  module _ (task : T) (asked : m.asks words (Some task)) (alone : Alone m words (Some task)) where
    one_task : (other : T) → m.asks words (Some other) → other ≡ task
    one_task other is = same_task other task (alone (Some other) is)

    sound_here : (input : List ℕ) → IsRead (m.most task) seen.left seen.left_now input → IsSound m words seen → m.sound task input
    sound_here input read s =
        let same : s.task ≡ task = one_task s.task s.asked in
        let told : IsTold (m.most task) seen.left s.input = subst (λ t. IsTold (m.most t) seen.left s.input) same s.told in
        let here : m.sound task s.input = subst (λ t. m.sound t s.input) same s.sound in
        subst (m.sound task) (told_is (m.most task) seen.left seen.left_now input s.input read told) here

    taken_here : ((most : ℕ) → m.most task ≡ Some most → TakesAtMost (most + 1) seen.left seen.left_now)
        → (most : ℕ) → AsksToRead m words most → TakesAtMost (most + 1) seen.left seen.left_now
    taken_here taken most a = taken most (subst (λ t. m.most t ≡ Some most) (one_task a.task a.asked) a.most_is)

    planned_here : (status : E) (printed : List ℕ) (input : List ℕ) → IsRead (m.most task) seen.left seen.left_now input → Decides m task input status printed
        → IsPlanned m words seen status printed
    planned_here status printed input read d = record { task = task; asked = asked; input = input; read = read; plan = d.plan }

    -- all is written
    pub written_so : (status : E) (printed : List ℕ) → IsSettled m task seen.left seen.left_now status printed → Passes seen.taken seen.taken_now [] printed
        → ((most : ℕ) → m.most task ≡ Some most → TakesAtMost (most + 1) seen.left seen.left_now) → EndsSo m words seen status
    written_so status printed s took taken = record {
      ends = ends_at (m.end status) (m.sound task s.0) status s.2.decided (record { printed = printed; planned = planned_here status printed s.0 s.1 s.2; took = took });
      taken = taken_here taken;
      complete = complete_at (m.end status) (m.sound task s.0) s.2.decided (sound_here s.0 s.1);
    }

    -- a write failed
    pub begun_so : (planned : E) (printed : List ℕ) → IsSettled m task seen.left seen.left_now planned printed → ((rest : List ℕ) × Passes seen.taken seen.taken_now rest printed)
        → HasRisen seen.writes seen.writes_now → ((most : ℕ) → m.most task ≡ Some most → TakesAtMost (most + 1) seen.left seen.left_now)
        → (status : E) → m.end status ≡ End.WriteFault → EndsSo m words seen status
    begun_so planned printed s front risen taken status is = record {
      ends = subst (λ end. EndsAs m words seen end status) (sym is) (record {
        printed = printed;
        rest = front.0;
        planned = inr (planned, planned_here planned printed s.0 s.1 s.2);
        took = front.1;
        write_fault = risen;
      });
      taken = taken_here taken;
      complete = subst (λ end. UnlessAnswered end (¬ IsSound m words seen)) (sym is) (λ s. s.no_write_fault risen);
    }

    -- nothing was decided
    unread_here : (reads : IsUnread (m.most task) seen.reads seen.reads_now) → IsSound m words seen → ⊥
    unread_here reads s = s.no_read_fault (subst (λ t. IsUnread (m.most t) seen.reads seen.reads_now) (sym (one_task s.task s.asked)) reads)

    pub stopped_so : (stop : Stop) → IsStopped (m.most task) seen.reads seen.reads_now stop → seen.taken_now ≡ seen.taken
        → ((most : ℕ) → m.most task ≡ Some most → TakesAtMost (most + 1) seen.left seen.left_now)
        → (status : E) → m.end status ≡ stop_end stop → EndsSo m words seen status
    stopped_so Stop.Usage stopped nothing taken status is = absurd stopped
    stopped_so Stop.WriteFault stopped nothing taken status is = absurd stopped
    stopped_so Stop.NoMemory stopped nothing taken status is = record {
      ends = subst (λ end. EndsAs m words seen end status) (sym is) (record { task = task; asked = asked; nothing = nothing });
      taken = taken_here taken;
      complete = subst (λ end. UnlessAnswered end (¬ IsSound m words seen)) (sym is) tt;
    }
    stopped_so Stop.ReadFault stopped nothing taken status is = record {
      ends = subst (λ end. EndsAs m words seen end status) (sym is) (record { task = task; asked = asked; read_fault = stopped; nothing = nothing });
      taken = taken_here taken;
      complete = subst (λ end. UnlessAnswered end (¬ IsSound m words seen)) (sym is) (unread_here stopped);
    }

-- Where no input is asked for, the task has none.
pub no_input : {T E : Type 0} (m : Meaning T E) (words : List (List ℕ)) (task : T) → m.asks words (Some task) → ((most : ℕ) → AsksToRead m words most → ⊥)
    → (most : Option ℕ) → m.most task ≡ most → m.most task ≡ None
no_input m words task asked none None is = is
no_input m words task asked none (Some most) is = absurd (none most (record { task = task; asked = asked; most_is = is }))
