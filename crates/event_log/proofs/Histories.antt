-- What each call makes of a log is what its history makes of it.
use Rattle.std.proofs.Common.{ℕ, ◌≡◌, ◌+◌, ◌-◌, ◌%◌, ◌<◌, ◌≤◌, inl, inr, List, ◌∷◌, [], ◌++◌, drop, length, get_or, refl, sym, ◌∙◌, ap, arith, length-append, length-drop}
use Rattle.std.proofs.{Math.Nat.eq-or-lt_of_le, Math.Nat.mod-add-mod, lemmas.List.get_or_push, lemmas.List.get_or_append_left, lemmas.List.drop-append-le, lemmas.List.drop-drop, lemmas.List.drop_all}
use Rattle.event_records.specs.declared.events.Event.{Event}
use Rattle.event_log.specs.LogStates.{handle_after, new_log, with_record, without_oldest}
use Rattle.event_log.specs.Logs.{Follows, IsHistory, Log, StaysHistory, cleared_of, empty_log, next_handle, recorded, records_in, state_of}

next : (n : ℕ) → 1 + (n + 1) % 65535 ≡ handle_after (1 + n % 65535)
next n = ap (λ m. 1 + m) (sym (mod-add-mod n 65535 1) ∙ ap (λ m. m % 65535) (omega arith))

put_follows : (capacity : ℕ) (log : Log) (event : Event) → log.cleared ≤ length log.ever
    → state_of capacity (recorded log event) ≡ with_record (state_of capacity log) event
put_follows capacity log event sound =
    rw (
      drop-append-le log.cleared log.ever ((record event { handle = next_handle log }) ∷ []) sound,
      length-append log.ever ((record event { handle = next_handle log }) ∷ []),
      next (length log.ever),
    ) refl

cleared_follows : (capacity : ℕ) (log : Log) (n : ℕ) → state_of capacity (cleared_of n log) ≡ without_oldest n (state_of capacity log)
cleared_follows capacity log n = rw (drop-drop n log.cleared log.ever) refl

none_left : (log : Log) → drop (log.cleared + length (records_in log)) log.ever ≡ []
none_left log = drop_all (log.cleared + length (records_in log)) log.ever (rw (length-drop log.cleared log.ever) (omega arith))

pub follows : (capacity : ℕ) (log : Log) → IsHistory log → Follows capacity log
follows capacity log is = record {
  put = λ event. put_follows capacity log event is.sound;
  missed = refl;
  cleared = cleared_follows capacity log;
  cleared_whole = rw (none_left log) refl;
}

pushed_handle : (ever : List Event) (event : Event) → event.handle ≡ 1 + length ever % 65535
    → ((k : ℕ) (d : Event) → k < length ever → (get_or ever k d).handle ≡ 1 + k % 65535)
    → (k : ℕ) (d : Event) → k < length (ever ++ event ∷ []) → (get_or (ever ++ event ∷ []) k d).handle ≡ 1 + k % 65535
pushed_handle ever event last handles k d lt =
    let most : k ≤ length ever = omega (arith, length-append ever (event ∷ []), lt) in
    elim (eq-or-lt_of_le most) [
      | inl at ↦ ap (λ (e : Event). e.handle) (get_or_push ever event d k (sym at)) ∙ last ∙ ap (λ n. 1 + n % 65535) (sym at)
      | inr before ↦ ap (λ (e : Event). e.handle) (get_or_append_left ever (event ∷ []) d k before) ∙ handles k d before
    ]

pub stays : (log : Log) → IsHistory log → StaysHistory log
stays log is = record {
  put = λ event. record {
    sound = rw (length-append log.ever ((record event { handle = next_handle log }) ∷ [])) (omega (arith, is.sound));
    handles = pushed_handle log.ever (record event { handle = next_handle log }) refl is.handles;
  };
  missed = record { sound = is.sound; handles = is.handles };
  cleared = λ n within. record {
    sound = let left : length (records_in log) ≡ length log.ever - log.cleared = length-drop log.cleared log.ever in omega (arith, within, left, is.sound);
    handles = is.handles;
  };
  reset_too = record { sound = is.sound; handles = is.handles };
}

pub begins : (capacity : ℕ) → (state_of capacity empty_log ≡ new_log capacity) × IsHistory empty_log
begins capacity = (refl, record { sound = omega arith; handles = λ k d lt. absurd (omega (arith, lt)) })
