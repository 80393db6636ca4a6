-- A log that has room takes all records that are told to it.
use Rattle.std.proofs.Common.{◌≡◌, ◌-◌, ◌<◌, ◌≤◌, true, List, [], ◌∷◌, length, refl, ap, ◌∙◌, arith, length-append, eq-eqb, length-drop}
use Rattle.std.{specs.Prelude.fold, proofs.lemmas.Bool.cond-false, proofs.lemmas.Bool.ne_eqb}
use Rattle.cci_codec.specs.dcd_base.specs.declared.steps.LogId.{LogId}
use Rattle.event_records.specs.declared.events.Event.{Event}
use Rattle.journal_core.specs.declared.outcome.Effect.{Effect}
use Rattle.event_log.specs.Logs.{Log, room_in, next_handle, logged, recorded}
use Rattle.device_rules.specs.{Logs.log_after, Logs.same_log, Outcomes.entered, Outcomes.entered_all}

pub same_log-self : (l : LogId) → same_log l l ≡ true
same_log-self (LogId.Host h) = eq-eqb h h refl
same_log-self LogId.Manager = refl

-- what was cleared was in the log
abbrev pub IsSound : Log → Type 0
IsSound log = log.cleared ≤ length log.ever

pub IsSound-recorded : (log : Log) (e : Event) → IsSound log → IsSound (recorded log e)
IsSound-recorded log e sound = simp length-append (omega (arith, sound))

pub room-recorded : (l : LogId) (log : Log) (e : Event) → IsSound log → room_in l (recorded log e) ≡ room_in l log - 1
room-recorded l log e sound = simp (length-drop, length-append) (omega (arith, sound))

pub entered-room : (l : LogId) (log : Log) (e : Event) → 0 < room_in l log → entered l log e ≡ Effect.Logged l (record e { handle = next_handle log })
entered-room l log e room = cond-false _ _ _ (ne_eqb (room_in l log) 0 (omega (arith, room)))

pub after-entered : (l : LogId) (log : Log) (e : Event) → 0 < room_in l log → log_after l log (entered l log e) ≡ recorded log e
after-entered l log e room = rw (entered-room l log e room, same_log-self l) refl

-- with room for all of them, the log gains them in order, each under the next handle
pub entered_all-room : (l : LogId) (log : Log) (events : List Event) → IsSound log → length events ≤ room_in l log → fold (log_after l) log (entered_all l log events) ≡ logged log events
entered_all-room l log [] sound room = refl
entered_all-room l log (e ∷ events) sound room =
    let some : 0 < room_in l log = omega (arith, room) in
    let rest : length events ≤ room_in l (recorded log e) = rw (room-recorded l log e sound) (omega (arith, room)) in
    ap (λ log'. fold (log_after l) log' (entered_all l log' events)) (after-entered l log e some)
    ∙ (entered_all-room l (recorded log e) events (IsSound-recorded log e sound) rest)
