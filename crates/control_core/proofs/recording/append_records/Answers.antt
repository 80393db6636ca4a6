use Rattle.std.proofs.Common.{◌≡◌, ◌≤◌, ◌⊎◌, ◌++◌, ◌-◌, List, ap, append_assoc, arith, inl, inr, length, rules, sym, take, ◌∙◌}
use Rattle.std.proofs.lemmas.Bool.{cases_lt}
use Rattle.event_records.specs.declared.events.Event.{Event}
use Rattle.journal_core.specs.declared.outcome.Effect.{Effect}
use Rattle.control_core.{specs.Recording.records_by, proofs.Recorded.records_split}
use Rattle.control_core.proofs.recording.append_records.Goals as goal

pub returns : goal.returns
returns c =
    let id = c.args.id.now in
    let events = c.args.events.now in
    let effects = c.args.effects.now in
    let next = c.args.log.now.next in
    let room = c.args.log.now.capacity - length c.args.log.now.records in
    let fit = c.min-fit.result in
    let front = c.split_at.result.0.now in
    let back = c.split_at.result.1.now in
    let few : fit ≤ length events = omega (arith, c.min-fit.ensures) in
    let within : fit ≤ room = omega (arith, c.min-fit.ensures, c.room.ensures) in
    let full : (length events ≤ fit) ⊎ (room ≤ fit) = elim (cases_lt (length events) room) [
      | inl less ↦ inl (omega (arith, c.min-fit.ensures, c.room.ensures, less))
      | inr from ↦ inr (omega (arith, c.min-fit.ensures, c.room.ensures, from))
    ] in
    let long : length front ≡ fit = search rules in
    let start : c.make_room.new.items.items ≡ effects = search rules in
    c.replace-2.ensures.after
    ∙ c.from_vec.ensures
    ∙ c.append_missed.ensures next
    ∙ ap (λ (es : List Effect). es ++ records_by id next 0 back) (c.append_logged.ensures.items ∙ ap (λ (es : List Effect). es ++ records_by id c.next_handle.result (length front) front) start)
    ∙ append_assoc effects (records_by id c.next_handle.result (length front) front) (records_by id next 0 back)
    ∙ ap (λ (es : List Effect). effects ++ es)
    (ap (λ n. records_by id n (length front) front ++ records_by id next 0 back) c.next_handle.ensures
    ∙ ap (λ n. records_by id next n front ++ records_by id next 0 back) long
    ∙ ap (λ (xs : List Event). records_by id next fit xs ++ records_by id next 0 back) c.split_at.ensures.front
    ∙ ap (λ (xs : List Event). records_by id next fit (take fit events) ++ records_by id next 0 xs) c.split_at.ensures.back
    ∙ sym (records_split id fit events room next next few within full))
