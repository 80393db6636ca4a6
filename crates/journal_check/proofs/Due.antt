-- Which line is due, and why none is.
use Rattle.std.proofs.Common.{◌≡◌, true, ℕ, ◌-◌, ◌<◌, get_or, List, length, slice_index, Some, refl, sym, ap, ◌∙◌, arith}
use Rattle.std.{specs.Prelude.slice_get, specs.List.list_all, proofs.lemmas.Option.same_Some, proofs.lemmas.Option.slice_get_read, proofs.lemmas.Option.slice_get_within}
use Rattle.dcd_base.specs.declared.steps.Actor.{Actor}
use Rattle.journal_core.specs.declared.{acts.Act.Act, entries.Entry.Entry}
use Rattle.report.specs.script_codec.specs.{declared.script_line.Line.Line, declared.scripts.Script.Script, Covering.pass_of, Scripts.is_sound_line}
use Rattle.journal_check.{specs.Following.IsNextInPass, specs.Fronts.AreFronts, specs.Fronts.undone_of, proofs.FrontLaws.IsDueEntry, proofs.Passing.line_pass, proofs.Passing.not_due}

pub line_read : (s : Script) (lines : List Line) (i : ℕ) (line : Line) (actor : Actor) (lane : ℕ) (act : Act) → lines ≡ s.lines → i < length lines → line ≡ get_or lines i line
    → line ≡ Line.Do actor lane act → slice_get s.lines i ≡ Some (Line.Do actor lane act)
line_read s lines i line actor lane act same within read is =
    ap (λ ls. slice_get ls i) (sym same) ∙ slice_get_read lines (length lines) i line refl within read ∙ ap (λ l. Some l) is

pub mark_read : (s : Script) (lines : List Line) (i : ℕ) (line : Line) → lines ≡ s.lines → i < length lines → line ≡ get_or lines i line → line ≡ Line.Mark → slice_get s.lines i ≡ Some Line.Mark
mark_read s lines i line same within read is =
    ap (λ ls. slice_get ls i) (sym same) ∙ slice_get_read lines (length lines) i line refl within read ∙ ap (λ l. Some l) is

abbrev pub actor_of : Actor → Line → Actor
actor_of d (Line.Do actor lane act) = actor
actor_of d Line.Mark = d

abbrev pub lane_of : Line → ℕ
lane_of (Line.Do actor lane act) = lane
lane_of Line.Mark = 0

module _ (s : Script) (fronts : List ℕ) (are : AreFronts s fronts) (sound : list_all (is_sound_line s.config.hosts s.lanes) s.lines ≡ true) (number : ℕ) where
  -- it has no such number
  pub none_zero : number ≡ 0 → (e : Entry) → IsNextInPass (undone_of s fronts) e → e.line ≡ number → ⊥
  none_zero zero e next is = omega (arith, next.of_line.counted, is, zero)

  pub none_past : length s.lines < number → (e : Entry) → IsNextInPass (undone_of s fronts) e → e.line ≡ number → ⊥
  none_past less e next is =
      let due : IsDueEntry s fronts e = not_due s fronts are sound e next in
      omega (arith, less, is, next.of_line.counted, slice_get_within s.lines (e.line - 1) (Line.Do e.actor due.of_line.lane e.act) due.of_line.line)

  -- it is a mark
  pub none_mark : slice_get s.lines (number - 1) ≡ Some Line.Mark → (e : Entry) → IsNextInPass (undone_of s fronts) e → e.line ≡ number → ⊥
  none_mark mark e next is =
      let due : IsDueEntry s fronts e = not_due s fronts are sound e next in
      apart due.of_line.lane (sym mark ∙ ap (λ n. slice_get s.lines (n - 1)) (sym is) ∙ due.of_line.line)
    where
      apart : (lane : ℕ) → Some Line.Mark ≡ Some (Line.Do e.actor lane e.act) → ⊥
      apart lane e = cc

  -- its pass stands elsewhere
  pub none_elsewhere : (pass : ℕ) (actor : Actor) (lane : ℕ) (act : Act) → slice_get s.lines (number - 1) ≡ Some (Line.Do actor lane act) → pass ≡ pass_of s.config.hosts s.lanes actor lane
      → (slice_index fronts pass ≡ number - 1 → ⊥) → (e : Entry) → IsNextInPass (undone_of s fronts) e → e.line ≡ number → ⊥
  none_elsewhere pass actor lane act found pass_is elsewhere e next is =
      let due : IsDueEntry s fronts e = not_due s fronts are sound e next in
      let same : Line.Do e.actor due.of_line.lane e.act ≡ Line.Do actor lane act =
      same_Some (Line.Do e.actor due.of_line.lane e.act) (Line.Do actor lane act) (sym due.of_line.line ∙ ap (λ n. slice_get s.lines (n - 1)) is ∙ found) in
      let its : e.pass ≡ pass =
      due.of_line.pass ∙ (λ i. pass_of s.config.hosts s.lanes (actor_of e.actor (same i)) (lane_of (same i))) ∙ sym pass_is in
      elsewhere (ap (λ n. slice_index fronts n) (sym its) ∙ due.stands ∙ ap (λ n. n - 1) is)

  pub known : (pass : ℕ) (actor : Actor) (lane : ℕ) (act : Act) → slice_get s.lines (number - 1) ≡ Some (Line.Do actor lane act) → pass ≡ pass_of s.config.hosts s.lanes actor lane
      → pass < length fronts
  known pass actor lane act found pass_is = omega (arith, line_pass s (number - 1) actor lane act sound found, pass_is, are.count)
