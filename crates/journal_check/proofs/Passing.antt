-- What is left where a pass goes on behind a line, and what is left before all.
use Rattle.std.proofs.Common.{◌≡◌, inl, inr, Bool, true, false, ◌&&◌, ℕ, zero, suc, ◌+◌, ◌-◌, ◌*◌, ◌<◌, ◌≤◌, List, [], ◌∷◌, length, set, slice_index, Some, None, refl, sym, ap, subst, ◌∙◌, arith}
use Rattle.std.proofs.{Math.Nat.mul_comm, lemmas.Bool.and_parts, lemmas.Bool.cases_Bool, lemmas.Bool.eq-eqb, lemmas.Bool.false≢true, lemmas.Bool.ltb-true}
use Rattle.std.proofs.lemmas.{List.get_or-set_other, List.get_or-set_same, List.get_or_past, Nat.mul-add-lt, Option.slice_get_within}
use Rattle.std.specs.{List.list_all, Prelude.nat_lt, Prelude.slice_get, Prelude.if◌then◌else◌}
use Rattle.dcd_base.specs.declared.steps.Actor.{Actor}
use Rattle.journal_core.specs.{declared.acts.Act.Act, declared.entries.Entry.Entry, Entries.fits}
use Rattle.report.specs.script_codec.specs.{declared.script_line.Line.Line, declared.scripts.Script.Script, Covering.pass_of, Scripts.is_lane, Scripts.is_sound_line}
use Rattle.journal_check.proofs.CoveringOrders.{lt_cases, nat_cases, now_mark, others_kept}
use Rattle.journal_check.specs.Following.{IsNextInPass, has_pass, without_line}
use Rattle.journal_check.specs.Fronts.{AreFronts, IsDue, IsNextFront, pass_front, undone, undone_of}
use Rattle.journal_check.proofs.FrontLaws.{IsDueEntry, front_is, is_done, is_left, kept, look, next_due, past, same_items, there, undone_line, undone_past}

none_some : {X : Type 0} (x : X) → None ≡ Some x → ⊥
none_some x e = cc

-- ---- the passes of sound lines
sound_at : (hosts lanes : ℕ) (lines : List Line) (i : ℕ) (line : Line) → list_all (is_sound_line hosts lanes) lines ≡ true → slice_get lines i ≡ Some line → is_sound_line hosts lanes line ≡ true
sound_at hosts lanes lines i line sound found = all_at (is_sound_line hosts lanes) lines i line sound found
  where
    all_at : {X : Type 0} (p : X → Bool) (xs : List X) (i : ℕ) (x : X) → list_all p xs ≡ true → slice_get xs i ≡ Some x → p x ≡ true
    all_at p [] i x all found = absurd (omega (arith, slice_get_within [] i x found))
    all_at p (y ∷ xs) zero x all found = ap p (sym (inner y x found)) ∙ (and_parts (p y) (list_all p xs) all).0
      where
        inner : {X : Type 0} (y x : X) → Some y ≡ Some x → y ≡ x
        inner y x e = cc
    all_at p (y ∷ xs) (suc i) x all found = all_at p xs i x (and_parts (p y) (list_all p xs) all).1 found

known_pass : (hosts lanes : ℕ) (actor : Actor) (lane : ℕ) (act : Act) → (fits hosts actor act && is_lane lanes actor lane) ≡ true → pass_of hosts lanes actor lane < hosts * lanes + 2
known_pass hosts lanes (Actor.Host h) lane act sound =
    let both = and_parts (fits hosts (Actor.Host h) act) (nat_lt lane lanes) sound in
    omega (arith, mul-add-lt h lanes lane hosts (known_host h act both.0) (ltb-true lane lanes both.1), comm lanes hosts)
  where
    known_host : (h : ℕ) (act : Act) → fits hosts (Actor.Host h) act ≡ true → h < hosts
    known_host h (Act.Command q) fit = ltb-true h hosts fit
    known_host h (Act.Load d) fit = ltb-true h hosts fit
    known_host h (Act.Store d value) fit = ltb-true h hosts fit
    known_host h (Act.Scrub n) fit = absurd (false≢true fit)

    comm : (a b : ℕ) → a * b ≡ b * a
    comm a b = mul_comm a b
known_pass hosts lanes Actor.Manager lane act sound = omega arith
known_pass hosts lanes Actor.Sanitizer lane act sound = omega arith

pub line_pass : (s : Script) (i : ℕ) (actor : Actor) (lane : ℕ) (act : Act) → list_all (is_sound_line s.config.hosts s.lanes) s.lines ≡ true → slice_get s.lines i ≡ Some (Line.Do actor lane act)
    → pass_of s.config.hosts s.lanes actor lane < s.config.hosts * s.lanes + 2
line_pass s i actor lane act sound found =
    known_pass s.config.hosts s.lanes actor lane act (sound_at s.config.hosts s.lanes s.lines i (Line.Do actor lane act) sound found)

pub line_fits : (s : Script) (i : ℕ) (actor : Actor) (lane : ℕ) (act : Act) → list_all (is_sound_line s.config.hosts s.lanes) s.lines ≡ true → slice_get s.lines i ≡ Some (Line.Do actor lane act)
    → fits s.config.hosts actor act ≡ true
line_fits s i actor lane act sound found =
    (and_parts (fits s.config.hosts actor act) (is_lane s.lanes actor lane) (sound_at s.config.hosts s.lanes s.lines i (Line.Do actor lane act) sound found)).0

-- ---- a pass goes on
module _ (s : Script) (fronts : List ℕ) (number pass index : ℕ) (are : AreFronts s fronts) (due : IsDue s fronts number pass) (next : IsNextFront s pass number index) where
  abbrev moved : List ℕ
  moved = set fronts pass index

  moved_here : slice_index moved pass ≡ index
  moved_here = get_or-set_same fronts pass index 0 due.known

  -- lines of other passes stand as before
  front_other : (line : Line) → has_pass s.config.hosts s.lanes pass line ≡ false → pass_front s moved line ≡ pass_front s fronts line
  front_other (Line.Do actor lane act) apart =
      get_or-set_other fronts pass (pass_of s.config.hosts s.lanes actor lane) index 0 (λ same. false≢true (sym apart ∙ eq-eqb (pass_of s.config.hosts s.lanes actor lane) pass same))
  front_other Line.Mark apart = refl

  same_kept : (i : ℕ) (line : Line) → slice_get s.lines i ≡ Some line → (number - 1 ≡ i → ⊥) → kept s moved i line ≡ kept s fronts i line
  same_kept i line is other = elim (cases_Bool (has_pass s.config.hosts s.lanes pass line)) [
    | inr apart ↦ ap (λ n. if nat_lt i n then Line.Mark else line) (front_other line apart)
    | inl its ↦
        let old : pass_front s fronts line ≡ number - 1 = front_is s fronts pass line its ∙ due.front in
        let new : pass_front s moved line ≡ index = front_is s moved pass line its ∙ moved_here in
        elim (lt_cases i (number - 1)) [
          | inl less ↦ is_done s moved i line (omega (arith, less, new, next.least)) ∙ sym (is_done s fronts i line (omega (arith, less, old)))
          | inr least ↦ elim (lt_cases i index) [
            | inl early ↦ absurd (false≢true (sym (next.none i line (behind least) early is) ∙ its))
            | inr late ↦ is_left s moved i line (omega (arith, late, new)) ∙ sym (is_left s fronts i line (omega (arith, least, old)))
          ]
        ]
  ]
    where
      behind : number - 1 ≤ i → number ≤ i
      behind least = elim (nat_cases number i) [
        | inl same ↦ omega (arith, same)
        | inr apart ↦ elim (lt_cases i number) [
          | inl less ↦ absurd (other (omega (arith, less, least, due.numbered.counted)))
          | inr fine ↦ fine
        ]
      ]

  abbrev line_there : Line
  line_there = Line.Do due.numbered.actor due.numbered.lane due.numbered.act

  its_pass : has_pass s.config.hosts s.lanes pass line_there ≡ true
  its_pass = eq-eqb (pass_of s.config.hosts s.lanes due.numbered.actor due.numbered.lane) pass (sym due.numbered.pass_is)

  -- it is done now
  done_now : slice_get (undone s moved 0 s.lines) (number - 1) ≡ Some Line.Mark
  done_now =
      undone_line s moved (number - 1) line_there due.numbered.line
      ∙ ap (λ line. Some line) (is_done s moved (number - 1) line_there (omega (arith, front_is s moved pass line_there its_pass, moved_here, next.least, due.numbered.counted)))

  passed_at : (i : ℕ) → slice_get (undone s moved 0 s.lines) i ≡ slice_get (without_line (undone s fronts 0 s.lines) (number - 1)) i
  passed_at i = elim (nat_cases (number - 1) i) [
    | inl same ↦
        subst (λ n. slice_get (undone s moved 0 s.lines) n ≡ slice_get (without_line (undone s fronts 0 s.lines) (number - 1)) n) same
        (done_now ∙ sym (now_mark (undone s fronts 0 s.lines) (number - 1) (kept s fronts (number - 1) line_there) (undone_line s fronts (number - 1) line_there due.numbered.line)))
    | inr other ↦ elim (look s.lines i) [
      | past none ↦ undone_past s moved 0 s.lines i none ∙ sym (others_kept (undone s fronts 0 s.lines) (number - 1) i other ∙ undone_past s fronts 0 s.lines i none)
      | there line is ↦
          undone_line s moved i line is ∙ ap (λ l. Some l) (same_kept i line is other)
          ∙ sym (others_kept (undone s fronts 0 s.lines) (number - 1) i other ∙ undone_line s fronts i line is)
    ]
  ]

  pub passed_undone : undone s moved 0 s.lines ≡ without_line (undone s fronts 0 s.lines) (number - 1)
  passed_undone = same_items (undone s moved 0 s.lines) (without_line (undone s fronts 0 s.lines) (number - 1)) passed_at

-- ---- before all

-- Each pass below this one stands at its first line.
pub record AreFirst (s : Script) (fronts : List ℕ) (passes : ℕ) : Type 0 where
  pub count : length fronts ≡ passes
  pub each : (pass : ℕ) → pass < passes → IsNextFront s pass 0 (slice_index fronts pass)

-- no line is done
early : (s : Script) (fronts : List ℕ) (passes : ℕ) → AreFirst s fronts passes → (i : ℕ) (line : Line) → slice_get s.lines i ≡ Some line → pass_front s fronts line ≤ i
early s fronts passes first i Line.Mark is = omega arith
early s fronts passes first i (Line.Do actor lane act) is =
    let pass : ℕ = pass_of s.config.hosts s.lanes actor lane in
    elim (lt_cases pass passes) [
      | inr least ↦ omega (arith, get_or_past fronts pass 0 (omega (arith, least, first.count)))
      | inl known ↦ elim (lt_cases i (slice_index fronts pass)) [
        | inr late ↦ late
        | inl less ↦ absurd (false≢true (sym ((first.each pass known).none i (Line.Do actor lane act) (omega arith) less is) ∙ eq-eqb pass pass refl))
      ]
    ]

pub first_undone : (s : Script) (fronts : List ℕ) (passes : ℕ) → AreFirst s fronts passes → undone_of s fronts ≡ s
first_undone s fronts passes first =
    let same : undone s fronts 0 s.lines ≡ s.lines = same_items (undone s fronts 0 s.lines) s.lines (λ i. elim (look s.lines i) [
      | past none ↦ undone_past s fronts 0 s.lines i none ∙ sym none
      | there line is ↦ undone_line s fronts i line is ∙ ap (λ l. Some l) (is_left s fronts i line (early s fronts passes first i line is)) ∙ sym is
    ]) in
    ap (λ lines. record s { lines = lines }) same

-- ---- where none is due
pub not_due : (s : Script) (fronts : List ℕ) → AreFronts s fronts → list_all (is_sound_line s.config.hosts s.lanes) s.lines ≡ true → (e : Entry) → IsNextInPass (undone_of s fronts) e → IsDueEntry s fronts e
not_due s fronts are sound e next = next_due s fronts are e (elim (look s.lines (e.line - 1)) [
  | past none ↦ absurd (none_some (Line.Do e.actor next.of_line.lane e.act) (sym (undone_past s fronts 0 s.lines (e.line - 1) none) ∙ next.of_line.line))
  | there line is ↦ known line is
]) next
  where
    apart : Some Line.Mark ≡ Some (Line.Do e.actor next.of_line.lane e.act) → ⊥
    apart e = cc

    known : (line : Line) → slice_get s.lines (e.line - 1) ≡ Some line → e.pass < length fronts
    known line is = elim (lt_cases (e.line - 1) (pass_front s fronts line)) [
      | inl less ↦ absurd (apart (sym (ap (λ l. Some l) (is_done s fronts (e.line - 1) line less)) ∙ sym (undone_line s fronts (e.line - 1) line is) ∙ next.of_line.line))
      | inr least ↦
          let same : Some line ≡ Some (Line.Do e.actor next.of_line.lane e.act) =
          sym (ap (λ l. Some l) (is_left s fronts (e.line - 1) line least)) ∙ sym (undone_line s fronts (e.line - 1) line is) ∙ next.of_line.line in
          omega (arith, line_pass s (e.line - 1) e.actor next.of_line.lane e.act sound (is ∙ same), are.count, next.of_line.pass)
    ]
