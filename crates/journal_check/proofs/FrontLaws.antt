-- Which lines are left to be done, by where each pass stands.
use Rattle.std.proofs.Common.{◌≡◌, inl, inr, true, false, ℕ, zero, suc, ◌+◌, ◌-◌, ◌<◌, ◌≤◌, List, [], ◌∷◌, length, slice_index, Some, None, refl, sym, ap, ◌∙◌, arith}
use Rattle.std.proofs.lemmas.{Bool.cases_Bool, Bool.eqb-true, Bool.false≢true, Bool.le-ltb, Bool.lt-ltb, Option.same_Some, Option.slice_get_within}
use Rattle.std.specs.Prelude.{nat_lt, slice_get, if◌then◌else◌}
use Rattle.journal_core.specs.declared.entries.Entry.{Entry}
use Rattle.report.specs.script_codec.specs.{declared.script_line.Line.Line, declared.scripts.Script.Script, Covering.IsOfLine, Covering.pass_of}
use Rattle.journal_check.{proofs.CoveringOrders.all_false, proofs.CoveringOrders.each_false, proofs.CoveringOrders.lt_cases, specs.Following.IsNextInPass, specs.Following.has_pass}
use Rattle.journal_check.specs.Fronts.{AreFronts, IsDue, pass_front, undone, undone_of}

-- ---- lists that have the same items
pub same_items : {X : Type 0} (xs ys : List X) → ((i : ℕ) → slice_get xs i ≡ slice_get ys i) → xs ≡ ys
same_items [] [] same = refl
same_items [] (y ∷ ys) same = absurd (nothing y (same zero))
  where
    nothing : {X : Type 0} (y : X) → None ≡ Some y → ⊥
    nothing y e = cc
same_items (x ∷ xs) [] same = absurd (nothing x (same zero))
  where
    nothing : {X : Type 0} (x : X) → Some x ≡ None → ⊥
    nothing x e = cc
same_items (x ∷ xs) (y ∷ ys) same =
    let head : x ≡ y = same_Some x y (same zero) in
    let tail : xs ≡ ys = same_items xs ys (λ i. same (suc i)) in
    λ i. head i ∷ tail i

-- an item or none
pub data Found {X : Type 0} (xs : List X) (i : ℕ) : Type 0 where
  there : (x : X) → slice_get xs i ≡ Some x → Found xs i
  past : slice_get xs i ≡ None → Found xs i

pub look : {X : Type 0} (xs : List X) (i : ℕ) → Found xs i
look [] i = past refl
look (x ∷ xs) zero = there x refl
look (x ∷ xs) (suc i) = elim (look xs i) [
  | there y is ↦ there y is
  | past is ↦ past is
]

-- ---- the lines that are left, one by one

-- what is left of a line
abbrev pub kept : Script → List ℕ → ℕ → Line → Line
kept s fronts i line = if nat_lt i (pass_front s fronts line) then Line.Mark else line

undone_at : (s : Script) (fronts : List ℕ) (k : ℕ) (lines : List Line) (i : ℕ) (line : Line) → slice_get lines i ≡ Some line
    → slice_get (undone s fronts k lines) i ≡ Some (kept s fronts (k + i) line)
undone_at s fronts k [] i line found = absurd (omega (arith, slice_get_within [] i line found))
undone_at s fronts k (l ∷ lines) zero line found =
    let same : l ≡ line = same_Some l line found in
    let place : k ≡ k + 0 = omega arith in
    λ j. Some (kept s fronts (place j) (same j))
undone_at s fronts k (l ∷ lines) (suc i) line found =
    let place : suc k + i ≡ k + suc i = omega arith in
    undone_at s fronts (suc k) lines i line found ∙ ap (λ n. Some (kept s fronts n line)) place

pub undone_past : (s : Script) (fronts : List ℕ) (k : ℕ) (lines : List Line) (i : ℕ) → slice_get lines i ≡ None → slice_get (undone s fronts k lines) i ≡ None
undone_past s fronts k [] i none = refl
undone_past s fronts k (l ∷ lines) zero none = absurd (something l none)
  where
    something : (l : Line) → Some l ≡ None → ⊥
    something l e = cc
undone_past s fronts k (l ∷ lines) (suc i) none = undone_past s fronts (suc k) lines i none

pub undone_line : (s : Script) (fronts : List ℕ) (i : ℕ) (line : Line) → slice_get s.lines i ≡ Some line → slice_get (undone s fronts 0 s.lines) i ≡ Some (kept s fronts i line)
undone_line s fronts i line found =
    let place : 0 + i ≡ i = omega arith in undone_at s fronts 0 s.lines i line found ∙ ap (λ n. Some (kept s fronts n line)) place

-- a line of a pass stands where its pass does
pub front_is : (s : Script) (fronts : List ℕ) (pass : ℕ) (line : Line) → has_pass s.config.hosts s.lanes pass line ≡ true → pass_front s fronts line ≡ slice_index fronts pass
front_is s fronts pass (Line.Do actor lane act) its = ap (λ n. slice_index fronts n) (eqb-true (pass_of s.config.hosts s.lanes actor lane) pass its)
front_is s fronts pass Line.Mark its = absurd (false≢true its)

pub is_done : (s : Script) (fronts : List ℕ) (i : ℕ) (line : Line) → i < pass_front s fronts line → kept s fronts i line ≡ Line.Mark
is_done s fronts i line less = ap (λ b. if b then Line.Mark else line) (lt-ltb i (pass_front s fronts line) less)

pub is_left : (s : Script) (fronts : List ℕ) (i : ℕ) (line : Line) → pass_front s fronts line ≤ i → kept s fronts i line ≡ line
is_left s fronts i line least = ap (λ b. if b then Line.Mark else line) (le-ltb i (pass_front s fronts line) least)

-- what is left of a line that is not of the pass is not of it
kept_apart : (s : Script) (fronts : List ℕ) (i pass : ℕ) (line : Line) → has_pass s.config.hosts s.lanes pass line ≡ false
    → has_pass s.config.hosts s.lanes pass (kept s fronts i line) ≡ false
kept_apart s fronts i pass line apart = elim (lt_cases i (pass_front s fronts line)) [
  | inl less ↦ ap (has_pass s.config.hosts s.lanes pass) (is_done s fronts i line less)
  | inr least ↦ ap (has_pass s.config.hosts s.lanes pass) (is_left s fronts i line least) ∙ apart
]

-- ---- what is due is next
before_due : (s : Script) (fronts : List ℕ) (pass at : ℕ) → slice_index fronts pass ≡ at → (i : ℕ) (line : Line) → i < at
    → slice_get (undone s fronts 0 s.lines) i ≡ Some line → has_pass s.config.hosts s.lanes pass line ≡ false
before_due s fronts pass at stands i line less found = elim (look s.lines i) [
  | past none ↦ absurd (nothing line (sym (undone_past s fronts 0 s.lines i none) ∙ found))
  | there old is ↦
      let same : kept s fronts i old ≡ line = same_Some (kept s fronts i old) line (sym (undone_line s fronts i old is) ∙ found) in
      sym (ap (has_pass s.config.hosts s.lanes pass) same) ∙ (elim (cases_Bool (has_pass s.config.hosts s.lanes pass old)) [
        | inl its ↦ ap (has_pass s.config.hosts s.lanes pass) (is_done s fronts i old (omega (arith, less, stands, front_is s fronts pass old its)))
        | inr apart ↦ kept_apart s fronts i pass old apart
      ])
]
  where
    nothing : (l : Line) → None ≡ Some l → ⊥
    nothing l e = cc

pub due_next : (s : Script) (fronts : List ℕ) (number pass : ℕ) → IsDue s fronts number pass → (e : Entry) → e.line ≡ number → e.pass ≡ pass → IsOfLine s e
    → IsNextInPass (undone_of s fronts) e
due_next s fronts number pass due e line_is pass_is of =
    let stands : slice_index fronts e.pass ≡ e.line - 1 = ap (λ n. slice_index fronts n) pass_is ∙ due.front ∙ ap (λ n. n - 1) (sym line_is) in
    let its : pass_front s fronts (Line.Do e.actor of.lane e.act) ≡ e.line - 1 = ap (λ n. slice_index fronts n) (sym of.pass) ∙ stands in
    record {
      of_line = record {
        counted = of.counted;
        lane = of.lane;
        line = undone_line s fronts (e.line - 1) (Line.Do e.actor of.lane e.act) of.line
            ∙ ap (λ line. Some line) (is_left s fronts (e.line - 1) (Line.Do e.actor of.lane e.act) (omega (arith, its)));
        pass = of.pass;
      };
      first = all_false (has_pass s.config.hosts s.lanes e.pass) (undone s fronts 0 s.lines) (e.line - 1) (before_due s fronts e.pass (e.line - 1) stands);
    }

-- ---- what is next is due

-- The entry is of a line of the script, at which its pass stands.
pub record IsDueEntry (s : Script) (fronts : List ℕ) (e : Entry) : Type 0 where
  pub of_line : IsOfLine s e
  pub stands : slice_index fronts e.pass ≡ e.line - 1

still_there : (s : Script) (fronts : List ℕ) (e : Entry) (next : IsNextInPass (undone_of s fronts) e) (old : Line) → slice_get s.lines (e.line - 1) ≡ Some old
    → kept s fronts (e.line - 1) old ≡ Line.Do e.actor next.of_line.lane e.act
still_there s fronts e next old is =
    same_Some (kept s fronts (e.line - 1) old) (Line.Do e.actor next.of_line.lane e.act) (sym (undone_line s fronts (e.line - 1) old is) ∙ next.of_line.line)

mark_apart : (s : Script) (e : Entry) (lane : ℕ) → Line.Mark ≡ Line.Do e.actor lane e.act → ⊥
mark_apart s e lane same = cc

-- no line of its pass before it is left
pub next_due : (s : Script) (fronts : List ℕ) → AreFronts s fronts → (e : Entry) → e.pass < length fronts → IsNextInPass (undone_of s fronts) e → IsDueEntry s fronts e
next_due s fronts are e known next = elim (look s.lines (e.line - 1)) [
  | past none ↦ absurd (nothing (Line.Do e.actor next.of_line.lane e.act) (sym (undone_past s fronts 0 s.lines (e.line - 1) none) ∙ next.of_line.line))
  | there old is ↦ elim (lt_cases (e.line - 1) (pass_front s fronts old)) [
    | inl less ↦ absurd (mark_apart s e next.of_line.lane (sym (is_done s fronts (e.line - 1) old less) ∙ still_there s fronts e next old is))
    | inr least ↦ whole old is least
  ]
]
  where
    nothing : (l : Line) → None ≡ Some l → ⊥
    nothing l e = cc

    whole : (old : Line) → slice_get s.lines (e.line - 1) ≡ Some old → pass_front s fronts old ≤ e.line - 1 → IsDueEntry s fronts e
    whole old is least =
        let same : old ≡ Line.Do e.actor next.of_line.lane e.act = sym (is_left s fronts (e.line - 1) old least) ∙ still_there s fronts e next old is in
        let stands : pass_front s fronts old ≡ slice_index fronts e.pass = ap (pass_front s fronts) same ∙ ap (λ n. slice_index fronts n) (sym next.of_line.pass) in
        record {
          of_line = record { counted = next.of_line.counted; lane = next.of_line.lane; line = is ∙ ap (λ line. Some line) same; pass = next.of_line.pass };
          stands = elim (lt_cases (slice_index fronts e.pass) (e.line - 1)) [
            | inl less ↦ absurd (earlier less)
            | inr most ↦ omega (arith, most, least, stands)
          ];
        }
      where
        -- the line at which the pass stands would be left, before it
        earlier : slice_index fronts e.pass < e.line - 1 → ⊥
        earlier less = elim (look s.lines (slice_index fronts e.pass)) [
          | past none ↦ omega (arith, less, slice_get_within s.lines (e.line - 1) old is, missing s.lines (slice_index fronts e.pass) none)
          | there other found ↦
              let its : has_pass s.config.hosts s.lanes e.pass other ≡ true = (are.each e.pass known).of_pass other found in
              let left : kept s fronts (slice_index fronts e.pass) other ≡ other = is_left s fronts (slice_index fronts e.pass) other (omega (arith, front_is s fronts e.pass other its)) in
              let none : has_pass s.config.hosts s.lanes e.pass other ≡ false =
              each_false (has_pass s.config.hosts s.lanes e.pass) (undone s fronts 0 s.lines) (e.line - 1) next.first (slice_index fronts e.pass) other less
              (undone_line s fronts (slice_index fronts e.pass) other found ∙ ap (λ line. Some line) left) in
              false≢true (sym none ∙ its)
        ]
          where
            missing : (lines : List Line) (i : ℕ) → slice_get lines i ≡ None → length lines ≤ i
            missing [] i none = omega arith
            missing (l ∷ lines) zero none = absurd (something l none)
              where
                something : (l : Line) → Some l ≡ None → ⊥
                something l e = cc
            missing (l ∷ lines) (suc i) none = omega (arith, missing lines i none)
