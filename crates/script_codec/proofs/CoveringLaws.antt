-- A run of the lines in order covers the script.
use Rattle.std.proofs.Common.{◌≡◌, ℕ, ◌+◌, ◌-◌, ◌<◌, ◌≤◌, cond, List, [], ◌∷◌, ◌++◌, length, Some, refl, sym, ap, ◌∙◌, subst, arith, append_assoc, length-append, zero-add}
use Rattle.std.{proofs.lemmas.List.Elements.All-cons, proofs.lemmas.List.Kept.AllPairs-cons, proofs.lemmas.List.Sums.sum_by-append, specs.List.All, specs.List.AllByRecursion}
use Rattle.std.specs.Prelude.{count_by, slice_get, AllPairs}
use Rattle.cci_codec.specs.dcd_base.specs.declared.steps.Actor.{Actor}
use Rattle.journal_core.specs.declared.{acts.Act.Act, entries.Entry.Entry}
use Rattle.script_codec.specs.{Covering.is_line, Covering.pass_of, Covering.IsOfLine, Covering.Covers, Covering.IsEntryOf, Covering.Runs, declared.script_line.Line.Line}
use Rattle.script_codec.specs.declared.scripts.Script.{Script}

-- ---- one more line at the end
pub Runs-mark : (hosts lanes number : ℕ) (lines : List Line) (entries : List Entry) → Runs hosts lanes number lines entries → Runs hosts lanes number (lines ++ Line.Mark ∷ []) entries
Runs-mark hosts lanes number [] [] runs = tt
Runs-mark hosts lanes number [] (e ∷ entries) runs = runs
Runs-mark hosts lanes number (Line.Mark ∷ lines) entries runs = Runs-mark hosts lanes (number + 1) lines entries runs
Runs-mark hosts lanes number (Line.Do actor lane act ∷ lines) [] runs = runs
Runs-mark hosts lanes number (Line.Do actor lane act ∷ lines) (e ∷ entries) runs = (runs.0, Runs-mark hosts lanes (number + 1) lines entries runs.1)

pub Runs-do : (hosts lanes number : ℕ) (lines : List Line) (entries : List Entry) (actor : Actor) (lane : ℕ) (act : Act) (e : Entry) → Runs hosts lanes number lines entries → IsEntryOf hosts lanes (number + length lines) actor lane act e → Runs hosts lanes number (lines ++ Line.Do actor lane act ∷ []) (entries ++ e ∷ [])
Runs-do hosts lanes number [] [] actor lane act e runs is = (subst (λ n. IsEntryOf hosts lanes n actor lane act e) (omega arith) is, tt)
Runs-do hosts lanes number [] (f ∷ entries) actor lane act e runs is = absurd runs
Runs-do hosts lanes number (Line.Mark ∷ lines) entries actor lane act e runs is =
    Runs-do hosts lanes (number + 1) lines entries actor lane act e runs (subst (λ n. IsEntryOf hosts lanes n actor lane act e) (omega arith) is)
Runs-do hosts lanes number (Line.Do other at did ∷ lines) [] actor lane act e runs is = absurd runs
Runs-do hosts lanes number (Line.Do other at did ∷ lines) (f ∷ entries) actor lane act e runs is =
    (runs.0, Runs-do hosts lanes (number + 1) lines entries actor lane act e runs.1 (subst (λ n. IsEntryOf hosts lanes n actor lane act e) (omega arith) is))

-- ---- what a run has
counts : (line : Line) (lines : List Line) → count_by is_line (line ∷ lines) ≡ cond (is_line line) 1 0 + count_by is_line lines
counts line lines = sum_by-append (λ l. cond (is_line l) 1 0) (line ∷ []) lines ∙ ap (λ n. n + count_by is_line lines) (zero-add (cond (is_line line) 1 0))

count_of : (hosts lanes number : ℕ) (lines : List Line) (entries : List Entry) → Runs hosts lanes number lines entries → length entries ≡ count_by is_line lines
count_of hosts lanes number [] [] runs = refl
count_of hosts lanes number [] (e ∷ entries) runs = absurd runs
count_of hosts lanes number (Line.Mark ∷ lines) entries runs = count_of hosts lanes (number + 1) lines entries runs ∙ sym (counts Line.Mark lines ∙ zero-add (count_by is_line lines))
count_of hosts lanes number (Line.Do actor lane act ∷ lines) [] runs = absurd runs
count_of hosts lanes number (Line.Do actor lane act ∷ lines) (e ∷ entries) runs =
    let rest = count_of hosts lanes (number + 1) lines entries runs.1 in
    omega (arith, rest, counts (Line.Do actor lane act) lines)

-- no entry is of a line before the first
not_before : (hosts lanes number : ℕ) (lines : List Line) (entries : List Entry) → Runs hosts lanes number lines entries → (n : ℕ) → n ≤ number → All (λ (f : Entry). n ≤ f.line) entries
not_before hosts lanes number [] [] runs n first = λ k d under. absurd (omega (arith, under))
not_before hosts lanes number [] (e ∷ entries) runs n first = absurd runs
not_before hosts lanes number (Line.Mark ∷ lines) entries runs n first = not_before hosts lanes (number + 1) lines entries runs n (omega (arith, first))
not_before hosts lanes number (Line.Do actor lane act ∷ lines) [] runs n first = absurd runs
not_before hosts lanes number (Line.Do actor lane act ∷ lines) (e ∷ entries) runs n first =
    All-cons (λ (f : Entry). n ≤ f.line) e entries (omega (arith, first, runs.0.number_is)) (not_before hosts lanes (number + 1) lines entries runs.1 n (omega (arith, first)))

rising : (hosts lanes number : ℕ) (lines : List Line) (entries : List Entry) → Runs hosts lanes number lines entries → AllPairs (λ (e f : Entry). e.line < f.line) entries
rising hosts lanes number [] [] runs = λ i j d first under. absurd (omega (arith, under))
rising hosts lanes number [] (e ∷ entries) runs = absurd runs
rising hosts lanes number (Line.Mark ∷ lines) entries runs = rising hosts lanes (number + 1) lines entries runs
rising hosts lanes number (Line.Do actor lane act ∷ lines) [] runs = absurd runs
rising hosts lanes number (Line.Do actor lane act ∷ lines) (e ∷ entries) runs =
    AllPairs-cons (λ (e f : Entry). e.line < f.line) e entries
    (λ k d under. omega (arith, runs.0.number_is, not_before hosts lanes (number + 1) lines entries runs.1 (number + 1) (omega arith) k d under))
    (rising hosts lanes (number + 1) lines entries runs.1)

-- the line at its place
pub placed : (front : List Line) (line : Line) (lines : List Line) → slice_get (front ++ line ∷ lines) (length front) ≡ Some line
placed [] line lines = refl
placed (l ∷ front) line lines = placed front line lines

each_of_line : (s : Script) (front lines : List Line) (number : ℕ) (entries : List Entry) → s.lines ≡ front ++ lines → number ≡ length front + 1 → Runs s.config.hosts s.lanes number lines entries → AllByRecursion (IsOfLine s) entries
each_of_line s front [] number [] whole at runs = tt
each_of_line s front [] number (e ∷ entries) whole at runs = absurd runs
each_of_line s front (Line.Mark ∷ lines) number entries whole at runs =
    each_of_line s (front ++ Line.Mark ∷ []) lines (number + 1) entries (whole ∙ sym (append_assoc front (Line.Mark ∷ []) lines)) (omega (arith, at, length-append front (Line.Mark ∷ []))) runs
each_of_line s front (Line.Do actor lane act ∷ lines) number [] whole at runs = absurd runs
each_of_line s front (Line.Do actor lane act ∷ lines) number (e ∷ entries) whole at runs =
    let place : e.line - 1 ≡ length front = omega (arith, at, runs.0.number_is) in (
      record {
        counted = omega (arith, at, runs.0.number_is);
        lane = lane;
        line = ap (λ n. slice_get s.lines n) place ∙ ap (λ ls. slice_get ls (length front)) whole ∙ placed front (Line.Do actor lane act) lines ∙ (λ i. Some (Line.Do (sym runs.0.actor_is i) lane (sym runs.0.act_is i)));
        pass = runs.0.pass_is ∙ ap (λ a. pass_of s.config.hosts s.lanes a lane) (sym runs.0.actor_is);
      },
      each_of_line s (front ++ Line.Do actor lane act ∷ []) lines (number + 1) entries (whole ∙ sym (append_assoc front (Line.Do actor lane act ∷ []) lines)) (omega (arith, at, length-append front (Line.Do actor lane act ∷ []))) runs.1,
    )

pub runs_cover : (s : Script) (journal : List Entry) → Runs s.config.hosts s.lanes 1 s.lines journal → Covers journal s
runs_cover s journal runs =
    let up = rising s.config.hosts s.lanes 1 s.lines journal runs in
    record {
      count = count_of s.config.hosts s.lanes 1 s.lines journal runs;
      once = λ i j d first under. λ same. absurd (omega (arith, same, up i j d first under));
      lines = each_of_line s [] s.lines 1 journal refl refl runs;
      order = λ i j d first under. λ same. up i j d first under;
    }
