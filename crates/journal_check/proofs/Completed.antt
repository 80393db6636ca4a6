-- A legal journal that follows a script is the front of one that covers it, so the lines of its text are right.
use Rattle.std.proofs.Common.{◌≡◌, inl, inr, arith, ℕ, zero, suc, ◌+◌, ◌-◌, true, ◌&&◌, List, [], ◌∷◌, ◌++◌, length, Option, Some, None, append_assoc, refl, sym, ap, subst, ◌∙◌}
use Rattle.std.proofs.lemmas.{Bool.and_parts, Bool.cases_Bool, Bool.false≢true, List.Concat.flat_map-cons}
use Rattle.std.specs.{List.list_all, List.enumerate_from, List.flat_map, Option.is_some, Prelude.if◌then◌else◌, Prelude.◌==◌}
use Rattle.region_config.specs.Configurations.{Configuration}
use Rattle.journal_core.specs.{declared.entries.Entry.Entry, Entries.effects}
use Rattle.report.specs.{Texts.text, Texts.first_line, Texts.entry_line, Texts.entry_lines, Texts.all_records, Texts.state_lines, script_codec.proofs.CoveringLaws.runs_cover}
use Rattle.report.specs.script_codec.specs.{Covering.Covers, Scripts.is_sound_line, declared.script_line.Line.Line, declared.scripts.Script.Script}
use Rattle.device_plain.specs.device_rules.specs.Legal.{Legal}
use Rattle.journal_check.{proofs.Completing.RanOn, proofs.Completing.run_on, proofs.CoveringOrders.covers_after, specs.FirstWrong.IsRightTo}
use Rattle.journal_check.specs.{Following.without_line, Following.FollowsPasses, Following.left_after, Lines.first_lines, Lines.with_first}

abbrev left_lines : List Line → List Entry → List Line
left_lines lines [] = lines
left_lines lines (e ∷ journal) = left_lines (without_line lines (e.line - 1)) journal

left_is : (s : Script) (journal : List Entry) → left_after s journal ≡ record s { lines = left_lines s.lines journal }
left_is s [] = refl
left_is s (e ∷ journal) = left_is (record s { lines = without_line s.lines (e.line - 1) }) journal

sound_without : (hosts lanes : ℕ) (lines : List Line) (i : ℕ) → list_all (is_sound_line hosts lanes) lines ≡ true → list_all (is_sound_line hosts lanes) (without_line lines i) ≡ true
sound_without hosts lanes [] i sound = sound
sound_without hosts lanes (line ∷ lines) zero sound = (and_parts (is_sound_line hosts lanes line) (list_all (is_sound_line hosts lanes) lines) sound).1
sound_without hosts lanes (line ∷ lines) (suc i) sound =
    let both = and_parts (is_sound_line hosts lanes line) (list_all (is_sound_line hosts lanes) lines) sound in
    ap (λ b. b && list_all (is_sound_line hosts lanes) (without_line lines i)) both.0 ∙ sound_without hosts lanes lines i both.1

sound_left : (hosts lanes : ℕ) (journal : List Entry) (lines : List Line) → list_all (is_sound_line hosts lanes) lines ≡ true → list_all (is_sound_line hosts lanes) (left_lines lines journal) ≡ true
sound_left hosts lanes [] lines sound = sound
sound_left hosts lanes (e ∷ journal) lines sound = sound_left hosts lanes journal (without_line lines (e.line - 1)) (sound_without hosts lanes lines (e.line - 1) sound)

-- The journal goes on until it covers the script.
pub record GoesOn (s : Script) (journal : List Entry) : Type 0 where
  pub rest : List Entry
  pub legal : Legal s.config (journal ++ rest)
  pub covers : Covers (journal ++ rest) s

pub goes_on : (s : Script) → list_all (is_sound_line s.config.hosts s.lanes) s.lines ≡ true → (journal : List Entry) → Legal s.config journal → FollowsPasses s journal → GoesOn s journal
goes_on s sound journal legal follows =
    let left : Script = record s { lines = left_lines s.lines journal } in
    let ran : RanOn s.config s.lanes 1 journal left.lines = run_on s.config s.lanes 1 left.lines journal legal (sound_left s.config.hosts s.lanes journal s.lines sound) in
    let covers : Covers ran.entries left = runs_cover left ran.entries ran.runs in
    record {
      rest = ran.entries;
      legal = ran.legal;
      covers = covers_after journal ran.entries s follows (subst (Covers ran.entries) (sym (left_is s journal)) covers);
    }

-- ---- the first lines
-- Some lines are there.
pub record AreThere (found : Option (List ℕ)) : Type 0 where
  pub lines : List ℕ
  pub is : found ≡ Some lines

pub inside : (byte : ℕ) (found : Option (List ℕ)) (lines : List ℕ) → with_first byte found ≡ Some lines → AreThere found
inside byte None lines has = absurd (false≢true (ap is_some has))
inside byte (Some bytes) lines has = record { lines = bytes; is = refl }

-- what comes behind so many lines does not matter
pub enough : (n : ℕ) (front rest lines : List ℕ) → first_lines n front ≡ Some lines → first_lines n (front ++ rest) ≡ first_lines n front
enough zero front rest lines has = refl
enough (suc n) [] rest lines has = absurd (false≢true (ap is_some has))
enough (suc n) (byte ∷ front) rest lines has =
    let there : AreThere (if byte == 10 then first_lines n front else first_lines (suc n) front) =
    inside byte (if byte == 10 then first_lines n front else first_lines (suc n) front) lines has in
    ap (with_first byte) (elim (cases_Bool (byte == 10)) [
      | inl ends ↦
          let its : first_lines n front ≡ Some there.lines = sym (ap (λ b. if b then first_lines n front else first_lines (suc n) front) ends) ∙ there.is in
          ap (λ b. if b then first_lines n (front ++ rest) else first_lines (suc n) (front ++ rest)) ends
          ∙ enough n front rest there.lines its
          ∙ sym (ap (λ b. if b then first_lines n front else first_lines (suc n) front) ends)
      | inr goes ↦
          let its : first_lines (suc n) front ≡ Some there.lines = sym (ap (λ b. if b then first_lines n front else first_lines (suc n) front) goes) ∙ there.is in
          ap (λ b. if b then first_lines n (front ++ rest) else first_lines (suc n) (front ++ rest)) goes
          ∙ enough (suc n) front rest there.lines its
          ∙ sym (ap (λ b. if b then first_lines n front else first_lines (suc n) front) goes)
    ])

-- the text of more entries begins with the same lines of entries
entries_front : (one other : List Entry) (n : ℕ) → flat_map entry_line (enumerate_from n (one ++ other)) ≡ flat_map entry_line (enumerate_from n one) ++ flat_map entry_line (enumerate_from (n + length one) other)
entries_front [] other n = ap (λ k. flat_map entry_line (enumerate_from k other)) (omega arith)
entries_front (e ∷ one) other n =
    flat_map-cons entry_line (n, e) (enumerate_from (n + 1) (one ++ other))
    ∙ ap (λ (lines : List ℕ). entry_line (n, e) ++ lines) (entries_front one other (n + 1))
    ∙ sym (append_assoc (entry_line (n, e)) (flat_map entry_line (enumerate_from (n + 1) one)) (flat_map entry_line (enumerate_from ((n + 1) + length one) other)))
    ∙ ap (λ (lines : List ℕ). lines ++ flat_map entry_line (enumerate_from ((n + 1) + length one) other)) (sym (flat_map-cons entry_line (n, e) (enumerate_from (n + 1) one)))
    ∙ ap (λ k. flat_map entry_line (enumerate_from n (e ∷ one)) ++ flat_map entry_line (enumerate_from k other)) (omega arith)

-- the first line and the entries of a journal stand at the front of the text of a longer one
pub record HasFront (front whole : List ℕ) : Type 0 where
  pub rest : List ℕ
  pub parts : whole ≡ front ++ rest

pub text_front : (c : Configuration) (one other : List Entry) → HasFront (first_line ++ entry_lines one) (text c (one ++ other))
unfolding text entry_lines
text_front c one other =
    let tail : List ℕ = flat_map entry_line (enumerate_from (1 + length one) other) in
    let records : List ℕ = all_records c (effects (one ++ other)) in
    let state : List ℕ = state_lines c (effects (one ++ other)) (length (one ++ other)) in
    let begun : List ℕ = first_line ++ entry_lines one in
    record {
      rest = tail ++ records ++ state;
      parts = ap (λ (lines : List ℕ). first_line ++ lines ++ records ++ state) (entries_front one other 1)
          ∙ ap (λ (lines : List ℕ). lines ++ records ++ state) (sym (append_assoc first_line (entry_lines one) tail))
          ∙ ap (λ (lines : List ℕ). lines ++ state) (append_assoc begun tail records)
          ∙ append_assoc begun (tail ++ records) state;
    }

-- The text of the entries so far has the lines that are given: they are right.
pub right_so_far : (s : Script) → list_all (is_sound_line s.config.hosts s.lanes) s.lines ≡ true → (journal : List Entry) → Legal s.config journal → FollowsPasses s journal
    → (given : List ℕ) (count : ℕ) (lines : List ℕ) → first_lines count given ≡ Some lines → first_lines count (first_line ++ entry_lines journal) ≡ Some lines → IsRightTo s given count
right_so_far s sound journal legal follows given count lines has printed =
    let on : GoesOn s journal = goes_on s sound journal legal follows in
    let front : HasFront (first_line ++ entry_lines journal) (text s.config (journal ++ on.rest)) = text_front s.config journal on.rest in
    record {
      journal = journal ++ on.rest;
      legal = on.legal;
      covers = on.covers;
      lines = lines;
      given_has = has;
      text_has = ap (first_lines count) front.parts ∙ enough count (first_line ++ entry_lines journal) front.rest lines printed ∙ printed;
    }
