-- Lines of a text that are right are those of the journal that the text claims.
use Rattle.std.proofs.Common.{◌≡◌, ℕ, suc, ◌+◌, ◌-◌, ◌<◌, ◌^◌, List, [], ◌∷◌, ◌++◌, length, map, flat_map, Some, append_assoc, refl, sym, ap, subst, ◌∙◌, arith}
use Rattle.std.{specs.Prelude.codes, specs.List.AllByRecursion, specs.List.enumerate_from, proofs.lemmas.List.Concat.flat_map-cons, proofs.lemmas.Option.same_Some}
use Rattle.journal_core.{specs.declared.entries.Entry.Entry, proofs.EachSteps.Each-front}
use Rattle.report.specs.{script_codec.specs.declared.scripts.Script.Script, script_codec.specs.Covering.Covers, Texts.text, Texts.entry_line, Texts.entry_lines, Texts.first_line}
use Rattle.device_plain.specs.device_rules.specs.Legal.{Legal, Meets}
use Rattle.journal_check.proofs.{Completed.HasFront, Completed.enough, Completed.text_front, CoveringOrders.covers_follows, CoveringOrders.follows_front}
use Rattle.journal_check.proofs.EntryLines.{IsLine, IsSmall, entry_is_line, word_by}
use Rattle.journal_check.proofs.{Sharing.HasLine, Sharing.behind_is, Sharing.claimed_same, Sharing.share_line, Sharing.shared_claims, TextLines.IsWord, TextLines.line_first, TextLines.with_bytes}
use Rattle.journal_check.{proofs.Unstamped.SameLines, proofs.Unstamped.same_journal, proofs.Unstamped.unstamped, specs.Claims.behind_line, specs.Claims.Claims}
use Rattle.journal_check.specs.{Following.FollowsPasses, Following.IsNextInPass, Following.left_after, Following.left_by_entry, Following.without_line, Lines.first_lines, Lines.with_first}

-- ---- stamps are not printed
unstamped_lines : (journal : List Entry) (n : ℕ) → flat_map entry_line (enumerate_from n (map unstamped journal)) ≡ flat_map entry_line (enumerate_from n journal)
unfolding entry_line
unstamped_lines [] n = refl
unstamped_lines (e ∷ journal) n = flat_map-cons entry_line (n, unstamped e) (enumerate_from (n + 1) (map unstamped journal))
    ∙ ap (λ (bytes : List ℕ). entry_line (n, e) ++ bytes) (unstamped_lines journal (n + 1)) ∙ sym (flat_map-cons entry_line (n, e) (enumerate_from (n + 1) journal))

pub lines_same : (one other : List Entry) → map unstamped one ≡ map unstamped other → entry_lines one ≡ entry_lines other
unfolding entry_lines
lines_same one other same =
    sym (unstamped_lines one 1) ∙ ap (λ (journal : List Entry). flat_map entry_line (enumerate_from 1 journal)) same ∙ unstamped_lines other 1

-- ---- so many entries, so many lines
joined : (bytes rest : List ℕ) → with_bytes bytes (Some rest) ≡ Some (bytes ++ rest)
joined [] rest = refl
joined (byte ∷ bytes) rest = ap (with_first byte) (joined bytes rest)

all_lines : (entries : List Entry) (n : ℕ) → AllByRecursion IsSmall entries → n + length entries < 2 ^ 64
    → first_lines (length entries) (flat_map entry_line (enumerate_from n entries)) ≡ Some (flat_map entry_line (enumerate_from n entries))
all_lines [] n small few = refl
all_lines (e ∷ entries) n small few =
    let line : IsLine (entry_line (n, e)) = entry_is_line n e (omega (arith, few)) small.0 in
    let rest : List ℕ = flat_map entry_line (enumerate_from (n + 1) entries) in
    let parts : flat_map entry_line (enumerate_from n (e ∷ entries)) ≡ line.word ++ 10 ∷ rest =
    flat_map-cons entry_line (n, e) (enumerate_from (n + 1) entries) ∙ ap (λ (bytes : List ℕ). bytes ++ rest) line.is ∙ append_assoc line.word (10 ∷ []) rest in
    ap (first_lines (suc (length entries))) parts
    ∙ line_first (length entries) line.word rest line.whole
    ∙ ap (with_bytes (line.word ++ 10 ∷ [])) (all_lines entries (n + 1) small.1 (omega (arith, few)))
    ∙ joined (line.word ++ 10 ∷ []) rest
    ∙ ap (λ (bytes : List ℕ). Some bytes) (append_assoc line.word (10 ∷ []) rest ∙ sym parts)

-- ---- the first line
abbrev title : List ℕ
title = codes "dcd 1"

title_is : first_line ≡ title ++ 10 ∷ []
unfolding first_line
title_is = refl

title_word : IsWord title
title_word = word_by title refl

titled : (bytes : List ℕ) → first_line ++ bytes ≡ title ++ 10 ∷ bytes
titled bytes = ap (λ (start : List ℕ). start ++ bytes) title_is ∙ append_assoc title (10 ∷ []) bytes

pub begun_lines : (entries : List Entry) → AllByRecursion IsSmall entries → 1 + length entries < 2 ^ 64
    → first_lines (suc (length entries)) (first_line ++ entry_lines entries) ≡ Some (first_line ++ entry_lines entries)
unfolding entry_lines
begun_lines entries small few =
    ap (first_lines (suc (length entries))) (titled (flat_map entry_line (enumerate_from 1 entries)))
    ∙ line_first (length entries) title (flat_map entry_line (enumerate_from 1 entries)) title_word
    ∙ ap (with_bytes (title ++ 10 ∷ [])) (all_lines entries 1 small few)
    ∙ joined (title ++ 10 ∷ []) (flat_map entry_line (enumerate_from 1 entries))
    ∙ ap (λ (bytes : List ℕ). Some (bytes ++ flat_map entry_line (enumerate_from 1 entries))) (sym title_is)

-- the front of a covering journal claims what the text does
pub other_claims : (s : Script) (other after : List Entry) (given lines : List ℕ) → AllByRecursion IsSmall other → 1 + length other < 2 ^ 64
    → first_lines (suc (length other)) (text s.config (other ++ after)) ≡ Some lines → first_lines (suc (length other)) given ≡ Some lines → Claims (behind_line given) other
unfolding entry_lines
other_claims s other after given lines small few printed has =
    let front : HasFront (first_line ++ entry_lines other) (text s.config (other ++ after)) = text_front s.config other after in
    let parts : text s.config (other ++ after) ≡ title ++ 10 ∷ (entry_lines other ++ front.rest) =
    front.parts ∙ append_assoc first_line (entry_lines other) front.rest ∙ titled (entry_lines other ++ front.rest) in
    let line : HasLine (length other) title (entry_lines other ++ front.rest) given =
    share_line (length other) title (entry_lines other ++ front.rest) given lines title_word (sym (ap (first_lines (suc (length other))) parts) ∙ printed) has in
    subst (λ bytes. Claims bytes other) (sym (ap behind_line line.is ∙ behind_is title line.behind title_word))
    (shared_claims other 1 front.rest line.behind line.lines small few line.of_rest line.of_behind)

-- So many lines of the given text are right, and it claims the entries of this journal: then these lines are the journal's.
pub agree : (s : Script) (one : List Entry) (given : List ℕ) → Legal s.config one → FollowsPasses s one → Claims (behind_line given) one
    → (other after : List Entry) (lines : List ℕ) → Legal s.config (other ++ after) → Covers (other ++ after) s → length other ≡ length one → AllByRecursion IsSmall other → 1 + length other < 2 ^ 64
    → first_lines (suc (length other)) (text s.config (other ++ after)) ≡ Some lines → first_lines (suc (length other)) given ≡ Some lines
    → lines ≡ first_line ++ entry_lines one
agree s one given legal follows claims other after lines lawful covers long small few printed has =
    let same : SameLines one other = claimed_same (behind_line given) one other (sym long) claims (other_claims s other after given lines small few printed has) in
    let alike : map unstamped one ≡ map unstamped other =
    same_journal s.config s one other legal (Each-front (Meets s.config) other after lawful) follows (follows_front other after s (covers_follows (other ++ after) s covers)) same in
    let front : HasFront (first_line ++ entry_lines other) (text s.config (other ++ after)) = text_front s.config other after in
    let begun : first_lines (suc (length other)) (first_line ++ entry_lines other) ≡ Some (first_line ++ entry_lines other) = begun_lines other small few in
    same_Some lines (first_line ++ entry_lines other) (sym printed ∙ ap (first_lines (suc (length other))) front.parts ∙ enough (suc (length other)) (first_line ++ entry_lines other) front.rest (first_line ++ entry_lines other) begun ∙ begun)
    ∙ ap (λ (bytes : List ℕ). first_line ++ bytes) (sym (lines_same one other alike))

-- ---- the line behind them
left_same : (one other : List Entry) (s : Script) → SameLines one other → left_after s one ≡ left_after s other
left_same [] [] s same = refl
left_same [] (f ∷ other) s same = absurd same
left_same (e ∷ one) [] s same = absurd same
left_same (e ∷ one) (f ∷ other) s same =
    left_same one other (left_by_entry e s) same.1 ∙ ap (λ n. left_after (record s { lines = without_line s.lines (n - 1) }) other) same.0

follows_last : (done : List Entry) (e : Entry) (s : Script) → FollowsPasses s (done ++ e ∷ []) → IsNextInPass (left_after s done) e
follows_last [] e s follows = follows.0
follows_last (f ∷ done) e s follows = follows_last done e (left_by_entry f s) follows.1

-- A further entry of a covering journal whose lines the given text has is of a line that can come next.
pub next_one : (s : Script) (one : List Entry) (given : List ℕ) → Claims (behind_line given) one → (other : List Entry) (e : Entry) (after : List Entry)
    → Covers ((other ++ e ∷ []) ++ after) s → length other ≡ length one → Claims (behind_line given) other → IsNextInPass (left_after s one) e
next_one s one given claims other e after covers long theirs =
    let same : SameLines one other = claimed_same (behind_line given) one other (sym long) claims theirs in
    subst (λ left. IsNextInPass left e) (sym (left_same one other s same))
    (follows_last other e s (follows_front (other ++ e ∷ []) after s (covers_follows ((other ++ e ∷ []) ++ after) s covers)))
