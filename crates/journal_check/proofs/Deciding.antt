-- What the first wrong line of a text is, by the journal whose lines it claims and by where it parts from that journal's text.
use Rattle.std.proofs.Common.{◌≡◌, ◌≢◌, inl, inr, Bool, true, false, ℕ, zero, suc, ◌+◌, ◌-◌, ◌<◌, ◌≤◌, ◌^◌, min, List, [], ◌∷◌, ◌++◌, length, map, take, drop, count_by, Some, append-nil, refl, sym, ap, subst, ◌∙◌, arith}
use Rattle.std.proofs.lemmas.List.{length-append, length-map, length-take, take-append-drop, take_all, Sums.count_by-le-length, Sums.sum_by-append}
use Rattle.std.specs.{List.AllByRecursion, List.list_all, Prelude.slice_get}
use Rattle.region_config.specs.{Configurations.Configuration, Soundness.IsSound}
use Rattle.journal_core.{specs.declared.entries.Entry.Entry, specs.Entries.effects, proofs.EachSteps.Each-front}
use Rattle.report.specs.{Texts.text, Texts.all_records, Texts.entry_lines, Texts.first_line, Texts.state_lines, script_codec.specs.Covering.Covers, script_codec.specs.Covering.is_line}
use Rattle.report.specs.script_codec.specs.{Scripts.is_sound_line, declared.script_line.Line.Line, declared.scripts.Script.Script}
use Rattle.device_plain.specs.device_rules.specs.Legal.{Legal, Meets}
use Rattle.journal_check.proofs.Agreeing.{agree, begun_lines, lines_same, next_one, other_claims}
use Rattle.journal_check.proofs.Completed.{AreThere, GoesOn, HasFront, enough, goes_on, right_so_far, text_front}
use Rattle.journal_check.proofs.{CoveringOrders.covers_after, CoveringOrders.covers_follows, CoveringOrders.follows_front, CoveringOrders.lt_cases, CoveringOrders.one_fewer, EntryLines.IsSmall}
use Rattle.journal_check.proofs.{Feeds.AreFirstLines, Feeds.alike_lines, Feeds.are_fewer, Feeds.feeds, Feeds.fewer_lines, Feeds.lines_are, Feeds.same_byte, Sharing.claimed_same}
use Rattle.journal_check.proofs.{Small.small, Small.small_front, Unstamped.SameLines, Unstamped.effects_same, Unstamped.same_journal, Unstamped.unstamped}
use Rattle.journal_check.specs.{Claims.behind_line, Claims.claim_in, Claims.Claims, FirstWrong.IsFirstWrong, FirstWrong.IsRightText, FirstWrong.IsRightTo}
use Rattle.journal_check.specs.{Following.FollowsPasses, Following.IsClaimedEnd, Following.IsNextInPass, Following.behind_lines, Following.left_after, Following.left_by_entry, Lines.first_lines}
use Rattle.journal_check.specs.Parting.{PartAt}

-- ---- a script that is followed to its end is covered
left_count : (s : Script) (journal : List Entry) → FollowsPasses s journal → count_by is_line s.lines ≡ length journal + count_by is_line (left_after s journal).lines
left_count s [] follows = omega arith
left_count s (e ∷ journal) follows =
    omega (arith, one_fewer s.lines (e.line - 1) (Line.Do e.actor follows.0.of_line.lane e.act) follows.0.of_line.line refl, left_count (left_by_entry e s) journal follows.1)

nothing_left : (s : Script) → count_by is_line s.lines ≡ 0 → Covers [] s
nothing_left s none = record {
  count = sym none;
  once = λ i j d less under. absurd (omega (arith, under));
  lines = tt;
  order = λ i j d less under. absurd (omega (arith, under));
}

pub covers_whole : (s : Script) (journal : List Entry) → FollowsPasses s journal → length journal ≡ count_by is_line s.lines → Covers journal s
covers_whole s journal follows all =
    subst (λ j. Covers j s) (append-nil journal)
    (covers_after journal [] s follows (nothing_left (left_after s journal) (omega (arith, all, left_count s journal follows))))

-- ---- entries that are the same but for stamps have one text
text_same : (c : Configuration) (one other : List Entry) → map unstamped one ≡ map unstamped other → text c one ≡ text c other
unfolding text
text_same c one other same =
    let lines : entry_lines one ≡ entry_lines other = lines_same one other same in
    let past : effects one ≡ effects other = sym (effects_same one) ∙ ap effects same ∙ effects_same other in
    let count : length one ≡ length other = sym (length-map one unstamped) ∙ ap length same ∙ length-map other unstamped in
    λ i. first_line ++ lines i ++ all_records c (past i) ++ state_lines c (past i) (count i)

-- ---- claims of more entries
claims_front : (given : List ℕ) (one other : List Entry) → Claims given (one ++ other) → Claims given one
claims_front given [] other claims = tt
claims_front given (e ∷ one) other claims = (claims.0, claims_front (behind_line given) one other claims.1)

claims_last : (given : List ℕ) (one : List Entry) (e : Entry) → Claims given (one ++ e ∷ []) → claim_in (behind_lines (length one) given) ≡ e.line
claims_last given [] e claims = claims.0
claims_last given (f ∷ one) e claims = claims_last (behind_line given) one e claims.1

-- Some entries and one more.
record HasNext (journal : List Entry) (n : ℕ) : Type 0 where
  front : List Entry
  next : Entry
  after : List Entry
  parts : journal ≡ (front ++ next ∷ []) ++ after
  long : length front ≡ n

has_next : (journal : List Entry) (n : ℕ) → n < length journal → HasNext journal n
has_next [] n less = absurd (omega (arith, less))
has_next (e ∷ journal) zero less = record { front = []; next = e; after = journal; parts = refl; long = refl }
has_next (e ∷ journal) (suc n) less =
    let more : HasNext journal n = has_next journal n (omega (arith, less)) in record {
      front = e ∷ more.front;
      next = more.next;
      after = more.after;
      parts = ap (λ (es : List Entry). e ∷ es) more.parts;
      long = ap (λ k. suc k) more.long;
    }

module _ (s : Script) (sound : IsSound s.config) (sound_lines : list_all (is_sound_line s.config.hosts s.lanes) s.lines ≡ true) (few : length s.lines ≤ 65536) (given : List ℕ) where
  few_lines : count_by is_line s.lines ≤ 65536
  few_lines = omega (arith, few, count_by-le-length is_line s.lines)

  -- a text that has the lines of a whole journal's entries claims them
  claims_all : (journal : List Entry) → Legal s.config journal → Covers journal s → (n : ℕ) (lines : List ℕ) → first_lines n given ≡ Some lines
      → first_lines n (text s.config journal) ≡ Some lines → suc (length journal) ≤ n → Claims (behind_line given) journal
  claims_all journal legal covers n lines has printed enough_lines =
      let there : AreThere (first_lines (suc (length journal)) lines) = are_fewer (suc (length journal)) n given lines has enough_lines in
      other_claims s journal [] given there.lines (small s journal sound few legal covers) (omega (arith, covers.count, few_lines))
      (ap (λ j. first_lines (suc (length journal)) (text s.config j)) (append-nil journal) ∙ fewer_lines (suc (length journal)) n (text s.config journal) lines printed enough_lines ∙ there.is)
      (fewer_lines (suc (length journal)) n given lines has enough_lines ∙ there.is)

  -- so does its own text
  text_claims : (journal : List Entry) → Legal s.config journal → Covers journal s → given ≡ text s.config journal → Claims (behind_line given) journal
  text_claims journal legal covers is =
      let front : HasFront (first_line ++ entry_lines journal) (text s.config (journal ++ [])) = text_front s.config journal [] in
      let begun : first_lines (suc (length journal)) (first_line ++ entry_lines journal) ≡ Some (first_line ++ entry_lines journal) =
      begun_lines journal (small s journal sound few legal covers) (omega (arith, covers.count, few_lines)) in
      let printed : first_lines (suc (length journal)) (text s.config journal) ≡ Some (first_line ++ entry_lines journal) =
      ap (λ j. first_lines (suc (length journal)) (text s.config j)) (sym (append-nil journal)) ∙ ap (first_lines (suc (length journal))) front.parts
      ∙ enough (suc (length journal)) (first_line ++ entry_lines journal) front.rest (first_line ++ entry_lines journal) begun ∙ begun in
      claims_all journal legal covers (suc (length journal)) (first_line ++ entry_lines journal) (ap (first_lines (suc (length journal))) is ∙ printed) printed (omega arith)

  -- two whole journals that the text claims are the same but for stamps
  pub same_whole : (one other : List Entry) → Legal s.config one → Covers one s → Claims (behind_line given) one → Legal s.config other → Covers other s → Claims (behind_line given) other
      → map unstamped one ≡ map unstamped other
  same_whole one other legal covers claims lawful covering theirs =
      let same : SameLines one other = claimed_same (behind_line given) one other (covers.count ∙ sym covering.count) claims theirs in
      same_journal s.config s one other legal lawful (covers_follows one s covers) (covers_follows other s covering) same

  -- two legal journals that cover the script and have this text are the same but for stamps
  pub one_text : (one other : List Entry) → Legal s.config one → Covers one s → given ≡ text s.config one → Legal s.config other → Covers other s → given ≡ text s.config other
      → map unstamped one ≡ map unstamped other
  one_text one other legal covers is lawful covering its =
      same_whole one other legal covers (text_claims one legal covers is) lawful covering (text_claims other lawful covering its)

  module _ (one : List Entry) (legal : Legal s.config one) (follows : FollowsPasses s one) (claims : Claims (behind_line given) one) where
    printed : List ℕ
    printed = text s.config one

    short : length one ≤ count_by is_line s.lines
    short = omega (arith, left_count s one follows)

    small_one : AllByRecursion IsSmall one
    small_one = let on : GoesOn s one = goes_on s sound_lines one legal follows in small_front one on.rest (small s (one ++ on.rest) sound few on.legal on.covers)

    begun : first_lines (suc (length one)) (first_line ++ entry_lines one) ≡ Some (first_line ++ entry_lines one)
    begun = begun_lines one small_one (omega (arith, short, few_lines))

    front_of_text : HasFront (first_line ++ entry_lines one) (text s.config one)
    front_of_text = subst (λ j. HasFront (first_line ++ entry_lines one) (text s.config j)) (append-nil one) (text_front s.config one [])

    one_has : first_lines (suc (length one)) (text s.config one) ≡ Some (first_line ++ entry_lines one)
    one_has = ap (first_lines (suc (length one))) front_of_text.parts
        ∙ enough (suc (length one)) (first_line ++ entry_lines one) front_of_text.rest (first_line ++ entry_lines one) begun ∙ begun

    -- ---- the lines before

    -- lines of both texts are right, where they are of the entries or all are claimed
    right_front : (count : ℕ) (lines : List ℕ) → count ≤ suc (length one) → first_lines count given ≡ Some lines → first_lines count (text s.config one) ≡ Some lines → IsRightTo s given count
    right_front count lines within has its =
        right_so_far s sound_lines one legal follows given count lines has
        (sym (fewer_lines count (suc (length one)) (text s.config one) (first_line ++ entry_lines one) one_has within) ∙ its)

    -- ---- the line where they part

    -- a front of each, of one length: the lines of one are those of the other
    lines_of_front : (front back mine more : List Entry) (lines : List ℕ) → one ≡ front ++ back → Legal s.config (mine ++ more) → Covers (mine ++ more) s → length mine ≡ length front
        → first_lines (suc (length mine)) given ≡ Some lines → first_lines (suc (length mine)) (text s.config (mine ++ more)) ≡ Some lines
        → first_lines (suc (length mine)) (text s.config one) ≡ Some lines
    lines_of_front front back mine more lines parts lawful covers long has theirs =
        let all_small : AllByRecursion IsSmall (mine ++ more) = small s (mine ++ more) sound few lawful covers in
        let few_mine : 1 + length mine < 2 ^ 64 = omega (arith, length-append mine more, covers.count, few_lines) in
        let legal_front : Legal s.config front = Each-front (Meets s.config) front back (subst (Legal s.config) parts legal) in
        let follows_it : FollowsPasses s front = follows_front front back s (subst (FollowsPasses s) parts follows) in
        let claims_it : Claims (behind_line given) front = claims_front (behind_line given) front back (subst (Claims (behind_line given)) parts claims) in
        let is : lines ≡ first_line ++ entry_lines front =
        agree s front given legal_front follows_it claims_it mine more lines lawful covers long (small_front mine more all_small) few_mine theirs has in
        let on : HasFront (first_line ++ entry_lines front) (text s.config (front ++ back)) = text_front s.config front back in
        let small_it : AllByRecursion IsSmall front = small_front front back (subst (AllByRecursion IsSmall) parts small_one) in
        let its : first_lines (suc (length front)) (first_line ++ entry_lines front) ≡ Some (first_line ++ entry_lines front) =
        begun_lines front small_it (omega (arith, few_mine, long)) in
        ap (λ n. first_lines (suc n) (text s.config one)) long
        ∙ ap (λ j. first_lines (suc (length front)) (text s.config j)) parts
        ∙ ap (first_lines (suc (length front))) on.parts
        ∙ enough (suc (length front)) (first_line ++ entry_lines front) on.rest (first_line ++ entry_lines front) its
        ∙ its
        ∙ ap (λ (bytes : List ℕ). Some bytes) (sym is)

    -- up to the last entry
    wrong_within : (agreed k : ℕ) → slice_get given agreed ≢ slice_get (text s.config one) agreed → feeds (take agreed given) < suc k → k ≤ length one → IsRightTo s given (suc k) → ⊥
    wrong_within agreed k parts less within right =
        let cut : take k right.journal ++ drop k right.journal ≡ right.journal = take-append-drop k right.journal in
        let mine : length (take k right.journal) ≡ k = length-take k right.journal ∙ omega (arith, right.covers.count, short, within) in
        let front : length (take k one) ≡ k = length-take k one ∙ omega (arith, within) in
        let whole : suc (length (take k right.journal)) ≡ suc k = ap (λ n. suc n) mine in
        let its : first_lines (suc (length (take k right.journal))) (text s.config one) ≡ Some right.lines =
        lines_of_front (take k one) (drop k one) (take k right.journal) (drop k right.journal) right.lines (sym (take-append-drop k one))
        (subst (Legal s.config) (sym cut) right.legal) (subst (λ j. Covers j s) (sym cut) right.covers) (mine ∙ sym front)
        (ap (λ n. first_lines n given) whole ∙ right.given_has)
        (ap (λ n. first_lines n (text s.config (take k right.journal ++ drop k right.journal))) whole ∙ ap (λ j. first_lines (suc k) (text s.config j)) cut ∙ right.text_has) in
        parts (same_byte given (text s.config one) right.lines (suc k) agreed right.given_has (ap (λ n. first_lines n (text s.config one)) (sym whole) ∙ its) less)

    -- ---- all lines of the script are claimed
    module _ (all : length one ≡ count_by is_line s.lines) where
      covers_one : Covers one s
      covers_one = covers_whole s one follows all

      same_as : (other : List Entry) → Legal s.config other → Covers other s → Claims (behind_line given) other → text s.config one ≡ text s.config other
      same_as other lawful covers theirs = text_same s.config one other (same_whole one other legal covers_one claims lawful covers theirs)

      wrong_behind : (agreed n : ℕ) → slice_get given agreed ≢ slice_get (text s.config one) agreed → feeds (take agreed given) < n → suc (length one) ≤ n → IsRightTo s given n → ⊥
      wrong_behind agreed n parts less behind right =
          let theirs : Claims (behind_line given) right.journal =
          claims_all right.journal right.legal right.covers n right.lines right.given_has right.text_has (omega (arith, behind, all, right.covers.count)) in
          let same : text s.config one ≡ text s.config right.journal = same_as right.journal right.legal right.covers theirs in
          parts (same_byte given (text s.config one) right.lines n agreed right.given_has (ap (first_lines n) same ∙ right.text_has) less)

      wrong_all : (agreed n : ℕ) → slice_get given agreed ≢ slice_get (text s.config one) agreed → feeds (take agreed given) < n → IsRightTo s given n → ⊥
      wrong_all agreed zero parts less right = omega (arith, less)
      wrong_all agreed (suc k) parts less right = elim (lt_cases (length one) k) [
        | inl behind ↦ wrong_behind agreed (suc k) parts less (omega (arith, behind)) right
        | inr within ↦ wrong_within agreed k parts less within right
      ]

      not_text : (agreed : ℕ) → slice_get given agreed ≢ slice_get (text s.config one) agreed → IsRightText s given → ⊥
      not_text agreed parts right =
          let same : text s.config one ≡ text s.config right.journal =
          same_as right.journal right.legal right.covers (text_claims right.journal right.legal right.covers right.is) in
          parts (ap (λ (bytes : List ℕ). slice_get bytes agreed) (right.is ∙ sym same))

      right_all : (agreed count : ℕ) → take agreed given ≡ take agreed (text s.config one) → count ≤ feeds (take agreed given) → IsRightTo s given count
      right_all agreed count alike within =
          let lines = alike_lines given (text s.config one) agreed count alike within in
          record { journal = one; legal = legal; covers = covers_one; lines = lines.0; given_has = lines.1; text_has = lines.2 }

      pub no_all : (agreed : ℕ) → PartAt given (text s.config one) agreed false → IsFirstWrong s given (feeds (take agreed given) + 1)
      no_all agreed part = record {
        none = not_text agreed part.parts;
        before = λ count less. right_all agreed count part.alike (omega (arith, less));
        wrong = wrong_all agreed (feeds (take agreed given) + 1) part.parts (omega arith);
      }

    -- ---- a line of the text claims none that is next
    module _ (end : IsClaimedEnd s (behind_line given) one) where
      -- the line behind those of the entries is wrong
      wrong_claim : (n : ℕ) → n ≡ suc (suc (length one)) → IsRightTo s given n → ⊥
      wrong_claim n is right =
          let cut : HasNext right.journal (length one) = has_next right.journal (length one) (omega (arith, right.covers.count, end.fewer)) in
          let covers : Covers ((cut.front ++ cut.next ∷ []) ++ cut.after) s = subst (λ j. Covers j s) cut.parts right.covers in
          let lawful : Legal s.config ((cut.front ++ cut.next ∷ []) ++ cut.after) = subst (Legal s.config) cut.parts right.legal in
          let long : length (cut.front ++ cut.next ∷ []) ≡ suc (length one) = length-append cut.front (cut.next ∷ []) ∙ omega (arith, cut.long) in
          let count : suc (length (cut.front ++ cut.next ∷ [])) ≡ n = ap (λ k. suc k) long ∙ sym is in
          let theirs : Claims (behind_line given) (cut.front ++ cut.next ∷ []) =
          other_claims s (cut.front ++ cut.next ∷ []) cut.after given right.lines
          (small_front (cut.front ++ cut.next ∷ []) cut.after (small s ((cut.front ++ cut.next ∷ []) ++ cut.after) sound few lawful covers))
          (omega (arith, long, short, few_lines))
          (ap (λ k. first_lines k (text s.config ((cut.front ++ cut.next ∷ []) ++ cut.after))) count ∙ ap (λ j. first_lines n (text s.config j)) (sym cut.parts) ∙ right.text_has)
          (ap (λ k. first_lines k given) count ∙ right.given_has) in
          let next : IsNextInPass (left_after s one) cut.next =
          next_one s one given claims cut.front cut.next cut.after covers cut.long (claims_front (behind_line given) cut.front (cut.next ∷ []) theirs) in
          end.no_next cut.next next (ap (λ k. claim_in (behind_lines k (behind_line given))) (sym cut.long) ∙ claims_last (behind_line given) cut.front cut.next theirs)

      -- a right text has a line there
      no_text : IsRightText s given → ⊥
      no_text right =
          let lines : List ℕ = first_line ++ entry_lines right.journal in
          let its_small : AllByRecursion IsSmall right.journal = small s right.journal sound few right.legal right.covers in
          let its : first_lines (suc (length right.journal)) lines ≡ Some lines = begun_lines right.journal its_small (omega (arith, right.covers.count, few_lines)) in
          let front : HasFront lines (text s.config (right.journal ++ [])) = text_front s.config right.journal [] in
          let has : first_lines (suc (length right.journal)) (text s.config right.journal) ≡ Some lines =
          ap (λ j. first_lines (suc (length right.journal)) (text s.config j)) (sym (append-nil right.journal)) ∙ ap (first_lines (suc (length right.journal))) front.parts
          ∙ enough (suc (length right.journal)) lines front.rest lines its ∙ its in
          let within : suc (suc (length one)) ≤ suc (length right.journal) = omega (arith, right.covers.count, end.fewer) in
          let there : AreThere (first_lines (suc (suc (length one))) lines) = are_fewer (suc (suc (length one))) (suc (length right.journal)) (text s.config right.journal) lines has within in
          let printed : first_lines (suc (suc (length one))) (text s.config right.journal) ≡ Some there.lines =
          fewer_lines (suc (suc (length one))) (suc (length right.journal)) (text s.config right.journal) lines has within ∙ there.is in
          wrong_claim (suc (suc (length one))) refl (record {
            journal = right.journal;
            legal = right.legal;
            covers = right.covers;
            lines = there.lines;
            given_has = ap (first_lines (suc (suc (length one)))) right.is ∙ printed;
            text_has = printed;
          })

      right_some : (agreed count : ℕ) → take agreed given ≡ take agreed (text s.config one) → count ≤ feeds (take agreed given) → count ≤ suc (length one) → IsRightTo s given count
      right_some agreed count alike inside within =
          let lines = alike_lines given (text s.config one) agreed count alike inside in right_front count lines.0 within lines.1 lines.2

      -- all lines of entries are there where the texts are the same
      all_there : (agreed : ℕ) → PartAt given (text s.config one) agreed true → suc (length one) ≤ feeds (take agreed given)
      all_there agreed part =
          let has : first_lines (suc (length one)) given ≡ Some (first_line ++ entry_lines one) = ap (first_lines (suc (length one))) part.parts.0 ∙ one_has in
          let are : AreFirstLines (suc (length one)) given (first_line ++ entry_lines one) = lines_are (suc (length one)) given (first_line ++ entry_lines one) has in
          let whole : take agreed given ≡ given = take_all agreed given (omega (arith, part.parts.1)) in
          omega (arith, are.each, ap feeds whole, ap feeds are.parts, feeds_append (first_line ++ entry_lines one) are.rest)
        where
          feeds_append : (one other : List ℕ) → feeds (one ++ other) ≡ feeds one + feeds other
          feeds_append one other = sum_by-append _ one other

      wrong_some : (agreed : ℕ) (same : Bool) → PartAt given (text s.config one) agreed same → (n : ℕ) → n ≡ min (feeds (take agreed given) + 1) (length one + 2) → IsRightTo s given n → ⊥
      wrong_some agreed true part n is right = wrong_claim n (is ∙ omega (arith, all_there agreed part)) right
      wrong_some agreed false part n is right = elim (lt_cases (length one) (feeds (take agreed given))) [
        | inl behind ↦ wrong_claim n (is ∙ omega (arith, behind)) right
        | inr within ↦
            let here : n ≡ suc (feeds (take agreed given)) = is ∙ omega (arith, within) in
            wrong_within agreed (feeds (take agreed given)) part.parts (omega arith) within (subst (IsRightTo s given) here right)
      ]

      pub no_some : (agreed : ℕ) (same : Bool) → PartAt given (text s.config one) agreed same → IsFirstWrong s given (min (feeds (take agreed given) + 1) (length one + 2))
      no_some agreed same part = record {
        none = no_text;
        before = λ count less. right_some agreed count part.alike (omega (arith, less)) (omega (arith, less));
        wrong = wrong_some agreed same part (min (feeds (take agreed given) + 1) (length one + 2)) refl;
      }
