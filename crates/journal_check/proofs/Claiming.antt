-- The lines of a text that are claimed, one more at a time.
use Rattle.std.proofs.Common.{◌≡◌, ℕ, zero, suc, ◌-◌, ◌<◌, ◌≤◌, min, List, [], ◌∷◌, ◌++◌, length, count_by, refl, sym, ap, subst, ◌∙◌, arith}
use Rattle.std.proofs.lemmas.{List.length_push, Option.slice_get_within}
use Rattle.journal_core.specs.declared.entries.Entry.{Entry}
use Rattle.report.specs.script_codec.specs.{declared.script_line.Line.Line, declared.scripts.Script.Script, Covering.is_line}
use Rattle.device_plain.specs.Devices.{Plain}
use Rattle.journal_check.{proofs.CoveringOrders.follows_more, proofs.FrontLaws.due_next, specs.Claims.behind_line, specs.Claims.claim_in, specs.Claims.Claims}
use Rattle.journal_check.specs.Following.{FollowsPasses, IsClaimedEnd, IsNextInPass, StepsLine, behind_lines, left_after, left_by_entry, without_line}
use Rattle.journal_check.specs.Fronts.{AreFronts, IsDue, undone_of}

-- The lines of the text claimed the entries, and this is what is left of the text and of the script.
pub record IsClaimedTo (s : Script) (given : List ℕ) (journal : List Entry) (fronts rest : List ℕ) : Type 0 where
  pub follows : FollowsPasses s journal
  pub claims : Claims given journal
  pub rest_is : rest ≡ behind_lines (length journal) given
  pub left : left_after s journal ≡ undone_of s fronts
  pub are : AreFronts s fronts

claims_more : (given : List ℕ) (journal : List Entry) (e : Entry) → Claims given journal → claim_in (behind_lines (length journal) given) ≡ e.line → Claims given (journal ++ e ∷ [])
claims_more given [] e claims is = (is, tt)
claims_more given (f ∷ journal) e claims is = (claims.0, claims_more (behind_line given) journal e claims.1 is)

one_behind : (n : ℕ) (given : List ℕ) → behind_lines (suc n) given ≡ behind_line (behind_lines n given)
one_behind zero given = refl
one_behind (suc n) given = one_behind n (behind_line given)

left_more : (s : Script) (journal : List Entry) (e : Entry) → left_after s (journal ++ e ∷ []) ≡ left_by_entry e (left_after s journal)
left_more s [] e = refl
left_more s (f ∷ journal) e = left_more (left_by_entry f s) journal e

-- a number that is not too high is what was claimed
claim_is : (claim number : ℕ) → number ≡ min 65537 claim → number ≤ 65536 → claim ≡ number
claim_is claim number is few = omega (arith, is, few)

pub one_claimed : (s : Script) (given : List ℕ) (journal : List Entry) (old new : List ℕ) (rest : List ℕ) (number pass : ℕ) (device after : Plain) → length s.lines ≤ 65536
    → IsClaimedTo s given journal old rest → IsDue s old number pass → number ≡ min 65537 (claim_in rest) → device.journal ≡ journal → (step : StepsLine s device after number pass)
    → AreFronts s new → (undone_of s new).lines ≡ without_line (undone_of s old).lines (number - 1)
    → IsClaimedTo s given after.journal new (behind_line rest)
one_claimed s given journal old new rest number pass device after few to due is before step are done =
    let e : Entry = step.entry in
    let line : Line = Line.Do due.numbered.actor due.numbered.lane due.numbered.act in
    let within : number ≤ 65536 = omega (arith, few, due.numbered.counted, slice_get_within s.lines (number - 1) line due.numbered.line) in
    let claim : claim_in (behind_lines (length journal) given) ≡ e.line = ap claim_in (sym to.rest_is) ∙ claim_is (claim_in rest) number is within ∙ sym step.line_is in
    let next : IsNextInPass (left_after s journal) e = subst (λ left. IsNextInPass left e) (sym to.left) (due_next s old number pass due e step.line_is step.pass_is step.of_line) in
    let longer : length (journal ++ e ∷ []) ≡ suc (length journal) = length_push journal e ∙ omega arith in
    let whole : journal ++ e ∷ [] ≡ after.journal = ap (λ (j : List Entry). j ++ e ∷ []) (sym before) ∙ sym step.journal in
    subst (λ j. IsClaimedTo s given j new (behind_line rest)) whole (record {
      follows = follows_more journal e s to.follows next;
      claims = claims_more given journal e to.claims claim;
      rest_is = ap behind_line to.rest_is ∙ sym (one_behind (length journal) given) ∙ ap (λ n. behind_lines n given) (sym longer);
      left = left_more s journal e ∙ ap (left_by_entry e) to.left
          ∙ ap (λ n. record s { lines = without_line (undone_of s old).lines (n - 1) }) step.line_is ∙ ap (λ lines. record s { lines = lines }) (sym done);
      are = are;
    })

-- where no pass has to do the line that is claimed next
pub none_next : (s : Script) (given : List ℕ) (journal : List Entry) (fronts rest : List ℕ) (number : ℕ) → length s.lines ≤ 65536 → IsClaimedTo s given journal fronts rest
    → number ≡ min 65537 (claim_in rest) → ((e : Entry) → IsNextInPass (undone_of s fronts) e → e.line ≡ number → ⊥) → ((e : Entry) → IsNextInPass (undone_of s fronts) e → e.line ≤ length s.lines)
    → length journal < count_by is_line s.lines → IsClaimedEnd s given journal
none_next s given journal fronts rest number few to is none inside fewer = record {
  fewer = fewer;
  no_next = λ e next claim.
      let its : IsNextInPass (undone_of s fronts) e = subst (λ left. IsNextInPass left e) to.left next in
      let same : claim_in rest ≡ e.line = ap claim_in to.rest_is ∙ claim in
      none e its (omega (arith, same, is, few, inside e its));
}
