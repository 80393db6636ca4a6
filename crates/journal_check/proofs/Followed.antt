-- What was followed of a text, at its end.
use Rattle.std.proofs.Common.{◌≡◌, true, false, ℕ, ◌-◌, ◌<◌, ◌≤◌, ◌++◌, min, List, length, count_by, take, drop, sym, ap, ◌∙◌, arith}
use Rattle.std.{specs.List.list_all, proofs.Math.Seq.take-append_seam, proofs.lemmas.Option.slice_get_within}
use Rattle.journal_core.specs.declared.entries.Entry.{Entry}
use Rattle.report.specs.script_codec.specs.{declared.script_line.Line.Line, declared.scripts.Script.Script, Covering.is_line, Scripts.is_sound_line}
use Rattle.journal_check.{proofs.Claiming.IsClaimedTo, proofs.Claiming.none_next, proofs.FrontLaws.IsDueEntry, proofs.Passing.not_due, specs.Claims.claim_in}
use Rattle.journal_check.specs.{Following.IsFollowed, Following.IsNextInPass, Fronts.undone_of}

module _ (s : Script) (sound : list_all (is_sound_line s.config.hosts s.lanes) s.lines ≡ true) (few : length s.lines ≤ 65536)
    (given : List ℕ) (journal : List Entry) (fronts rest : List ℕ) (to : IsClaimedTo s given journal fronts rest) where
  inside : (e : Entry) → IsNextInPass (undone_of s fronts) e → e.line ≤ length s.lines
  inside e next =
      let due : IsDueEntry s fronts e = not_due s fronts to.are sound e next in
      omega (arith, slice_get_within s.lines (e.line - 1) (Line.Do e.actor due.of_line.lane e.act) due.of_line.line)

  -- a line of the text claims none that can come next
  pub followed_some : (number : ℕ) → number ≡ min 65537 (claim_in rest) → ((e : Entry) → IsNextInPass (undone_of s fronts) e → e.line ≡ number → ⊥)
      → length journal < count_by is_line s.lines → IsFollowed s given journal false
  followed_some number is none fewer = record {
    follows = to.follows;
    claims = to.claims;
    ends = none_next s given journal fronts rest number few to is none inside fewer;
  }

-- what a list holds once a slice of all of it was lent out and came back
pub written_back : {A : Type 0} (n : ℕ) (old new : List A) → n ≡ length old → length new ≡ length old → take n (new ++ drop (length new) old) ≡ new
written_back n old new is same = ap (λ m. take m (new ++ drop (length new) old)) (is ∙ sym same) ∙ take-append_seam new (drop (length new) old)
