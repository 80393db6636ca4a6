-- The stamps of a control's entries rise as it takes steps.
use Rattle.std.proofs.Common.{◌≡◌, ◌≤◌, ℕ, ◌+◌, ◌&&◌, ◌==◌, ltb, List, [], ◌∷◌, ◌++◌, length, get_or, subst, sym, ap, arith}
use Rattle.std.proofs.lemmas.{Bool.and_left, Bool.le-ltb, Bool.ne_eqb, Bool.or_from, List.length_push, List.Elements.All-push}
use Rattle.std.specs.Prelude.{IsFalse}
use Rattle.cci_codec.specs.dcd_base.specs.declared.steps.Stamp.{Stamp}
use Rattle.journal_core.{specs.declared.entries.Entry.Entry, specs.Entries.next_stamp, specs.Merging.is_later, proofs.JournalSteps.Rising-push}
use Rattle.control_core.specs.Deciding.{AreStamped}

-- a stamp of such a number is not later than the next one
not_later : (n : ℕ) (s : Stamp) → s.number ≤ n → IsFalse (is_later s (record { number = n + 1; count = 0 }))
not_later n s below =
    or_from (ltb (n + 1) s.number) (((n + 1) == s.number) && ltb 0 s.count)
    (le-ltb (n + 1) s.number (omega (arith, below)))
    (and_left ((n + 1) == s.number) (ltb 0 s.count) (ne_eqb (n + 1) s.number (λ e. absurd (omega (arith, e, below)))))

-- with the next entry they rise on
pub stamped_next : (before : List Entry) (e : Entry) → AreStamped before → e.stamp ≡ next_stamp before → AreStamped (before ++ e ∷ [])
stamped_next before e stamped is =
    let number : e.stamp.number ≡ length before + 1 = ap (λ (s : Stamp). s.number) is in
    let long : length (before ++ e ∷ []) ≡ length before + 1 = length_push before e in record {
      rising = Rising-push before e stamped.rising
          (λ k d under. subst (λ (s : Stamp). IsFalse (is_later (get_or before k d).stamp s)) (sym is) (not_later (length before) (get_or before k d).stamp (stamped.below k d under)));
      below = All-push (λ (x : Entry). x.stamp.number ≤ length (before ++ e ∷ [])) before e
          (λ k d under. let low = stamped.below k d under in omega (arith, low, long))
          (omega (arith, number, long));
    }
