-- The number below which no granule is free.
use Rattle.std.proofs.Common.{◌≡◌, ℕ, ◌+◌, ◌<◌, ◌≤◌, false, List, length, get_or, refl, ap, ◌∙◌, leb, inl, inr, arith}
use Rattle.std.proofs.lemmas.Bool.{and_right, cases_lt, le-leb, le-ltb, lt-leb, lt-ltb, ne_eqb}
use Rattle.dcd_base.specs.declared.media.Run.{Run}
use Rattle.memchr.specs.Find.{is_byte}
use Rattle.granule_map.{specs.Told.NoneBelow, specs.Told.with_item, proofs.Changes.item_after_run}

module _ (marks : List ℕ) (run : Run) (m lowest new : ℕ) (within : run.first + run.count ≤ length marks) (none : NoneBelow marks lowest)
    (free : m ≡ 0 → new ≤ run.first) (covered : lowest < new → run.first ≤ lowest) (ends : lowest < new → new ≤ run.first + run.count) where
  outside : (g : ℕ) → g < new → (lowest ≤ g → run.first ≤ lowest → new ≤ run.first + run.count → g < lowest) → is_byte 0 (get_or marks g 0) ≡ false
  outside g below not_run = elim (cases_lt g lowest) [
    | inl low ↦ none g low
    | inr high ↦ none g (not_run high (covered (omega (arith, high, below))) (ends (omega (arith, high, below))))
  ]

  -- a run that has another mark
  pub none_after : NoneBelow (with_item run m marks) new
  none_after g below = ap (is_byte 0) (item_after_run marks run m within g 0) ∙ elim (cases_lt g run.first) [
    | inl before ↦ rw (lt-leb run.first g before) (outside g below (λ high first end. absurd (omega (arith, high, first, before))))
    | inr from ↦ elim (cases_lt g (run.first + run.count)) [
      | inl inside ↦ rw (le-leb run.first g from, lt-ltb g (run.first + run.count) inside) (ne_eqb m 0 (λ same. absurd (omega (arith, free same, from, below))))
      | inr past ↦ rw (le-ltb g (run.first + run.count) past, and_right (leb run.first g) _ refl) (outside g below (λ high first end. absurd (omega (arith, end, past, below))))
    ]
  ]
