-- The words that stay where some are let go.
use Rattle.std.proofs.Common.{◌≡◌, ℕ, Bool, true, false, List, None, filter, cond, refl, sym, ap, ◌∙◌}
use Rattle.std.{proofs.lemmas.Bool.eqb-true, proofs.lemmas.Map.Entries.lookup-filter-keys, specs.BTreeMap.is_at, specs.Map.lookup, specs.Ordering.nat_cmp}
use Rattle.std.specs.Prelude.{not, unwrap_or, if◌then◌else◌}
use Rattle.granule_mem.{specs.Contents.word_among, proofs.Few.is_at_number}

-- the word at an address, where the words at some addresses are let go
pub word_filter : (gone : ℕ → Bool) (stored : List (ℕ × ℕ)) (d : ℕ) → word_among (filter (λ e. not (gone e.0)) stored) d ≡ (if gone d then 0 else word_among stored d)
word_filter gone stored d =
    ap (λ o. unwrap_or o 0) (lookup-filter-keys (is_at (nat_cmp d)) (λ k. not (gone k)) (not (gone d)) (λ k here. ap (λ n. not (gone n)) (sym (eqb-true d k (sym (is_at_number d k) ∙ here)))) stored)
    ∙ by (gone d)
  where
    by : (b : Bool) → unwrap_or (cond (not b) (lookup (is_at (nat_cmp d)) stored) None) 0 ≡ (if b then 0 else word_among stored d)
    by true = refl
    by false = refl
