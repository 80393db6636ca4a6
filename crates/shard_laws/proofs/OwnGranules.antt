-- The granules of a shard, by their numbers in the device and in the shard.
use Rattle.std.proofs.Common.{◌≡◌, inl, inr, ℕ, ◌+◌, ◌-◌, ◌/◌, ◌%◌, false, ◌&&◌, ◌==◌, sym, ap, ◌∙◌, arith}
use Rattle.std.{specs.Prelude.nat_le, specs.Prelude.nat_lt, proofs.lemmas.Nat.div-add-mod', proofs.lemmas.Nat.mod_below}
use Rattle.std.proofs.lemmas.Bool.{and_parts, cases_Bool, cases_eq, cases_lt, eq-eqb, le-leb, le-ltb, leb-true, lt-leb, lt-ltb, ltb-false, ltb-true, ne_eqb}
use Rattle.dcd_base.specs.{Words.has_granule, declared.media.Run.Run}
use Rattle.shard_laws.specs.{Belonging.has_own, Stripes.own_below}

-- ---- a granule of shard k

module _ (k g : ℕ) (same : g % 16 ≡ k) where
  from_same : (first : ℕ) → nat_le (own_below k first) (g / 16) ≡ nat_le first g
  from_same first =
      let t = first + 15 - k in
      let d1 = div-add-mod' t 16 in
      let d2 = div-add-mod' g 16 in
      let m1 = mod_below t 16 (omega arith) in
      let m2 = mod_below g 16 (omega arith) in
      elim (cases_lt g first) [
        | inl below ↦ lt-leb (own_below k first) (g / 16) (omega (arith, d1, d2, m1, m2, same, below)) ∙ sym (lt-leb first g below)
        | inr from ↦ le-leb (own_below k first) (g / 16) (omega (arith, d1, d2, m1, m2, same, from)) ∙ sym (le-leb first g from)
      ]

  to_same : (end : ℕ) → nat_lt (g / 16) (own_below k end) ≡ nat_lt g end
  to_same end =
      let t = end + 15 - k in
      let d1 = div-add-mod' t 16 in
      let d2 = div-add-mod' g 16 in
      let m1 = mod_below t 16 (omega arith) in
      let m2 = mod_below g 16 (omega arith) in
      elim (cases_lt g end) [
        | inl below ↦ lt-ltb (g / 16) (own_below k end) (omega (arith, d1, d2, m1, m2, same, below)) ∙ sym (lt-ltb g end below)
        | inr from ↦ le-ltb (g / 16) (own_below k end) (omega (arith, d1, d2, m1, m2, same, from)) ∙ sym (le-ltb g end from)
      ]

  -- a run and its granules that are of the shard
  pub own_granule : (run own : Run) → own.first ≡ own_below k run.first → own.first + own.count ≡ own_below k (run.first + run.count) →
      has_granule own (g / 16) ≡ has_granule run g
  own_granule run own first end = λ i.
      (ap (λ n. nat_le n (g / 16)) first ∙ from_same run.first) i
      && (ap (λ n. nat_lt (g / 16) n) end ∙ to_same (run.first + run.count)) i

  pub none_of_run : (run : Run) → has_own k run ≡ false → has_granule run g ≡ false
  none_of_run run none = elim (cases_Bool (has_granule run g)) [
    | inr not_it ↦ not_it
    | inl has ↦
        let parts = and_parts (nat_le run.first g) (nat_lt g (run.first + run.count)) has in
        let from = leb-true (own_below k run.first) (g / 16) (from_same run.first ∙ parts.0) in
        let to = ltb-true (g / 16) (own_below k (run.first + run.count)) (to_same (run.first + run.count) ∙ parts.1) in
        let past = ltb-false (own_below k run.first) (own_below k (run.first + run.count)) none in absurd (omega (arith, from, to, past))
  ]

-- no two granules of a shard have one number in it
pub same_number : (a b : ℕ) → a % 16 ≡ b % 16 → ((a / 16) == (b / 16)) ≡ (a == b)
same_number a b same =
    let d1 = div-add-mod' a 16 in
    let d2 = div-add-mod' b 16 in
    elim (cases_eq a b) [
      | inl is ↦ eq-eqb (a / 16) (b / 16) (ap (λ n. n / 16) is) ∙ sym (eq-eqb a b is)
      | inr ne ↦ ne_eqb (a / 16) (b / 16) (λ q. ne (omega (arith, d1, d2, same, q))) ∙ sym (ne_eqb a b ne)
    ]
