-- Who holds a granule, by the bit of each host, after the effects of a step.
use Rattle.std.proofs.Common.{◌≡◌, ◌≢◌, ◌⊎◌, ℕ, ◌+◌, ◌-◌, ◌/◌, ◌%◌, ◌^◌, ◌<◌, ◌≤◌, ◌==◌, Bool, true, false, List, [], ◌∷◌, length, get_or, refl, sym, ap, subst, ◌∙◌, inl, inr, arith, pow_pos}
use Rattle.std.proofs.{Math.Nat.div-eq-sub-div, Math.Nat.div-eq_of_lt, lemmas.Bool.cases_eq, lemmas.Bool.cases_lt, lemmas.Bool.eq-eqb, lemmas.Bool.ne_eqb}
use Rattle.std.{proofs.lemmas.Nat.Bits.bit_at-lt, proofs.lemmas.Nat.Bits.bit_at_set_other, proofs.lemmas.Nat.Bits.bit_at_set_same, specs.Int.bit_at, specs.Int.w16, specs.List.AllByRecursion}
use Rattle.std.specs.Prelude.{fold, if◌then◌else◌, ◌&&◌}
use Rattle.cci_codec.specs.dcd_base.{specs.Words.has_granule, specs.declared.ids.HostId.HostId, specs.Hosts.has_host, specs.Hosts.with_host, specs.Hosts.without_host, proofs.HostBits.or_host}
use Rattle.journal_core.specs.{Holders.holding_after, declared.outcome.Effect.Effect}
use Rattle.extent_list.specs.media_map.specs.region_config.specs.Configurations.{Configuration}
use Rattle.device_state.{specs.Entered.holders_by, specs.Updates.IsOfDevice, proofs.HolderSteps.held_in-at, proofs.HolderSteps.length-held_in}

-- ---- one host more, or one fewer

cases_bit : (hosts h : ℕ) → (bit_at hosts h ≡ 1) ⊎ (bit_at hosts h ≡ 0)
cases_bit hosts h = elim (cases_eq (bit_at hosts h) 1) [
  | inl one ↦ inl one
  | inr other ↦ inr (omega (arith, other, bit_at-lt hosts h))
]

has_one : (hosts h : ℕ) → bit_at hosts h ≡ 1 → has_host hosts h ≡ true
has_one hosts h one = ap (λ d. d == 1) one

has_none : (hosts h : ℕ) → bit_at hosts h ≡ 0 → has_host hosts h ≡ false
has_none hosts h none = ap (λ d. d == 1) none

at_least : (hosts h : ℕ) → bit_at hosts h ≡ 1 → 2 ^ h ≤ hosts
at_least hosts h one = elim (cases_lt hosts (2 ^ h)) [
  | inl below ↦ (let none : bit_at hosts h ≡ 0 = ap (λ q. q % 2) (div-eq_of_lt below) in absurd (omega (arith, one, none)))
  | inr enough ↦ enough
]

lost_bit : (hosts h : ℕ) → bit_at hosts h ≡ 1 → bit_at (hosts - 2 ^ h) h ≡ 0
lost_bit hosts h one =
    let less : hosts / 2 ^ h ≡ (hosts - 2 ^ h) / 2 ^ h + 1 = div-eq-sub-div (pow_pos h) (at_least hosts h one) in
    even (hosts / 2 ^ h) ((hosts - 2 ^ h) / 2 ^ h) less one
  where
    even : (q r : ℕ) → q ≡ r + 1 → q % 2 ≡ 1 → r % 2 ≡ 0
    even q r next odd = omega (arith, next, odd)

pub with_same : (hosts k : ℕ) → k < 16 → has_host (with_host hosts k) k ≡ true
with_same hosts k lt = has_one (with_host hosts k) k (ap (λ n. bit_at n k) (sym (or_host hosts k lt)) ∙ bit_at_set_same w16 hosts k lt)

with_other : (hosts k h : ℕ) → k < 16 → h ≢ k → has_host (with_host hosts k) h ≡ has_host hosts h
with_other hosts k h lt other = ap (λ d. d == 1) (ap (λ n. bit_at n h) (sym (or_host hosts k lt)) ∙ bit_at_set_other w16 hosts k lt h other)

pub without_same : (hosts k : ℕ) → has_host (without_host hosts k) k ≡ false
without_same hosts k = elim (cases_bit hosts k) [
  | inl one ↦ ap (λ b. has_host (if b then hosts - 2 ^ k else hosts) k) (has_one hosts k one) ∙ has_none (hosts - 2 ^ k) k (lost_bit hosts k one)
  | inr none ↦ ap (λ b. has_host (if b then hosts - 2 ^ k else hosts) k) (has_none hosts k none) ∙ has_none hosts k none
]

without_other : (hosts k h : ℕ) → k < 16 → h ≢ k → has_host (without_host hosts k) h ≡ has_host hosts h
without_other hosts k h lt other = elim (cases_bit hosts k) [
  | inl one ↦ (let back : with_host (hosts - 2 ^ k) k ≡ hosts =
      ap (λ b. if b then hosts - 2 ^ k else hosts - 2 ^ k + 2 ^ k) (has_none (hosts - 2 ^ k) k (lost_bit hosts k one)) ∙ omega (arith, at_least hosts k one) in
      ap (λ b. has_host (if b then hosts - 2 ^ k else hosts) h) (has_one hosts k one)
      ∙ sym (with_other (hosts - 2 ^ k) k h lt other) ∙ ap (λ n. has_host n h) back)
  | inr none ↦ ap (λ b. has_host (if b then hosts - 2 ^ k else hosts) h) (has_none hosts k none)
]

-- what is set last counts
pub with_without : (hosts k : ℕ) → with_host (without_host hosts k) k ≡ with_host hosts k
with_without hosts k = elim (cases_bit hosts k) [
  | inl one ↦ ap (λ b. with_host (if b then hosts - 2 ^ k else hosts) k) (has_one hosts k one)
      ∙ ap (λ b. if b then hosts - 2 ^ k else hosts - 2 ^ k + 2 ^ k) (has_none (hosts - 2 ^ k) k (lost_bit hosts k one))
      ∙ omega (arith, at_least hosts k one)
      ∙ sym (ap (λ b. if b then hosts else hosts + 2 ^ k) (has_one hosts k one))
  | inr none ↦ ap (λ b. with_host (if b then hosts - 2 ^ k else hosts) k) (has_none hosts k none)
]

pub without_with : (hosts k : ℕ) → k < 16 → without_host (with_host hosts k) k ≡ without_host hosts k
without_with hosts k lt = elim (cases_bit hosts k) [
  | inl one ↦ ap (λ b. without_host (if b then hosts else hosts + 2 ^ k) k) (has_one hosts k one)
  | inr none ↦ ap (λ b. if b then with_host hosts k - 2 ^ k else with_host hosts k) (with_same hosts k lt)
      ∙ ap (λ b. (if b then hosts else hosts + 2 ^ k) - 2 ^ k) (has_none hosts k none)
      ∙ omega arith
      ∙ sym (ap (λ b. if b then hosts - 2 ^ k else hosts) (has_none hosts k none))
]

-- ---- one effect

taken_bit : (b k h : ℕ) (in_run : Bool) → k < 16 → has_host (if in_run then with_host b k else b) h ≡ (if (k == h) && in_run then true else has_host b h)
taken_bit b k h in_run lt = elim (cases_eq h k) [
  | inl same ↦ subst (λ m. has_host (if in_run then with_host b k else b) m ≡ (if (k == m) && in_run then true else has_host b m)) (sym same) (own in_run)
  | inr other ↦ (let apart = ne_eqb k h (λ e. other (sym e)) in
      another in_run other ∙ sym (ap (λ t. if t && in_run then true else has_host b h) apart))
]
  where
    own : (in_run : Bool) → has_host (if in_run then with_host b k else b) k ≡ (if (k == k) && in_run then true else has_host b k)
    own true = with_same b k lt ∙ sym (ap (λ t. if t && true then true else has_host b k) (eq-eqb k k refl))
    own false = sym (ap (λ t. if t && false then true else has_host b k) (eq-eqb k k refl))

    another : (in_run : Bool) → h ≢ k → has_host (if in_run then with_host b k else b) h ≡ has_host b h
    another true other = with_other b k h lt other
    another false other = refl

left_bit : (b k h : ℕ) (in_run : Bool) → k < 16 → has_host (if in_run then without_host b k else b) h ≡ (if (k == h) && in_run then false else has_host b h)
left_bit b k h in_run lt = elim (cases_eq h k) [
  | inl same ↦ subst (λ m. has_host (if in_run then without_host b k else b) m ≡ (if (k == m) && in_run then false else has_host b m)) (sym same) (own in_run)
  | inr other ↦ (let apart = ne_eqb k h (λ e. other (sym e)) in
      another in_run other ∙ sym (ap (λ t. if t && in_run then false else has_host b h) apart))
]
  where
    own : (in_run : Bool) → has_host (if in_run then without_host b k else b) k ≡ (if (k == k) && in_run then false else has_host b k)
    own true = without_same b k ∙ sym (ap (λ t. if t && true then false else has_host b k) (eq-eqb k k refl))
    own false = sym (ap (λ t. if t && false then false else has_host b k) (eq-eqb k k refl))

    another : (in_run : Bool) → h ≢ k → has_host (if in_run then without_host b k else b) h ≡ has_host b h
    another true other = without_other b k h lt other
    another false other = refl

length-by : (bits : List ℕ) (e : Effect) → length (holders_by bits e) ≡ length bits
length-by bits (Effect.Take k run) = length-held_in (λ b. with_host b k) run bits
length-by bits (Effect.Leave k run) = length-held_in (λ b. without_host b k) run bits
length-by bits e = refl

module _ (c : Configuration) (few : c.hosts ≤ 16) (h : HostId) (g : ℕ) where
  holding_one : (bits : List ℕ) (e : Effect) → g < length bits → IsOfDevice c e →
      has_host (get_or (holders_by bits e) g 0) h ≡ holding_after h g (has_host (get_or bits g 0) h) e
  holding_one bits (Effect.Take k run) below is =
      ap (λ b. has_host b h) (held_in-at (λ b. with_host b k) run bits g below) ∙ taken_bit (get_or bits g 0) k h (has_granule run g) (omega (arith, is, few))
  holding_one bits (Effect.Leave k run) below is =
      ap (λ b. has_host b h) (held_in-at (λ b. without_host b k) run bits g below) ∙ left_bit (get_or bits g 0) k h (has_granule run g) (omega (arith, is, few))
  holding_one bits e below is = refl

  pub holding_over : (bits : List ℕ) (new : List Effect) → g < length bits → AllByRecursion (IsOfDevice c) new →
      has_host (get_or (fold holders_by bits new) g 0) h ≡ fold (holding_after h g) (has_host (get_or bits g 0) h) new
  holding_over bits [] below all = refl
  holding_over bits (e ∷ new) below all =
      holding_over (holders_by bits e) new (omega (arith, below, length-by bits e)) all.1
      ∙ ap (λ (held : Bool). fold (holding_after h g) held new) (holding_one bits e below all.0)

  -- a host that the device has not holds nothing
  never_one : (e : Effect) → c.hosts ≤ h → IsOfDevice c e → holding_after h g false e ≡ false
  never_one (Effect.Take k run) other is = ap (λ b. if b && has_granule run g then true else false) (ne_eqb k h (λ same. omega (arith, is, other, same)))
  never_one (Effect.Leave k run) other is = ap (λ b. if b && has_granule run g then false else false) (ne_eqb k h (λ same. omega (arith, is, other, same)))
  never_one e other is = refl

  never : (new : List Effect) → c.hosts ≤ h → AllByRecursion (IsOfDevice c) new → fold (holding_after h g) false new ≡ false
  never [] other all = refl
  never (e ∷ new) other all = ap (λ (held : Bool). fold (holding_after h g) held new) (never_one e other all.0) ∙ never new other all.1

  pub none_over : (bits : List ℕ) (new : List Effect) → g < length bits → AllByRecursion (IsOfDevice c) new → c.hosts ≤ h → has_host (get_or bits g 0) h ≡ false →
      has_host (get_or (fold holders_by bits new) g 0) h ≡ false
  none_over bits new below all other none = holding_over bits new below all ∙ ap (λ (held : Bool). fold (holding_after h g) held new) none ∙ never new other all

pub length-over : (bits : List ℕ) (new : List Effect) → length (fold holders_by bits new) ≡ length bits
length-over bits [] = refl
length-over bits (e ∷ new) = length-over (holders_by bits e) new ∙ length-by bits e
