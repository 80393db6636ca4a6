-- The number whose bits are the hosts that pass a test, and a test that changes at one host.
use Rattle.std.proofs.Common.{◌≡◌, ◌⊎◌, ℕ, zero, suc, ◌+◌, ◌-◌, ◌*◌, ◌/◌, ◌%◌, ◌^◌, ◌<◌, ◌≤◌, Bool, true, false, not, ◌||◌, ◌==◌, refl, sym, ap, subst, ◌∙◌, inl, inr, arith, pow-suc, pow_pos}
use Rattle.std.proofs.Math.Nat.{add-div_right, div-eq-sub-div, div-eq_of_lt}
use Rattle.std.proofs.lemmas.{Bool.cases_Bool, Bool.cases_eq, Bool.cases_lt, Bool.eqb-true, Bool.false≢true, Bool.ne_eqb, List.Sums.sum_by-cons}
use Rattle.std.{proofs.lemmas.Nat.Bits.bit_at-lt, proofs.lemmas.Nat.Bits.bit_at-suc, proofs.lemmas.Nat.Bits.bit_at_lowest, specs.Int.bit_at, specs.List.list_any, specs.List.range_with_len}
use Rattle.std.specs.Prelude.{sum_by, if◌then◌else◌}
use Rattle.cci_codec.specs.dcd_base.specs.{declared.ids.HostId.HostId, Hosts.has_host, Hosts.with_host, Hosts.without_host}
use Rattle.extent_list.specs.media_map.specs.region_config.specs.{Configurations.Configuration, Granules.hosts_of}
use Rattle.tag_refs.specs.{Tables.set_by, declared.entries.TagEntry.TagEntry}
use Rattle.device_rules.specs.TagCommands.{host_bits}

-- ---- the bits of some hosts in a row

abbrev bit_of : (ℕ → Bool) → ℕ → ℕ
bit_of p h = if p h then 2 ^ h else 0

abbrev total : (ℕ → Bool) → ℕ → ℕ → ℕ
total p a n = sum_by (bit_of p) (range_with_len a n)

abbrev digit : Bool → ℕ
digit b = if b then 1 else 0

total_more : (p : ℕ → Bool) (a n : ℕ) → total p a (suc n) ≡ bit_of p a + total p (a + 1) n
total_more p a n = sum_by-cons (bit_of p) a (range_with_len (a + 1) n)

twice_pow : (a : ℕ) → 2 ^ (a + 1) ≡ 2 ^ a * 2
twice_pow a = let next : a + 1 ≡ suc a = omega arith in ap (λ n. 2 ^ n) next ∙ pow-suc 2 a

twice_bit : (p : ℕ → Bool) (a : ℕ) → bit_of p (a + 1) ≡ bit_of (λ h. p (h + 1)) a * 2
twice_bit p a = elim (cases_Bool (p (a + 1))) [
  | inl on ↦ rw on (twice_pow a)
  | inr off ↦ rw off refl
]

-- one place further on they are twice as much
shifted : (p : ℕ → Bool) (a n : ℕ) → total p (a + 1) n ≡ total (λ h. p (h + 1)) a n * 2
shifted p a zero = refl
shifted p a (suc n) = omega (arith, total_more p (a + 1) n, total_more (λ h. p (h + 1)) a n, shifted p (a + 1) n, twice_bit p a)

first_bit : (p : ℕ → Bool) → bit_of p 0 ≡ digit (p 0)
first_bit p = elim (cases_Bool (p 0)) [
  | inl on ↦ rw on refl
  | inr off ↦ rw off refl
]

small : (b : Bool) → digit b < 2
small true = omega arith
small false = omega arith

-- each bit says whether its host passes
bit_is : (p : ℕ → Bool) (n k : ℕ) → k < n → bit_at (total p 0 n) k ≡ digit (p k)
bit_is p zero k within = absurd (omega (arith, within))
bit_is p (suc n) zero within = omega (arith, bit_at_lowest (total p 0 (suc n)), total_more p 0 n, shifted p 0 n, first_bit p, small (p 0))
bit_is p (suc n) (suc k) within =
    let half : total p 0 (suc n) / 2 ≡ total (λ h. p (h + 1)) 0 n = omega (arith, total_more p 0 n, shifted p 0 n, first_bit p, small (p 0)) in
    let next : k + 1 ≡ suc k = omega arith in
    bit_at-suc (total p 0 (suc n)) k ∙ ap (λ x. bit_at x k) half ∙ bit_is (λ h. p (h + 1)) n k (omega (arith, within)) ∙ ap (λ h. digit (p h)) next

one_digit : (b : Bool) → (digit b == 1) ≡ b
one_digit true = refl
one_digit false = refl

-- ---- a test that changes at one host

abbrev pub Agree : ℕ → (ℕ → Bool) → (ℕ → Bool) → Type 0
Agree k p q = (h : ℕ) → (k == h) ≡ false → q h ≡ p h

module _ (k : ℕ) (p q : ℕ → Bool) (agree : Agree k p q) where
  -- hosts behind it
  behind : (a n : ℕ) → k < a → total q a n ≡ total p a n
  behind a zero past = refl
  behind a (suc n) past =
      let here : bit_of q a ≡ bit_of p a = ap (λ b. if b then 2 ^ a else 0) (agree a (ne_eqb k a (λ e. absurd (omega (arith, e, past))))) in
      omega (arith, total_more p a n, total_more q a n, behind (a + 1) n (omega (arith, past)), here)

  -- the host gains or loses its bit
  changes : (a n : ℕ) → a ≤ k → k < a + n → total q a n + bit_of p k ≡ total p a n + bit_of q k
  changes a zero low high = absurd (omega (arith, low, high))
  changes a (suc n) low high = elim (cases_eq k a) [
    | inl same ↦ (let p_here : bit_of p k ≡ bit_of p a = ap (bit_of p) same in
        let q_here : bit_of q k ≡ bit_of q a = ap (bit_of q) same in
        omega (arith, total_more p a n, total_more q a n, behind (a + 1) n (omega (arith, same)), p_here, q_here))
    | inr other ↦ (let here : bit_of q a ≡ bit_of p a = ap (λ b. if b then 2 ^ a else 0) (agree a (ne_eqb k a other)) in
        omega (arith, total_more p a n, total_more q a n, changes (a + 1) n (omega (arith, low, other)) (omega (arith, high)), here))
  ]

-- some bit is set where some host passes
some_bit : (p : ℕ → Bool) (a n : ℕ) → not (total p a n == 0) ≡ list_any p (range_with_len a n)
some_bit p a zero = refl
some_bit p a (suc n) = elim (cases_Bool (p a)) [
  | inl on ↦ (let here : bit_of p a ≡ 2 ^ a = ap (λ b. if b then 2 ^ a else 0) on in
      ap not (ne_eqb (total p a (suc n)) 0 (λ none. absurd (omega (arith, none, total_more p a n, here, pow_pos a))))
      ∙ sym (ap (λ b. b || list_any p (range_with_len (a + 1) n)) on))
  | inr off ↦ (let here : bit_of p a ≡ 0 = ap (λ b. if b then 2 ^ a else 0) off in
      let rest : total p a (suc n) ≡ total p (a + 1) n = omega (arith, total_more p a n, here) in
      ap (λ m. not (m == 0)) rest ∙ some_bit p (a + 1) n ∙ sym (ap (λ b. b || list_any p (range_with_len (a + 1) n)) off))
]

-- ---- of a configuration

-- the set has the hosts that pass
pub has_bit : (c : Configuration) (p : HostId → Bool) (k : HostId) → k < c.hosts → has_host (host_bits c p) k ≡ p k
has_bit c p k known = ap (λ d. d == 1) (bit_is p c.hosts k known) ∙ one_digit (p k)

-- A test that agrees with another at all hosts but one: its set is that of the other with the host or without it.
pub host_bits-change : (c : Configuration) (k : HostId) (p q : HostId → Bool) → k < c.hosts → Agree k p q →
    host_bits c q ≡ (if q k then with_host (host_bits c p) k else without_host (host_bits c p) k)
host_bits-change c k p q known agree =
    let sum : host_bits c q + bit_of p k ≡ host_bits c p + bit_of q k = changes k p q agree 0 c.hosts (omega arith) (omega (arith, known)) in
    let has : has_host (host_bits c p) k ≡ p k = has_bit c p k known in
    elim (cases_Bool (q k)) [
      | inl on ↦ (let now : bit_of q k ≡ 2 ^ k = ap (λ b. if b then 2 ^ k else 0) on in elim (cases_Bool (p k)) [
        | inl was ↦ (let before : bit_of p k ≡ 2 ^ k = ap (λ b. if b then 2 ^ k else 0) was in
            let same : host_bits c q ≡ host_bits c p = omega (arith, sum, now, before) in
            rw on (same ∙ sym (ap (λ b. if b then host_bits c p else host_bits c p + 2 ^ k) (has ∙ was))))
        | inr was_not ↦ (let before : bit_of p k ≡ 0 = ap (λ b. if b then 2 ^ k else 0) was_not in
            let more : host_bits c q ≡ host_bits c p + 2 ^ k = omega (arith, sum, now, before) in
            rw on (more ∙ sym (ap (λ b. if b then host_bits c p else host_bits c p + 2 ^ k) (has ∙ was_not))))
      ])
      | inr off ↦ (let now : bit_of q k ≡ 0 = ap (λ b. if b then 2 ^ k else 0) off in elim (cases_Bool (p k)) [
        | inl was ↦ (let before : bit_of p k ≡ 2 ^ k = ap (λ b. if b then 2 ^ k else 0) was in
            let less : host_bits c q ≡ host_bits c p - 2 ^ k = omega (arith, sum, now, before) in
            rw off (less ∙ sym (ap (λ b. if b then host_bits c p - 2 ^ k else host_bits c p) (has ∙ was))))
        | inr was_not ↦ (let before : bit_of p k ≡ 0 = ap (λ b. if b then 2 ^ k else 0) was_not in
            let same : host_bits c q ≡ host_bits c p = omega (arith, sum, now, before) in
            rw off (same ∙ sym (ap (λ b. if b then host_bits c p - 2 ^ k else host_bits c p) (has ∙ was_not))))
      ])
    ]

pub host_bits-same : (c : Configuration) (p q : HostId → Bool) → ((h : HostId) → q h ≡ p h) → host_bits c q ≡ host_bits c p
host_bits-same c p q same = λ i. host_bits c (λ h. same h i)

-- it agrees everywhere where it agrees at that host too
pub agree_all : (k : HostId) (p q : HostId → Bool) → Agree k p q → q k ≡ p k → (h : HostId) → q h ≡ p h
agree_all k p q agree here h = elim (cases_Bool (k == h)) [
  | inl same ↦ subst (λ l. q l ≡ p l) (eqb-true k h same) here
  | inr other ↦ agree h other
]

-- a set is not empty just where some host passes
pub host_bits-some : (c : Configuration) (p : HostId → Bool) → not (host_bits c p == 0) ≡ list_any p (hosts_of c)
host_bits-some c p = some_bit p 0 c.hosts

pub host_bits-none : (c : Configuration) (p : HostId → Bool) → list_any p (hosts_of c) ≡ false → host_bits c p ≡ 0
host_bits-none c p none = elim (cases_eq (host_bits c p) 0) [
  | inl it ↦ it
  | inr some ↦ absurd (false≢true (sym none ∙ sym (host_bits-some c p) ∙ ap not (ne_eqb (host_bits c p) 0 some)))
]

-- ---- setting twice is setting once

cases_bit : (hosts h : ℕ) → (bit_at hosts h ≡ 1) ⊎ (bit_at hosts h ≡ 0)
cases_bit hosts h = elim (cases_eq (bit_at hosts h) 1) [
  | inl one ↦ inl one
  | inr other ↦ inr (omega (arith, other, bit_at-lt hosts h))
]

has_one : (hosts h : ℕ) → bit_at hosts h ≡ 1 → has_host hosts h ≡ true
has_one hosts h one = ap (λ d. d == 1) one

has_none : (hosts h : ℕ) → bit_at hosts h ≡ 0 → has_host hosts h ≡ false
has_none hosts h none = ap (λ d. d == 1) none

added_bit : (hosts h : ℕ) → bit_at hosts h ≡ 0 → bit_at (hosts + 2 ^ h) h ≡ 1
added_bit hosts h none =
    let more : (hosts + 2 ^ h) / 2 ^ h ≡ hosts / 2 ^ h + 1 = add-div_right hosts (pow_pos h) in
    ap (λ q. q % 2) more ∙ odd (hosts / 2 ^ h) none
  where
    odd : (q : ℕ) → q % 2 ≡ 0 → (q + 1) % 2 ≡ 1
    odd q even = omega (arith, even)

lost_bit : (hosts h : ℕ) → bit_at hosts h ≡ 1 → bit_at (hosts - 2 ^ h) h ≡ 0
lost_bit hosts h one = elim (cases_lt hosts (2 ^ h)) [
  | inl below ↦ (let none : bit_at hosts h ≡ 0 = ap (λ q. q % 2) (div-eq_of_lt below) in absurd (omega (arith, one, none)))
  | inr enough ↦ (let less : hosts / 2 ^ h ≡ (hosts - 2 ^ h) / 2 ^ h + 1 = div-eq-sub-div (pow_pos h) enough in
      even (hosts / 2 ^ h) ((hosts - 2 ^ h) / 2 ^ h) less one)
]
  where
    even : (q r : ℕ) → q ≡ r + 1 → q % 2 ≡ 1 → r % 2 ≡ 0
    even q r next odd = omega (arith, next, odd)

pub with_has : (hosts h : ℕ) → has_host (with_host hosts h) h ≡ true
with_has hosts h = elim (cases_bit hosts h) [
  | inl one ↦ ap (λ b. has_host (if b then hosts else hosts + 2 ^ h) h) (has_one hosts h one) ∙ has_one hosts h one
  | inr none ↦ ap (λ b. has_host (if b then hosts else hosts + 2 ^ h) h) (has_none hosts h none) ∙ has_one (hosts + 2 ^ h) h (added_bit hosts h none)
]

pub without_has : (hosts h : ℕ) → has_host (without_host hosts h) h ≡ false
without_has hosts h = elim (cases_bit hosts h) [
  | inl one ↦ ap (λ b. has_host (if b then hosts - 2 ^ h else hosts) h) (has_one hosts h one) ∙ has_none (hosts - 2 ^ h) h (lost_bit hosts h one)
  | inr none ↦ ap (λ b. has_host (if b then hosts - 2 ^ h else hosts) h) (has_none hosts h none) ∙ has_none hosts h none
]

set_twice : (b : Bool) (hosts h : ℕ) → (if b then with_host (if b then with_host hosts h else without_host hosts h) h else without_host (if b then with_host hosts h else without_host hosts h) h)
    ≡ (if b then with_host hosts h else without_host hosts h)
set_twice true hosts h = ap (λ b. if b then with_host hosts h else with_host hosts h + 2 ^ h) (with_has hosts h)
set_twice false hosts h = ap (λ b. if b then without_host hosts h - 2 ^ h else without_host hosts h) (without_has hosts h)

pub set_by-twice : (h : ℕ) (held offered : Bool) (e : TagEntry) → set_by h held offered (set_by h held offered e) ≡ set_by h held offered e
set_by-twice h held offered e = λ i. record (set_by h held offered e) {
  holders = set_twice held e.holders h i;
  offered = set_twice offered e.offered h i;
}
