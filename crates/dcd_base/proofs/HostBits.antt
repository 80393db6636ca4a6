-- One bit of a set of hosts.
use Rattle.std.proofs.Common.{ℕ, ◌≡◌, ◌==◌, ◌+◌, ◌-◌, ◌*◌, ◌%◌, ◌^◌, ◌<◌, Bool, true, false, bit_and, bit_or, ◌⊎◌, inl, inr, refl, sym, ◌∙◌, arith, true≢false}
use Rattle.std.proofs.{Math.Pow.pow-lt, lemmas.Bool.eqb-true, lemmas.Bool.eq-eqb, lemmas.Nat.one_shl, lemmas.Nat.and-not, lemmas.Nat.and_comm, lemmas.Nat.Bits.and_pow, lemmas.Nat.Bits.bit_at-lt}
use Rattle.std.specs.Int.{bit_at, Bits.or_add_and}
use Rattle.dcd_base.specs.Hosts.{has_host, with_host, without_host}

bit_is : (hosts h : ℕ) → ((bit_at hosts h ≡ 1) × (has_host hosts h ≡ true)) ⊎ ((bit_at hosts h ≡ 0) × (has_host hosts h ≡ false))
bit_is hosts h =
    by (bit_at hosts h == 1) refl
  where
    by : (b : Bool) → (bit_at hosts h == 1) ≡ b → ((bit_at hosts h ≡ 1) × (has_host hosts h ≡ true)) ⊎ ((bit_at hosts h ≡ 0) × (has_host hosts h ≡ false))
    by true is = inl (eqb-true (bit_at hosts h) 1 is, is)
    by false is =
        let other : bit_at hosts h ≡ 1 → ⊥ = λ one. true≢false (sym (eq-eqb (bit_at hosts h) 1 one) ∙ is) in
        inr (omega (arith, other, bit_at-lt hosts h), is)

-- `hosts | 1 << h`
pub or_host : (hosts h : ℕ) → h < 16 → bit_or hosts (1 * 2 ^ h % 65536) ≡ with_host hosts h
or_host hosts h lt =
    let shl : 1 * 2 ^ h % 65536 ≡ 2 ^ h = one_shl h 16 lt in
    let sum = or_add_and hosts (2 ^ h) in
    let bit = and_pow hosts h in
    elim (bit_is hosts h) [
      | inl one ↦ rw (shl, one.1) (omega (arith, rw (bit, one.0) at sum))
      | inr none ↦ rw (shl, none.1) (omega (arith, rw (bit, none.0) at sum))
    ]

-- `hosts & !(1 << h)`
pub and_not_host : (hosts h : ℕ) → h < 16 → hosts < 65536 → bit_and hosts (65535 - 1 * 2 ^ h % 65536) ≡ without_host hosts h
and_not_host hosts h lt fits =
    let shl : 1 * 2 ^ h % 65536 ≡ 2 ^ h = one_shl h 16 lt in
    let small : 2 ^ h < 65536 = pow-lt lt in
    let rest : bit_and (65535 - 2 ^ h) hosts + bit_and (2 ^ h) hosts ≡ hosts = and-not 16 (2 ^ h) hosts small fits in
    let sum : bit_and hosts (65535 - 2 ^ h) + bit_and hosts (2 ^ h) ≡ hosts =
    rw (and_comm hosts (65535 - 2 ^ h), and_comm hosts (2 ^ h)) rest in
    let bit = and_pow hosts h in
    elim (bit_is hosts h) [
      | inl one ↦ rw (shl, one.1) (omega (arith, rw (bit, one.0) at sum))
      | inr none ↦ rw (shl, none.1) (omega (arith, rw (bit, none.0) at sum))
    ]
