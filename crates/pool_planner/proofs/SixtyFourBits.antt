-- A length in bytes stands in a message modulo 2^64.
use Rattle.std.proofs.Common.{◌≡◌, ℕ, ◌/◌, ◌%◌, ◌^◌, List, [], ◌∷◌, ◌++◌, refl, sym, ◌∙◌, arith}
use Rattle.std.specs.Int.{to_le_bytes, w8, w16, w32, w64}
use Rattle.dcd_base.specs.{Words.zero_tag, declared.ids.HostId.HostId, declared.steps.Actor.Actor}
use Rattle.journal_core.specs.declared.acts.Act.{Act}
use Rattle.plan_rules.specs.{Holding.Step, Listing.add_step}

byte_0 : (n : ℕ) → n % 18446744073709551616 % 256 ≡ n % 256
byte_0 n = omega arith

byte_1 : (n : ℕ) → n % 18446744073709551616 / 256 % 256 ≡ n / 256 % 256
byte_1 n = omega arith

byte_2 : (n : ℕ) → n % 18446744073709551616 / 65536 % 256 ≡ n / 65536 % 256
byte_2 n = omega arith

byte_3 : (n : ℕ) → n % 18446744073709551616 / 16777216 % 256 ≡ n / 16777216 % 256
byte_3 n = omega arith

byte_4 : (n : ℕ) → n % 18446744073709551616 / 4294967296 % 256 ≡ n / 4294967296 % 256
byte_4 n = omega arith

byte_5 : (n : ℕ) → n % 18446744073709551616 / 1099511627776 % 256 ≡ n / 1099511627776 % 256
byte_5 n = omega arith

byte_6 : (n : ℕ) → n % 18446744073709551616 / 281474976710656 % 256 ≡ n / 281474976710656 % 256
byte_6 n = omega arith

byte_7 : (n : ℕ) → n % 18446744073709551616 / 72057594037927936 % 256 ≡ n / 72057594037927936 % 256
byte_7 n = omega arith

-- the message with these eight bytes as its length
with_length : HostId → ℕ → List ℕ → Step
with_length h r bytes = (
  Actor.Manager,
  Act.Command (record {
    tag = 0;
    opcode = 0x5604;
    payload = to_le_bytes w16 h ++ (to_le_bytes w8 0 ++ (to_le_bytes w8 r ++ (bytes ++ (zero_tag.0 ++ (to_le_bytes w32 0 ++ [])))));
  }),
)

is_with_length : (h : HostId) (r n : ℕ) → add_step h r n ≡ with_length h r (to_le_bytes w64 n)
unfolding with_length
is_with_length h r n = refl

pub add_wraps : (h : HostId) (r n : ℕ) → add_step h r (n % 2 ^ 64) ≡ add_step h r n
add_wraps h r n = is_with_length h r (n % 2 ^ 64)
    ∙ (λ i. with_length h r (byte_0 n i ∷ byte_1 n i ∷ byte_2 n i ∷ byte_3 n i ∷ byte_4 n i ∷ byte_5 n i ∷ byte_6 n i ∷ byte_7 n i ∷ []))
    ∙ sym (is_with_length h r n)
