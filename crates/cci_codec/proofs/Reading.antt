-- What reads as a request is the request that its bytes are.
use Rattle.std.proofs.Common.{◌≡◌, ℕ, suc, ◌+◌, ◌-◌, ◌*◌, ◌/◌, ◌%◌, ◌^◌, ◌<◌, ◌≤◌, Bool, true, false, cond, not, eqb, ltb, slice_index, List, [], ◌∷◌, ◌++◌, length, get_or, take, Option, Some, None, refl, sym, ap, ◌∙◌, arith, bit_and, w16, eqb-true, eq-eqb, ltb-false, le-ltb, take_all, drop_of_length-le, take-append-drop, append-nil}
use Rattle.std.{specs.Int.from_le_bytes, specs.List.list_all, proofs.lemmas.Nat.le_bytes_2, proofs.lemmas.Nat.and_le_r, proofs.lemmas.Nat.and_mask}
use Rattle.dcd_base.{proofs.Widths.wide_16, specs.Layouts.is_byte, proofs.Fields.IsBytes, proofs.Fields.all_bytes, proofs.Fields.length_of_fields, proofs.Fields.two_bytes, proofs.Fields.spelled_reads}
use Rattle.cci_codec.specs.Messages.{message_fault, request_in, request_fields, request_bytes, length_field, ReadsRequest, WritesRequest}
use Rattle.cci_codec.specs.declared.{faults.MessageFault.MessageFault, messages.Request.Request}

no_fault : (b : Bool) (f : MessageFault) (rest : Option MessageFault) → cond b (Some f) rest ≡ None → (b ≡ false) × (rest ≡ None)
no_fault true f rest e = absurd cc
no_fault false f rest e = (refl, e)

is_true : (b : Bool) → not b ≡ false → b ≡ true
is_true true e = refl
is_true false e = absurd cc

-- a number of five bits
five_bits : (n : ℕ) → n < 32 → bit_and n 31 ≡ n
five_bits n small = and_mask n 5 ∙ omega arith

-- the length of 21 bits in its two parts
low_part : (n low high : ℕ) → low + 65536 * high ≡ n → low < 65536 → n % 65536 ≡ low
low_part n low high e small = omega arith

high_part : (n low high : ℕ) → low + 65536 * high ≡ n → low < 65536 → n / 65536 ≡ high
high_part n low high e small = omega arith

-- what the absence of the three faults says
pub record HasNoFault (bytes : List ℕ) : Type 0 where
  pub long : 12 ≤ length bytes
  pub category : bit_and (slice_index bytes 0) 15 ≡ 0
  pub total : length_field bytes ≡ length bytes - 12

has_no_fault : (bytes : List ℕ) → message_fault bytes ≡ None → HasNoFault bytes
has_no_fault bytes ok =
    let not_short = no_fault (ltb (length bytes) 12) (MessageFault.Short (length bytes)) _ ok in
    let of_category = no_fault (not (eqb (bit_and (slice_index bytes 0) 15) 0)) (MessageFault.NotRequest (bit_and (slice_index bytes 0) 15)) _ not_short.1 in
    let of_length = no_fault (not (eqb (length_field bytes) (length bytes - 12))) (MessageFault.LengthDiffers (length_field bytes) (length bytes - 12)) None of_category.1 in
    record {
      long = ltb-false _ _ not_short.0;
      category = eqb-true _ _ (is_true _ of_category.0);
      total = eqb-true _ _ (is_true _ of_length.0);
    }

pub no_message_fault : (bytes : List ℕ) → HasNoFault bytes → message_fault bytes ≡ None
no_message_fault bytes has =
    rw (le-ltb (length bytes) 12 has.long, eq-eqb (bit_and (slice_index bytes 0) 15) 0 has.category, eq-eqb (length_field bytes) (length bytes - 12) has.total) refl

-- bytes without a fault read as the request that they are
pub request_reads : (bytes : List ℕ) → IsBytes bytes → message_fault bytes ≡ None → ReadsRequest bytes (request_in bytes)
unfolding ReadsRequest
request_reads (a ∷ b ∷ c ∷ d ∷ e ∷ f ∷ g ∷ h ∷ i ∷ j ∷ k ∷ l ∷ payload) small ok =
    let bytes : List ℕ = a ∷ b ∷ c ∷ d ∷ e ∷ f ∷ g ∷ h ∷ i ∷ j ∷ k ∷ l ∷ payload in
    let has = has_no_fault bytes ok in
    let n = length payload in
    let high = bit_and h 31 in
    let total : f + g * 256 + 65536 * high ≡ n = has.total ∙ (omega arith) in
    let high_small : high < 32 = omega (arith, and_le_r h 31) in
    let low_small : f + g * 256 < 65536 = omega (arith, small 5, small 6) in
    let low_is : n % 65536 ≡ f + g * 256 = low_part n (f + g * 256) high total low_small in
    let high_is : n / 65536 ≡ high = high_part n (f + g * 256) high total low_small in
    record {
      fits = (refl, (small 1, (tt, (omega (arith, small 3, small 4), (omega arith, (rw high_is (five_bits high high_small), (tt, ((refl, all_bytes payload (λ m. small (suc (suc (suc (suc (suc (suc (suc (suc (suc (suc (suc (suc m)))))))))))))), tt))))))));
      in_range = all_bytes bytes small;
      agrees = (
        (a, refl, has.category),
        (
          ap (λ (x : ℕ). x ∷ []) (omega (arith, small 1)),
          (
            refl,
            (
              sym (le_bytes_2 (d ∷ e ∷ []) (d + e * 256) refl (two_bytes d e (small 3) (small 4)) refl),
              (
                sym (le_bytes_2 (f ∷ g ∷ []) (n % 65536) refl (two_bytes f g (small 5) (small 6)) low_is),
                ((h, refl, sym high_is), (refl, (take_all n payload (omega arith), drop_of_length-le payload (omega arith)))),
              ),
            ),
          ),
        ),
      );
    }
request_reads bytes small ok = absurd cc

head_is : (x y : ℕ) (xs ys : List ℕ) → x ∷ xs ≡ y ∷ ys → x ≡ y
head_is x y xs ys e = ap (λ (zs : List ℕ). get_or zs 0 0) e

-- what reads as a request has no fault and is that request
pub request_read : (bytes : List ℕ) (q : Request) → ReadsRequest bytes q → HasNoFault bytes × (q ≡ request_in bytes)
unfolding ReadsRequest
request_read (a ∷ b ∷ c ∷ d ∷ e ∷ f ∷ g ∷ h ∷ i ∷ j ∷ k ∷ l ∷ payload) q reads =
    let bytes : List ℕ = a ∷ b ∷ c ∷ d ∷ e ∷ f ∷ g ∷ h ∷ i ∷ j ∷ k ∷ l ∷ payload in
    let r = reads.agrees in
    let n = length q.payload in
    let category : bit_and a 15 ≡ 0 = ap (λ (x : ℕ). bit_and x 15) (head_is a r.0.0 [] [] r.0.1) ∙ r.0.2 in
    let tag : b ≡ q.tag = head_is b (q.tag % 256) [] [] r.1.0 ∙ omega (arith, reads.fits.1.0) in
    let opcode : d + e * 256 ≡ q.opcode = ap (from_le_bytes w16) r.1.1.1.0 ∙ wide_16.again q.opcode reads.fits.1.1.1.0 in
    let low : f + g * 256 ≡ n % 65536 = ap (from_le_bytes w16) r.1.1.1.1.0 ∙ wide_16.again (n % 65536) (omega arith) in
    let high : bit_and h 31 ≡ n / 65536 = ap (λ (x : ℕ). bit_and x 31) (head_is h r.1.1.1.1.1.0.0 [] [] r.1.1.1.1.1.0.1) ∙ r.1.1.1.1.1.0.2 in
    let payload_is : payload ≡ q.payload = sym (take-append-drop n payload) ∙ ap (λ (xs : List ℕ). take n payload ++ xs) r.1.1.1.1.1.1.1.1 ∙ append-nil (take n payload) ∙ r.1.1.1.1.1.1.1.0 in
    let total : f + g * 256 + 65536 * bit_and h 31 ≡ length payload = omega (arith, low, high, ap length payload_is) in
    (record { long = omega arith; category = category; total = total ∙ (omega arith) }, rw (tag, opcode, payload_is) refl)
request_read bytes q reads = absurd (omega (arith, length_of_fields bytes (request_fields q) reads.agrees))

-- what reads as a request has no fault
pub no_fault_read : (bytes : List ℕ) (q : Request) (f : MessageFault) → ReadsRequest bytes q → message_fault bytes ≡ Some f → ⊥
no_fault_read bytes q f reads e =
    let none = no_message_fault bytes (request_read bytes q reads).0 in
    cc

-- what is spelled so reads so
pub request_spelled : (q : Request) (bytes : List ℕ) → WritesRequest q bytes → ReadsRequest bytes q
unfolding ReadsRequest WritesRequest
request_spelled q bytes writes =
    rw writes.spelled (spelled_reads (request_fields q) writes.fits (omega arith, (tt, (tt, (tt, (tt, (omega arith, (tt, (tt, tt)))))))))

-- the bytes of a request with a payload of bytes
pub request_writes : (q : Request) → q.tag < 256 → q.opcode < 2 ^ 16 → length q.payload < 2 ^ 21 → list_all is_byte q.payload ≡ true → WritesRequest q (request_bytes q)
unfolding WritesRequest
request_writes q tag opcode short small = record {
  fits = (refl, (tag, (tt, (opcode, (omega arith, (five_bits (length q.payload / 2 ^ 16) (omega arith), (tt, ((refl, small), tt))))))));
  spelled = refl;
}
