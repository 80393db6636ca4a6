-- Fields at a place, found where the bytes are long enough and read where they agree.
use Rattle.std.proofs.Common.{◌≡◌, ℕ, zero, suc, ◌+◌, ◌%◌, ◌<◌, ◌≤◌, Bool, true, false, eqb, List, [], ◌∷◌, length, get_or, take, drop, refl, sym, ap, subst, ◌∙◌, arith, drop-cons, add-zero}
use Rattle.std.proofs.lemmas.{List.length-take, List.length-drop, List.length-replicate, List.drop-drop, List.get_or-drop, List.nil_from_length, Nat.and_mask}
use Rattle.std.specs.{Int.Width, Int.w8, Int.byte_len, Int.to_le_bytes, Int.from_le_bytes, List.list_all, Prelude.bit_and}
use Rattle.dcd_base.specs.Layouts.{Field, Number, Raw, Reserved, Fixed, FitsField, ReadsField, Reads, spell, flag, is_byte, number_at}
use Rattle.dcd_base.proofs.{Agreement.Agrees, Fields.IsBytes, Fields.all_bytes, Fields.length_of_field, Widths.IsBytes-take, Widths.IsBytes-drop, Widths.IsWide, Widths.wide_8}
use Rattle.dcd_base.specs.{Payloads.has_flag, Words.flag_of}

-- From this place on the bytes agree with the fields, to their end.
pub record FieldsAt (bytes : List ℕ) (at : ℕ) (fields : List Field) : Type 0 where
  pub within : at ≤ length bytes
  pub rest : Agrees (drop at bytes) fields

step_found : (bytes : List ℕ) (at next : ℕ) (f : Field) (fs : List Field) → next ≡ at + length (spell f) → FitsField f → ReadsField (take (length (spell f)) (drop at bytes)) f → FieldsAt bytes next fs → FieldsAt bytes at (f ∷ fs)
step_found bytes at next f fs e fits reads after =
    let same : drop (length (spell f)) (drop at bytes) ≡ drop next bytes = drop-drop (length (spell f)) at bytes ∙ ap (λ n. drop n bytes) (sym e) in
    record {
      within = omega (arith, e, after.within);
      rest = record { fits = (fits, after.rest.fits); agrees = (reads, rw same after.rest.agrees) };
    }

step_only : (bytes : List ℕ) (at next : ℕ) (f : Field) (fs : List Field) → next ≡ at + length (spell f) → FieldsAt bytes at (f ∷ fs) → FitsField f × ReadsField (take (length (spell f)) (drop at bytes)) f × FieldsAt bytes next fs
step_only bytes at next f fs e here =
    let same : drop (length (spell f)) (drop at bytes) ≡ drop next bytes = drop-drop (length (spell f)) at bytes ∙ ap (λ n. drop n bytes) (sym e) in (
      here.rest.fits.0,
      here.rest.agrees.0,
      record {
        within = omega (arith, e, here.within, length_of_field _ f here.rest.agrees.0, length-take (length (spell f)) (drop at bytes), length-drop at bytes);
        rest = record { fits = here.rest.fits.1; agrees = rw (← same) here.rest.agrees.1 };
      },
    )

pub all_from : (bytes : List ℕ) (fields : List Field) → Agrees bytes fields → FieldsAt bytes 0 fields
all_from bytes fields a = record { within = omega arith; rest = a }

-- where the bytes agree with the fields from their start on, they read as them
pub Reads-from : (bytes : List ℕ) (fields : List Field) → IsBytes bytes → FieldsAt bytes 0 fields → Reads bytes fields
Reads-from bytes fields small here = record { fits = here.rest.fits; in_range = all_bytes bytes small; agrees = here.rest.agrees }

-- ---- the end

pub end_found : (bytes : List ℕ) (at : ℕ) → length bytes ≡ at → FieldsAt bytes at []
end_found bytes at e = record {
  within = omega (arith, e);
  rest = record { fits = tt; agrees = nil_from_length (drop at bytes) (omega (arith, e, length-drop at bytes)) };
}

pub end_only : (bytes : List ℕ) (at : ℕ) → FieldsAt bytes at [] → length bytes ≡ at
end_only bytes at here = omega (arith, here.within, ap length here.rest.agrees, length-drop at bytes)

-- ---- numbers

pub number_found : (w : Width) (wide : IsWide w) (bytes : List ℕ) (at next : ℕ) (fs : List Field) → IsBytes bytes → next ≡ at + byte_len w → FieldsAt bytes next fs → FieldsAt bytes at (Number w (number_at w bytes at) ∷ fs)
number_found w wide bytes at next fs small e after =
    let rest = drop at bytes in
    let n = number_at w bytes at in
    let long : length (take (byte_len w) rest) ≡ byte_len w = omega (arith, e, after.within, length-take (byte_len w) rest, length-drop at bytes) in
    let back = wide.back (take (byte_len w) rest) long (IsBytes-take (byte_len w) rest (IsBytes-drop at bytes small)) in
    let front : take (byte_len w) rest ≡ to_le_bytes w n = sym (rw wide.front at back) in
    step_found bytes at next (Number w n) fs (rw (wide.len n) e) (wide.below rest (IsBytes-drop at bytes small)) (rw (wide.len n) front) after

pub number_only : (w : Width) (wide : IsWide w) (bytes : List ℕ) (at next n : ℕ) (fs : List Field) → next ≡ at + byte_len w → FieldsAt bytes at (Number w n ∷ fs) → (number_at w bytes at ≡ n) × FieldsAt bytes next fs
number_only w wide bytes at next n fs e here =
    let step = step_only bytes at next (Number w n) fs (rw (wide.len n) e) here in
    let front : take (byte_len w) (drop at bytes) ≡ to_le_bytes w n = rw (wide.len n) at step.1 in
    (sym (wide.front (drop at bytes)) ∙ ap (from_le_bytes w) front ∙ wide.again n step.0, step.2)

byte_is : (bytes : List ℕ) (at : ℕ) → number_at w8 bytes at ≡ get_or bytes at 0
byte_is bytes at = get_or-drop at bytes 0 0 ∙ ap (λ i. get_or bytes i 0) (add-zero at)

pub byte_found : (bytes : List ℕ) (at next : ℕ) (fs : List Field) → IsBytes bytes → next ≡ at + 1 → FieldsAt bytes next fs → FieldsAt bytes at (Number w8 (get_or bytes at 0) ∷ fs)
byte_found bytes at next fs small e after =
    subst (λ n. FieldsAt bytes at (Number w8 n ∷ fs)) (byte_is bytes at) (number_found w8 wide_8 bytes at next fs small e after)

pub byte_only : (bytes : List ℕ) (at next n : ℕ) (fs : List Field) → next ≡ at + 1 → FieldsAt bytes at (Number w8 n ∷ fs) → (get_or bytes at 0 ≡ n) × FieldsAt bytes next fs
byte_only bytes at next n fs e here =
    let step = number_only w8 wide_8 bytes at next n fs e here in
    (sym (byte_is bytes at) ∙ step.0, step.1)

-- ---- a byte with a flag

flag_cases : (m : ℕ) → m < 2 → m ≡ flag_of (eqb m 1)
flag_cases zero lt = refl
flag_cases (suc zero) lt = refl
flag_cases (suc (suc m)) lt = absurd (omega (arith, lt))

flag_bit : (b : ℕ) → bit_and b 1 ≡ flag_of (eqb (bit_and b 1) 1)
flag_bit b = subst (λ m. m ≡ flag_of (eqb m 1)) (sym (and_mask b 1)) (flag_cases (b % 2) (omega arith))

pub flag_fits : (b : Bool) → bit_and (flag_of b) 1 ≡ flag_of b
flag_fits true = refl
flag_fits false = refl

flag_is : (b : ℕ) (f : Bool) → bit_and b 1 ≡ flag_of f → eqb (bit_and b 1) 1 ≡ f
flag_is b true e = rw e refl
flag_is b false e = rw e refl

byte_of : (bytes : List ℕ) (at : ℕ) → at < length bytes → take 1 (drop at bytes) ≡ get_or bytes at 0 ∷ []
byte_of bytes at lt = rw (drop-cons bytes at 0 lt) refl

pub flag_found : (bytes : List ℕ) (at next : ℕ) (fs : List Field) → next ≡ at + 1 → FieldsAt bytes next fs → FieldsAt bytes at (flag (has_flag bytes at) ∷ fs)
flag_found bytes at next fs e after =
    let here : at < length bytes = omega (arith, e, after.within) in
    step_found bytes at next (flag (has_flag bytes at)) fs e (flag_fits (has_flag bytes at)) (get_or bytes at 0, byte_of bytes at here, flag_bit (get_or bytes at 0)) after

pub flag_only : (bytes : List ℕ) (at next : ℕ) (f : Bool) (fs : List Field) → next ≡ at + 1 → FieldsAt bytes at (flag f ∷ fs) → (has_flag bytes at ≡ f) × FieldsAt bytes next fs
flag_only bytes at next f fs e here =
    let step = step_only bytes at next (flag f) fs e here in
    let long : at < length bytes = omega (arith, e, step.2.within) in
    let same : get_or bytes at 0 ≡ step.1.0 = cc (byte_of bytes at long, step.1.1) in
    (flag_is (get_or bytes at 0) f (rw same step.1.2), step.2)

-- ---- bytes as they are

pub raw_found : (bytes : List ℕ) (at next n : ℕ) (fs : List Field) → IsBytes bytes → next ≡ at + n → FieldsAt bytes next fs → FieldsAt bytes at (Raw n (take n (drop at bytes)) ∷ fs)
raw_found bytes at next n fs small e after =
    let raw = take n (drop at bytes) in
    let len : length raw ≡ n = omega (arith, e, after.within, length-take n (drop at bytes), length-drop at bytes) in
    let known : list_all is_byte raw ≡ true = all_bytes raw (IsBytes-take n (drop at bytes) (IsBytes-drop at bytes small)) in
    step_found bytes at next (Raw n raw) fs (rw len e) (len, known) (rw len refl) after

pub raw_only : (bytes : List ℕ) (at next n : ℕ) (raw : List ℕ) (fs : List Field) → next ≡ at + n → FieldsAt bytes at (Raw n raw ∷ fs) → (take n (drop at bytes) ≡ raw) × FieldsAt bytes next fs
raw_only bytes at next n raw fs e here =
    let len : length raw ≡ n = here.rest.fits.0.0 in
    let step = step_only bytes at next (Raw n raw) fs (rw len e) here in
    (rw len at step.1, step.2)

-- ---- reserved bytes

pub reserved_found : (bytes : List ℕ) (at next n : ℕ) (fs : List Field) → next ≡ at + n → FieldsAt bytes next fs → FieldsAt bytes at (Reserved n ∷ fs)
reserved_found bytes at next n fs e after =
    let long : length (take n (drop at bytes)) ≡ n = omega (arith, e, after.within, length-take n (drop at bytes), length-drop at bytes) in
    step_found bytes at next (Reserved n) fs (rw (length-replicate {A = ℕ} n 0) e) tt (rw (length-replicate {A = ℕ} n 0) long) after

pub reserved_only : (bytes : List ℕ) (at next n : ℕ) (fs : List Field) → next ≡ at + n → FieldsAt bytes at (Reserved n ∷ fs) → FieldsAt bytes next fs
reserved_only bytes at next n fs e here = (step_only bytes at next (Reserved n) fs (rw (length-replicate {A = ℕ} n 0) e) here).2

-- ---- bytes that are fixed on output alone

pub fixed_found : (bytes : List ℕ) (at next : ℕ) (fixed : List ℕ) (fs : List Field) → next ≡ at + length fixed → FieldsAt bytes next fs → FieldsAt bytes at (Fixed fixed ∷ fs)
fixed_found bytes at next fixed fs e after =
    step_found bytes at next (Fixed fixed) fs e tt (omega (arith, e, after.within, length-take (length fixed) (drop at bytes), length-drop at bytes)) after

pub fixed_only : (bytes : List ℕ) (at next : ℕ) (fixed : List ℕ) (fs : List Field) → next ≡ at + length fixed → FieldsAt bytes at (Fixed fixed ∷ fs) → FieldsAt bytes next fs
fixed_only bytes at next fixed fs e here = (step_only bytes at next (Fixed fixed) fs e here).2
