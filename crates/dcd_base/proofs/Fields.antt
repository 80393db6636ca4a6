-- Fields of a layout, and bytes that read as them.
use Rattle.std.proofs.Common.{◌≡◌, ℕ, zero, suc, ◌<◌, true, List, [], ◌∷◌, length, get_or, take, drop, refl, sym, ap, ◌∙◌, arith, replicate, take_at, drop_at, length-append, take-append-drop}
use Rattle.std.proofs.lemmas.{Bool.lt-ltb, List.length-replicate, List.Folds.list_all-append, Nat.and_le_r}
use Rattle.std.specs.{Int.byte_at, Int.byte_len, Int.bytes_low_first, List.list_all, List.AllByRecursion}
use Rattle.dcd_base.specs.Layouts.{Field, Number, Masked, Raw, Reserved, Fixed, spell, spelling, is_byte, FitsField, ReadsField, ReadsFields, Reads}

abbrev pub IsBytes : List ℕ → Type 0
IsBytes bytes = (i : ℕ) → get_or bytes i 0 < 256

pub all_bytes : (bytes : List ℕ) → IsBytes bytes → list_all is_byte bytes ≡ true
all_bytes [] small = refl
all_bytes (x ∷ bytes) small = rw (lt-ltb x 256 (small 0)) (all_bytes bytes (λ i. small (suc i)))

-- what reads as a field is as long as its spelling
pub length_of_field : (piece : List ℕ) (field : Field) → ReadsField piece field → length piece ≡ length (spell field)
length_of_field piece (Number w n) e = ap length e
length_of_field piece (Masked mask n) reads = ap length reads.1
length_of_field piece (Raw n bytes) e = ap length e
length_of_field piece (Reserved n) e = e ∙ sym (length-replicate n 0)
length_of_field piece (Fixed bytes) e = e

pub length_of_fields : (bytes : List ℕ) (fields : List Field) → ReadsFields bytes fields → length bytes ≡ length (spelling fields)
length_of_fields bytes [] e = ap length e
length_of_fields bytes (field ∷ fields) reads =
    let n = length (spell field) in
    let front = length_of_field (take n bytes) field reads.0 in
    let rest = length_of_fields (drop n bytes) fields reads.1 in
    ap length (sym (take-append-drop n bytes)) ∙ length-append (take n bytes) (drop n bytes)
    ∙ omega (arith, front, rest, length-append (spell field) (spelling fields))

-- two bytes
pub two_bytes : (x y : ℕ) → x < 256 → y < 256 → IsBytes (x ∷ y ∷ [])
two_bytes x y p q zero = p
two_bytes x y p q (suc zero) = q
two_bytes x y p q (suc (suc i)) = omega arith

-- a field's spelling reads as the field
field_spelled : (field : Field) → FitsField field → ReadsField (spell field) field
field_spelled (Number w n) fits = refl
field_spelled (Masked mask n) fits = (n, refl, fits)
field_spelled (Raw n bytes) fits = refl
field_spelled (Reserved n) fits = length-replicate n 0
field_spelled (Fixed bytes) fits = refl

-- the one spelling reads as what it spells
pub fields_spelled : (fields : List Field) → AllByRecursion FitsField fields → ReadsFields (spelling fields) fields
fields_spelled [] fits = refl
fields_spelled (field ∷ fields) fits = (
  rw (take_at (spell field) (spelling fields) (length (spell field)) refl) (field_spelled field fits.0),
  rw (drop_at (spell field) (spelling fields) (length (spell field)) refl) (fields_spelled fields fits.1),
)

-- what a field must be besides for its spelling to be bytes
abbrev pub IsOfBytes : Field → Type 0
IsOfBytes (Number w n) = Unit {0}
IsOfBytes (Masked mask n) = mask < 256
IsOfBytes (Raw n bytes) = Unit {0}
IsOfBytes (Reserved n) = Unit {0}
IsOfBytes (Fixed bytes) = list_all is_byte bytes ≡ true

byte_first : (x : ℕ) (bytes : List ℕ) → x < 256 → list_all is_byte bytes ≡ true → list_all is_byte (x ∷ bytes) ≡ true
byte_first x bytes small rest = rw (lt-ltb x 256 small) rest

number_bytes : (k i n : ℕ) → list_all is_byte (bytes_low_first i k n) ≡ true
number_bytes zero i n = refl
number_bytes (suc k) zero n = byte_first (byte_at 0 n) (bytes_low_first 1 k n) (omega arith) (number_bytes k 1 n)
number_bytes (suc k) (suc i) n = byte_first (byte_at (suc i) n) (bytes_low_first (suc (suc i)) k n) (omega arith) (number_bytes k (suc (suc i)) n)

zero_bytes : (n : ℕ) → list_all is_byte (replicate n zero) ≡ true
zero_bytes zero = refl
zero_bytes (suc n) = zero_bytes n

spell_bytes : (field : Field) → FitsField field → IsOfBytes field → list_all is_byte (spell field) ≡ true
spell_bytes (Number w n) fits of_bytes = number_bytes (byte_len w) 0 n
spell_bytes (Masked mask n) fits of_bytes = byte_first n [] (omega (arith, fits, and_le_r n mask, of_bytes)) refl
spell_bytes (Raw n bytes) fits of_bytes = fits.1
spell_bytes (Reserved n) fits of_bytes = zero_bytes n
spell_bytes (Fixed bytes) fits of_bytes = of_bytes

fields_bytes : (fields : List Field) → AllByRecursion FitsField fields → AllByRecursion IsOfBytes fields → list_all is_byte (spelling fields) ≡ true
fields_bytes [] fits of_bytes = refl
fields_bytes (field ∷ fields) fits of_bytes =
    list_all-append is_byte (spell field) (spelling fields) ∙ rw (spell_bytes field fits.0 of_bytes.0) (fields_bytes fields fits.1 of_bytes.1)

-- the spelling of fields reads as them
pub spelled_reads : (fields : List Field) → AllByRecursion FitsField fields → AllByRecursion IsOfBytes fields → Reads (spelling fields) fields
spelled_reads fields fits of_bytes = record { fits = fits; in_range = fields_bytes fields fits of_bytes; agrees = fields_spelled fields fits }
