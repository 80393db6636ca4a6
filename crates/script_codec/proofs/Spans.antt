-- Bytes that are fields one after another, from a place up to a place.
use Rattle.std.proofs.Common.{◌≡◌, ℕ, zero, suc, ◌+◌, ◌-◌, ◌≤◌, List, [], ◌∷◌, ◌++◌, length, take, drop, replicate, refl, sym, ap, ◌∙◌, subst, arith, length-take, length-drop, add-zero, add_assoc}
use Rattle.std.{proofs.lemmas.List.drop-drop, proofs.lemmas.List.drop-take, proofs.lemmas.List.drop_all, specs.Int.byte_len, specs.Int.bytes_low_first, specs.List.list_all, specs.List.AllByRecursion}
use Rattle.std.specs.Prelude.{IsTrue}
use Rattle.cci_codec.specs.dcd_base.specs.Layouts.{Field, Number, Masked, Raw, Reserved, Fixed, spell, is_byte, FitsField, ReadsField, ReadsFields, Reads}

-- how many bytes a field has
abbrev pub size : Field → ℕ
size (Number w n) = byte_len w
size (Masked mask n) = 1
size (Raw n bytes) = n
size (Reserved n) = n
size (Fixed bytes) = length bytes

-- the field stands at the place
pub record Stands (bytes : List ℕ) (at : ℕ) (field : Field) : Type 0 where
  pub fits : FitsField field
  pub within : at + size field ≤ length bytes
  pub reads : ReadsField (take (size field) (drop at bytes)) field

abbrev pub AllStand : List ℕ → ℕ → ℕ → List Field → Type 0
AllStand bytes at next [] = at ≡ next
AllStand bytes at next (field ∷ fields) = Stands bytes at field × AllStand bytes (at + size field) next fields

-- the fields stand from at to next
pub record Spans (bytes : List ℕ) (at next : ℕ) (fields : List Field) : Type 0 where
  pub all : AllStand bytes at next fields

-- ---- one part after another
all_then : (bytes : List ℕ) (at mid next : ℕ) (fs gs : List Field) → AllStand bytes at mid fs → AllStand bytes mid next gs → AllStand bytes at next (fs ++ gs)
all_then bytes at mid next [] gs a b = subst (λ m. AllStand bytes m next gs) (sym a) b
all_then bytes at mid next (f ∷ fs) gs a b = (a.0, all_then bytes (at + size f) mid next fs gs a.1 b)

pub spans_then : {bytes : List ℕ} {at mid next : ℕ} {fs gs : List Field} → Spans bytes at mid fs → Spans bytes mid next gs → Spans bytes at next (fs ++ gs)
spans_then {bytes} {at} {mid} {next} {fs} {gs} a b = record { all = all_then bytes at mid next fs gs a.all b.all }

pub record Parts (bytes : List ℕ) (at next : ℕ) (fs gs : List Field) : Type 0 where
  pub mid : ℕ
  pub front : Spans bytes at mid fs
  pub back : Spans bytes mid next gs

pub parted : (bytes : List ℕ) (at next : ℕ) (fs gs : List Field) → Spans bytes at next (fs ++ gs) → Parts bytes at next fs gs
parted bytes at next [] gs a = record { mid = at; front = record { all = refl }; back = a }
parted bytes at next (f ∷ fs) gs a =
    let rest = parted bytes (at + size f) next fs gs (record { all = a.all.1 }) in
    record { mid = rest.mid; front = record { all = (a.all.0, rest.front.all) }; back = rest.back }

-- ---- a layout's reading, field by field
low_length : (i k n : ℕ) → length (bytes_low_first i k n) ≡ k
low_length i zero n = refl
low_length i (suc k) n = ap suc (low_length (suc i) k n)

piece_length : (piece : List ℕ) (field : Field) → FitsField field → ReadsField piece field → length piece ≡ size field
piece_length piece (Number w n) fits e = ap length e ∙ low_length 0 (byte_len w) n
piece_length piece (Masked mask n) fits reads = ap length reads.1
piece_length piece (Raw n bytes) fits e = ap length e ∙ fits.0
piece_length piece (Reserved n) fits e = e
piece_length piece (Fixed bytes) fits e = e

zeros_length : (n : ℕ) → length (replicate n zero) ≡ n
zeros_length zero = refl
zeros_length (suc n) = ap suc (zeros_length n)

spell_length : (field : Field) → FitsField field → length (spell field) ≡ size field
spell_length (Number w n) fits = low_length 0 (byte_len w) n
spell_length (Masked mask n) fits = refl
spell_length (Raw n bytes) fits = fits.0
spell_length (Reserved n) fits = zeros_length n
spell_length (Fixed bytes) fits = refl

fits_of : (bytes : List ℕ) (at next : ℕ) (fields : List Field) → AllStand bytes at next fields → AllByRecursion FitsField fields
fits_of bytes at next [] all = tt
fits_of bytes at next (f ∷ fs) all = (all.0.fits, fits_of bytes (at + size f) next fs all.1)

reads_of : (bytes : List ℕ) (at next : ℕ) (fields : List Field) → next ≡ length bytes → AllStand bytes at next fields → ReadsFields (drop at bytes) fields
reads_of bytes at next [] end all = drop_all at bytes (omega (arith, end, all))
reads_of bytes at next (f ∷ fs) end all =
    let n = spell_length f all.0.fits in (
      subst (λ k. ReadsField (take k (drop at bytes)) f) (sym n) all.0.reads,
      subst (λ rest. ReadsFields rest fs) (sym (ap (λ k. drop k (drop at bytes)) n ∙ drop-drop (size f) at bytes)) (reads_of bytes (at + size f) next fs end all.1),
    )

stand_of : (bytes : List ℕ) (at : ℕ) (fields : List Field) → at ≤ length bytes → AllByRecursion FitsField fields → ReadsFields (drop at bytes) fields → AllStand bytes at (length bytes) fields
stand_of bytes at [] under fits reads =
    let e : length (drop at bytes) ≡ 0 = ap length reads in omega (arith, under, e, length-drop at bytes)
stand_of bytes at (f ∷ fs) under fits reads =
    let n = spell_length f fits.0 in
    let here : ReadsField (take (size f) (drop at bytes)) f = subst (λ k. ReadsField (take k (drop at bytes)) f) n reads.0 in
    let long : length (take (size f) (drop at bytes)) ≡ size f = piece_length (take (size f) (drop at bytes)) f fits.0 here in
    let within : at + size f ≤ length bytes = omega (arith, under, long, length-take (size f) (drop at bytes), length-drop at bytes) in (
      record { fits = fits.0; within = within; reads = here },
      stand_of bytes (at + size f) fs within fits.1 (subst (λ rest. ReadsFields rest fs) (ap (λ k. drop k (drop at bytes)) n ∙ drop-drop (size f) at bytes) reads.1),
    )

pub reads_from_spans : (bytes : List ℕ) (fields : List Field) → IsTrue (list_all is_byte bytes) → Spans bytes 0 (length bytes) fields → Reads bytes fields
reads_from_spans bytes fields in_range spans = record {
  fits = fits_of bytes 0 (length bytes) fields spans.all;
  in_range = in_range;
  agrees = reads_of bytes 0 (length bytes) fields refl spans.all;
}

pub spans_from_reads : (bytes : List ℕ) (fields : List Field) → Reads bytes fields → Spans bytes 0 (length bytes) fields
spans_from_reads bytes fields reads = record { all = stand_of bytes 0 fields (omega arith) reads.fits reads.agrees }

-- ---- fields within a part of the bytes
take_take : (k m : ℕ) (xs : List ℕ) → k ≤ m → take k (take m xs) ≡ take k xs
take_take zero m xs under = refl
take_take (suc k) zero xs under = absurd (omega (arith, under))
take_take (suc k) (suc m) [] under = refl
take_take (suc k) (suc m) (x ∷ xs) under = ap (λ ys. x ∷ ys) (take_take k m xs (omega (arith, under)))

piece_in : (bytes : List ℕ) (at n i k : ℕ) → i + k ≤ n → take k (drop i (take n (drop at bytes))) ≡ take k (drop (at + i) bytes)
piece_in bytes at n i k under =
    let e : n ≡ i + (n - i) = omega (arith, under) in
    ap (λ m. take k (drop i (take m (drop at bytes)))) e
    ∙ ap (take k) (drop-take i (n - i) (drop at bytes))
    ∙ take_take k (n - i) (drop i (drop at bytes)) (omega (arith, under))
    ∙ ap (take k) (drop-drop i at bytes)

pub part_length : (bytes : List ℕ) (at n : ℕ) → at + n ≤ length bytes → length (take n (drop at bytes)) ≡ n
part_length bytes at n under = omega (arith, under, length-take n (drop at bytes), length-drop at bytes)

out_of_part : (bytes : List ℕ) (at n i : ℕ) (fields : List Field) → at + n ≤ length bytes → AllStand (take n (drop at bytes)) i n fields → AllStand bytes (at + i) (at + n) fields
out_of_part bytes at n i [] under all = ap (λ k. at + k) all
out_of_part bytes at n i (f ∷ fs) under all =
    let within : i + size f ≤ n = omega (arith, all.0.within, part_length bytes at n under) in (
      record {
        fits = all.0.fits;
        within = omega (arith, within, under);
        reads = subst (λ piece. ReadsField piece f) (piece_in bytes at n i (size f) within) all.0.reads;
      },
      subst (λ place. AllStand bytes place (at + n) fs) (sym (add_assoc at i (size f))) (out_of_part bytes at n (i + size f) fs under all.1),
    )

rises : (bytes : List ℕ) (at next : ℕ) (fields : List Field) → AllStand bytes at next fields → at ≤ next
rises bytes at next [] all = omega (arith, all)
rises bytes at next (f ∷ fs) all = omega (arith, rises bytes (at + size f) next fs all.1)

into_part : (bytes : List ℕ) (at n i : ℕ) (fields : List Field) → at + n ≤ length bytes → AllStand bytes (at + i) (at + n) fields → AllStand (take n (drop at bytes)) i n fields
into_part bytes at n i [] under all = omega (arith, all)
into_part bytes at n i (f ∷ fs) under all =
    let within : i + size f ≤ n = omega (arith, rises bytes (at + i + size f) (at + n) fs all.1) in (
      record {
        fits = all.0.fits;
        within = omega (arith, within, part_length bytes at n under);
        reads = subst (λ piece. ReadsField piece f) (sym (piece_in bytes at n i (size f) within)) all.0.reads;
      },
      into_part bytes at n (i + size f) fs under (subst (λ place. AllStand bytes place (at + n) fs) (add_assoc at i (size f)) all.1),
    )

pub spans_out : (bytes : List ℕ) (at n : ℕ) (fields : List Field) → at + n ≤ length bytes → Reads (take n (drop at bytes)) fields → Spans bytes at (at + n) fields
spans_out bytes at n fields under reads =
    let whole = spans_from_reads (take n (drop at bytes)) fields reads in
    record {
      all = subst (λ place. AllStand bytes place (at + n) fields) (add-zero at)
          (out_of_part bytes at n 0 fields under (subst (λ next. AllStand (take n (drop at bytes)) 0 next fields) (part_length bytes at n under) whole.all));
    }

pub spans_in : (bytes : List ℕ) (at n : ℕ) (fields : List Field) → at + n ≤ length bytes → IsTrue (list_all is_byte (take n (drop at bytes))) → Spans bytes at (at + n) fields → Reads (take n (drop at bytes)) fields
spans_in bytes at n fields under in_range spans =
    reads_from_spans (take n (drop at bytes)) fields in_range
    (record {
      all = subst (λ next. AllStand (take n (drop at bytes)) 0 next fields) (sym (part_length bytes at n under))
          (into_part bytes at n 0 fields under (subst (λ place. AllStand bytes place (at + n) fields) (sym (add-zero at)) spans.all));
    })
