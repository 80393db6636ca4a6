-- How the texts of a fabric are put together.
use Rattle.std.proofs.Common.{◌≡◌, ℕ, zero, suc, ◌+◌, ◌<◌, List, [], ◌∷◌, ◌++◌, length, take, drop, get_or, refl, sym, ap, ◌∙◌, subst, arith, append-nil}
use Rattle.std.{proofs.Math.Seq.take-suc, proofs.lemmas.Fmt.decimal_digit, proofs.lemmas.Grind.flat_map-append, proofs.lemmas.List.length-take-le, specs.List.enumerate_from}
use Rattle.std.specs.Prelude.{flat_map, Option}
use Rattle.dcd_base.{specs.Streams.Passes, proofs.Passing.passes_both, proofs.Passing.passes_front, specs.Layouts.Raw, specs.Layouts.spell, specs.Layouts.spelling}
use Rattle.cci_codec.specs.{declared.messages.Response.Response, Messages.response_bytes, Messages.response_head_fields}
use Rattle.device_plain.specs.Devices.{Plain}
use Rattle.tunnel_fabric.{specs.Printing.device_head, specs.Printing.device_lines, specs.Printing.devices_text, proofs.Fronts.numbered_more, proofs.Fronts.flat_one, proofs.Fronts.all_taken}

-- ---- responses

-- a response is its header and its payload
pub response_spelled : (s : Response) (head payload : List ℕ) → head ≡ spelling (response_head_fields s.tag s.opcode s.code (length s.payload)) → payload ≡ s.payload → head ++ payload ≡ response_bytes s
unfolding response_bytes
response_spelled s head payload e f =
    ap (λ xs. xs ++ payload) e
    ∙ ap (λ ys. spelling (response_head_fields s.tag s.opcode s.code (length s.payload)) ++ ys) (f ∙ sym (append-nil s.payload))
    ∙ sym (flat_map-append spell (response_head_fields s.tag s.opcode s.code (length s.payload)) (Raw (length s.payload) s.payload ∷ []))

-- ---- devices

pub head_is : (n : ℕ) → n < 8 → (100 ∷ 101 ∷ 118 ∷ 105 ∷ 99 ∷ 101 ∷ 32 ∷ (48 + n) ∷ 10 ∷ []) ≡ device_head n
unfolding device_head
head_is n few = ap (λ digits. 100 ∷ 101 ∷ 118 ∷ 105 ∷ 99 ∷ 101 ∷ 32 ∷ (digits ++ 10 ∷ [])) (sym (decimal_digit n (omega (arith, few))))

-- the texts of the first devices
abbrev pub first_texts : ℕ → List Plain → List ℕ
first_texts n devices = flat_map device_lines (enumerate_from 0 (take n devices))

-- one more device
pub texts_more : (n : ℕ) (devices : List Plain) (d : Plain) → n < length devices → d ≡ get_or devices n d → first_texts (n + 1) devices ≡ first_texts n devices ++ device_lines (n, d)
texts_more n devices d within is =
    let next : n + 1 ≡ suc n = omega arith in
    let number : 0 + length (take n devices) ≡ n = omega (arith, length-take-le n devices (omega (arith, within))) in
    ap (λ m. first_texts m devices) next
    ∙ ap (λ xs. flat_map device_lines (enumerate_from 0 xs)) (take-suc devices n d within ∙ ap (λ x. take n devices ++ x ∷ []) (sym is))
    ∙ ap (flat_map device_lines) (numbered_more 0 (take n devices) d)
    ∙ flat_one device_lines (enumerate_from 0 (take n devices)) (0 + length (take n devices), d)
    ∙ ap (λ m. first_texts n devices ++ device_lines (m, d)) number

pub texts_all : (devices : List Plain) → first_texts (length devices) devices ≡ devices_text devices
unfolding devices_text
texts_all devices = ap (λ xs. flat_map device_lines (enumerate_from 0 xs)) (all_taken devices)

enumerate_append : {X : Type 0} (n : ℕ) (xs ys : List X) → enumerate_from n (xs ++ ys) ≡ enumerate_from n xs ++ enumerate_from (n + length xs) ys
enumerate_append n [] ys = ap (λ m. enumerate_from m ys) (omega arith)
enumerate_append n (x ∷ xs) ys =
    ap (λ rest. (n, x) ∷ rest) (enumerate_append (n + 1) xs ys ∙ ap (λ m. enumerate_from (n + 1) xs ++ enumerate_from m ys) (omega arith))

parts_of : {X : Type 0} (n : ℕ) (xs : List X) → xs ≡ take n xs ++ drop n xs
parts_of zero xs = refl
parts_of (suc n) [] = refl
parts_of (suc n) (x ∷ xs) = ap (λ rest. x ∷ rest) (parts_of n xs)

-- the texts of the others
abbrev last_texts : ℕ → List Plain → List ℕ
last_texts n devices = flat_map device_lines (enumerate_from (0 + length (take n devices)) (drop n devices))

texts_parted : (n : ℕ) (devices : List Plain) → devices_text devices ≡ first_texts n devices ++ last_texts n devices
unfolding devices_text
texts_parted n devices =
    ap (λ xs. flat_map device_lines (enumerate_from 0 xs)) (parts_of n devices)
    ∙ ap (flat_map device_lines) (enumerate_append 0 (take n devices) (drop n devices))
    ∙ flat_map-append device_lines (enumerate_from 0 (take n devices)) (enumerate_from (0 + length (take n devices)) (drop n devices))

-- a write failed in the text of a device
pub texts_front : {old mid new : Option (List ℕ)} (n : ℕ) (devices : List Plain) (d : Plain) → n < length devices → d ≡ get_or devices n d → Passes old mid [] (first_texts n devices) →
    ((rest : List ℕ) × Passes mid new rest (device_lines (n, d))) → (rest : List ℕ) × Passes old new rest (devices_text devices)
texts_front {old} {mid} {new} n devices d within is first left =
    let both : Passes old new left.0 (first_texts n devices ++ device_lines (n, d)) = passes_both first left.1 in
    let here : Passes old new left.0 (first_texts (n + 1) devices) = subst (λ text. Passes old new left.0 text) (sym (texts_more n devices d within is)) both in
    subst (λ text. (rest : List ℕ) × Passes old new rest text) (sym (texts_parted (n + 1) devices)) (passes_front (last_texts (n + 1) devices) here)
