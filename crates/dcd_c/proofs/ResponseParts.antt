-- The bytes of a response, put part by part.
use Rattle.std.proofs.Common.{◌≡◌, ℕ, ◌+◌, List, [], ◌∷◌, ◌++◌, length, take, drop, sym, ap, ◌∙◌, arith}
use Rattle.std.proofs.lemmas.{List.append-nil, List.drop-drop, List.length-append, List.take-append-drop, Grind.flat_map-append}
use Rattle.cci_codec.specs.{Messages.response_bytes, Messages.response_head_fields, declared.messages.Response.Response}
use Rattle.dcd_base.specs.Layouts.{Field, Raw, spell, spelling}

-- a response is its header and then its payload
pub response_parts : (s : Response) (head payload : List ℕ) → head ≡ spelling (response_head_fields s.tag s.opcode s.code (length s.payload)) → payload ≡ s.payload
    → head ++ payload ≡ response_bytes s
unfolding response_bytes
response_parts s head payload e f =
    let front : List Field = response_head_fields s.tag s.opcode s.code (length s.payload) in
    ap (λ xs. xs ++ payload) e ∙ ap (λ ys. spelling front ++ ys) (f ∙ sym (append-nil s.payload))
    ∙ sym (flat_map-append spell front (Raw (length s.payload) s.payload ∷ []))

-- two parts, put one behind the other, are followed by what was behind them
pub write_two : (out mid filled head payload : List ℕ) → length head ≡ 12 → take (0 + length head) mid ≡ head → drop (0 + length head) mid ≡ drop (0 + length head) out
    → take (12 + length payload) filled ≡ take 12 mid ++ payload → drop (12 + length payload) filled ≡ drop (12 + length payload) mid
    → filled ≡ (head ++ payload) ++ drop (12 + length payload) out
write_two out mid filled head payload h first behind_first second behind_second =
    let n = length payload in
    let all : 0 + length head ≡ 12 = omega (arith, h) in
    let front : take 12 mid ≡ head = ap (λ k. take k mid) (sym all) ∙ first in
    let behind : drop 12 mid ≡ drop 12 out = ap (λ k. drop k mid) (sym all) ∙ behind_first ∙ ap (λ k. drop k out) all in
    let rest : drop (12 + n) mid ≡ drop (12 + n) out = sym (drop-drop n 12 mid) ∙ ap (λ xs. drop n xs) behind ∙ drop-drop n 12 out in
    sym (take-append-drop (12 + n) filled) ∙ ap (λ xs. xs ++ drop (12 + n) filled) (second ∙ ap (λ xs. xs ++ payload) front)
    ∙ ap (λ xs. (head ++ payload) ++ xs) (behind_second ∙ rest)

-- how many bytes a response has
pub response_count : (s : Response) (head payload : List ℕ) → length head ≡ 12 → head ≡ spelling (response_head_fields s.tag s.opcode s.code (length s.payload)) → payload ≡ s.payload
    → 12 + length payload ≡ length (response_bytes s)
response_count s head payload h e f =
    ap (λ k. k + length payload) (sym h) ∙ sym (length-append head payload) ∙ ap length (response_parts s head payload e f)
