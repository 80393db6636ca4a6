-- Block sizes and the commas between them.
use Rattle.std.proofs.Common.{◌≡◌, ℕ, suc, ◌+◌, ◌/◌, ◌%◌, ◌^◌, ◌<◌, ◌==◌, Bool, true, false, not, List, [], ◌∷◌, ◌++◌, length, take, drop, Option, Some, None, refl, sym, ap, ◌∙◌, subst, inl, inr, arith, add-one, append-nil, append_assoc}
use Rattle.std.{specs.List.flat_map, proofs.lemmas.Bool.cases_Bool, proofs.lemmas.Grind.flat_map-append}
use Rattle.text_lines.{specs.Characters.passed_from, specs.Characters.is_other, specs.WordChains.◌>>?◌ as ◌>>=◌, specs.Numbers.size_text, proofs.WordLaws.front_more, proofs.WordLaws.front_none}
use Rattle.text_lines.specs.Sizes.{comma_pieces, comma_then, commas_text, put_in_piece, size_behind, size_said, size_where, sizes_below, sizes_from, with_size}

abbrev pub none_of : List ℕ → Bool
none_of [] = true
none_of (x ∷ xs) = false

-- one size more behind others
pub commas_push : (sizes : List ℕ) (size : ℕ) → commas_text (sizes ++ size ∷ []) ≡ commas_text sizes ++ size_behind (none_of sizes) size
commas_push [] size = append-nil (size_text size)
commas_push (first ∷ sizes) size =
    ap (λ text. size_text first ++ text) (flat_map-append comma_then sizes (size ∷ []) ∙ ap (λ text. flat_map comma_then sizes ++ text) (append-nil (comma_then size)))
    ∙ sym (append_assoc (size_text first) (flat_map comma_then sizes) (comma_then size))

-- ---- pieces

pub record CutPiece (word : List ℕ) (n : ℕ) : Type 0 where
  pub whole : n ≡ length word → comma_pieces word ≡ take n word ∷ []
  pub parted : n < length word → comma_pieces word ≡ take n word ∷ comma_pieces (drop (suc n) word)

piece_ends : (c : ℕ) (cs : List ℕ) → (c == 44) ≡ true → CutPiece (c ∷ cs) 0
unfolding comma_pieces
piece_ends c cs e = record { whole = λ all. absurd (omega (arith, all)); parted = λ less. rw e refl }

piece_more : (c : ℕ) (cs : List ℕ) (n : ℕ) → (c == 44) ≡ false → CutPiece cs n → CutPiece (c ∷ cs) (suc n)
unfolding comma_pieces
piece_more c cs n e r = record {
  whole = λ all. rw e (ap (put_in_piece c) (r.whole (omega (arith, all))));
  parted = λ less. rw e (ap (put_in_piece c) (r.parted (omega (arith, less))));
}

piece_none : CutPiece [] 0
unfolding comma_pieces
piece_none = record { whole = λ all. refl; parted = λ less. absurd (omega (arith, less)) }

piece_is : (word : List ℕ) → CutPiece word (passed_from (is_other 44) 0 word)
piece_is [] = piece_none
piece_is (c ∷ cs) = elim (cases_Bool (c == 44)) [
  | inl e ↦ subst (CutPiece (c ∷ cs)) (sym (front_none (is_other 44) c cs (ap not e))) (piece_ends c cs e)
  | inr e ↦ subst (CutPiece (c ∷ cs)) (sym (front_more (is_other 44) c cs (ap not e))) (piece_more c cs (passed_from (is_other 44) 0 cs) e (piece_is cs))
]

-- a piece, and the pieces behind its comma
pub piece_cut : (word : List ℕ) (n : ℕ) → n ≡ passed_from (is_other 44) 0 word → CutPiece word n
piece_cut word n is = subst (CutPiece word) (sym is) (piece_is word)

-- ---- the steps of the loop over pieces
pub size_fails : (mask : ℕ) (rest piece : List ℕ) (pieces : List (List ℕ)) (whole : Option ℕ) → comma_pieces rest ≡ piece ∷ pieces → size_said piece ≡ None → sizes_from mask (comma_pieces rest) ≡ whole → None ≡ whole
unfolding sizes_from
size_fails mask rest piece pieces whole cut said is =
    sym (ap (sizes_from mask) cut ∙ ap (λ (s : Option ℕ). s >>= (λ n. with_size mask n >>= (λ m. sizes_from m pieces))) said) ∙ is

pub mask_fails : (mask size : ℕ) (rest piece : List ℕ) (pieces : List (List ℕ)) (whole : Option ℕ) → comma_pieces rest ≡ piece ∷ pieces → size_said piece ≡ Some size → with_size mask size ≡ None → sizes_from mask (comma_pieces rest) ≡ whole → None ≡ whole
unfolding sizes_from
mask_fails mask size rest piece pieces whole cut said room is =
    sym (ap (sizes_from mask) cut ∙ ap (λ (s : Option ℕ). s >>= (λ n. with_size mask n >>= (λ m. sizes_from m pieces))) said
    ∙ ap (λ (m : Option ℕ). m >>= (λ n. sizes_from n pieces)) room) ∙ is

pub size_goes_on : (mask size more : ℕ) (rest piece : List ℕ) (pieces : List (List ℕ)) (whole : Option ℕ) → comma_pieces rest ≡ piece ∷ pieces → size_said piece ≡ Some size → with_size mask size ≡ Some more → sizes_from mask (comma_pieces rest) ≡ whole → sizes_from more pieces ≡ whole
unfolding sizes_from
size_goes_on mask size more rest piece pieces whole cut said room is =
    sym (ap (sizes_from mask) cut ∙ ap (λ (s : Option ℕ). s >>= (λ n. with_size mask n >>= (λ m. sizes_from m pieces))) said
    ∙ ap (λ (m : Option ℕ). m >>= (λ n. sizes_from n pieces)) room) ∙ is

pub sizes_end : (mask : ℕ) (whole : Option ℕ) → sizes_from mask [] ≡ whole → Some mask ≡ whole
unfolding sizes_from
sizes_end mask whole is = is

-- ---- the steps of the loop over bits
pub size_more : (mask n : ℕ) (out old : List ℕ) (first : Bool) → out ≡ old ++ commas_text (sizes_below mask n) → first ≡ none_of (sizes_below mask n) → (mask / 2 ^ n % 2 == 1) ≡ true → out ++ size_behind first (2 ^ n) ≡ old ++ commas_text (sizes_below mask (n + 1))
unfolding sizes_below
size_more mask n out old first text start set =
    let e : sizes_below mask (n + 1) ≡ sizes_below mask n ++ 2 ^ n ∷ [] = ap (sizes_below mask) (add-one n) ∙ ap (λ b. sizes_below mask n ++ size_where b (2 ^ n)) set in
    ap (λ xs. xs ++ size_behind first (2 ^ n)) text
    ∙ append_assoc old (commas_text (sizes_below mask n)) (size_behind first (2 ^ n))
    ∙ ap (λ b. old ++ (commas_text (sizes_below mask n) ++ size_behind b (2 ^ n))) start
    ∙ ap (λ xs. old ++ xs) (sym (commas_push (sizes_below mask n) (2 ^ n)) ∙ sym (ap commas_text e))

not_none : (xs : List ℕ) (x : ℕ) → false ≡ none_of (xs ++ x ∷ [])
not_none [] x = refl
not_none (y ∷ ys) x = refl

pub size_there : (mask n : ℕ) → (mask / 2 ^ n % 2 == 1) ≡ true → false ≡ none_of (sizes_below mask (n + 1))
unfolding sizes_below
size_there mask n set =
    not_none (sizes_below mask n) (2 ^ n) ∙ sym (ap none_of (ap (sizes_below mask) (add-one n) ∙ ap (λ b. sizes_below mask n ++ size_where b (2 ^ n)) set))

pub no_size : (mask n : ℕ) → (mask / 2 ^ n % 2 == 1) ≡ false → sizes_below mask n ≡ sizes_below mask (n + 1)
unfolding sizes_below
no_size mask n unset = sym (ap (sizes_below mask) (add-one n) ∙ ap (λ b. sizes_below mask n ++ size_where b (2 ^ n)) unset ∙ append-nil (sizes_below mask n))

pub no_sizes : (mask : ℕ) (old : List ℕ) → old ≡ old ++ commas_text (sizes_below mask 0)
unfolding sizes_below
no_sizes mask old = sym (append-nil old)

pub none_first : (mask : ℕ) → true ≡ none_of (sizes_below mask 0)
unfolding sizes_below
none_first mask = refl
