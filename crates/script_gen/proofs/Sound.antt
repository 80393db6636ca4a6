-- Each line of the script is an act of its actor and has a short spelling, so that the script can be written.
use Rattle.std.proofs.Common.{◌≡◌, ℕ, zero, suc, ◌+◌, ◌*◌, ◌<◌, ◌≤◌, Bool, true, ◌&&◌, List, [], ◌∷◌, ◌++◌, length, inl, inr, refl, ap, ◌∙◌, arith, length-append}
use Rattle.std.proofs.lemmas.{Bool.cases_lt, Bool.leb-true, Bool.lt-ltb, Bool.le-ltb, Grind.flat_map-append, List.Folds.list_all-append}
use Rattle.std.specs.{Int.w8, List.list_all, List.range_with_len, Prelude.flat_map, Prelude.nat_le}
use Rattle.dcd_base.specs.Layouts.{Field, Number, spell, spelling}
use Rattle.script_codec.{proofs.Writable.both_first, proofs.Writable.both_second, specs.Scripts.script_head, specs.Scripts.is_sound_line, specs.Scripts.line_fields}
use Rattle.script_codec.specs.{Writing.IsWritable, Writing.has_short_message, Writing.script_bytes, declared.script_line.Line.Line}
use Rattle.script_gen.proofs.{Configured.faultless, Counting.length_is, Made.lines_made}
use Rattle.script_gen.specs.Drawing.{draws_after, access_by, accesses_by, use_by, uses_by, round_by}
use Rattle.script_gen.specs.Generated.{access_lines, take_line, clear_line, offer_line, give_back_line, offers_lines, give_back_lines, end_lines, next_draw, generated, generated_lines}

abbrev pub is_good : Line → Bool
is_good line = (is_sound_line 4 1 line && has_short_message line) && nat_le (length (spelling (line_fields line))) 100

offers_good : (k : ℕ) → list_all is_good (offers_lines k) ≡ true
unfolding offers_lines offer_line
offers_good k = refl

end_good : (k : ℕ) → list_all is_good (end_lines k) ≡ true
unfolding end_lines give_back_lines give_back_line
end_good k = elim (cases_lt k 255) [
  | inl less ↦ rw (lt-ltb k 255 less) refl
  | inr last ↦ rw (le-ltb k 255 last) refl
]

access_good : (k h d value : ℕ) → h < 4 → list_all is_good (access_lines k h d value) ≡ true
unfolding access_lines
access_good k h d value less = rw (lt-ltb h 4 less) refl

front_good : (k h : ℕ) → h < 4 → list_all is_good (take_line k h ∷ clear_line k h ∷ []) ≡ true
unfolding take_line clear_line
front_good k h less = rw (lt-ltb h 4 less) refl

-- a loop whose turns are good
all_good : (f : ℕ → List Line) (a n : ℕ) → ((i : ℕ) → i < a + n → list_all is_good (f i) ≡ true) → list_all is_good (flat_map f (range_with_len a n)) ≡ true
all_good f a zero good = refl
all_good f a (suc n) good =
    rw (list_all-append is_good (f a) (flat_map f (range_with_len (a + 1) n)), good a (omega arith), all_good f (a + 1) n (λ i below. good i (omega (arith, below)))) refl

use_good : (k h x : ℕ) → h < 4 → list_all is_good (use_by k h x) ≡ true
unfolding use_by
use_good k h x less =
    list_all-append is_good (take_line k h ∷ clear_line k h ∷ []) (accesses_by k h x 16)
    ∙ rw (front_good k h less, all_good (λ i. access_by k h (draws_after x (2 * i))) 0 16 (λ i below. access_good k h (next_draw (draws_after x (2 * i))) (next_draw (next_draw (draws_after x (2 * i)))) less)) refl

round_good : (k x : ℕ) → list_all is_good (round_by k x) ≡ true
unfolding round_by
round_good k x =
    list_all-append is_good (offers_lines k ++ Line.Mark ∷ uses_by k x 4) (Line.Mark ∷ end_lines k)
    ∙ rw (list_all-append is_good (offers_lines k) (Line.Mark ∷ uses_by k x 4), offers_good k, all_good (λ h. use_by k h (draws_after x (32 * h))) 0 4 (λ h below. use_good k h (draws_after x (32 * h)) (omega (arith, below))), end_good k) refl

lines_good : (seed : ℕ) → list_all is_good (generated_lines seed) ≡ true
lines_good seed =
    ap (list_all is_good) (lines_made seed) ∙ all_good (λ k. round_by k (draws_after seed (128 * k))) 0 256 (λ k below. round_good k (draws_after seed (128 * k)))

-- ---- what good lines are
is_sound : (line : Line) → is_good line ≡ true → is_sound_line 4 1 line ≡ true
is_sound line good =
    both_first (is_sound_line 4 1 line) (has_short_message line) (both_first (is_sound_line 4 1 line && has_short_message line) (nat_le (length (spelling (line_fields line))) 100) good)

is_short : (line : Line) → is_good line ≡ true → has_short_message line ≡ true
is_short line good =
    both_second (is_sound_line 4 1 line) (has_short_message line) (both_first (is_sound_line 4 1 line && has_short_message line) (nat_le (length (spelling (line_fields line))) 100) good)

-- each has what each good line has
each_is : (p : Line → Bool) → ((line : Line) → is_good line ≡ true → p line ≡ true) → (lines : List Line) → list_all is_good lines ≡ true → list_all p lines ≡ true
each_is p has [] good = refl
each_is p has (line ∷ lines) good =
    rw (has line (both_first (is_good line) (list_all is_good lines) good), each_is p has lines (both_second (is_good line) (list_all is_good lines) good)) refl

have_few_bytes : (lines : List Line) → list_all is_good lines ≡ true → length (spelling (flat_map line_fields lines)) ≤ 100 * length lines
have_few_bytes [] good = omega arith
have_few_bytes (line ∷ lines) good =
    let one = leb-true _ _ (both_second (is_sound_line 4 1 line && has_short_message line) _ (both_first (is_good line) (list_all is_good lines) good)) in
    let rest = have_few_bytes lines (both_second (is_good line) (list_all is_good lines) good) in
    let parts = ap length (flat_map-append spell (line_fields line) (flat_map line_fields lines)) ∙ length-append (spelling (line_fields line)) (spelling (flat_map line_fields lines)) in
    omega (arith, one, rest, parts)

pub sound_lines : (seed : ℕ) → list_all (is_sound_line 4 1) (generated_lines seed) ≡ true
sound_lines seed = each_is (is_sound_line 4 1) is_sound (generated_lines seed) (lines_good seed)

pub sound_round : (k x : ℕ) → list_all (is_sound_line 4 1) (round_by k x) ≡ true
sound_round k x = each_is (is_sound_line 4 1) is_sound (round_by k x) (round_good k x)

pub short_messages : (seed : ℕ) → list_all has_short_message (generated_lines seed) ≡ true
short_messages seed = each_is has_short_message is_short (generated_lines seed) (lines_good seed)

-- ---- the whole script
length_of_head : (seed : ℕ) → length (spelling (script_head (generated seed))) ≡ 88
unfolding generated
length_of_head seed = refl

-- three parts
joined : (xs ys zs : List Field) → length (spelling (xs ++ ys ++ zs)) ≡ (length (spelling xs) + length (spelling ys)) + length (spelling zs)
joined xs ys zs =
    ap length (flat_map-append spell (xs ++ ys) zs ∙ ap (λ front. front ++ spelling zs) (flat_map-append spell xs ys))
    ∙ length-append (spelling xs ++ spelling ys) (spelling zs) ∙ ap (λ n. n + length (spelling zs)) (length-append (spelling xs) (spelling ys))

few_bytes : (seed : ℕ) → length (script_bytes (generated seed)) ≤ 16777216
unfolding script_bytes generated
few_bytes seed =
    let parts = joined (script_head (generated seed)) (flat_map line_fields (generated_lines seed)) (Number w8 0 ∷ []) in
    let head = length_of_head seed in
    let lines = have_few_bytes (generated_lines seed) (lines_good seed) in
    omega (arith, parts, head, lines, length_is seed)

pub writable : (seed : ℕ) → IsWritable (generated seed)
unfolding generated
writable seed = record {
  script = record {
    versioned = refl;
    configured = faultless;
    based = refl;
    sound = sound_lines seed;
    few = omega (arith, length_is seed);
  };
  messages = short_messages seed;
  short = few_bytes seed;
}
