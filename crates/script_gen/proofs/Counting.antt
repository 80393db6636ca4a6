-- How many lines and entries the script has.
use Rattle.std.proofs.Common.{◌≡◌, ℕ, zero, suc, ◌+◌, ◌*◌, ◌<◌, true, cond, List, [], ◌++◌, length, refl, ap, ◌∙◌, arith, length-append}
use Rattle.std.{specs.Prelude.count_by, specs.Prelude.flat_map, specs.Prelude.nat_lt, specs.List.range_with_len, proofs.lemmas.Bool.lt-ltb, proofs.lemmas.List.Sums.sum_by-append}
use Rattle.script_codec.specs.{declared.script_line.Line.Line, Covering.is_line}
use Rattle.script_gen.{specs.Drawing.draws_after, specs.Drawing.use_by, specs.Drawing.round_by, proofs.Made.lines_made, proofs.Stepping.flat_map_more}
use Rattle.script_gen.specs.Generated.{access_lines, take_line, clear_line, offer_line, give_back_line, offers_lines, give_back_lines, end_lines, generated_lines}

-- A number that each list has, and that adds up.
pub record Adds (size : List Line → ℕ) : Type 0 where
  pub none : size [] ≡ 0
  pub both : (xs ys : List Line) → size (xs ++ ys) ≡ size xs + size ys

-- rounds of one size
rounds_add : (size : List Line → ℕ) → Adds size → (f : ℕ → List Line) (each a n : ℕ) → ((i : ℕ) → i < a + n → size (f i) ≡ each) → size (flat_map f (range_with_len a n)) ≡ each * n
rounds_add size adds f each a zero sizes = adds.none ∙ omega arith
rounds_add size adds f each a (suc n) sizes =
    let rest = rounds_add size adds f each (a + 1) n (λ i below. sizes i (omega (arith, below))) in
    let one = sizes a (omega arith) in
    adds.both (f a) (flat_map f (range_with_len (a + 1) n)) ∙ grind (arith, rest, one)

-- all rounds, of which the last is shorter
all_add : (size : List Line → ℕ) → Adds size → (seed each last : ℕ) → ((k x : ℕ) → nat_lt k 255 ≡ true → size (round_by k x) ≡ each) → ((x : ℕ) → size (round_by 255 x) ≡ last) → size (generated_lines seed) ≡ each * 255 + last
all_add size adds seed each last most ends =
    let f : ℕ → List Line = λ k. round_by k (draws_after seed (128 * k)) in
    let front = rounds_add size adds f each 0 255 (λ k below. most k (draws_after seed (128 * k)) (lt-ltb k 255 (omega (arith, below)))) in
    let end = ends (draws_after seed (128 * 255)) in
    ap size (lines_made seed) ∙ ap size (flat_map_more f 255) ∙ adds.both (flat_map f (range_with_len 0 255)) (f 255) ∙ ap (λ m. m + size (f 255)) front ∙ ap (λ m. each * 255 + m) end

lengths_add : Adds (λ xs. length xs)
lengths_add = record { none = refl; both = λ xs ys. length-append xs ys }

length_of_round : (k x : ℕ) → nat_lt k 255 ≡ true → length (round_by k x) ≡ 149
unfolding round_by use_by access_lines offers_lines give_back_lines end_lines
length_of_round k x less = rw less refl

length_of_last : (x : ℕ) → length (round_by 255 x) ≡ 142
unfolding round_by use_by access_lines offers_lines give_back_lines end_lines
length_of_last x = refl

pub length_is : (seed : ℕ) → length (generated_lines seed) ≡ 38137
length_is seed = all_add (λ xs. length xs) lengths_add seed 149 142 length_of_round length_of_last

count_append : (xs ys : List Line) → count_by is_line (xs ++ ys) ≡ count_by is_line xs + count_by is_line ys
count_append xs ys = sum_by-append (λ line. cond (is_line line) 1 0) xs ys

entries_add : Adds (λ xs. count_by is_line xs)
entries_add = record { none = refl; both = count_append }

entries_of_round : (k x : ℕ) → nat_lt k 255 ≡ true → count_by is_line (round_by k x) ≡ 145
unfolding round_by use_by access_lines offers_lines give_back_lines end_lines take_line clear_line offer_line give_back_line
entries_of_round k x less = rw less refl

entries_of_last : (x : ℕ) → count_by is_line (round_by 255 x) ≡ 140
unfolding round_by use_by access_lines offers_lines give_back_lines end_lines take_line clear_line offer_line give_back_line
entries_of_last x = refl

pub entries_are : (seed : ℕ) → count_by is_line (generated_lines seed) ≡ 37115
entries_are seed = all_add (λ xs. count_by is_line xs) entries_add seed 145 140 entries_of_round entries_of_last
