-- What words ask for is what is looked at in them.
use Rattle.std.proofs.Common.{◌≡◌, ℕ, Bool, true, false, List, [], ◌∷◌, ◌++◌, length, take, drop, Option, Some, None, refl, sym, ap, subst, ◌∙◌, inl, inr, arith, append-nil, length-append}
use Rattle.std.{proofs.Math.Seq.drop-append_seam, proofs.Math.Seq.take-append_seam, proofs.lemmas.Cmp.nat_list_eq_equiv, proofs.lemmas.List.take-append-drop, specs.Cmp.Lexicographic.same_text}
use Rattle.std.specs.{Option.IfSome, Prelude.codes, Prelude.if◌then◌else◌, Prelude.◌⊎◌}
use Rattle.edge_io.{specs.Words.is_number, specs.Words.number_in, proofs.WordNumbers.is_a_number, proofs.WordNumbers.number_is}
use Rattle.script_runner.specs.ItemByItem.{Found, after_mode, after_seed, behind_mode, behind_seed, choice_moded, choice_of, choice_seeded, item_in_front, joined_in_front, mode_found, mode_in_front, mode_named, same_word, seed_found, seed_in_front, with_rest, without_mode}
use Rattle.script_runner.specs.Words.{Accepts, AreGenWords, AreModeWords, IsChoice, IsGenItem, IsItem, IsModeItem, mode_name, most_digits}
use Rattle.script_runner.specs.declared.words.{Choice.Choice, Mode.Mode}

abbrev Words : Type 0
Words = List (List ℕ)

same_is : (w v : List ℕ) → same_word w v ≡ true → w ≡ v
same_is w v same = same_text w v (sym same)

is_same : (w v : List ℕ) → w ≡ v → same_word w v ≡ true
is_same w v is = subst (λ x. same_word w x ≡ true) is (nat_list_eq_equiv.refl w)

-- ---- what is found is an item that stands in front

abbrev IfFound : {T : Type 0} → Found T → (T → Words → Type 0) → Type 0
IfFound None P = Unit {0}
IfFound (Some found) P = P found.0 found.1

abbrev InFront : (Words → Type 0) → Words → Words → Type 0
InFront P words rest = (item : Words) × P item × (words ≡ item ++ rest)

abbrev with_equals : List ℕ → List ℕ
with_equals name = name ++ codes "="

joined_is : (name w : List ℕ) (rest : Words) (same : Bool) → same_word (take (length (with_equals name)) w) (with_equals name) ≡ same
    → IfFound (if same then Some (drop (length (with_equals name)) w, rest) else None) (λ value behind. InFront (IsItem name value) (w ∷ rest) behind)
joined_is name w rest true same =
    let count = length (with_equals name) in
    let begun : w ≡ with_equals name ++ drop count w = sym (take-append-drop count w) ∙ ap (λ front. front ++ drop count w) (same_is (take count w) (with_equals name) same) in
    (w ∷ [], inr (ap (λ x. x ∷ []) begun), refl)
joined_is name w rest false same = tt

two_is : (name w v : List ℕ) (rest : Words) (same : Bool) → same_word w name ≡ same
    → IfFound (if same then Some (v, rest) else joined_in_front (with_equals name) w (v ∷ rest)) (λ value behind. InFront (IsItem name value) (w ∷ v ∷ rest) behind)
two_is name w v rest true same = (w ∷ v ∷ [], inl (ap (λ x. x ∷ v ∷ []) (same_is w name same)), refl)
two_is name w v rest false same = joined_is name w (v ∷ rest) (same_word (take (length (with_equals name)) w) (with_equals name)) refl

item_is : (name : List ℕ) (words : Words) → IfFound (item_in_front name (with_equals name) words) (λ value behind. InFront (IsItem name value) words behind)
item_is name [] = tt
item_is name (w ∷ []) = joined_is name w [] (same_word (take (length (with_equals name)) w) (with_equals name)) refl
item_is name (w ∷ v ∷ rest) = two_is name w v rest (same_word w name) refl

second_named : (v : List ℕ) (same : Bool) → same_word v (codes "threads") ≡ same → IfSome (if same then Some Mode.Threads else None) (λ mode. v ≡ mode_name mode)
second_named v true same = same_is v (codes "threads") same
second_named v false same = tt

first_named : (v : List ℕ) (same : Bool) → same_word v (codes "serial") ≡ same
    → IfSome (if same then Some Mode.Serial else (if same_word v (codes "threads") then Some Mode.Threads else None)) (λ mode. v ≡ mode_name mode)
first_named v true same = same_is v (codes "serial") same
first_named v false same = second_named v (same_word v (codes "threads")) refl

mode_with : (words rest : Words) (value : List ℕ) (named : Option Mode) → IfSome named (λ mode. value ≡ mode_name mode) → InFront (IsItem (codes "--mode") value) words rest
    → IfFound (with_rest named rest) (λ mode behind. InFront (λ item. IsModeItem item mode) words behind)
mode_with words rest value None is front = tt
mode_with words rest value (Some mode) is front = (front.0, subst (λ v. IsItem (codes "--mode") v front.0) is front.1, front.2)

mode_by : (words : Words) (found : Found (List ℕ)) → IfFound found (λ value behind. InFront (IsItem (codes "--mode") value) words behind)
    → IfFound (mode_found found) (λ mode behind. InFront (λ item. IsModeItem item mode) words behind)
mode_by words None front = tt
mode_by words (Some found) front = mode_with words found.1 found.0 (mode_named found.0) (first_named found.0 (same_word found.0 (codes "serial")) refl) front

mode_is : (words : Words) → IfFound (mode_in_front words) (λ mode behind. InFront (λ item. IsModeItem item mode) words behind)
mode_is words = mode_by words (item_in_front (codes "--mode") (codes "--mode=") words) (item_is (codes "--mode") words)

seed_with : (words rest : Words) (digits : List ℕ) (good : Bool) → is_number most_digits digits ≡ good → InFront (IsItem (codes "--gen") digits) words rest
    → IfFound (with_rest (if good then Some (number_in digits) else None) rest) (λ n behind. InFront (λ item. IsGenItem item n) words behind)
seed_with words rest digits true good front = (front.0, (digits, number_is most_digits digits good, front.1), front.2)
seed_with words rest digits false good front = tt

seed_by : (words : Words) (found : Found (List ℕ)) → IfFound found (λ value behind. InFront (IsItem (codes "--gen") value) words behind)
    → IfFound (seed_found found) (λ n behind. InFront (λ item. IsGenItem item n) words behind)
seed_by words None front = tt
seed_by words (Some found) front = seed_with words found.1 found.0 (is_number most_digits found.0) refl front

seed_is : (words : Words) → IfFound (seed_in_front words) (λ n behind. InFront (λ item. IsGenItem item n) words behind)
seed_is words = seed_by words (item_in_front (codes "--gen") (codes "--gen=") words) (item_is (codes "--gen") words)

-- ---- so what is found in all words is accepted

seeded_end : (mode : Mode) (words modes rest : Words) (n : ℕ) (behind : Words) → IsModeItem modes mode → words ≡ modes ++ rest
    → InFront (λ item. IsGenItem item n) rest behind → IfSome (choice_seeded mode (Some (n, behind))) (Accepts words)
seeded_end mode words modes rest n [] is whole front = (modes, front.0, inl is, front.1, inl (whole ∙ ap (λ x. modes ++ x) (front.2 ∙ append-nil front.0)))
seeded_end mode words modes rest n (w ∷ more) is whole front = tt

seeded_is : (mode : Mode) (words modes rest : Words) (found : Found ℕ) → IsModeItem modes mode → words ≡ modes ++ rest
    → IfFound found (λ n behind. InFront (λ item. IsGenItem item n) rest behind) → IfSome (choice_seeded mode found) (Accepts words)
seeded_is mode words modes rest None is whole front = tt
seeded_is mode words modes rest (Some found) is whole front = seeded_end mode words modes rest found.0 found.1 is whole front

behind_mode_is : (mode : Mode) (words modes rest : Words) → IsModeItem modes mode → words ≡ modes ++ rest → IfSome (behind_mode mode rest) (Accepts words)
behind_mode_is mode words modes [] is whole = (modes, [], inl is, refl, inl whole)
behind_mode_is mode words modes (w ∷ more) is whole = seeded_is mode words modes (w ∷ more) (seed_in_front (w ∷ more)) is whole (seed_is (w ∷ more))

moded_end : (n : ℕ) (words gens rest : Words) (mode : Mode) (behind : Words) → IsGenItem gens n → words ≡ gens ++ rest
    → InFront (λ item. IsModeItem item mode) rest behind → IfSome (choice_moded n (Some (mode, behind))) (Accepts words)
moded_end n words gens rest mode [] is whole front = (front.0, gens, inl front.1, is, inr (whole ∙ ap (λ x. gens ++ x) (front.2 ∙ append-nil front.0)))
moded_end n words gens rest mode (w ∷ more) is whole front = tt

moded_is : (n : ℕ) (words gens rest : Words) (found : Found Mode) → IsGenItem gens n → words ≡ gens ++ rest
    → IfFound found (λ mode behind. InFront (λ item. IsModeItem item mode) rest behind) → IfSome (choice_moded n found) (Accepts words)
moded_is n words gens rest None is whole front = tt
moded_is n words gens rest (Some found) is whole front = moded_end n words gens rest found.0 found.1 is whole front

behind_seed_is : (n : ℕ) (words gens rest : Words) → IsGenItem gens n → words ≡ gens ++ rest → IfSome (behind_seed n rest) (Accepts words)
behind_seed_is n words gens [] is whole = ([], gens, inr (refl, refl), is, inr whole)
behind_seed_is n words gens (w ∷ more) is whole = moded_is n words gens (w ∷ more) (mode_in_front (w ∷ more)) is whole (mode_is (w ∷ more))

after_seed_is : (words : Words) (found : Found ℕ) → IfFound found (λ n behind. InFront (λ item. IsGenItem item n) words behind) → IfSome (after_seed found) (Accepts words)
after_seed_is words None front = tt
after_seed_is words (Some found) front = behind_seed_is found.0 words front.0 found.1 front.1 front.2

without_mode_is : (words : Words) → IfSome (without_mode words) (Accepts words)
without_mode_is [] = ([], [], inr (refl, refl), refl, inl refl)
without_mode_is (w ∷ more) = after_seed_is (w ∷ more) (seed_in_front (w ∷ more)) (seed_is (w ∷ more))

after_mode_is : (words : Words) (found : Found Mode) → IfFound found (λ mode behind. InFront (λ item. IsModeItem item mode) words behind) → IfSome (after_mode words found) (Accepts words)
after_mode_is words None front = without_mode_is words
after_mode_is words (Some found) front = behind_mode_is found.0 words front.0 found.1 front.1 front.2

found_accepted : (words : Words) → IfSome (choice_of words) (Accepts words)
found_accepted words = after_mode_is words (mode_in_front words) (mode_is words)

-- ---- an item that stands in front is found

chosen_true : {X : Type 0} (b : Bool) (x y : X) → b ≡ true → (if b then x else y) ≡ x
chosen_true b x y is = ap (λ c. if c then x else y) is

chosen_false : {X : Type 0} (b : Bool) (x y : X) → b ≡ false → (if b then x else y) ≡ y
chosen_false b x y is = ap (λ c. if c then x else y) is

longer : (name value : List ℕ) (same : Bool) → same_word (name ++ codes "=" ++ value) name ≡ same → same ≡ false
longer name value true same = absurd (omega (arith, ap length (same_is (name ++ codes "=" ++ value) name same), length-append (name ++ codes "=") value, length-append name (codes "=")))
longer name value false same = refl

joined_found : (name value : List ℕ) (rest : Words) → joined_in_front (with_equals name) (name ++ codes "=" ++ value) rest ≡ Some (value, rest)
joined_found name value rest =
    chosen_true (same_word (take (length (with_equals name)) (with_equals name ++ value)) (with_equals name)) (Some (drop (length (with_equals name)) (with_equals name ++ value), rest)) None
    (is_same (take (length (with_equals name)) (with_equals name ++ value)) (with_equals name) (take-append_seam (with_equals name) value))
    ∙ ap (λ v. Some (v, rest)) (drop-append_seam (with_equals name) value)

one_found : (name value : List ℕ) (rest : Words) → item_in_front name (with_equals name) ((name ++ codes "=" ++ value) ∷ rest) ≡ Some (value, rest)
one_found name value [] = joined_found name value []
one_found name value (v ∷ rest) =
    chosen_false (same_word (name ++ codes "=" ++ value) name) (Some (v, rest)) (joined_in_front (with_equals name) (name ++ codes "=" ++ value) (v ∷ rest))
    (longer name value (same_word (name ++ codes "=" ++ value) name) refl) ∙ joined_found name value (v ∷ rest)

item_found : (name value : List ℕ) (item rest : Words) → IsItem name value item → item_in_front name (with_equals name) (item ++ rest) ≡ Some (value, rest)
item_found name value item rest (inl is) =
    subst (λ x. item_in_front name (with_equals name) (x ++ rest) ≡ Some (value, rest)) (sym is)
    (chosen_true (same_word name name) (Some (value, rest)) (joined_in_front (with_equals name) name (value ∷ rest)) (is_same name name refl))
item_found name value item rest (inr is) = subst (λ x. item_in_front name (with_equals name) (x ++ rest) ≡ Some (value, rest)) (sym is) (one_found name value rest)

named : (mode : Mode) → mode_named (mode_name mode) ≡ Some mode
named Mode.Serial = refl
named Mode.Threads = refl

mode_is_found : (mode : Mode) (item rest : Words) → IsModeItem item mode → mode_in_front (item ++ rest) ≡ Some (mode, rest)
mode_is_found mode item rest is =
    ap mode_found (item_found (codes "--mode") (mode_name mode) item rest is) ∙ ap (λ m. with_rest m rest) (named mode)

seed_is_found : (n : ℕ) (item rest : Words) → IsGenItem item n → seed_in_front (item ++ rest) ≡ Some (n, rest)
seed_is_found n item rest (digits, number, is) =
    ap seed_found (item_found (codes "--gen") digits item rest is)
    ∙ ap (λ m. with_rest m rest) (chosen_true (is_number most_digits digits) (Some (number_in digits)) None (is_a_number most_digits digits n number))
    ∙ ap (λ m. Some (m, rest)) (sym number.value)

-- a gen item is no mode item
joined_no_mode : (digits : List ℕ) (rest : Words) → mode_in_front ((codes "--gen=" ++ digits) ∷ rest) ≡ None
joined_no_mode digits [] = refl
joined_no_mode digits (v ∷ rest) = refl

no_mode : (n : ℕ) (item rest : Words) → IsGenItem item n → mode_in_front (item ++ rest) ≡ None
no_mode n item rest (digits, number, inl is) = subst (λ x. mode_in_front (x ++ rest) ≡ None) (sym is) refl
no_mode n item rest (digits, number, inr is) = subst (λ x. mode_in_front (x ++ rest) ≡ None) (sym is) (joined_no_mode digits rest)

-- ---- so what is accepted is found

some_words : (name value : List ℕ) → IsItem name value [] → ⊥
some_words name value (inl is) = omega (arith, ap length is)
some_words name value (inr is) = omega (arith, ap length is)

behind_mode_found : (mode : Mode) (n : ℕ) (gens : Words) → IsGenItem gens n → behind_mode mode gens ≡ Some (record { mode = mode; seed = Some n })
behind_mode_found mode n [] (digits, number, is) = absurd (some_words (codes "--gen") digits is)
behind_mode_found mode n (w ∷ more) is = ap (choice_seeded mode) (ap seed_in_front (sym (append-nil (w ∷ more))) ∙ seed_is_found n (w ∷ more) [] is)

behind_seed_found : (n : ℕ) (mode : Mode) (modes : Words) → IsModeItem modes mode → behind_seed n modes ≡ Some (record { mode = mode; seed = Some n })
behind_seed_found n mode [] is = absurd (some_words (codes "--mode") (mode_name mode) is)
behind_seed_found n mode (w ∷ more) is = ap (choice_moded n) (ap mode_in_front (sym (append-nil (w ∷ more))) ∙ mode_is_found mode (w ∷ more) [] is)

without_mode_found : (n : ℕ) (gens rest : Words) → IsGenItem gens n → without_mode (gens ++ rest) ≡ behind_seed n rest
without_mode_found n [] rest (digits, number, is) = absurd (some_words (codes "--gen") digits is)
without_mode_found n (w ∷ more) rest is = ap after_seed (seed_is_found n (w ∷ more) rest is)

gen_first : (n : ℕ) (gens rest : Words) → IsGenItem gens n → choice_of (gens ++ rest) ≡ behind_seed n rest
gen_first n gens rest is = ap (after_mode (gens ++ rest)) (no_mode n gens rest is) ∙ without_mode_found n gens rest is

mode_first : (mode : Mode) (modes rest : Words) → IsModeItem modes mode → choice_of (modes ++ rest) ≡ behind_mode mode rest
mode_first mode modes rest is = ap (after_mode (modes ++ rest)) (mode_is_found mode modes rest is)

-- where one part is empty the order does not matter
either_order : (words part none : Words) → none ≡ [] → (words ≡ part ++ none) ⊎ (words ≡ none ++ part) → words ≡ part ++ []
either_order words part none empty (inl is) = is ∙ ap (λ x. part ++ x) empty
either_order words part none empty (inr is) = is ∙ ap (λ x. x ++ part) empty ∙ sym (append-nil part)

other_order : (words modes gens : Words) → (words ≡ modes ++ gens) ⊎ (words ≡ gens ++ modes) → (words ≡ gens ++ modes) ⊎ (words ≡ modes ++ gens)
other_order words modes gens (inl is) = inr is
other_order words modes gens (inr is) = inl is

is_found : (words : Words) (mode : Mode) (seed : Option ℕ) (modes gens : Words) → AreModeWords modes mode → AreGenWords gens seed
    → (words ≡ modes ++ gens) ⊎ (words ≡ gens ++ modes) → choice_of words ≡ Some (record { mode = mode; seed = seed })
is_found words mode None modes gens (inl item) none order = ap choice_of (either_order words modes gens none order) ∙ mode_first mode modes [] item
is_found words mode None modes gens (inr none) empty order =
    ap choice_of (either_order words modes gens empty order ∙ ap (λ x. x ++ []) none.0) ∙ ap (λ (m : Mode). Some (record { mode = m; seed = None })) (sym none.1)
is_found words mode (Some n) modes gens (inl item) gen (inl order) = ap choice_of order ∙ mode_first mode modes gens item ∙ behind_mode_found mode n gens gen
is_found words mode (Some n) modes gens (inl item) gen (inr order) = ap choice_of order ∙ gen_first n gens modes gen ∙ behind_seed_found n mode modes item
is_found words mode (Some n) modes gens (inr none) gen order =
    ap choice_of (either_order words gens modes none.0 (other_order words modes gens order)) ∙ gen_first n gens [] gen ∙ ap (λ (m : Mode). Some (record { mode = m; seed = Some n })) (sym none.1)

accepted_found : (words : Words) (choice : Choice) → Accepts words choice → choice_of words ≡ Some choice
accepted_found words choice accepted = is_found words choice.mode choice.seed accepted.0 accepted.1 accepted.2 accepted.3 accepted.4

some_same : (a b : Choice) → Some a ≡ Some b → a ≡ b
some_same a b e = cc

-- words ask for one thing
pub one_choice : (words : Words) (a b : Choice) → Accepts words a → Accepts words b → a ≡ b
one_choice words a b one other = some_same a b (sym (accepted_found words a one) ∙ accepted_found words b other)

choice_by : (words : Words) (found : Option Choice) → choice_of words ≡ found → IfSome found (Accepts words) → IsChoice words found
choice_by words None is accepted = λ choice asked. elim (none_some choice (sym is ∙ accepted_found words choice asked)) [ ]
  where
    none_some : (choice : Choice) → None ≡ Some choice → ⊥
    none_some choice e = cc
choice_by words (Some choice) is accepted = accepted

pub choice_found : (words : Words) (found : Option Choice) → found ≡ choice_of words → IsChoice words found
choice_found words found is = subst (IsChoice words) (sym is) (choice_by words (choice_of words) refl (found_accepted words))
