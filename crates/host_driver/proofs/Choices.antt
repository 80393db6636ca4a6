-- What words ask for is what is found in them.
use Rattle.std.proofs.Common.{◌≡◌, ℕ, Bool, true, false, ◌&&◌, List, [], ◌∷◌, Option, Some, None, refl, sym, ap, subst, ◌∙◌, arith, length}
use Rattle.std.{specs.Prelude.if◌then◌else◌, proofs.lemmas.Bool.and_from, proofs.lemmas.Bool.and_parts, proofs.lemmas.Bool.false≢true}
use Rattle.edge_io.{specs.Words.is_number, specs.Words.number_in, proofs.WordNumbers.is_a_number, proofs.WordNumbers.number_is}
use Rattle.host_driver.specs.{Words.AsksForNoDrive, Words.AsksToDrive, Words.IsDriveChoice, Words.drive_choice, Words.host_digits, Words.bound_digits, declared.words.DriveChoice.DriveChoice}

abbrev head_of : List (List ℕ) → List ℕ
head_of [] = []
head_of (w ∷ words) = w

abbrev second_of : List (List ℕ) → List ℕ
second_of [] = []
second_of (w ∷ []) = []
second_of (w ∷ d ∷ words) = d

-- fewer words than two, or more
other_count : (words : List (List ℕ)) → (length words ≡ 2 → ⊥) → AsksForNoDrive words
other_count words other host most a = other (ap length a.two)

two_words : (h m : List ℕ) (both : Bool) → (is_number host_digits h && is_number bound_digits m) ≡ both
    → IsDriveChoice (h ∷ m ∷ []) (if both then Some (record { host = number_in h; most = number_in m }) else None)
two_words h m true good =
    let parts = and_parts (is_number host_digits h) (is_number bound_digits m) good in
    record { host_word = h; most_word = m; two = refl; host_is = number_is host_digits h parts.0; most_is = number_is bound_digits m parts.1 }
two_words h m false bad = λ host most a.
    let first : is_number host_digits h ≡ true = ap (is_number host_digits) (ap head_of a.two) ∙ is_a_number host_digits a.host_word host a.host_is in
    let second : is_number bound_digits m ≡ true = ap (is_number bound_digits) (ap second_of a.two) ∙ is_a_number bound_digits a.most_word most a.most_is in
    false≢true (sym bad ∙ and_from (is_number host_digits h) (is_number bound_digits m) first second)

choice_is : (words : List (List ℕ)) → IsDriveChoice words (drive_choice words)
choice_is [] = other_count [] (λ e. omega (arith, e))
choice_is (w ∷ []) = other_count (w ∷ []) (λ e. omega (arith, e))
choice_is (h ∷ m ∷ []) = two_words h m (is_number host_digits h && is_number bound_digits m) refl
choice_is (h ∷ m ∷ w ∷ words) = other_count (h ∷ m ∷ w ∷ words) (λ e. omega (arith, e))

pub choice_found : (words : List (List ℕ)) (found : Option DriveChoice) → found ≡ drive_choice words → IsDriveChoice words found
choice_found words found is = subst (IsDriveChoice words) (sym is) (choice_is words)

-- ---- they ask for one thing

chosen_as : (h m : List ℕ) (host most : ℕ) → (is_number host_digits h && is_number bound_digits m) ≡ true → host ≡ number_in h → most ≡ number_in m
    → drive_choice (h ∷ m ∷ []) ≡ Some (record { host = host; most = most })
chosen_as h m host most good is too =
    ap (λ both. if both then Some (record { host = number_in h; most = number_in m }) else None) good
    ∙ (λ i. Some (record { host = sym is i; most = sym too i }))

asked_is : (words : List (List ℕ)) (host most : ℕ) → AsksToDrive words host most → drive_choice words ≡ Some (record { host = host; most = most })
asked_is words host most a =
    let first : is_number host_digits a.host_word ≡ true = is_a_number host_digits a.host_word host a.host_is in
    let second : is_number bound_digits a.most_word ≡ true = is_a_number bound_digits a.most_word most a.most_is in
    ap drive_choice a.two
    ∙ chosen_as a.host_word a.most_word host most (and_from (is_number host_digits a.host_word) (is_number bound_digits a.most_word) first second) a.host_is.value a.most_is.value

pub one_choice : (words : List (List ℕ)) (found other : Option DriveChoice) → IsDriveChoice words found → IsDriveChoice words other → other ≡ found
one_choice words None None is too = refl
one_choice words (Some a) (Some b) is too = sym (asked_is words b.host b.most too) ∙ asked_is words a.host a.most is
one_choice words None (Some b) is too = absurd (is b.host b.most too)
one_choice words (Some a) None is too = absurd (too a.host a.most is)
