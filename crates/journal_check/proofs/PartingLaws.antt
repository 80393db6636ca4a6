-- What is known of a text once another was written into the sink that compares with it.
use Rattle.std.proofs.Common.{◌≡◌, ◌≢◌, inl, inr, Bool, true, false, ◌&&◌, ℕ, zero, suc, ◌≤◌, List, [], ◌∷◌, ◌++◌, length, map, take, Option, Some, None, append_assoc, append-nil, refl, sym, ap, subst, ◌∙◌, arith}
use Rattle.std.proofs.lemmas.{Bool.cases_Bool, Bool.eq-eqb, Bool.eqb-true, List.length-take, List.take_all, List.take-append-le, Option.none-some, Option.same_Some, Option.slice_get_past}
use Rattle.std.specs.{Option.option_to_list, Prelude.◌==◌, Prelude.slice_get}
use Rattle.dcd_base.specs.Streams.{HasRisen, Passes, taken_after}
use Rattle.journal_check.specs.Parting.{IsParted, PartAt, Parted, PartsAt, has_agreed, parted_taken, parted_told}

-- ---- what is told
pub told_more : (old new : Parted) (bytes : List ℕ) → new.text ≡ old.text → parted_taken new ≡ parted_taken old ++ bytes → Some (parted_told new) ≡ taken_after bytes (Some (parted_told old))
told_more old new bytes same more =
    (λ i. Some (map (λ byte. suc byte) (same i) ++ 0 ∷ more i))
    ∙ ap (λ (xs : List ℕ). Some xs) (sym (append_assoc (map (λ byte. suc byte) old.text) (0 ∷ parted_taken old) bytes))

abbrev head_of : List ℕ → ℕ
head_of [] = 0
head_of (x ∷ xs) = x

abbrev tail_of : List ℕ → List ℕ
tail_of [] = []
tail_of (x ∷ xs) = xs

same_told : (one other x y : List ℕ) → map (λ byte. suc byte) one ++ 0 ∷ x ≡ map (λ byte. suc byte) other ++ 0 ∷ y → (one ≡ other) × (x ≡ y)
same_told [] [] x y same = (refl, ap tail_of same)
same_told [] (b ∷ other) x y same = absurd (omega (arith, ap head_of same))
same_told (a ∷ one) [] x y same = absurd (omega (arith, ap head_of same))
same_told (a ∷ one) (b ∷ other) x y same =
    let rest : (one ≡ other) × (x ≡ y) = same_told one other x y (ap tail_of same) in
    let here : a ≡ b = omega (arith, ap head_of same) in
    ((λ i. here i ∷ rest.0 i), rest.1)

-- The sink still compares with the text, and what it took is the front of what was written.
pub record TookFront (given printed rest : List ℕ) (p : Parted) : Type 0 where
  pub text : p.text ≡ given
  pub parts : printed ≡ parted_taken p ++ rest

took_front : (given printed rest : List ℕ) (p : Parted) → Passes (Some (map (λ byte. suc byte) given ++ 0 ∷ [])) (Some (parted_told p)) rest printed → TookFront given printed rest p
took_front given printed rest p passes =
    let told : parted_told p ≡ map (λ byte. suc byte) given ++ 0 ∷ passes.sent =
    same_Some (parted_told p) ((map (λ byte. suc byte) given ++ 0 ∷ []) ++ passes.sent) passes.took ∙ append_assoc (map (λ byte. suc byte) given) (0 ∷ []) passes.sent in
    let both = same_told p.text given (parted_taken p) passes.sent told in
    record { text = both.0; parts = passes.parts ∙ ap (λ (xs : List ℕ). xs ++ rest) (sym both.1) }

-- ---- where they part
get_at : (xs : List ℕ) (y : ℕ) (ys : List ℕ) (n : ℕ) → length xs ≡ n → slice_get (xs ++ y ∷ ys) n ≡ Some y
get_at [] y ys zero long = refl
get_at [] y ys (suc n) long = absurd (omega (arith, long))
get_at (x ∷ xs) y ys zero long = absurd (omega (arith, long))
get_at (x ∷ xs) y ys (suc n) long = get_at xs y ys n (omega (arith, long))

long_front : (given : List ℕ) (agreed : ℕ) → agreed ≤ length given → length (take agreed given) ≡ agreed
long_front given agreed within = length-take agreed given ∙ omega (arith, within)

front_alike : (given rest : List ℕ) (agreed : ℕ) → agreed ≤ length given → take agreed (take agreed given ++ rest) ≡ take agreed given
front_alike given rest agreed within =
    take-append-le agreed (take agreed given) rest (omega (arith, long_front given agreed within)) ∙ take_all agreed (take agreed given) (omega (arith, long_front given agreed within))

-- a byte came that the text has not there
parts_by : (given rest : List ℕ) (agreed byte : ℕ) → agreed ≤ length given → slice_get given agreed ≢ Some byte → PartAt given (take agreed given ++ byte ∷ rest) agreed false
parts_by given rest agreed byte within other = record {
  within = within;
  alike = sym (front_alike given (byte ∷ rest) agreed within);
  parts = λ same. other (same ∙ get_at (take agreed given) byte rest agreed (long_front given agreed within));
}

-- the text has more bytes, or the same
parts_whole : (given : List ℕ) (agreed : ℕ) → agreed ≤ length given → PartAt given (take agreed given) agreed (agreed == length given)
parts_whole given agreed within = record {
  within = within;
  alike = sym (take_all agreed (take agreed given) (omega (arith, long_front given agreed within)));
  parts = elim (cases_Bool (agreed == length given)) [
    | inl same ↦
        let all : agreed ≡ length given = eqb-true agreed (length given) same in
        subst (PartsAt given (take agreed given) agreed) (sym same) (sym (take_all agreed given (omega (arith, all))), all)
    | inr apart ↦ subst (PartsAt given (take agreed given) agreed) (sym apart) (longer apart)
  ];
}
  where
    longer : (agreed == length given) ≡ false → slice_get given agreed ≡ slice_get (take agreed given) agreed → ⊥
    longer apart same = wrong (agreed_is (none_within given agreed (same ∙ slice_get_past (take agreed given) agreed (omega (arith, long_front given agreed within)))))
      where
        none_within : (xs : List ℕ) (i : ℕ) → slice_get xs i ≡ None → length xs ≤ i
        none_within [] i none = omega arith
        none_within (x ∷ xs) zero none = absurd (none-some x (sym none))
        none_within (x ∷ xs) (suc i) none = omega (arith, none_within xs i none)

        agreed_is : length given ≤ agreed → agreed ≡ length given
        agreed_is least = omega (arith, least, within)

        wrong : agreed ≡ length given → ⊥
        wrong same = both (sym (eq_test agreed (length given) same) ∙ apart)
          where
            both : true ≡ false → ⊥
            both e = cc

            eq_test : (a b : ℕ) → a ≡ b → (a == b) ≡ true
            eq_test a b is = eq-eqb a b is

and_false : (b : Bool) → (b && false) ≡ false
and_false true = refl
and_false false = refl

and_true : (b : Bool) → (b && true) ≡ b
and_true true = refl
and_true false = refl

at_none : (given printed : List ℕ) (agreed faults : ℕ) (other : Option ℕ) → IsParted (record { text = given; agreed = agreed; other = other; faults = faults })
    → printed ≡ (take agreed given ++ option_to_list other) ++ [] → PartAt given printed agreed (has_agreed (record { text = given; agreed = agreed; other = other; faults = faults }))
at_none given printed agreed faults None is parts =
    let whole : printed ≡ take agreed given = parts ∙ append-nil (take agreed given ++ []) ∙ append-nil (take agreed given) in
    subst (λ bytes. PartAt given bytes agreed ((agreed == length given) && true)) (sym whole)
    (subst (PartAt given (take agreed given) agreed) (sym (and_true (agreed == length given))) (parts_whole given agreed is.within))
at_none given printed agreed faults (Some byte) is parts =
    let whole : printed ≡ take agreed given ++ byte ∷ [] = parts ∙ append-nil (take agreed given ++ byte ∷ []) in
    subst (λ bytes. PartAt given bytes agreed ((agreed == length given) && false)) (sym whole)
    (subst (PartAt given (take agreed given ++ byte ∷ []) agreed) (sym (and_false (agreed == length given))) (parts_by given [] agreed byte is.within is.other))

at_some : (given printed rest : List ℕ) (agreed faults : ℕ) (other : Option ℕ) → IsParted (record { text = given; agreed = agreed; other = other; faults = faults }) → HasRisen 0 faults
    → printed ≡ (take agreed given ++ option_to_list other) ++ rest → PartAt given printed agreed false
at_some given printed rest agreed faults None is risen parts = absurd (none_failed risen)
  where
    none_failed : HasRisen 0 faults → ⊥
    none_failed (inl more) = omega (arith, more, is.other)
    none_failed (inr most) = omega (arith, most, is.other)
at_some given printed rest agreed faults (Some byte) is risen parts =
    let whole : printed ≡ take agreed given ++ byte ∷ rest = parts ∙ append_assoc (take agreed given) (byte ∷ []) rest in
    subst (λ bytes. PartAt given bytes agreed false) (sym whole) (parts_by given rest agreed byte is.within is.other)

-- all was taken
pub part_whole : (given printed : List ℕ) (p : Parted) → Passes (Some (map (λ byte. suc byte) given ++ 0 ∷ [])) (Some (parted_told p)) [] printed → IsParted p
    → PartAt given printed p.agreed (true && has_agreed p)
part_whole given printed p passes is =
    let took : TookFront given printed [] p = took_front given printed [] p passes in
    subst (λ text. PartAt text printed p.agreed (has_agreed p)) took.text (at_none p.text printed p.agreed p.faults p.other is took.parts)

-- a write failed
pub part_cut : (given printed rest : List ℕ) (p : Parted) → Passes (Some (map (λ byte. suc byte) given ++ 0 ∷ [])) (Some (parted_told p)) rest printed → HasRisen 0 p.faults → IsParted p
    → PartAt given printed p.agreed false
part_cut given printed rest p passes risen is =
    let took : TookFront given printed rest p = took_front given printed rest p passes in
    subst (λ text. PartAt text printed p.agreed false) took.text (at_some p.text printed rest p.agreed p.faults p.other is risen took.parts)
