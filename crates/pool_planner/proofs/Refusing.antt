-- The first refused act of a list, with one more act.
use Rattle.std.proofs.Common.{◌≡◌, ℕ, zero, suc, ◌+◌, ◌<◌, List, [], ◌∷◌, ◌++◌, length, take, Option, Some, None, refl, sym, ap, ◌∙◌, arith, add-zero}
use Rattle.std.specs.{Prelude.if◌then◌else◌, Prelude.is_some, Prelude.option_and_then, Prelude.option_map, Prelude.slice_get, List.find, List.range_with_len}
use Rattle.dcd_base.specs.Words.{◌or◌}
use Rattle.dcd_codes.specs.declared.rules.Rule.{Rule}
use Rattle.region_config.specs.Configurations.{Configuration}
use Rattle.journal_core.specs.declared.entries.Entry.{Entry}
use Rattle.device_plain.specs.device_rules.specs.Answers.{broken}
use Rattle.plan_rules.specs.{Holding.Step, Holding.stepped, Planning.broken_at, Planning.broken_by, Planning.refused_in, declared.faults.PlanFault.PlanFault}

or_none : {X : Type 0} (a : Option X) → (a or None) ≡ a
or_none None = refl
or_none (Some x) = refl

or_assoc : {X : Type 0} (a b d : Option X) → (a or (b or d)) ≡ ((a or b) or d)
or_assoc None b d = refl
or_assoc (Some x) b d = refl

-- the first fault among the numbers from one on
abbrev first_fault : (ℕ → Option Rule) → ℕ → ℕ → Option PlanFault
first_fault b a n = option_and_then (λ i. option_map (PlanFault.Refused i) (b i)) (find (λ i. is_some (b i)) (range_with_len a n))

first_more : (b : ℕ → Option Rule) (a n : ℕ) → first_fault b a (suc n) ≡ (option_map (PlanFault.Refused a) (b a) or first_fault b (a + 1) n)
first_more b a n = by (b a) refl (find (λ i. is_some (b i)) (range_with_len (a + 1) n))
  where
    by : (r : Option Rule) → b a ≡ r → (rest : Option ℕ) →
        option_and_then (λ i. option_map (PlanFault.Refused i) (b i)) (if is_some r then Some a else rest)
        ≡ (option_map (PlanFault.Refused a) r or option_and_then (λ i. option_map (PlanFault.Refused i) (b i)) rest)
    by None is rest = refl
    by (Some rule) is rest = ap (option_map (PlanFault.Refused a)) is

first_push : (b : ℕ → Option Rule) (a n : ℕ) → first_fault b a (suc n) ≡ (first_fault b a n or option_map (PlanFault.Refused (a + n)) (b (a + n)))
first_push b a zero = first_more b a zero ∙ or_none (option_map (PlanFault.Refused a) (b a)) ∙ ap (λ k. option_map (PlanFault.Refused k) (b k)) (sym (add-zero a))
first_push b a (suc n) =
    first_more b a (suc n)
    ∙ ap (λ rest. option_map (PlanFault.Refused a) (b a) or rest) (first_push b (a + 1) n)
    ∙ or_assoc (option_map (PlanFault.Refused a) (b a)) (first_fault b (a + 1) n) (option_map (PlanFault.Refused (a + 1 + n)) (b (a + 1 + n)))
    ∙ (λ i. sym (first_more b a n) i or option_map (PlanFault.Refused (at i)) (b (at i)))
  where
    at : a + 1 + n ≡ a + suc n
    at = omega arith

first_same : (b d : ℕ → Option Rule) (a n : ℕ) → ((k : ℕ) → k < a + n → b k ≡ d k) → first_fault b a n ≡ first_fault d a n
first_same b d a zero same = refl
first_same b d a (suc n) same =
    first_more b a n
    ∙ (λ i. option_map (PlanFault.Refused a) (same a (omega arith) i) or first_same b d (a + 1) n (λ k below. same k (omega (arith, below))) i)
    ∙ sym (first_more d a n)

-- ---- a list with one more item

take_front : {X : Type 0} (xs ys : List X) → take (length xs) (xs ++ ys) ≡ xs
take_front [] ys = refl
take_front (x ∷ xs) ys = ap (λ rest. x ∷ rest) (take_front xs ys)

get_last : {X : Type 0} (xs : List X) (x : X) → slice_get (xs ++ x ∷ []) (length xs) ≡ Some x
get_last [] x = refl
get_last (y ∷ xs) x = get_last xs x

take_before : {X : Type 0} (xs ys : List X) (k : ℕ) → k < length xs → take k (xs ++ ys) ≡ take k xs
take_before xs ys zero below = refl
take_before [] ys (suc k) below = absurd (omega (arith, below))
take_before (x ∷ xs) ys (suc k) below = ap (λ rest. x ∷ rest) (take_before xs ys k (omega (arith, below)))

get_before : {X : Type 0} (xs ys : List X) (k : ℕ) → k < length xs → slice_get (xs ++ ys) k ≡ slice_get xs k
get_before [] ys k below = absurd (omega (arith, below))
get_before (x ∷ xs) ys zero below = refl
get_before (x ∷ xs) ys (suc k) below = get_before xs ys k (omega (arith, below))

length_next : {X : Type 0} (xs : List X) (x : X) → length (xs ++ x ∷ []) ≡ suc (length xs)
length_next [] x = refl
length_next (y ∷ xs) x = ap suc (length_next xs x)

pub refused_push : (c : Configuration) (start : List Entry) (acts : List Step) (s : Step) →
    refused_in c start (acts ++ s ∷ []) ≡ (refused_in c start acts or option_map (PlanFault.Refused (length acts)) (broken c (stepped c start acts) s.0 s.1))
refused_push c start acts s =
    ap (first_fault (broken_at c start (acts ++ s ∷ [])) 0) (length_next acts s)
    ∙ first_push (broken_at c start (acts ++ s ∷ [])) 0 (length acts)
    ∙ (λ i. before i or option_map (PlanFault.Refused (at i)) (last i))
  where
    at : 0 + length acts ≡ length acts
    at = omega arith

    before : first_fault (broken_at c start (acts ++ s ∷ [])) 0 (length acts) ≡ refused_in c start acts
    before = first_same (broken_at c start (acts ++ s ∷ [])) (broken_at c start acts) 0 (length acts)
        (λ k below i. broken_by c (stepped c start (take_before acts (s ∷ []) k (omega (arith, below)) i)) (get_before acts (s ∷ []) k (omega (arith, below)) i))

    last : broken_at c start (acts ++ s ∷ []) (0 + length acts) ≡ broken c (stepped c start acts) s.0 s.1
    last = ap (broken_at c start (acts ++ s ∷ [])) at ∙ (λ i. broken_by c (stepped c start (take_front acts (s ∷ []) i)) (get_last acts s i))
