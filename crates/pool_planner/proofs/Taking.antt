-- Acts that are tried one after another.
use Rattle.std.proofs.Common.{◌≡◌, ℕ, ◌+◌, ◌<◌, List, [], ◌∷◌, ◌++◌, length, get_or, take, refl, sym, ap, subst, ◌∙◌, append_assoc, append-nil, add-one, add-zero, zero-add, zero, suc, arith, true, false}
use Rattle.std.{proofs.lemmas.Bool.eqb-true, proofs.lemmas.Grind.flat_map-append, proofs.lemmas.List.take_more, specs.List.range_with_len}
use Rattle.std.specs.{Prelude.◌==◌, Prelude.OnOk, Prelude.flat_map, Prelude.option_map, declared.result.Result.Result, declared.result.Result.TheVariants.Ok, declared.result.Result.TheVariants.Err}
use Rattle.dcd_base.specs.Words.{◌or◌}
use Rattle.region_config.specs.Configurations.{Configuration}
use Rattle.journal_core.specs.declared.entries.Entry.{Entry}
use Rattle.device_plain.specs.device_rules.specs.Answers.{broken}
use Rattle.plan_rules.specs.{Holding.Step, Holding.entry_of_step, Holding.stepped, Listing.for_some, declared.faults.PlanFault.PlanFault}
use Rattle.pool_planner.{specs.Trials.IsTried, specs.Trials.TriesMore, specs.declared.trial.Trial.Trial, proofs.Refusing.refused_push}

pub stepped_append : (c : Configuration) (start : List Entry) (a b : List Step) → stepped c start (a ++ b) ≡ stepped c (stepped c start a) b
stepped_append c start [] b = refl
stepped_append c start (s ∷ a) b = stepped_append c (start ++ entry_of_step c start s ∷ []) a b

-- nothing
pub takes_none : (t : Trial) → TriesMore t t []
takes_none t = record {
  config = refl;
  entries = refl;
  tried = λ start acts is. subst (λ more. IsTried t.control.config start more t) (sym (append-nil acts)) is;
}

-- one act
pub takes_one : (old new : Trial) (s : Step) → new.control.config ≡ old.control.config →
    new.control.entries ≡ old.control.entries ++ entry_of_step old.control.config old.control.entries s ∷ [] →
    new.acts ≡ old.acts ++ s ∷ [] →
    new.refused ≡ (old.refused or option_map (PlanFault.Refused (length old.acts)) (broken old.control.config old.control.entries s.0 s.1)) →
    TriesMore old new (s ∷ [])
takes_one old new s config entries acts_are refused = record {
  config = config;
  entries = entries;
  tried = λ start acts is. record {
    entries = entries ∙ (λ i. is.entries i ++ entry_of_step old.control.config (is.entries i) s ∷ []) ∙ sym (stepped_append old.control.config start acts (s ∷ []));
    acts_are = acts_are ∙ ap (λ done. done ++ s ∷ []) is.acts_are;
    refused = refused
        ∙ (λ i. is.refused i or option_map (PlanFault.Refused (length (is.acts_are i))) (broken old.control.config (is.entries i) s.0 s.1))
        ∙ sym (refused_push old.control.config start acts s);
  };
}

-- some, and then others
pub takes_then : {a b d : Trial} {x y : List Step} → TriesMore a b x → TriesMore b d y → TriesMore a d (x ++ y)
takes_then {a} {b} {d} {x} {y} first second = record {
  config = second.config ∙ first.config;
  entries = second.entries ∙ (λ i. stepped (first.config i) (first.entries i) y) ∙ sym (stepped_append a.control.config a.control.entries x y);
  tried = λ start acts is.
      subst (λ all. IsTried a.control.config start all d) (append_assoc acts x y)
      (subst (λ c. IsTried c start ((acts ++ x) ++ y) d) first.config
      (second.tried start (acts ++ x) (subst (λ c. IsTried c start (acts ++ x) b) (sym first.config) (first.tried start acts is))));
}

-- those of one more item
pub takes_more : {X : Type 0} (f : X → List Step) (xs : List X) (k : ℕ) (z : X) (a b d : Trial) → k < length xs →
    TriesMore a b (flat_map f (take k xs)) → TriesMore b d (f (get_or xs k z)) → TriesMore a d (flat_map f (take (k + 1) xs))
takes_more f xs k z a b d below first second = subst (TriesMore a d) (sym (
    ap (flat_map f) (take_more xs k z below)
    ∙ flat_map-append f (take k xs) (get_or xs k z ∷ [])
    ∙ ap (λ rest. flat_map f (take k xs) ++ rest) (append-nil (f (get_or xs k z))))) (takes_then first second)

pub takes_then_ok : {X E : Type 0} (r : Result X E) (a b d : Trial) (x y : List Step) → TriesMore a b x → OnOk r (TriesMore b d y) → OnOk r (TriesMore a d (x ++ y))
takes_then_ok (Ok v) a b d x y first second = takes_then first second
takes_then_ok (Err e) a b d x y first second = tt

-- those of one more number
range_push : (a n : ℕ) → range_with_len a (suc n) ≡ range_with_len a n ++ (a + n) ∷ []
range_push a zero = ap (λ k. k ∷ []) (sym (add-zero a))
range_push a (suc n) = ap (λ rest. a ∷ rest) (range_push (a + 1) n ∙ ap (λ k. range_with_len (a + 1) n ++ k ∷ []) (next a n))
  where
    next : (a n : ℕ) → a + 1 + n ≡ a + suc n
    next a n = omega arith

pub takes_next : (f : ℕ → List Step) (n : ℕ) (a b d : Trial) → TriesMore a b (flat_map f (range_with_len 0 n)) → TriesMore b d (f n) → TriesMore a d (flat_map f (range_with_len 0 (n + 1)))
takes_next f n a b d first second = subst (λ ks. TriesMore a d (flat_map f ks)) (sym (ap (range_with_len 0) (add-one n) ∙ range_push 0 n ∙ ap (λ k. range_with_len 0 n ++ k ∷ []) (zero-add n)))
    (subst (TriesMore a d) (sym (flat_map-append f (range_with_len 0 n) (n ∷ []) ∙ ap (λ rest. flat_map f (range_with_len 0 n) ++ rest) (append-nil (f n)))) (takes_then first second))

-- an act that stands for a list which is empty, or not
pub for_none : {X : Type 0} (xs : List X) (act : Step) → (length xs == 0) ≡ true → for_some xs act ≡ []
for_none [] act is = refl
for_none (x ∷ xs) act is = absurd (omega (arith, eqb-true (suc (length xs)) 0 is))

pub for_one : {X : Type 0} (xs : List X) (act : Step) → (length xs == 0) ≡ false → for_some xs act ≡ act ∷ []
for_one [] act is = absurd (never is)
  where
    never : true ≡ false → ⊥
    never e = cc
for_one (x ∷ xs) act is = refl
