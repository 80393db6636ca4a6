-- Whether one of some tags passes a test.
use Rattle.std.proofs.Common.{◌≡◌, ◌≤◌, Bool, true, false, ◌||◌, not, List, [], ◌∷◌, inl, inr, refl, sym, ap, subst, ◌∙◌, arith}
use Rattle.std.{proofs.lemmas.Bool.cases_Bool, proofs.lemmas.Bool.false≢true, proofs.lemmas.Cmp.nat_list_eq_equiv, specs.Cmp.Lexicographic.same_text, specs.List.list_any}
use Rattle.std.specs.Prelude.{filter, length, if◌then◌else◌}
use Rattle.cci_codec.specs.dcd_base.specs.{declared.capacity.Tag.Tag, Words.has_tag, Words.same_tag}

-- tags that are the same are one
pub one_tag : (t u : Tag) → same_tag t u ≡ true → t ≡ u
one_tag t u same = let bytes : t.0 ≡ u.0 = same_text t.0 u.0 (sym same) in λ i. record { 0 = bytes i }

pub same_tag-self : (t : Tag) → same_tag t t ≡ true
same_tag-self t = nat_list_eq_equiv.refl t.0

-- a tag of those passes the test
pub any_of_tag : (q : Tag → Bool) (t : Tag) (tags : List Tag) → has_tag tags t ≡ true → q t ≡ true → list_any q tags ≡ true
any_of_tag q t [] has pass = absurd (false≢true has)
any_of_tag q t (u ∷ tags) has pass = elim (cases_Bool (same_tag t u)) [
  | inl same ↦ ap (λ b. b || list_any q tags) (subst (λ v. q v ≡ true) (one_tag t u same) pass)
  | inr other ↦ ap (λ b. q u || b) (any_of_tag q t tags (sym (ap (λ b. b || has_tag tags t) other) ∙ has) pass) ∙ either (q u)
]
  where
    either : (b : Bool) → (b || true) ≡ true
    either true = refl
    either false = refl

-- two tests that agree on all of those
pub any_agree : (q r : Tag → Bool) (tags : List Tag) → ((t : Tag) → has_tag tags t ≡ true → q t ≡ r t) → list_any q tags ≡ list_any r tags
any_agree q r [] agree = refl
any_agree q r (u ∷ tags) agree =
    let first : q u ≡ r u = agree u (ap (λ b. b || has_tag tags u) (same_tag-self u)) in
    let rest : list_any q tags ≡ list_any r tags = any_agree q r tags (λ t has. agree t (ap (λ b. same_tag t u || b) has ∙ either (same_tag t u))) in
    λ i. first i || rest i
  where
    either : (b : Bool) → (b || true) ≡ true
    either true = refl
    either false = refl

-- ---- without some of them

-- a test passes where a tag that does not pass is left out
pub any_kept : (p q : Tag → Bool) (tags : List Tag) → ((t : Tag) → p t ≡ true → q t ≡ false) → list_any q (filter (λ t. not (p t)) tags) ≡ list_any q tags
any_kept p q [] out = refl
any_kept p q (t ∷ tags) out = elim (cases_Bool (p t)) [
  | inl gone ↦ ap (λ b. list_any q (if not b then t ∷ filter (λ u. not (p u)) tags else filter (λ u. not (p u)) tags)) gone
      ∙ any_kept p q tags out
      ∙ sym (ap (λ b. b || list_any q tags) (out t gone))
  | inr kept ↦ ap (λ b. list_any q (if not b then t ∷ filter (λ u. not (p u)) tags else filter (λ u. not (p u)) tags)) kept
      ∙ ap (λ b. q t || b) (any_kept p q tags out)
]

-- as many pass as a count says
none_found : (q : Tag → Bool) (tags : List Tag) → length (filter q tags) ≤ 0 → list_any q tags ≡ false
none_found q [] none = refl
none_found q (t ∷ tags) none = elim (cases_Bool (q t)) [
  | inl pass ↦ absurd (omega (arith, subst (λ b. length (if b then t ∷ filter q tags else filter q tags) ≤ 0) pass none))
  | inr fails ↦ ap (λ b. b || list_any q tags) fails ∙ none_found q tags (subst (λ b. length (if b then t ∷ filter q tags else filter q tags) ≤ 0) fails none)
]

none_left : (p q : Tag → Bool) (tags : List Tag) → list_any q tags ≡ false → list_any q (filter (λ t. not (p t)) tags) ≡ false
none_left p q [] none = refl
none_left p q (t ∷ tags) none = elim (cases_Bool (q t)) [
  | inl pass ↦ absurd (false≢true (sym none ∙ ap (λ b. b || list_any q tags) pass))
  | inr fails ↦ (let rest : list_any q tags ≡ false = sym (ap (λ b. b || list_any q tags) fails) ∙ none in
      by (p t) fails (none_left p q tags rest))
]
  where
    by : (b : Bool) → q t ≡ false → list_any q (filter (λ u. not (p u)) tags) ≡ false →
        list_any q (if not b then t ∷ filter (λ u. not (p u)) tags else filter (λ u. not (p u)) tags) ≡ false
    by true fails rest = rest
    by false fails rest = λ i. fails i || rest i

-- none passes where the one that does is left out
pub any_gone : (p q : Tag → Bool) (t : Tag) (tags : List Tag) → has_tag tags t ≡ true → p t ≡ true → q t ≡ true → length (filter q tags) ≤ 1 →
    list_any q (filter (λ u. not (p u)) tags) ≡ false
any_gone p q t [] has gone pass few = refl
any_gone p q t (u ∷ tags) has gone pass few = elim (cases_Bool (q u)) [
  | inl first ↦ (let none : list_any q tags ≡ false = none_found q tags (rest_few first) in elim (cases_Bool (same_tag t u)) [
    | inl same ↦ ap (λ b. list_any q (if not b then u ∷ filter (λ v. not (p v)) tags else filter (λ v. not (p v)) tags)) (subst (λ v. p v ≡ true) (one_tag t u same) gone) ∙ none_left p q tags none
    | inr other ↦ absurd (false≢true (sym none ∙ any_of_tag q t tags (sym (ap (λ b. b || has_tag tags t) other) ∙ has) pass))
  ])
  | inr fails ↦ elim (cases_Bool (same_tag t u)) [
    | inl same ↦ absurd (false≢true (sym fails ∙ subst (λ v. q v ≡ true) (one_tag t u same) pass))
    | inr other ↦ by (p u) fails (any_gone p q t tags (sym (ap (λ b. b || has_tag tags t) other) ∙ has) gone pass (subst (λ b. length (if b then u ∷ filter q tags else filter q tags) ≤ 1) fails few))
  ]
]
  where
    rest_few : q u ≡ true → length (filter q tags) ≤ 0
    rest_few first = omega (arith, subst (λ b. length (if b then u ∷ filter q tags else filter q tags) ≤ 1) first few)

    by : (b : Bool) → q u ≡ false → list_any q (filter (λ v. not (p v)) tags) ≡ false →
        list_any q (if not b then u ∷ filter (λ v. not (p v)) tags else filter (λ v. not (p v)) tags) ≡ false
    by true fails rest = rest
    by false fails rest = λ i. fails i || rest i

-- tags left out one after another
pub filter_twice : (p q : Tag → Bool) (tags : List Tag) → filter (λ t. not (q t)) (filter (λ t. not (p t)) tags) ≡ filter (λ t. not (p t || q t)) tags
filter_twice p q [] = refl
filter_twice p q (t ∷ tags) = elim (cases_Bool (p t)) [
  | inl gone ↦ ap (λ b. filter (λ u. not (q u)) (if not b then t ∷ filter (λ u. not (p u)) tags else filter (λ u. not (p u)) tags)) gone
      ∙ filter_twice p q tags
      ∙ sym (ap (λ b. if not (b || q t) then t ∷ filter (λ u. not (p u || q u)) tags else filter (λ u. not (p u || q u)) tags) gone)
  | inr kept ↦ ap (λ b. filter (λ u. not (q u)) (if not b then t ∷ filter (λ u. not (p u)) tags else filter (λ u. not (p u)) tags)) kept
      ∙ ap (λ us. if not (q t) then t ∷ us else us) (filter_twice p q tags)
      ∙ sym (ap (λ b. if not (b || q t) then t ∷ filter (λ u. not (p u || q u)) tags else filter (λ u. not (p u || q u)) tags) kept)
]

pub filter_nothing : (tags : List Tag) → tags ≡ filter (λ t. not false) tags
filter_nothing [] = refl
filter_nothing (t ∷ tags) = ap (λ us. t ∷ us) (filter_nothing tags)
