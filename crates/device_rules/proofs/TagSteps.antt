-- When two tags are one, and which tags are open once some have ended.
use Rattle.std.proofs.Common.{◌≡◌, ℕ, Bool, true, false, not, ◌==◌, List, [], ◌∷◌, map, refl, ap, sym, ◌∙◌, inl, inr}
use Rattle.std.proofs.lemmas.{Bool.and_parts, Bool.cases_Bool, Bool.eqb-true, Bool.false≢true, Bool.or_left, Bool.or_right, Bool.or_parts, Cmp.nat_list_eq_equiv}
use Rattle.std.specs.{List.filter, Prelude.fold}
use lib.Pointwise.{pointwise}
use Rattle.cci_codec.specs.dcd_base.specs.{declared.capacity.Tag.Tag, Words.has_tag, Words.same_tag}
use Rattle.extent_list.specs.media_map.specs.region_config.specs.Configurations.{Configuration}
use Rattle.journal_core.specs.declared.outcome.Effect.{Effect}
use Rattle.device_rules.specs.Tags.{tags_after}

same_bytes : (a b : List ℕ) → pointwise ◌==◌ a b ≡ true → a ≡ b
same_bytes [] [] e = refl
same_bytes [] (y ∷ b) e = absurd (false≢true e)
same_bytes (x ∷ a) [] e = absurd (false≢true e)
same_bytes (x ∷ a) (y ∷ b) e =
    let parts = and_parts (x == y) (pointwise ◌==◌ a b) e in
    λ i. eqb-true x y parts.0 i ∷ same_bytes a b parts.1 i

-- tags that are the same are one
pub same_tag-is : (t u : Tag) → same_tag t u ≡ true → t ≡ u
same_tag-is t u e = λ i. record { 0 = same_bytes t.0 u.0 e i }

pub same_tag-self : (t : Tag) → same_tag t t ≡ true
same_tag-self t = nat_list_eq_equiv.refl t.0

pub same_tag-back : (t u : Tag) → same_tag t u ≡ same_tag u t
same_tag-back t u = nat_list_eq_equiv.symm t.0 u.0

-- ---- the ends of some tags

abbrev pub without_tag : List Tag → Tag → List Tag
without_tag tags t = filter (λ u. not (same_tag u t)) tags

abbrev pub without_tags : List Tag → List Tag → List Tag
without_tags tags ended = fold without_tag tags ended

pub tags-ends : (c : Configuration) (tags ended : List Tag) → fold (tags_after c) tags (map Effect.TagEnd ended) ≡ without_tags tags ended
tags-ends c tags [] = refl
tags-ends c tags (t ∷ ended) = tags-ends c (without_tag tags t) ended

-- what is open after a filter was so before, and passes
pub has_tag-filter : (p : Tag → Bool) (tags : List Tag) (t : Tag) → has_tag (filter p tags) t ≡ true → (has_tag tags t ≡ true) × (p t ≡ true)
has_tag-filter p [] t e = absurd (false≢true e)
has_tag-filter p (u ∷ tags) t e = elim (cases_Bool (p u)) [
  | inl passes ↦ elim (cases_Bool (same_tag t u)) [
    | inl same ↦ (or_left (same_tag t u) (has_tag tags t) same, ap p (same_tag-is t u same) ∙ passes)
    | inr other ↦ (let rest = has_tag-filter p tags t (rw (passes, other) at e) in (or_right (same_tag t u) (has_tag tags t) rest.0, rest.1))
  ]
  | inr fails ↦ (let rest = has_tag-filter p tags t (rw fails at e) in (or_right (same_tag t u) (has_tag tags t) rest.0, rest.1))
]

-- and what was so and passes is so
pub has_tag-kept : (p : Tag → Bool) (tags : List Tag) (t : Tag) → has_tag tags t ≡ true → p t ≡ true → has_tag (filter p tags) t ≡ true
has_tag-kept p [] t e passes = absurd (false≢true e)
has_tag-kept p (u ∷ tags) t e passes = elim (cases_Bool (same_tag t u)) [
  | inl same ↦ (let there : p u ≡ true = ap p (sym (same_tag-is t u same)) ∙ passes in rw there (or_left (same_tag t u) (has_tag (filter p tags) t) same))
  | inr other ↦ elim (cases_Bool (p u)) [
    | inl there ↦ rw there (or_right (same_tag t u) (has_tag (filter p tags) t) (has_tag-kept p tags t (rw other at e) passes))
    | inr fails ↦ rw fails (has_tag-kept p tags t (rw other at e) passes)
  ]
]

not-same : (t u : Tag) → not (same_tag t u) ≡ true → same_tag u t ≡ false
not-same t u e = elim (cases_Bool (same_tag u t)) [
  | inl same ↦ absurd (false≢true (sym (ap not (same_tag-back t u ∙ same)) ∙ e))
  | inr other ↦ other
]

-- a tag that is open after the ends was open before, and did not end
pub open_before : (tags ended : List Tag) (t : Tag) → has_tag (without_tags tags ended) t ≡ true → has_tag tags t ≡ true
open_before tags [] t e = e
open_before tags (u ∷ ended) t e = (has_tag-filter (λ v. not (same_tag v u)) tags t (open_before (without_tag tags u) ended t e)).0

pub not_ended : (tags ended : List Tag) (t : Tag) → has_tag (without_tags tags ended) t ≡ true → has_tag ended t ≡ false
not_ended tags [] t e = refl
not_ended tags (u ∷ ended) t e =
    let here = has_tag-filter (λ v. not (same_tag v u)) tags t (open_before (without_tag tags u) ended t e) in
    let other : same_tag t u ≡ false = same_tag-back t u ∙ not-same t u here.1 in
    rw other (not_ended (without_tag tags u) ended t e)

-- and one that did not end is open still
pub open_still : (tags ended : List Tag) (t : Tag) → has_tag tags t ≡ true → has_tag ended t ≡ false → has_tag (without_tags tags ended) t ≡ true
open_still tags [] t e none = e
open_still tags (u ∷ ended) t e none =
    let parts : (same_tag t u ≡ false) × (has_tag ended t ≡ false) = or_parts (same_tag t u) (has_tag ended t) none in
    open_still (without_tag tags u) ended t (has_tag-kept (λ v. not (same_tag v u)) tags t e (ap not parts.0)) parts.1
