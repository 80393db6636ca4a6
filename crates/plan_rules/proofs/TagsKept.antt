-- What every legal journal keeps of the tags of the hosts' extents, whatever a command does.
use Rattle.std.proofs.Common.{◌≡◌, ◌≤◌, true, ◌==◌, List, [], ◌∷◌, ◌++◌, length, refl, ap, sym, subst, ◌∙◌, inl, inr, arith, append_assoc}
use Rattle.std.{specs.Prelude.flat_map, proofs.lemmas.Bool.and_parts, proofs.lemmas.Bool.cases_Bool, proofs.lemmas.Bool.eqb-true}
use Rattle.dcd_base.specs.{Limits.tags_supported, Words.has_tag, Words.same_tag, declared.capacity.Extent.Extent, declared.capacity.Tag.Tag, declared.ids.HostId.HostId}
use Rattle.extent_list.specs.ExtentLists.{has_extent_of, lies_in, real_tags}
use Rattle.region_config.specs.{Configurations.Configuration, Soundness.IsSound}
use Rattle.journal_core.specs.declared.outcome.Effect.{Effect}
use Rattle.isolation_laws.specs.device_rules.proofs.{ListSteps.each-at, ListSteps.flat-push, OneOffer.any-implies, Pictures.picture-outcome}
use Rattle.isolation_laws.specs.device_rules.proofs.TagSteps.{open_before, same_tag-is, without_tags}
use Rattle.isolation_laws.specs.device_rules.specs.{Outcomes.Outcome, Outcomes.effects_of, Outcomes.ended, Pictures.Picture, Pictures.extents_at, Pictures.picture_after, Pictures.picture_of}
use Rattle.isolation_laws.specs.device_rules.specs.Standing.{Sound}
use Rattle.plan_rules.proofs.{ClosedTags.AreClosed, ClosedTags.IsLess, ClosedTags.fewer_closed, ClosedTags.less_closed, Parts.ArePartsOf, Parts.is_part, Parts.is_part_of, RealTags.real_few}

-- no host has more tags than it may
abbrev pub FewTags : Picture → Type 0
FewTags p = (h : HostId) → length (real_tags (extents_at p h)) ≤ tags_supported

pub record TagsKept (c : Configuration) (p : Picture) : Type 0 where
  pub closed : AreClosed c p
  pub few : FewTags p

-- the same lists, and no other tags open
pub same_kept : (c : Configuration) (p q : Picture) → ((h : HostId) → extents_at q h ≡ extents_at p h) → ((t : Tag) → has_tag q.tags t ≡ true → has_tag p.tags t ≡ true) → TagsKept c p → TagsKept c q
same_kept c p q same tags kept = record {
  closed = fewer_closed c p q same tags kept.closed;
  few = λ h. subst (λ xs. length (real_tags xs) ≤ tags_supported) (sym (same h)) (kept.few h);
}

-- parts of extents have no other tags
parts_tags : (ys xs : List Extent) → ArePartsOf ys xs → (t : Tag) → has_extent_of t xs ≡ true → has_extent_of t ys ≡ true
parts_tags ys xs parts t has =
    let found = each-at (λ x. is_part_of ys x ≡ true) (λ x. same_tag x.tag t) xs parts has in
    any-implies (λ y. is_part found.0 y) (λ y. same_tag y.tag t) ys
    (λ y part. ap (same_tag y.tag) (sym (same_tag-is found.0.tag t found.1)) ∙ (and_parts (lies_in found.0 y) (same_tag y.tag found.0.tag) part).1) found.2

pub less_kept : (c : Configuration) → IsSound c → (p : Picture) → Sound c p → (r : Picture) → Sound c r → IsLess p r → TagsKept c p → TagsKept c r
less_kept c sound p before r after less kept = record {
  closed = less_closed c sound p before r after less kept.closed;
  few = λ h. omega (arith, kept.few h, real_few (extents_at r h) (extents_at p h) (λ t real. parts_tags (extents_at p h) (extents_at r h) (less.parts h) t));
}

-- an offer that leaves the host few tags
pub offer_few : (c : Configuration) (p : Picture) (h : HostId) (new : List Extent) → length (real_tags (extents_at p h ++ new)) ≤ tags_supported → FewTags p → FewTags (picture_after c p (Effect.Offer h new ∷ []))
offer_few c p h new few all k = elim (cases_Bool (h == k)) [
  | inr other ↦ rw other (all k)
  | inl same ↦ (let at_host : p.accepted h ++ flat_map (λ ys. ys) (p.offers h ++ new ∷ []) ≡ extents_at p h ++ new =
      ap (λ ys. p.accepted h ++ ys) (flat-push (p.offers h) new) ∙ sym (append_assoc (p.accepted h) (flat_map (λ ys. ys) (p.offers h)) new) in
      rw same (subst (λ l. length (real_tags (p.accepted l ++ flat_map (λ ys. ys) (p.offers l ++ new ∷ []))) ≤ tags_supported) (eqb-true h k same)
      (subst (λ xs. length (real_tags xs) ≤ tags_supported) (sym at_host) few)))
]

pub outcome_kept : (c : Configuration) (past : List Effect) (o : Outcome) → TagsKept c (picture_after c (picture_of c past) o.changes) → TagsKept c (picture_of c (past ++ effects_of c past o))
outcome_kept c past o kept =
    let q : Picture = picture_after c (picture_of c past) o.changes in
    let over : List Tag = ended c past o.changes o.tags in
    subst (TagsKept c) (sym (picture-outcome c past o)) (same_kept c q (record q { tags = without_tags q.tags over }) (λ h. refl) (λ t e. open_before q.tags over t e) kept)
