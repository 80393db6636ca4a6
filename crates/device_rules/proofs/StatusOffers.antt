-- The status of a granule after an offer.
use Rattle.std.proofs.Common.{◌≡◌, ℕ, ◌<◌, Bool, true, false, ◌&&◌, ◌||◌, not, List, [], ◌∷◌, ◌++◌, Some, inl, inr, refl, sym, ap, ◌∙◌}
use Rattle.std.{proofs.lemmas.Bool.cases_Bool, proofs.lemmas.List.Folds.list_any-append, proofs.lemmas.List.Sums.fold_push, specs.List.list_any}
use Rattle.std.specs.Prelude.{◌==◌, None, if◌then◌else◌}
use Rattle.cci_codec.specs.dcd_base.specs.{declared.ids.HostId.HostId, declared.capacity.Tag.Tag, declared.capacity.Extent.Extent, Words.has_in_runs, Words.has_tag, Words.same_tag}
use Rattle.extent_list.{proofs.EachTag.or_false, specs.ExtentLists.has_extent_of, specs.media_map.specs.Places.region_at, specs.media_map.specs.region_config.specs.Configurations.Configuration}
use Rattle.extent_list.specs.media_map.specs.region_config.specs.Granules.{hosts_of, region_of, region_spec}
use Rattle.journal_core.specs.{declared.outcome.Effect.Effect, Holders.is_soiled, Holders.is_taken}
use Rattle.device_rules.proofs.{HostSearches.any_gains, HostSearches.or_true, RunEffects.in_extents}
use Rattle.device_rules.proofs.StatusParts.{offered_status, status_is, tagged_status, held-left, soiled-left, taken-left}
use Rattle.device_rules.{proofs.TagSearches.any_agree, proofs.TagSearches.any_of_tag, proofs.TagSearches.same_tag-self, specs.GranuleStates.is_granule_offered, specs.GranuleStates.stands_for}
use Rattle.device_rules.specs.Hosts.{offers_after, offers_of}
use Rattle.device_rules.specs.Tags.{Offered, Tagged, is_held, is_offered, is_tagged, last_offer, last_offer_after, open_tags, status, tag_runs, tags_after}

-- one offer more
one_more : (same : Bool) (has : List Extent → Bool) (offers : List (List Extent)) (xs : List Extent) →
    list_any has (if same then offers ++ xs ∷ [] else offers) ≡ (list_any has offers || (same && has xs))
one_more true has offers xs = list_any-append has offers (xs ∷ []) ∙ ap (λ b. list_any has offers || b) (or_false (has xs))
one_more false has offers xs = sym (or_false (list_any has offers))

module _ (c : Configuration) (g : ℕ) (past : List Effect) (k : HostId) (xs : List Extent) where
  -- ---- the tests

  pub is_granule_offered-offer : (h : HostId) → is_granule_offered c h g (past ++ Effect.Offer k xs ∷ []) ≡ (is_granule_offered c h g past || ((k == h) && in_extents c h xs g))
  is_granule_offered-offer h =
      ap (λ offers. list_any (λ zs. in_extents c h zs g) offers) (fold_push (offers_after h) [] past (Effect.Offer k xs))
      ∙ one_more (k == h) (λ zs. in_extents c h zs g) (offers_of h past) xs

  pub offered-offer : k < c.hosts → is_offered c g (past ++ Effect.Offer k xs ∷ []) ≡ (is_offered c g past || in_extents c k xs g)
  offered-offer known = (λ i. list_any (λ h. is_granule_offered-offer h i) (hosts_of c)) ∙ any_gains (λ h. is_granule_offered c h g past) (λ h. in_extents c h xs g) k c.hosts known

  pub last_offer-offer : (t : Tag) → last_offer t (past ++ Effect.Offer k xs ∷ []) ≡ (if has_extent_of t xs then Some (k, xs) else last_offer t past)
  last_offer-offer t = fold_push (last_offer_after t) None past (Effect.Offer k xs)

  pub open_tags-offer : open_tags c (past ++ Effect.Offer k xs ∷ []) ≡ tags_after c (open_tags c past) (Effect.Offer k xs)
  open_tags-offer = fold_push (tags_after c) [] past (Effect.Offer k xs)

  -- a tag that the offer has stands for its granules, and another one for those of before
  pub stands-offer : (t : Tag) → stands_for c (past ++ Effect.Offer k xs ∷ []) g t ≡ (if has_extent_of t xs then in_extents c k xs g else stands_for c past g t)
  stands-offer t = ap (λ last. has_in_runs (tag_runs c last) g) (last_offer-offer t) ∙ by (has_extent_of t xs)
    where
      by : (b : Bool) → has_in_runs (tag_runs c (if b then Some (k, xs) else last_offer t past)) g ≡ (if b then in_extents c k xs g else stands_for c past g t)
      by true = refl
      by false = refl

  held-offer : is_held c g (past ++ Effect.Offer k xs ∷ []) ≡ is_held c g past
  held-offer = held-left c g past (Effect.Offer k xs ∷ []) refl

  taken-offer : is_taken g (past ++ Effect.Offer k xs ∷ []) ≡ is_taken g past
  taken-offer = taken-left g past (Effect.Offer k xs ∷ []) refl

  soiled-offer : is_soiled g (past ++ Effect.Offer k xs ∷ []) ≡ is_soiled g past
  soiled-offer = soiled-left g past (Effect.Offer k xs ∷ []) refl

-- ---- the tags

-- the offer's first extent is in a shareable region: its tag is open then
pub opened : (live : List Tag) (t : Tag) → has_tag (if not (has_tag live t) then live ++ t ∷ [] else live) t ≡ true
opened live t = elim (cases_Bool (has_tag live t)) [
  | inl there ↦ ap (λ b. has_tag (if not b then live ++ t ∷ [] else live) t) there ∙ there
  | inr new ↦ ap (λ b. has_tag (if not b then live ++ t ∷ [] else live) t) new ∙ list_any-append (same_tag t) live (t ∷ [])
      ∙ ap (λ b. has_tag live t || (b || false)) (same_tag-self t) ∙ or_true (has_tag live t)
]

-- a search among the tags with one more that does not pass
not_opened : (new : Bool) (q : Tag → Bool) (live : List Tag) (t : Tag) → q t ≡ false → list_any q (if new then live ++ t ∷ [] else live) ≡ list_any q live
not_opened true q live t none = list_any-append q live (t ∷ []) ∙ ap (λ b. list_any q live || (b || false)) none ∙ or_false (list_any q live)
not_opened false q live t none = refl

module _ (c : Configuration) (g : ℕ) (past : List Effect) (k : HostId) (x : Extent) (rest : List Extent) where
  pub has_first : has_extent_of x.tag (x ∷ rest) ≡ true
  has_first = ap (λ b. b || has_extent_of x.tag rest) (same_tag-self x.tag)

  pub stands-first : stands_for c (past ++ Effect.Offer k (x ∷ rest) ∷ []) g x.tag ≡ in_extents c k (x ∷ rest) g
  stands-first = stands-offer c g past k (x ∷ rest) x.tag ∙ ap (λ b. if b then in_extents c k (x ∷ rest) g else stands_for c past g x.tag) has_first

  -- the granules of an offer in a shareable region have an open tag
  pub tagged-offer : (region_spec c (region_at c k x.start)).shareable ≡ true → in_extents c k (x ∷ rest) g ≡ true →
      is_tagged c g (past ++ Effect.Offer k (x ∷ rest) ∷ []) ≡ true
  tagged-offer shared here =
      any_of_tag (stands_for c (past ++ Effect.Offer k (x ∷ rest) ∷ []) g) x.tag (open_tags c (past ++ Effect.Offer k (x ∷ rest) ∷ []))
      (ap (λ tags. has_tag tags x.tag) (open_tags-offer c g past k (x ∷ rest))
      ∙ ap (λ b. has_tag (if b && not (has_tag (open_tags c past) x.tag) then open_tags c past ++ x.tag ∷ [] else open_tags c past) x.tag) shared
      ∙ opened (open_tags c past) x.tag)
      (stands-first ∙ here)

  -- The other granules have an open tag as before, where no open tag that is offered again had them.
  pub untagged-offer : in_extents c k (x ∷ rest) g ≡ false →
      ((t : Tag) → has_tag (open_tags c past) t ≡ true → has_extent_of t (x ∷ rest) ≡ true → stands_for c past g t ≡ false) →
      is_tagged c g (past ++ Effect.Offer k (x ∷ rest) ∷ []) ≡ is_tagged c g past
  untagged-offer out again =
      ap (λ tags. list_any (stands_for c (past ++ Effect.Offer k (x ∷ rest) ∷ []) g) tags) (open_tags-offer c g past k (x ∷ rest))
      ∙ not_opened ((region_spec c (region_at c k x.start)).shareable && not (has_tag (open_tags c past) x.tag)) (stands_for c (past ++ Effect.Offer k (x ∷ rest) ∷ []) g) (open_tags c past) x.tag (stands-first ∙ out)
      ∙ any_agree (stands_for c (past ++ Effect.Offer k (x ∷ rest) ∷ []) g) (stands_for c past g) (open_tags c past) (λ t was. stands-offer c g past k (x ∷ rest) t ∙ elim (cases_Bool (has_extent_of t (x ∷ rest))) [
        | inl has ↦ ap (λ b. if b then in_extents c k (x ∷ rest) g else stands_for c past g t) has ∙ out ∙ sym (again t was has)
        | inr lacks ↦ ap (λ b. if b then in_extents c k (x ∷ rest) g else stands_for c past g t) lacks
      ])

  -- ---- the status

  -- what is offered is so, where no other host can share it
  pub status-offered : k < c.hosts → (region_spec c (region_of c g)).shareable ≡ false → in_extents c k (x ∷ rest) g ≡ true → is_held c g past ≡ false →
      status c g (past ++ Effect.Offer k (x ∷ rest) ∷ []) ≡ Offered
  status-offered known private here not_held =
      let after : List Effect = past ++ Effect.Offer k (x ∷ rest) ∷ [] in
      status_is c g after false true (is_tagged c g after) (is_taken g after) (is_soiled g after) (record {
        held_is = held-offer c g past k (x ∷ rest) ∙ not_held;
        offered_is = offered-offer c g past k (x ∷ rest) known ∙ ap (λ b. is_offered c g past || b) here ∙ or_true (is_offered c g past);
        tagged_is = refl;
        taken_is = refl;
        soiled_is = refl;
      })
      ∙ offered_status (region_spec c (region_of c g)) private (is_tagged c g after) (is_taken g after) (is_soiled g after)

  -- and else it has an open tag
  pub status-offered_shared : (region_spec c (region_of c g)).shareable ≡ true → (region_spec c (region_at c k x.start)).shareable ≡ true → in_extents c k (x ∷ rest) g ≡ true →
      status c g (past ++ Effect.Offer k (x ∷ rest) ∷ []) ≡ Tagged
  status-offered_shared shared first_shared here =
      let after : List Effect = past ++ Effect.Offer k (x ∷ rest) ∷ [] in
      status_is c g after (is_held c g after) (is_offered c g after) true (is_taken g after) (is_soiled g after)
      (record { held_is = refl; offered_is = refl; tagged_is = tagged-offer first_shared here; taken_is = refl; soiled_is = refl })
      ∙ tagged_status (region_spec c (region_of c g)) shared (is_held c g after) (is_offered c g after) (is_taken g after) (is_soiled g after)

  -- a granule that is not offered
  pub status-not_offered : k < c.hosts → in_extents c k (x ∷ rest) g ≡ false →
      ((t : Tag) → has_tag (open_tags c past) t ≡ true → has_extent_of t (x ∷ rest) ≡ true → stands_for c past g t ≡ false) →
      status c g (past ++ Effect.Offer k (x ∷ rest) ∷ []) ≡ status c g past
  status-not_offered known out again =
      status_is c g (past ++ Effect.Offer k (x ∷ rest) ∷ []) (is_held c g past) (is_offered c g past) (is_tagged c g past) (is_taken g past) (is_soiled g past) (record {
        held_is = held-offer c g past k (x ∷ rest);
        offered_is = offered-offer c g past k (x ∷ rest) known ∙ ap (λ b. is_offered c g past || b) out ∙ or_false (is_offered c g past);
        tagged_is = untagged-offer out again;
        taken_is = taken-offer c g past k (x ∷ rest);
        soiled_is = soiled-offer c g past k (x ∷ rest);
      })
