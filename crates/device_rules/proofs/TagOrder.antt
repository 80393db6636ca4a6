-- The order of the open tags, over the effects of a step.
use Rattle.std.proofs.Common.{◌≡◌, ℕ, zero, suc, ◌<◌, Bool, true, false, ◌&&◌, not, List, [], ◌∷◌, ◌++◌, length, get_or, refl, sym, ap, subst, ◌∙◌, arith, append_assoc}
use Rattle.std.proofs.lemmas.{Bool.and_parts, Bool.false≢true, Bool.or_left, Bool.or_right, List.Folds.list_any-append, List.Kept.AllPairs-filter, List.Quantifiers.all_pairs_push}
use Rattle.std.{proofs.lemmas.List.Sums.fold-append, specs.List.list_all, specs.Prelude.AllPairs, specs.Prelude.fold, specs.Prelude.if◌then◌else◌}
use Rattle.cci_codec.specs.dcd_base.specs.{declared.capacity.Extent.Extent, declared.capacity.Tag.Tag, declared.ids.HostId.HostId, Words.has_tag, Words.same_tag}
use Rattle.extent_list.specs.media_map.specs.{region_config.specs.Configurations.Configuration, region_config.specs.Granules.region_spec, Places.region_at}
use Rattle.journal_core.specs.declared.outcome.Effect.{Effect}
use Rattle.device_rules.proofs.{Fading.fades, Fading.is_single, Fading.lasted, Fading.lasts, Fading.lived, Leaving.leaves_tags, Leaving.tags-over}
use Rattle.device_rules.proofs.{LiveSince.since_before, LiveSince.since_now, LiveSince.since_past, TagSteps.has_tag-filter, TagSteps.same_tag-self}
use Rattle.device_rules.specs.{Invariants.live_since, Tags.is_live_shareable, Tags.open_tags, Tags.tags_after}

-- the open tags are the live ones
abbrev pub OpenLive : Configuration → List Effect → Type 0
OpenLive c past = (t : Tag) → has_tag (open_tags c past) t ≡ is_live_shareable c t past

-- each began to live before those behind it
abbrev pub Ordered : (Tag → ℕ) → List Tag → Type 0
Ordered n tags = AllPairs (λ t u. n t < n u) tags

abbrev pub since : Configuration → List Effect → Tag → ℕ
since c past t = live_since c t [] 0 past

abbrev pub InOrder : Configuration → List Effect → Type 0
InOrder c past = AllPairs (λ t u. live_since c t [] 0 past < live_since c u [] 0 past) (open_tags c past)

-- ---- lists of tags

has_at : (tags : List Tag) (k : ℕ) (d : Tag) → k < length tags → has_tag tags (get_or tags k d) ≡ true
has_at [] k d within = absurd (omega (arith, within))
has_at (t ∷ tags) zero d within = or_left (same_tag t t) (has_tag tags t) (same_tag-self t)
has_at (t ∷ tags) (suc k) d within = or_right (same_tag (get_or tags k d) t) (has_tag tags (get_or tags k d)) (has_at tags k d (omega (arith, within)))

renumbered : (n m : Tag → ℕ) (tags : List Tag) → ((t : Tag) → has_tag tags t ≡ true → m t ≡ n t) → Ordered n tags → Ordered m tags
renumbered n m tags same order i j d below within =
    let at_i : m (get_or tags i d) ≡ n (get_or tags i d) = same (get_or tags i d) (has_at tags i d (omega (arith, below, within))) in
    let at_j : m (get_or tags j d) ≡ n (get_or tags j d) = same (get_or tags j d) (has_at tags j d within) in
    omega (arith, order i j d below within, at_i, at_j)

-- ---- effects without an offer

abbrev pub no_offer : Effect → Bool
no_offer (Effect.Offer h xs) = false
no_offer e = true

module _ (c : Configuration) where
  one_order : (n : Tag → ℕ) (tags : List Tag) (e : Effect) → no_offer e ≡ true → Ordered n tags → Ordered n (tags_after c tags e)
  one_order n tags (Effect.Offer h xs) none order = absurd (false≢true none)
  one_order n tags (Effect.TagEnd u) none order = AllPairs-filter (λ t u. n t < n u) (λ v. not (same_tag v u)) tags order
  one_order n tags e none order = order

  all_order : (n : Tag → ℕ) (tags : List Tag) (new : List Effect) → list_all no_offer new ≡ true → Ordered n tags → Ordered n (fold (tags_after c) tags new)
  all_order n tags [] none order = order
  all_order n tags (e ∷ new) none order =
      let parts = and_parts (no_offer e) (list_all no_offer new) none in
      all_order n (tags_after c tags e) new parts.1 (one_order n tags e parts.0 order)

  one_was : (tags : List Tag) (t : Tag) (e : Effect) → no_offer e ≡ true → has_tag (tags_after c tags e) t ≡ true → has_tag tags t ≡ true
  one_was tags t (Effect.Offer h xs) none has = absurd (false≢true none)
  one_was tags t (Effect.TagEnd u) none has = (has_tag-filter (λ v. not (same_tag v u)) tags t has).0
  one_was tags t e none has = has

  all_were : (tags : List Tag) (t : Tag) (new : List Effect) → list_all no_offer new ≡ true → has_tag (fold (tags_after c) tags new) t ≡ true → has_tag tags t ≡ true
  all_were tags t [] none has = has
  all_were tags t (e ∷ new) none has =
      let parts = and_parts (no_offer e) (list_all no_offer new) none in
      one_was tags t e parts.0 (all_were (tags_after c tags e) t new parts.1 has)

  -- Where no tag begins to live but by one effect, and none is offered, the order stays.
  pub order_kept : (past new : List Effect) → is_single new ≡ true → list_all no_offer new ≡ true → OpenLive c past → OpenLive c (past ++ new) → InOrder c past → InOrder c (past ++ new)
  order_kept past new single none before after order =
      let then_open : open_tags c (past ++ new) ≡ fold (tags_after c) (open_tags c past) new = fold-append (tags_after c) [] past new in
      renumbered (since c past) (since c (past ++ new)) (open_tags c (past ++ new))
      (λ t has.
      let was : is_live_shareable c t past ≡ true = sym (before t) ∙ all_were (open_tags c past) t new none (sym (ap (λ tags. has_tag tags t) then_open) ∙ has) in
      since_before c t past new was (lasts c t past new single was (sym (after t) ∙ has)))
      (subst (Ordered (since c past)) (sym then_open) (all_order (since c past) (open_tags c past) new none order))

  -- ---- an offer

  module _ (past : List Effect) (h : HostId) (xs : List Extent) (rest : List Effect) (fade : list_all fades rest ≡ true) (left : list_all leaves_tags rest ≡ true)
      (before : OpenLive c past) (after : OpenLive c (past ++ Effect.Offer h xs ∷ rest)) (order : InOrder c past) where
    then_open : open_tags c (past ++ Effect.Offer h xs ∷ rest) ≡ tags_after c (open_tags c past) (Effect.Offer h xs)
    then_open = fold-append (tags_after c) [] past (Effect.Offer h xs ∷ rest) ∙ tags-over c (tags_after c (open_tags c past) (Effect.Offer h xs)) rest left

    lives_then : (tags : List Tag) → open_tags c (past ++ Effect.Offer h xs ∷ rest) ≡ tags → (t : Tag) → has_tag tags t ≡ true → is_live_shareable c t (past ++ Effect.Offer h xs ∷ rest) ≡ true
    lives_then tags is t has = sym (after t) ∙ ap (λ us. has_tag us t) is ∙ has

    same_since : (t : Tag) → has_tag (open_tags c past) t ≡ true → is_live_shareable c t (past ++ Effect.Offer h xs ∷ rest) ≡ true →
        live_since c t [] 0 (past ++ Effect.Offer h xs ∷ rest) ≡ live_since c t [] 0 past
    same_since t has alive =
        let was : is_live_shareable c t past ≡ true = sym (before t) ∙ has in
        since_before c t past (Effect.Offer h xs ∷ rest) was (lasts c t past (Effect.Offer h xs ∷ rest) fade was alive)

    none_opened : open_tags c (past ++ Effect.Offer h xs ∷ rest) ≡ open_tags c past → InOrder c (past ++ Effect.Offer h xs ∷ rest)
    none_opened is = subst (Ordered (since c (past ++ Effect.Offer h xs ∷ rest))) (sym is)
        (renumbered (since c past) (since c (past ++ Effect.Offer h xs ∷ rest)) (open_tags c past) (λ t has. same_since t has (lives_then (open_tags c past) is t has)) order)

    one_opened : (u : Tag) → has_tag (open_tags c past) u ≡ false → open_tags c (past ++ Effect.Offer h xs ∷ rest) ≡ open_tags c past ++ u ∷ [] → InOrder c (past ++ Effect.Offer h xs ∷ rest)
    one_opened u new is =
        let tags : List Tag = open_tags c past in
        let among : (t : Tag) → has_tag (open_tags c past) t ≡ true → is_live_shareable c t (past ++ Effect.Offer h xs ∷ rest) ≡ true =
        λ t has. lives_then (tags ++ u ∷ []) is t (list_any-append (same_tag t) tags (u ∷ []) ∙ or_left (has_tag tags t) (has_tag (u ∷ []) t) has) in
        let last : is_live_shareable c u (past ++ Effect.Offer h xs ∷ rest) ≡ true =
        lives_then (tags ++ u ∷ []) is u (list_any-append (same_tag u) tags (u ∷ []) ∙ or_right (has_tag tags u) (has_tag (u ∷ []) u) (or_left (same_tag u u) false (same_tag-self u))) in
        let over : is_live_shareable c u ((past ++ Effect.Offer h xs ∷ []) ++ rest) ≡ true = ap (is_live_shareable c u) (append_assoc past (Effect.Offer h xs ∷ []) rest) ∙ last in
        let began : live_since c u [] 0 (past ++ Effect.Offer h xs ∷ rest) ≡ length past =
        since_now c u past (Effect.Offer h xs) rest (sym (before u) ∙ new) (lived c u (past ++ Effect.Offer h xs ∷ []) rest fade over) (lasted c u (past ++ Effect.Offer h xs ∷ []) rest fade over) in
        subst (Ordered (since c (past ++ Effect.Offer h xs ∷ rest))) (sym is)
        (all_pairs_push (λ t v. since c (past ++ Effect.Offer h xs ∷ rest) t < since c (past ++ Effect.Offer h xs ∷ rest) v) tags u
        (renumbered (since c past) (since c (past ++ Effect.Offer h xs ∷ rest)) tags (λ t has. same_since t has (among t has)) order)
        (λ k d within.
        let has : has_tag (open_tags c past) (get_or (open_tags c past) k d) ≡ true = has_at tags k d within in
        let first : live_since c (get_or (open_tags c past) k d) [] 0 past < length past = since_past c (get_or tags k d) past (sym (before (get_or tags k d)) ∙ has) in
        let same : live_since c (get_or (open_tags c past) k d) [] 0 (past ++ Effect.Offer h xs ∷ rest) ≡ live_since c (get_or (open_tags c past) k d) [] 0 past = same_since (get_or tags k d) has (among (get_or tags k d) has) in
        omega (arith, first, same, began)))

  -- A tag that an offer opens is the last to live.
  pub order_offered : (past : List Effect) (h : HostId) (xs : List Extent) (rest : List Effect) → list_all fades rest ≡ true → list_all leaves_tags rest ≡ true →
      OpenLive c past → OpenLive c (past ++ Effect.Offer h xs ∷ rest) → InOrder c past → InOrder c (past ++ Effect.Offer h xs ∷ rest)
  order_offered past h [] rest fade left before after order = none_opened past h [] rest fade left before after order (then_open past h [] rest fade left before after order)
  order_offered past h (x ∷ xs) rest fade left before after order = by (region_spec c (region_at c h x.start)).shareable (has_tag (open_tags c past) x.tag) refl (then_open past h (x ∷ xs) rest fade left before after order)
    where
      by : (shareable has : Bool) → has_tag (open_tags c past) x.tag ≡ has →
          open_tags c (past ++ Effect.Offer h (x ∷ xs) ∷ rest) ≡ (if shareable && not has then open_tags c past ++ x.tag ∷ [] else open_tags c past) → InOrder c (past ++ Effect.Offer h (x ∷ xs) ∷ rest)
      by false has is told = none_opened past h (x ∷ xs) rest fade left before after order told
      by true true is told = none_opened past h (x ∷ xs) rest fade left before after order told
      by true false is told = one_opened past h (x ∷ xs) rest fade left before after order x.tag is told
