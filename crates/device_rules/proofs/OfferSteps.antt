-- The table after an offer: 5604h.
use Rattle.std.proofs.Common.{◌≡◌, ℕ, ◌<◌, Bool, true, false, ◌&&◌, ◌||◌, not, ◌==◌, List, [], ◌∷◌, ◌++◌, map, Some, refl, sym, ap, subst, ◌∙◌, inl, inr}
use Rattle.std.proofs.lemmas.{Bool.and_parts, Bool.cases_Bool, Bool.eq-eqb, Bool.false≢true, Bool.or_from, Bool.or_left, Bool.or_parts, Bool.or_right, List.map-append, List.Folds.list_any-append}
use Rattle.std.specs.{List.AllByRecursion, List.list_any, Prelude.if◌then◌else◌}
use Rattle.cci_codec.specs.dcd_base.specs.{Hosts.with_host, Hosts.without_host, Words.has_tag, Words.is_zero_tag, Words.same_tag, declared.capacity.Extent.Extent, declared.capacity.Tag.Tag}
use Rattle.cci_codec.specs.dcd_base.specs.declared.ids.HostId.{HostId}
use Rattle.extent_list.{proofs.EachTag.or_false, specs.ExtentLists.has_extent_of, specs.media_map.specs.Places.region_at, specs.media_map.specs.Places.run_of}
use Rattle.extent_list.specs.media_map.specs.region_config.specs.{Configurations.Configuration, Granules.hosts_of, Granules.region_spec, Soundness.IsSound}
use Rattle.journal_core.specs.declared.outcome.Effect.{Effect}
use Rattle.tag_refs.specs.{Tables.opened, declared.entries.TagEntry.TagEntry}
use Rattle.device_rules.proofs.{Adding.IsAdded, Holding.present_whole, Homes.made_region, HostBits.host_bits-change, HostBits.host_bits-none, HostBits.host_bits-same}
use Rattle.device_rules.proofs.{HostOfTagsSet.Told, HostOfTagsSet.told_entry, ListSteps.each-append, OneOffer.IsShared, OneOffer.offer_lives, Pictures.picture-append}
use Rattle.device_rules.{proofs.TagEntries.each_open, proofs.TagEntries.uses, proofs.TagSteps.same_tag-back, proofs.TagSteps.same_tag-is, proofs.TagSteps.same_tag-self, specs.Hosts.accepted_of}
use Rattle.device_rules.specs.{Pictures.Picture, Pictures.lives, Pictures.picture_after, Pictures.picture_of, Standing.Sound, TagCommands.host_bits, TagTable.IsEntry, TagTable.IsTable, TagTable.among}
use Rattle.device_rules.specs.Tags.{is_accepted_by, is_offered_to, is_referenced, last_offer, open_tags, tag_region, tag_runs}

-- extents of one tag have no other
none_of_tag : (t u : Tag) (xs : List Extent) → AllByRecursion (λ x. x.tag ≡ t) xs → same_tag t u ≡ false → has_extent_of u xs ≡ false
none_of_tag t u [] marked other = refl
none_of_tag t u (x ∷ xs) marked other = or_from (same_tag x.tag u) (has_extent_of u xs) (ap (λ v. same_tag v u) marked.0 ∙ other) (none_of_tag t u xs marked.1 other)

module _ (c : Configuration) (sound : IsSound c) (past : List Effect) (now : Sound c (picture_of c past)) (h : HostId) (r : ℕ) (tag : Tag) (x : Extent) (xs : List Extent)
    (a : IsAdded c (picture_of c past) h r tag (x ∷ xs)) where
  abbrev p : Picture
  p = picture_of c past

  abbrev new : List Extent
  new = x ∷ xs

  abbrev offer : List Effect
  offer = Effect.Offer h new ∷ []

  abbrev q : Picture
  q = picture_after c p offer

  told_q : picture_of c (past ++ Effect.Offer h (x ∷ xs) ∷ []) ≡ picture_after c (picture_of c past) (Effect.Offer h (x ∷ xs) ∷ [])
  told_q = picture-append c past offer

  known : h < c.hosts
  known = a.offer.host

  region_is : region_at c h x.start ≡ r
  region_is = made_region c h sound known (p.block r) r x (present_whole c sound p now.stands r a.offer.made.0.known) a.offer.made.0

  -- the last offers
  last_tag : q.last tag ≡ Some (h, x ∷ xs)
  last_tag =
      let it : has_extent_of tag (x ∷ xs) ≡ true = or_left (same_tag x.tag tag) (has_extent_of tag xs) (ap (λ u. same_tag u tag) a.offer.marked.0 ∙ same_tag-self tag) in
      ap (λ b. if b then Some (h, x ∷ xs) else p.last tag) it

  last_other : (t : Tag) → same_tag tag t ≡ false → q.last t ≡ p.last t
  last_other t other = ap (λ b. if b then Some (h, x ∷ xs) else p.last t) (none_of_tag tag t (x ∷ xs) a.offer.marked other)

  -- and the offers to the host
  offers_at : (t : Tag) → list_any (has_extent_of t) (q.offers h) ≡ (list_any (has_extent_of t) (p.offers h) || has_extent_of t (x ∷ xs))
  offers_at t =
      ap (λ b. list_any (has_extent_of t) (if b then p.offers h ++ (x ∷ xs) ∷ [] else p.offers h)) (eq-eqb h h refl)
      ∙ list_any-append (has_extent_of t) (p.offers h) ((x ∷ xs) ∷ [])
      ∙ ap (λ b. list_any (has_extent_of t) (p.offers h) || b) (or_false (has_extent_of t (x ∷ xs)))

  offers_elsewhere : (t : Tag) → same_tag tag t ≡ false → list_any (has_extent_of t) (q.offers h) ≡ list_any (has_extent_of t) (p.offers h)
  offers_elsewhere t other = offers_at t ∙ ap (λ b. list_any (has_extent_of t) (p.offers h) || b) (none_of_tag tag t (x ∷ xs) a.offer.marked other) ∙ or_false (list_any (has_extent_of t) (p.offers h))

  offered_now : list_any (has_extent_of tag) (q.offers h) ≡ true
  offered_now = offers_at tag ∙ or_right (list_any (has_extent_of tag) (p.offers h)) (has_extent_of tag (x ∷ xs))
      (or_left (same_tag x.tag tag) (has_extent_of tag xs) (ap (λ u. same_tag u tag) a.offer.marked.0 ∙ same_tag-self tag))

  offers_others : (k : HostId) → (h == k) ≡ false → q.offers k ≡ p.offers k
  offers_others k other = ap (λ b. if b then p.offers k ++ (x ∷ xs) ∷ [] else p.offers k) other

  -- the open tags
  tags_stay : ((region_spec c r).shareable && not (has_tag (open_tags c past) tag)) ≡ false → q.tags ≡ p.tags
  tags_stay closed = ap (λ b. if b then p.tags ++ x.tag ∷ [] else p.tags) ((λ i. (region_spec c (region_is i)).shareable && not (has_tag p.tags (a.offer.marked.0 i))) ∙ closed)

  tags_more : (region_spec c r).shareable ≡ true → has_tag (open_tags c past) tag ≡ false → q.tags ≡ p.tags ++ tag ∷ []
  tags_more shared closed =
      ap (λ b. if b then p.tags ++ x.tag ∷ [] else p.tags) ((λ i. (region_spec c (region_is i)).shareable && not (has_tag p.tags (a.offer.marked.0 i))) ∙ (λ i. shared i && not (closed i)))
      ∙ ap (λ t. p.tags ++ t ∷ []) a.offer.marked.0

  -- an open tag is another, where the tag is not open
  others_open : has_tag (open_tags c past) tag ≡ false → (t : Tag) → has_tag (open_tags c past) t ≡ true → same_tag tag t ≡ false
  others_open closed t open_tag = elim (cases_Bool (same_tag tag t)) [
    | inl same ↦ absurd (false≢true (sym closed ∙ ap (has_tag p.tags) (same_tag-is tag t same) ∙ open_tag))
    | inr other ↦ other
  ]

  -- ---- the tag is not open

  closed_told : has_tag (open_tags c past) tag ≡ false → Told c h [] (picture_of c past) (picture_after c (picture_of c past) (Effect.Offer h (x ∷ xs) ∷ []))
  closed_told closed = record {
    region = λ t open_tag. ap (tag_region c) (last_other t (others_open closed t open_tag));
    runs = λ t open_tag. ap (tag_runs c) (last_other t (others_open closed t open_tag));
    referenced = λ t. refl;
    accepted_others = λ k other. refl;
    offers_others = offers_others;
    accepted_kept = λ t open_tag untold. refl;
    offers_kept = λ t open_tag untold. offers_elsewhere t (others_open closed t open_tag);
  }

  at_mid : {told : List Tag} → Told c h told (picture_of c past) (picture_after c (picture_of c past) (Effect.Offer h (x ∷ xs) ∷ [])) →
      Told c h told (picture_of c past) (picture_of c (past ++ Effect.Offer h (x ∷ xs) ∷ []))
  at_mid {told = told} it = subst (Told c h told (picture_of c past)) (sym told_q) it

  -- an entry stays right
  old_entry : has_tag (open_tags c past) tag ≡ false → (e : TagEntry) → has_tag (open_tags c past) e.tag ≡ true → IsEntry c past e → IsEntry c (past ++ Effect.Offer h (x ∷ xs) ∷ []) e
  old_entry closed e open_tag is = told_entry c past (Effect.Offer h (x ∷ xs) ∷ []) h known [] (at_mid (closed_told closed)) (λ t. true) (λ t. true) (λ t none. absurd (false≢true none)) (λ t none. absurd (false≢true none)) e open_tag is

  module _ (entries : List TagEntry) (table : IsTable c past entries) where
    -- where nothing is shared
    pub private_table : has_tag (open_tags c past) tag ≡ false → (region_spec c r).shareable ≡ false → IsTable c (past ++ Effect.Offer h (x ∷ xs) ∷ []) entries
    private_table closed private = record {
      tags_are = table.tags_are ∙ sym (ap (λ m. m.tags) told_q ∙ tags_stay (ap (λ b. b && not (has_tag (open_tags c past) tag)) private));
      each = each_open c past entries table (IsEntry c (past ++ Effect.Offer h (x ∷ xs) ∷ [])) (old_entry closed);
    }

    -- where the tag is opened
    new_entry : uses c past tag ≡ false → IsEntry c (past ++ Effect.Offer h (x ∷ xs) ∷ []) (opened tag r (map (run_of c h) (x ∷ xs)) h)
    new_entry unused =
        let parts = or_parts (list_any (λ k. is_accepted_by c tag past k || is_offered_to tag past k) (hosts_of c)) (is_referenced tag past) unused in
        let accepted_none = none_pass (is_accepted_by c tag past) (is_offered_to tag past) (hosts_of c) parts.0 in
        let no_holders : host_bits c (is_accepted_by c tag past) ≡ 0 = host_bits-none c (is_accepted_by c tag past) accepted_none.0 in
        let no_offers : host_bits c (is_offered_to tag past) ≡ 0 = host_bits-none c (is_offered_to tag past) accepted_none.1 in
        let now_offered : is_offered_to tag (past ++ Effect.Offer h (x ∷ xs) ∷ []) h ≡ true = ap (λ m. list_any (has_extent_of tag) (m.offers h)) told_q ∙ offered_now in
        let last : last_offer tag (past ++ Effect.Offer h (x ∷ xs) ∷ []) ≡ Some (h, x ∷ xs) = ap (λ m. m.last tag) told_q ∙ last_tag in
        record {
          region_is = sym (ap (tag_region c) last ∙ ap (λ k. Some k) region_is);
          runs_are = sym (ap (tag_runs c) last);
          holders_are = sym (host_bits-same c (is_accepted_by c tag past) (is_accepted_by c tag (past ++ Effect.Offer h (x ∷ xs) ∷ [])) (λ k. ap (λ m. has_extent_of tag (m.accepted k)) told_q) ∙ no_holders);
          offered_are = sym (host_bits-change c h (is_offered_to tag past) (is_offered_to tag (past ++ Effect.Offer h (x ∷ xs) ∷ [])) known
              (λ k other. ap (λ m. list_any (has_extent_of tag) (m.offers k)) told_q ∙ ap (list_any (has_extent_of tag)) (offers_others k other))
              ∙ (λ i. if now_offered i then with_host (no_offers i) h else without_host (no_offers i) h));
          referenced_is = sym (ap (λ m. m.referenced tag) told_q ∙ parts.1);
        }
      where
        none_pass : (f g : HostId → Bool) (ks : List HostId) → list_any (λ k. f k || g k) ks ≡ false → (list_any f ks ≡ false) × (list_any g ks ≡ false)
        none_pass f g [] none = (refl, refl)
        none_pass f g (k ∷ ks) none =
            let first = or_parts (f k || g k) (list_any (λ l. f l || g l) ks) none in
            let here = or_parts (f k) (g k) first.0 in
            let rest = none_pass f g ks first.1 in
            (or_from (f k) (list_any f ks) here.0 rest.0, or_from (g k) (list_any g ks) here.1 rest.1)

    pub opened_table : (region_spec c r).shareable ≡ true → has_tag (open_tags c past) tag ≡ false → uses c past tag ≡ false →
        IsTable c (past ++ Effect.Offer h (x ∷ xs) ∷ []) (entries ++ opened tag r (map (run_of c h) (x ∷ xs)) h ∷ [])
    opened_table shared closed unused = record {
      tags_are = map-append (λ (e : TagEntry). e.tag) entries (opened tag r (map (run_of c h) (x ∷ xs)) h ∷ []) ∙ ap (λ tags. tags ++ tag ∷ []) table.tags_are ∙ sym (ap (λ m. m.tags) told_q ∙ tags_more shared closed);
      each = each-append (IsEntry c (past ++ Effect.Offer h (x ∷ xs) ∷ [])) entries (opened tag r (map (run_of c h) (x ∷ xs)) h ∷ [])
          (each_open c past entries table (IsEntry c (past ++ Effect.Offer h (x ∷ xs) ∷ [])) (old_entry closed)) (new_entry unused, tt);
    }

  -- ---- the tag is open

  module _ (is_shared : IsShared c (picture_of c past) h r tag (x ∷ xs)) (of_region : tag_region c (last_offer tag past) ≡ Some r) where
    shared_told : Told c h (tag ∷ []) (picture_of c past) (picture_after c (picture_of c past) (Effect.Offer h (x ∷ xs) ∷ []))
    shared_told = record {
      region = λ t open_tag. by_tag (λ u. tag_region c (q.last u) ≡ tag_region c (p.last u)) t
          (ap (tag_region c) last_tag ∙ ap (λ k. Some k) region_is ∙ sym of_region) (λ other. ap (tag_region c) (last_other t other));
      runs = λ t open_tag. by_tag (λ u. tag_runs c (q.last u) ≡ tag_runs c (p.last u)) t
          (ap (tag_runs c) last_tag ∙ sym is_shared.same_runs) (λ other. ap (tag_runs c) (last_other t other));
      referenced = λ t. refl;
      accepted_others = λ k other. refl;
      offers_others = offers_others;
      accepted_kept = λ t open_tag untold. refl;
      offers_kept = λ t open_tag untold. offers_elsewhere t (same_tag-back tag t ∙ (or_parts (same_tag t tag) false untold).0);
    }
      where
        by_tag : (P : Tag → Type 0) (t : Tag) → P tag → (same_tag tag t ≡ false → P t) → P t
        by_tag P t here there = elim (cases_Bool (same_tag tag t)) [
          | inl same ↦ subst P (same_tag-is tag t same) here
          | inr other ↦ there other
        ]

    pub shared_tags : open_tags c (past ++ Effect.Offer h (x ∷ xs) ∷ []) ≡ open_tags c past
    shared_tags = ap (λ m. m.tags) told_q ∙ tags_stay (ap (λ b. (region_spec c r).shareable && not b) is_shared.opened ∙ none (region_spec c r).shareable)
      where
        none : (b : Bool) → (b && false) ≡ false
        none true = refl
        none false = refl

    pub shared_now : Told c h (tag ∷ []) (picture_of c past) (picture_of c (past ++ Effect.Offer h (x ∷ xs) ∷ []))
    shared_now = at_mid shared_told

    pub shared_held : (t : Tag) → has_tag (tag ∷ []) t ≡ true → among (accepted_of c h past) t ≡ is_accepted_by c t (past ++ Effect.Offer h (x ∷ xs) ∷ []) h
    shared_held t is_told = sym (ap (λ m. has_extent_of t (m.accepted h)) told_q)

    pub shared_offered : (t : Tag) → has_tag (tag ∷ []) t ≡ true → true ≡ is_offered_to t (past ++ Effect.Offer h (x ∷ xs) ∷ []) h
    shared_offered t is_told =
        let is : t ≡ tag = same_tag-is t tag (sym (or_false (same_tag t tag)) ∙ is_told) in
        sym (ap (λ m. list_any (has_extent_of t) (m.offers h)) told_q ∙ ap (λ u. list_any (has_extent_of u) (q.offers h)) is ∙ offered_now)

    -- and each open tag is used still
    pub shared_uses : (t : Tag) → has_tag (open_tags c past) t ≡ true → uses c (past ++ Effect.Offer h (x ∷ xs) ∷ []) t ≡ true
    shared_uses t open_tag =
        let alive : lives c q t ≡ true = offer_lives c sound p now h r tag x xs a.offer a.way t (ap (λ tags. has_tag tags t) (sym (ap (λ m. m.tags) told_q) ∙ shared_tags) ∙ open_tag) in
        (and_parts (not (is_zero_tag t)) (uses c (past ++ Effect.Offer h (x ∷ xs) ∷ []) t) (ap (λ m. lives c m t) told_q ∙ alive)).1
