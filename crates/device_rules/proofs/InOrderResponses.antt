-- After a legal journal a response in one message that lists extents of the oldest offer in order breaks no rule.
use Rattle.std.proofs.Common.{◌≡◌, ◌⊎◌, ℕ, ◌+◌, ◌<◌, ◌≤◌, Bool, true, false, ◌&&◌, List, [], ◌∷◌, length, map, None, refl, ap, sym, subst, ◌∙◌, inl, inr, arith, leb, ltb, length-append}
use Rattle.std.proofs.lemmas.{Bool.cases_Bool, Bool.cases_lt, Bool.false≢true, Bool.false_from_ne_true, Bool.or_parts, List.Concat.length-flat_map, List.Elements.All-from_recursion}
use Rattle.std.{proofs.lemmas.List.Kept.AllPairs-cons, specs.List.AllByRecursion, specs.Prelude.AllPairs, specs.Prelude.IsFalse, specs.Prelude.IsTrue, specs.Prelude.flat_map}
use Rattle.cci_codec.specs.dcd_base.specs.{declared.capacity.Extent.Extent, declared.ids.HostId.HostId, Words.has_granule}
use Rattle.host_payloads.specs.declared.requests.HostRequest.{HostRequest}
use Rattle.extent_list.specs.{ExtentLists.count_in, ExtentLists.overlaps, Listing.lies_in_region, media_map.specs.Places.region_at, media_map.specs.Places.run_of}
use Rattle.extent_list.specs.media_map.specs.region_config.specs.{Configurations.Configuration, Granules.region_spec, Granules.with_blocks, Soundness.IsSound}
use Rattle.offer_core.{proofs.Completeness.in_order_breaks_nothing, specs.InOrder.AreSome, specs.InOrder.IsInOrder, specs.InOrder.IsSoundIn, specs.InOrder.SameAddresses}
use Rattle.offer_core.specs.{Offerings.Offering, Offerings.lists_of, Responses.respond_rule, declared.offer.Offer.Offer}
use Rattle.journal_core.specs.{declared.entries.Entry.Entry, Entries.effects}
use Rattle.device_rules.proofs.{Holding.home_made, Holding.made_aligned, Holding.made_lies, Holding.present_whole, Homes.base_same, Homes.length_same, Homes.regions_same, Homes.shareable_same}
use Rattle.device_rules.proofs.LegalSound.{legal_is_sound}
use Rattle.device_rules.proofs.{ListSteps.each-back, ListSteps.each-both, ListSteps.each-change, ListSteps.each-front, ListSteps.many, ListSteps.many-any, ListSteps.many-append, OneOffer.reaches}
use Rattle.device_rules.{proofs.Overlaps.common, proofs.SoundPresent.present_sound, specs.Answers.host_outcome, specs.Answers.host_result, specs.Answers.reply_with, specs.Answers.unless}
use Rattle.device_rules.specs.{InOrderResponses.AllowsInOrder, InOrderResponses.SucceedsInOrder, Legal.Legal, Pictures.Picture, Pictures.count_on, Pictures.extents_at, Pictures.picture_of}
use Rattle.device_rules.specs.{Standing.IsHome, Standing.IsMade, Standing.IsTogether, Standing.Stands, Tags.region_of_offer, Views.View, Views.view_of}

-- the offers of these extents
abbrev offers_of : List (List Extent) → List Offer
offers_of later = map (λ xs. record { extents = xs }) later

lists_back : (later : List (List Extent)) → lists_of (offers_of later) ≡ later
lists_back [] = refl
lists_back (xs ∷ later) = ap (λ rest. xs ∷ rest) (lists_back later)

module _ (c : Configuration) (sound : IsSound c) (p : Picture) (s : Stands c p) (h : HostId) (host : h < c.hosts)
    (offer : List Extent) (later : List (List Extent)) (oldest : p.offers h ≡ offer ∷ later) where
  abbrev r : ℕ
  r = region_of_offer c h offer

  -- the extent is made of present blocks of the region in which it begins
  abbrev IsMadeThere : Extent → Type 0
  IsMadeThere x = IsMade c (p.block (region_at c h x.start)) h (region_at c h x.start) x

  -- what holds of the host's extents holds of the offer's
  of_offer : (P : Extent → Type 0) → AllByRecursion P (extents_at p h) → AllByRecursion P offer
  of_offer P each = each-front P offer (flat_map (λ xs. xs) later)
      (subst (λ offers. AllByRecursion P (flat_map (λ xs. xs) offers)) oldest (each-back P (p.accepted h) (flat_map (λ xs. xs) (p.offers h)) each))

  -- all its extents lie in the region in which the first one begins
  in_one : IsTogether c h offer
  in_one = (subst (AllByRecursion (IsTogether c h)) oldest (s.together h)).0

  made : AllByRecursion (IsMade c (p.block r) h r) offer
  made = each-both (IsHome c p h) (λ x. region_at c h x.start ≡ r) (IsMade c (p.block r) h r)
      (λ x a at. subst (λ k. IsMade c (p.block k) h k x) at (home_made c sound p s h x host a)) offer (of_offer (IsHome c p h) (s.home h)) in_one.1

  pub made_there : AllByRecursion IsMadeThere offer
  made_there = each-change (IsHome c p h) IsMadeThere (λ x a. home_made c sound p s h x host a) offer (of_offer (IsHome c p h) (s.home h))

  lies_same : (k : ℕ) (x : Extent) → lies_in_region (with_blocks c p.block) h k x ≡ lies_in_region c h k x
  lies_same k x = λ i. ltb k (regions_same c p.block i) && leb (base_same c p.block h k i) x.start && leb (x.start + x.length) (base_same c p.block h k i + length_same c p.block k i)

  pub each_sound : AllByRecursion (IsSoundIn (with_blocks c p.block) h r) offer
  each_sound = each-change (IsMade c (p.block r) h r) (IsSoundIn (with_blocks c p.block) h r)
      (λ x m. record { some = m.some; within = lies_same r x ∙ made_lies c (p.block r) h r x m; aligned = made_aligned c p.block h r x m }) offer made

  -- ---- they lie apart

  pub once : (g : ℕ) → count_on c h g offer ≤ 1
  once g =
      let on : Extent → Bool = λ x. has_granule (run_of c h x) g in
      let all = many-append on (p.accepted h) (flat_map (λ xs. xs) (p.offers h)) in
      let offered = ap (λ offers. many on (flat_map (λ xs. xs) offers)) oldest ∙ many-append on offer (flat_map (λ xs. xs) later) in
      omega (arith, s.once h g, all, offered)

  -- an extent shares no address with others, where all together have each granule once
  none_shares : (x : Extent) (xs : List Extent) → IsMadeThere x → AllByRecursion IsMadeThere xs → ((g : ℕ) → has_granule (run_of c h x) g ≡ true → reaches c h xs g ≡ false) → AllByRecursion (λ y. IsFalse (overlaps x y)) xs
  none_shares x [] m each apart = tt
  none_shares x (y ∷ ys) m each apart = (
    false_from_ne_true (overlaps x y) (λ shares.
        let g = common c h sound host p.block (present_whole c sound p s) y x each.0 m shares in
        absurd (false≢true (sym (or_parts (has_granule (run_of c h y) g.0) (reaches c h ys g.0) (apart g.0 g.2)).0 ∙ g.1))),
    none_shares x ys m each.1 (λ g has. (or_parts (has_granule (run_of c h y) g) (reaches c h ys g) (apart g has)).1),
  )

  pub all_apart : (xs : List Extent) → AllByRecursion IsMadeThere xs → ((g : ℕ) → count_on c h g xs ≤ 1) → AllPairs (λ x y. IsFalse (overlaps x y)) xs
  all_apart [] each single = λ i j d less within. absurd (omega (arith, within))
  all_apart (x ∷ xs) each single =
      let apart : (g : ℕ) → has_granule (run_of c h x) g ≡ true → reaches c h xs g ≡ false = λ g has. false_from_ne_true (reaches c h xs g) (λ more.
      (let all = single g in absurd (omega (arith, (rw has at all), many-any (λ y. has_granule (run_of c h y) g) xs more)))) in
      AllPairs-cons (λ x y. IsFalse (overlaps x y)) x xs
      (All-from_recursion (λ y. IsFalse (overlaps x y)) xs (none_shares x xs each.0 each.1 apart))
      (all_apart xs each.1 (λ g. elim (cases_Bool (has_granule (run_of c h x) g)) [
        | inl has ↦ (let all = single g in omega (arith, (rw has at all)))
        | inr other ↦ (let all = single g in rw other at all)
      ]))

  -- ---- so the row of the response breaks no rule

  few : length (p.accepted h) + count_in (offer ∷ later) ≤ 64
  few =
      let counted : length (flat_map (λ (xs : List Extent). xs) (p.offers h)) ≡ count_in (offer ∷ later) = length-flat_map (λ xs. xs) (p.offers h) ∙ ap count_in oldest in
      omega (arith, s.few h, length-append (p.accepted h) (flat_map (λ xs. xs) (p.offers h)), counted)

  pub breaks_nothing : (held : List Extent) → held ≡ [] → (list : List Extent) → AreSome SameAddresses list offer →
      (IsTrue (region_spec c (region_of_offer c h offer)).shareable → (list ≡ []) ⊎ (length list ≡ length offer)) →
      respond_rule (with_blocks c p.block) h (length (p.accepted h)) (p.offers h) held false list ≡ None
  breaks_nothing held alone list some shared =
      let first : Offer = record { extents = offer } in
      let old : Offering = record { offers = first ∷ offers_of later; held = [] } in
      let back : lists_of (first ∷ offers_of later) ≡ offer ∷ later = ap (λ rest. offer ∷ rest) (lists_back later) in
      let in_order : IsInOrder (with_blocks c p.block) h old false list = record {
        offer = first;
        later = offers_of later;
        region = r;
        oldest = refl;
        sound = record {
          each = All-from_recursion (IsSoundIn (with_blocks c p.block) h r) offer each_sound;
          apart = all_apart offer made_there once;
        };
        alone = refl;
        last = refl;
        some = some;
        shared = λ is. shared (sym (shareable_same c p.block r) ∙ is);
      } in
      let row = in_order_breaks_nothing (with_blocks c p.block) h (length (p.accepted h)) old false list (present_sound c p.block sound s.blocks) host
      (subst (λ lists. length (p.accepted h) + count_in lists ≤ 64) (sym back) few) in_order in
      (λ i. respond_rule (with_blocks c p.block) h (length (p.accepted h)) ((oldest ∙ sym back) i) (alone i) false list) ∙ row

-- After a legal journal such a response breaks no rule.
pub legal_allows : (c : Configuration) → IsSound c → (journal : List Entry) → Legal c journal → AllowsInOrder c journal
legal_allows c sound journal legal h list o =
    let p : Picture = picture_of c (effects journal) in
    let s : Stands c p = (legal_is_sound c sound journal legal).stands in
    let host : h < c.hosts = elim (cases_lt h c.hosts) [
      | inl it ↦ it
      | inr past ↦ absurd (omega (arith, ap length (sym o.oldest ∙ s.no_offers h past)))
    ] in
    breaks_nothing c sound p s h host o.offer o.later o.oldest (view_of c h journal).responses o.alone list o.some o.shared

-- and succeeds
pub legal_succeeds : (c : Configuration) → IsSound c → (journal : List Entry) → Legal c journal → SucceedsInOrder c journal
legal_succeeds c sound journal legal h q list o request =
    let v : View = view_of c h journal in
    ap (λ read. reply_with q (host_result c h v read)) request
    ∙ ap (λ rule. reply_with q (unless rule (host_outcome c h v (HostRequest.AddResponse false list)))) (legal_allows c sound journal legal h list o)
