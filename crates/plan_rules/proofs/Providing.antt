-- What the two acts leave by which a host gains blocks of a region: they are offered, and the offer is taken whole.
use Rattle.std.proofs.Common.{◌≡◌, ℕ, ◌+◌, ◌*◌, ◌^◌, ◌<◌, ◌≤◌, false, ◌==◌, List, [], ◌∷◌, ◌++◌, length, map, refl, sym, ap, subst, ◌∙◌, append-nil, arith, ◌/◌, inl, inr, Bool}
use Rattle.std.proofs.{Math.Nat.mul-div_cancel, Math.Nat.mul-le-mul_right, lemmas.Bool.cases_Bool, lemmas.Bool.cases_eq, lemmas.Bool.eq-eqb, lemmas.Bool.eqb-true, lemmas.Bool.ne_eqb}
use Rattle.std.proofs.lemmas.List.{length-append, length-map, Elements.filter-append, Sums.sum_by-append}
use Rattle.std.specs.{List.AllByRecursion, List.filter, Prelude.drop, Prelude.flat_map, Prelude.if◌then◌else◌, Prelude.sum_by, Prelude.take, declared.result.Result.TheVariants.Ok}
use Rattle.dcd_base.specs.{declared.capacity.Extent.Extent, declared.ids.HostId.HostId, Words.zero_tag, Layouts.spelling}
use Rattle.cci_codec.specs.declared.messages.Request.{Request}
use Rattle.fm_payloads.specs.{ManagerPayloads.manager_fields, declared.requests.FmRequest.FmRequest}
use Rattle.host_payloads.specs.{HostPayloads.FitsListed, HostPayloads.host_fields, declared.requests.HostRequest.HostRequest}
use Rattle.offer_core.specs.Offerings.{oldest_of}
use Rattle.region_config.specs.{Configurations.Configuration, Soundness.IsSound, Granules.region_spec}
use Rattle.media_map.specs.Places.{region_at}
use Rattle.journal_core.specs.{Entries.effects, Holders.holds, declared.outcome.Effect.Effect, declared.outcome.HeldKind.HeldKind, declared.entries.Entry.Entry}
use Rattle.isolation_laws.specs.device_rules.proofs.{Homes.supported_some, LegalSound.legal_is_sound, ListSteps.each-back, ListSteps.each-change, ListSteps.each-front}
use Rattle.isolation_laws.specs.device_rules.specs.{Hosts.accepted_of, Hosts.block_of, Hosts.held_of, Hosts.offers_of, Legal.Legal, Pictures.picture_of, Standing.IsHome, Tags.region_of_offer}
use Rattle.plan_rules.proofs.{Acts.behind_is, Filters.fewer, FreeOffers.offers_free_blocks, Heard.IsHeard, Heard.add_heard, Heard.response_heard, PartsGivenBack.ends_low}
use Rattle.plan_rules.proofs.{UnbrokenActs.host_legal, UnbrokenActs.manager_legal, WholeOffers.takes_whole_offers}
use Rattle.plan_rules.specs.{ActsLeft.BytesCome, ActsLeft.IsPlain, ActsLeft.Unbroken, ActsLeft.journal_behind, ActsLeft.offering, ActsLeft.providing, Holding.extents_in_region, Holding.stepped}
use Rattle.plan_rules.specs.{Kept.KeepsOthers, Kept.bytes_in, Listing.listed, Listing.offer_taken, Taking.IsOfferTaken, Taking.IsOfferedFree, Taking.blocks_free_now, Taking.free_offer_of}
use Rattle.plan_rules.specs.declared.demands.Demand.{Demand}

-- what changes one host's lists, twice
others_then : (c : Configuration) (h : HostId) (first second third : List Effect) → KeepsOthers c h first second → KeepsOthers c h second third → KeepsOthers c h first third
others_then c h first second third a b = record {
  others = λ k other. record {
    accepted = (b.others k other).accepted ∙ (a.others k other).accepted;
    offers = (b.others k other).offers ∙ (a.others k other).offers;
    held = λ kind. (b.others k other).held kind ∙ (a.others k other).held kind;
  };
  held = λ kind. b.held kind ∙ a.held kind;
  blocks = λ r. b.blocks r ∙ a.blocks r;
}

-- the oldest offer, as it is told in a plan
oldest_is : (offers : List (List Extent)) → flat_map (λ (offer : List Extent). offer) (take 1 offers) ≡ oldest_of offers
oldest_is [] = refl
oldest_is (offer ∷ later) = append-nil offer

-- the extents that are offered to a host end below 2 ^ 64, and are few
record AreListable (xs : List Extent) : Type 0 where
  fit : AllByRecursion FitsListed xs
  few : length xs ≤ 64

listable : (c : Configuration) → IsSound c → (journal : List Entry) → Legal c journal → (h : HostId) → h < c.hosts → (offers : List (List Extent)) → offers_of h (effects journal) ≡ offers → AreListable (oldest_of offers)
listable c sound journal legal h host [] is = record { fit = tt; few = omega arith }
listable c sound journal legal h host (offer ∷ later) is =
    let p = picture_of c (effects journal) in
    let stands = (legal_is_sound c sound journal legal).stands in
    let rest : List Extent = flat_map (λ (xs : List Extent). xs) later in
    let all : AllByRecursion (IsHome c p h) (accepted_of c h (effects journal) ++ (offer ++ rest)) = subst (λ os. AllByRecursion (IsHome c p h) (accepted_of c h (effects journal) ++ flat_map (λ (xs : List Extent). xs) os)) is (stands.home h) in
    let few : length (accepted_of c h (effects journal) ++ (offer ++ rest)) ≤ 64 = subst (λ os. length (accepted_of c h (effects journal) ++ flat_map (λ (xs : List Extent). xs) os) ≤ 64) is (stands.few h) in
    record {
      fit = each-change (IsHome c p h) FitsListed (λ x home. (omega (arith, ends_low c sound journal legal h host x home), omega (arith, ends_low c sound journal legal h host x home))) offer
          (each-front (IsHome c p h) offer rest (each-back (IsHome c p h) (accepted_of c h (effects journal)) (offer ++ rest) all));
      few = omega (arith, few, length-append (accepted_of c h (effects journal)) (offer ++ rest), length-append offer rest);
    }

holds_of : HostId → ℕ → List Effect → Bool
holds_of h g past = holds h g past

sum_of : List Extent → ℕ
sum_of xs = sum_by (λ (x : Extent). x.length) xs

module _ (c : Configuration) (sound : IsSound c) (journal : List Entry) (legal : Legal c journal) (x : Demand) (n : ℕ) (plain : IsPlain c x) (fits : n * block_of c x.region (effects journal) < 2 ^ 64) where
  abbrev offered_then : List Entry
  offered_then = journal_behind c journal (offering c x n (effects journal))

  abbrev free : List Extent
  free = free_offer_of c (effects journal) x.host x.region (n * block_of c x.region (effects journal))

  -- the offer
  pub offering_leaves : Unbroken c journal (offering c x n (effects journal) ∷ []) →
      IsOfferedFree c journal x.host x.region (n * block_of c x.region (effects journal)) (record { tag = 0; opcode = 0x5604; payload = spelling (manager_fields (FmRequest.Add x.host 0 x.region (n * block_of c x.region (effects journal)) zero_tag [])) })
  offering_leaves none =
      offers_free_blocks c sound journal legal x.host x.region (n * block_of c x.region (effects journal)) (record { tag = 0; opcode = 0x5604; payload = spelling (manager_fields (FmRequest.Add x.host 0 x.region (n * block_of c x.region (effects journal)) zero_tag [])) })
      plain.private (add_heard c sound x.host x.region _ plain.host plain.region fits) none.0

  offer_legal : Legal c offered_then
  offer_legal = manager_legal c journal legal (FmRequest.Add x.host 0 x.region (n * block_of c x.region (effects journal)) zero_tag [])

  -- and its taking
  taking : (held : held_of x.host HeldKind.Responses (effects offered_then) ≡ []) → 0 < length (offers_of x.host (effects offered_then)) →
      let q : Request = record { tag = 0; opcode = 0x4802; payload = spelling (host_fields (HostRequest.AddResponse false (map listed (flat_map (λ (offer : List Extent). offer) (take 1 (offers_of x.host (effects offered_then))))))) } in
      IsOfferTaken c offered_then x.host q
  taking held some =
      let now = offers_of x.host (effects offered_then) in
      let can = listable c sound offered_then offer_legal x.host plain.host now refl in
      takes_whole_offers c sound offered_then offer_legal x.host _ held some
      (subst (λ xs. IsHeard (HostRequest.AddResponse false (map listed xs))) (sym (oldest_is now)) (response_heard (oldest_of now) (omega (arith, length-map (oldest_of now) listed, can.few)) can.fit)
      ∙ ap (λ xs. Ok (HostRequest.AddResponse false (map listed xs))) (oldest_is now))

  pub providing_leaves : Unbroken c journal (offering c x n (effects journal) ∷ []) → offers_of x.host (effects journal) ≡ [] → held_of x.host HeldKind.Responses (effects journal) ≡ [] →
      BytesCome c x (n * block_of c x.region (effects journal)) (effects journal) (effects (stepped c journal (providing c x n journal)))
  unfolding sum_of holds_of
  providing_leaves none offers held =
      let h : HostId = x.host in
      let r : ℕ = x.region in
      let end : List Entry = stepped c journal (providing c x n journal) in
      let one = offering_leaves none in
      let between = behind_is c journal (offering c x n (effects journal)) in
      let keeps_1 : KeepsOthers c h (effects journal) (effects offered_then) = subst (KeepsOthers c h (effects journal)) (sym between) one.keeps in
      let accepted_1 : accepted_of c h (effects offered_then) ≡ accepted_of c h (effects journal) = ap (accepted_of c h) between ∙ one.accepted in
      let offers_1 : offers_of h (effects offered_then) ≡ free ∷ [] = ap (offers_of h) between ∙ one.offers ∙ ap (λ os. os ++ free ∷ []) offers in
      let two = taking (keeps_1.held HeldKind.Responses ∙ held) (rw offers_1 (omega arith)) in
      let past_end = behind_is c offered_then (offer_taken h (effects offered_then)) in
      let legal_2 = host_legal c offered_then offer_legal h plain.host (HostRequest.AddResponse false (map listed (flat_map (λ (offer : List Extent). offer) (take 1 (offers_of h (effects offered_then)))))) in
      let keeps_2 : KeepsOthers c h (effects offered_then) (effects end) = subst (KeepsOthers c h (effects offered_then)) (sym past_end) two.keeps in
      let accepted : accepted_of c h (effects end) ≡ accepted_of c h (effects journal) ++ free = ap (accepted_of c h) past_end ∙ two.accepted ∙ (λ i. accepted_1 i ++ oldest_of (offers_1 i)) in
      let at : (s : ℕ) → extents_in_region c h s (effects end) ≡ extents_in_region c h s (effects journal) ++ filter (λ (y : Extent). region_at c h y.start == s) free =
      λ s. ap (filter (λ (y : Extent). region_at c h y.start == s)) accepted ∙ filter-append (λ (y : Extent). region_at c h y.start == s) (accepted_of c h (effects journal)) free in
      let here : extents_in_region c h r (effects end) ≡ extents_in_region c h r (effects journal) ++ free = at r ∙ ap (λ ys. extents_in_region c h r (effects journal) ++ ys) one.there in
      record {
        only = record {
          keeps = others_then c h (effects journal) (effects offered_then) (effects end) keeps_1 keeps_2;
          offers = ap (offers_of h) past_end ∙ two.offers ∙ ap (drop 1) offers_1 ∙ sym offers;
          elsewhere = λ s other. at s ∙ ap (λ ys. extents_in_region c h s (effects journal) ++ ys) (one.elsewhere s (λ is. other (sym is))) ∙ append-nil (extents_in_region c h s (effects journal));
        };
        more = ap sum_of here ∙ sum_by-append (λ (y : Extent). y.length) (extents_in_region c h r (effects journal)) free ∙ ap (λ m. bytes_in c h r (effects journal) + m) one.long;
        rises = λ g inside at_r holds. ap (holds_of h g) past_end ∙ two.holders h g (ap (holds_of h g) between ∙ one.holders h g ∙ holds);
      }

  -- ---- the free blocks

  -- an offer of some bytes in a region lies there
  lies_there : (xs : List Extent) → 0 < sum_by (λ (y : Extent). y.length) xs → filter (λ (y : Extent). region_at c x.host y.start == x.region) xs ≡ xs → region_of_offer c x.host xs ≡ x.region
  lies_there [] some all = absurd (omega (arith, some))
  lies_there (y ∷ ys) some all = elim (cases_Bool (region_at c x.host y.start == x.region)) [
    | inl here ↦ eqb-true (region_at c x.host y.start) x.region here
    | inr away ↦ absurd (omega (arith, ap length (rw away at all), fewer (λ (y : Extent). region_at c x.host y.start == x.region) ys))
  ]

  module _ (some : 0 < n) (none : Unbroken c journal (offering c x n (effects journal) ∷ [])) (offers : offers_of x.host (effects journal) ≡ []) (held : held_of x.host HeldKind.Responses (effects journal) ≡ []) where
    pub offer_taken_too : Unbroken c offered_then (offer_taken x.host (effects offered_then) ∷ [])
    offer_taken_too =
        let one = offering_leaves none in
        let between = behind_is c journal (offering c x n (effects journal)) in
        let two = taking (ap (held_of x.host HeldKind.Responses) between ∙ one.keeps.held HeldKind.Responses ∙ held) (rw (ap (offers_of x.host) between ∙ one.offers ∙ ap (λ os. os ++ free ∷ []) offers) (omega arith)) in
        (two.succeeds.unbroken, tt)

    -- so many blocks of the region are free no more, and of each other as many as before
    pub fewer_free : (s : ℕ) → s < length c.regions →
        blocks_free_now c s (effects (stepped c journal (providing c x n journal))) + (if x.region == s then n else 0) ≡ blocks_free_now c s (effects journal)
    fewer_free s known =
        let h : HostId = x.host in
        let size : ℕ = block_of c x.region (effects journal) in
        let positive : 0 < size = supported_some c x.region size ((legal_is_sound c sound journal legal).stands.blocks x.region plain.region) in
        let one = offering_leaves none in
        let between = behind_is c journal (offering c x n (effects journal)) in
        let offers_1 : offers_of h (effects offered_then) ≡ free ∷ [] = ap (offers_of h) between ∙ one.offers ∙ ap (λ os. os ++ free ∷ []) offers in
        let two = taking (ap (held_of h HeldKind.Responses) between ∙ one.keeps.held HeldKind.Responses ∙ held) (rw offers_1 (omega arith)) in
        let long : 0 < sum_by (λ (y : Extent). y.length) free = omega (arith, one.long, mul-le-mul_right size some, positive) in
        let there : region_of_offer c h (oldest_of (offers_of h (effects offered_then))) ≡ x.region = ap (λ os. region_of_offer c h (oldest_of os)) offers_1 ∙ lies_there free long one.there in
        let past_end = behind_is c offered_then (offer_taken h (effects offered_then)) in
        let after : blocks_free_now c s (effects (stepped c journal (providing c x n journal))) ≡ blocks_free_now c s (effects offered_then) =
        ap (blocks_free_now c s) past_end ∙ two.free (ap (λ r. (region_spec c r).shareable) there ∙ plain.private) s in
        let count : n * size / size ≡ n = mul-div_cancel n positive in
        elim (cases_eq x.region s) [
          | inl same ↦ subst (λ t. blocks_free_now c t (effects (stepped c journal (providing c x n journal))) ≡ blocks_free_now c t (effects offered_then) →
              blocks_free_now c t (effects (stepped c journal (providing c x n journal))) + (if x.region == t then n else 0) ≡ blocks_free_now c t (effects journal)) same
              (λ now. rw (eq-eqb x.region x.region refl) (omega (arith, now, ap (blocks_free_now c x.region) between, one.fewer, count))) after
          | inr other ↦ rw (ne_eqb x.region s other) (omega (arith, after, ap (blocks_free_now c s) between, one.others s known (λ is. other (sym is))))
        ]
