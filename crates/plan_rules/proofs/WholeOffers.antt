-- A host that takes its oldest offer whole is never refused, and no block gets free or taken by it.
use Rattle.std.proofs.Common.{◌≡◌, ◌||◌, ℕ, ◌<◌, Bool, true, false, not, ◌&&◌, ◌==◌, List, [], ◌∷◌, ◌++◌, length, map, refl, ap, sym, subst, ◌∙◌, inl, inr, arith, append_assoc, append-nil}
use Rattle.std.proofs.lemmas.{Bool.cases_Bool, Bool.cases_lt, Bool.eq-eqb, Bool.false_from_ne_true, List.length-map, List.Elements.All-from_recursion}
use Rattle.std.specs.{List.AllByRecursion, List.filter, List.list_all, Prelude.drop, Prelude.flat_map, Prelude.fold, Prelude.if◌then◌else◌, declared.result.Result.TheVariants.Ok}
use Rattle.cci_codec.specs.declared.messages.Request.{Request}
use Rattle.dcd_base.specs.{Words.has_granule, Words.has_in_runs, Words.has_tag, declared.capacity.Extent.Extent, declared.capacity.Tag.Tag, declared.ids.HostId.HostId, declared.media.Run.Run}
use Rattle.dcd_base.specs.declared.steps.LogId.{LogId}
use Rattle.event_records.specs.declared.events.Event.{Event}
use Rattle.extent_list.specs.ExtentLists.{marked, tags_of}
use Rattle.host_payloads.specs.{HostPayloads.host_request, declared.requests.HostRequest.HostRequest}
use Rattle.media_map.specs.Places.{region_at, run_of}
use Rattle.offer_core.{proofs.Owners.marked_all, proofs.Owners.owned, specs.InOrder.AreSome, specs.InOrder.none, specs.InOrder.taken, specs.InOrder.IsSoundIn, specs.InOrder.SameAddresses}
use Rattle.offer_core.specs.Offerings.{oldest_of}
use Rattle.region_config.specs.{Configurations.Configuration, Granules.region_of, Granules.region_spec, Granules.with_blocks, Soundness.IsSound}
use Rattle.journal_core.specs.{Entries.effects, declared.entries.Entry.Entry, declared.outcome.Effect.Effect, declared.outcome.HeldKind.HeldKind, Holders.holding_after, Holders.holds}
use Rattle.isolation_laws.proofs.RemovalViews.{no_block as leaves_blocks}
use Rattle.isolation_laws.specs.device_rules.proofs.{EffectKinds.any_log, EffectKinds.tells_any, EffectKinds.told_passes, FreeGranules.free_none, Holding.present_whole, Homes.made_of_region}
use Rattle.isolation_laws.specs.device_rules.proofs.InOrderResponses.{all_apart, each_sound, legal_allows, made_there, once}
use Rattle.isolation_laws.specs.device_rules.proofs.{Leaving.is_quiet, Leaving.map_passes, LegalSound.legal_is_sound}
use Rattle.isolation_laws.specs.device_rules.proofs.ListSteps.{any-map, each-at, each-back, each-both, each-front, many, many-any, many-append}
use Rattle.isolation_laws.specs.device_rules.proofs.{LogHistories.leaves_logs, OneOffer.reaches, RunEffects.holding-takes, RunEffects.in_extents, RunEffects.takes}
use Rattle.isolation_laws.specs.device_rules.proofs.{StatusAnswers.status-taken, StatusAnswers.status-unanswered, StatusParts.status-quiet}
use Rattle.isolation_laws.specs.device_rules.specs.{Adding.is_free_now, Adding.region_free_blocks, Answers.host_outcome}
use Rattle.isolation_laws.specs.device_rules.specs.{Hosts.accepted_after, Hosts.accepted_of, Hosts.block_of, Hosts.held_of, Hosts.offers_after, Hosts.offers_of, Legal.Legal, Logs.log_of}
use Rattle.isolation_laws.specs.device_rules.specs.{Outcomes.Outcome, Outcomes.effects_of, Outcomes.ended, Outcomes.entered_all, Pictures.Picture, Pictures.extents_at, Pictures.picture_of}
use Rattle.isolation_laws.specs.device_rules.specs.ResponseOutcomes.{answered, respond_changes, unhold}
use Rattle.isolation_laws.specs.device_rules.specs.Standing.{IsMade, IsTogether, Sound, Stands}
use Rattle.isolation_laws.specs.device_rules.specs.{Tags.is_free, Tags.is_live, Tags.open_tags, Tags.region_of_offer, Tags.status, Views.view_after, Views.view_of}
use Rattle.plan_rules.proofs.{Answering.host_does, ClosedTags.IsClosed}
use Rattle.plan_rules.proofs.Keeping.{leaves_held, leaves_host, others_kept, outcome_accepted, outcome_blocks, outcome_held, outcome_holds, outcome_offers}
use Rattle.plan_rules.{proofs.KeptLogs.response_kept, proofs.PrivateTags.legal_is_closed, proofs.WholeTags.each_distinct, proofs.WholeTags.tags_each, specs.Kept.KeepsOthers, specs.Listing.listed}
use Rattle.plan_rules.specs.Taking.{IsOfferTaken, TakesWholeOffers, blocks_free_now}

-- all of a list, in order
all_same : (ys : List Extent) → AreSome SameAddresses (map listed ys) ys
all_same [] = none
all_same (y ∷ ys) = taken (record { start = refl; length = refl }) (all_same ys)

same_runs : (c : Configuration) (h : HostId) (ys : List Extent) → map (run_of c h) (map listed ys) ≡ map (run_of c h) ys
same_runs c h [] = refl
same_runs c h (y ∷ ys) = ap (λ runs. run_of c h y ∷ runs) (same_runs c h ys)

over_takes : {B : Type 0} (c : Configuration) (h : HostId) (f : B → Effect → B) → ((b : B) (run : Run) → f b (Effect.Take h run) ≡ b) → (b : B) (xs : List Extent) → fold f b (takes c h xs) ≡ b
over_takes c h f stays b [] = refl
over_takes c h f stays b (x ∷ xs) = ap (λ a. fold f a (takes c h xs)) (stays b (run_of c h x)) ∙ over_takes c h f stays b xs

-- ---- the status of a granule behind a command that ends no tag

pub status_told : (c : Configuration) (g : ℕ) (past : List Effect) (o : Outcome) → ended c past o.changes o.tags ≡ [] → status c g (past ++ effects_of c past o) ≡ status c g (past ++ o.changes)
status_told c g past o over =
    let records : List Effect = flat_map (λ (n : LogId × List Event). entered_all n.0 (log_of n.0 past) n.1) o.log_records in
    let told : past ++ effects_of c past o ≡ (past ++ o.changes) ++ flat_map (λ (n : LogId × List Event). entered_all n.0 (log_of n.0 past) n.1) o.log_records =
    ap (λ ts. past ++ ((o.changes ++ map Effect.TagEnd ts) ++ records)) over ∙ ap (λ es. past ++ (es ++ records)) (append-nil o.changes) ∙ sym (append_assoc past o.changes records) in
    ap (status c g) told ∙ status-quiet c g (past ++ o.changes) records (told_passes is_quiet any_log (λ l e. record { logged = λ event. refl; missed = refl }) past o.log_records (tells_any o.log_records))

-- and the free blocks, where the freeness of each granule is as it was
pub blocks_stay : (c : Configuration) (before after : List Effect) → ((r : ℕ) → block_of c r after ≡ block_of c r before) → ((g : ℕ) → is_free_now c after g ≡ is_free_now c before g) → (r : ℕ) → blocks_free_now c r after ≡ blocks_free_now c r before
blocks_stay c before after blocks free r = λ i. region_free_blocks (with_blocks c (λ k. blocks k i)) (λ g. free g i) r

none_ended : (p q : Tag → Bool) (tags : List Tag) → AllByRecursion (λ t. p t ≡ false) tags → filter (λ t. p t && not (q t)) tags ≡ []
none_ended p q [] each = refl
none_ended p q (t ∷ tags) each = rw each.0 (none_ended p q tags each.1)

module _ (c : Configuration) (sound : IsSound c) (journal : List Entry) (legal : Legal c journal) (h : HostId) (q : Request) (offer : List Extent) (later : List (List Extent))
    (oldest : offers_of h (effects journal) ≡ offer ∷ later) (alone : held_of h HeldKind.Responses (effects journal) ≡ [])
    (read : host_request q.opcode q.payload ≡ Ok (HostRequest.AddResponse false (map listed offer))) where
  abbrev past : List Effect
  past = effects journal

  abbrev p : Picture
  p = picture_of c (effects journal)

  before : Sound c (picture_of c (effects journal))
  before = legal_is_sound c sound journal legal

  s : Stands c (picture_of c (effects journal))
  s = before.stands

  host : h < c.hosts
  host = elim (cases_lt h c.hosts) [
    | inl it ↦ it
    | inr beyond ↦ absurd (omega (arith, ap length (sym oldest ∙ s.no_offers h beyond)))
  ]

  abbrev o : Outcome
  o = host_outcome c h (view_of c h journal) (HostRequest.AddResponse false (map listed offer))

  abbrev r : ℕ
  r = region_of_offer c h offer

  marks : map (marked offer) (map listed offer) ≡ offer
  marks =
      let w : Configuration = with_blocks c p.block in
      marked_all w h r offer
      (owned w h r (all_same offer) (All-from_recursion (IsSoundIn w h r) offer (each_sound c sound p s h host offer later oldest))
      (all_apart c sound p s h host offer later oldest offer (made_there c sound p s h host offer later oldest) (once c sound p s h host offer later oldest)))
      (length-map offer listed)

  changed : o.changes ≡ Effect.Answer h offer ∷ takes c h (map listed offer)
  changed = (λ i. unhold h HeldKind.Responses (alone i) ++ answered c h (oldest i) (alone i ++ map listed offer)) ∙ ap (λ ys. Effect.Answer h ys ∷ takes c h (map listed offer)) marks

  pass : (t : Effect → Bool) → t (Effect.Answer h offer) ≡ true → ((run : Run) → t (Effect.Take h run) ≡ true) → list_all t o.changes ≡ true
  pass t first each = ap (list_all t) changed ∙ (λ i. first i && map_passes t (λ x. Effect.Take h (run_of c h x)) (λ x. each (run_of c h x)) (map listed offer) i)

  -- ---- the granules

  module _ (private : (region_spec c (region_of_offer c h offer)).shareable ≡ false) where
    -- what holds of all the host's extents holds of the offer's
    of_offer : (P : Extent → Type 0) → AllByRecursion P (extents_at p h) → AllByRecursion P offer
    of_offer P each = each-front P offer (flat_map (λ xs. xs) later)
        (subst (λ os. AllByRecursion P (flat_map (λ xs. xs) os)) oldest (each-back P (p.accepted h) (flat_map (λ xs. xs) (p.offers h)) each))

    in_region : AllByRecursion (λ x. region_at c h x.start ≡ region_of_offer c h offer) offer
    in_region = (subst (AllByRecursion (IsTogether c h)) oldest (s.together h)).0.1

    made : AllByRecursion (λ x. IsMade c (p.block (region_at c h x.start)) h (region_at c h x.start) x) offer
    made = made_there c sound p s h host offer later oldest

    over : ended c (effects journal) o.changes o.tags ≡ []
    over =
        let closed = each-both (IsClosed c p h) (λ x. region_at c h x.start ≡ r) (λ x. has_tag (open_tags c past) x.tag ≡ false) (λ x a at. a (ap (λ k. (region_spec c k).shareable) at ∙ private)) offer
        (of_offer (IsClosed c p h) (legal_is_closed c sound journal legal h)) in_region in
        none_ended (has_tag (open_tags c past)) (λ t. is_live c t (past ++ o.changes)) o.tags
        (subst (λ os. AllByRecursion (λ t. has_tag (open_tags c past) t ≡ false) (tags_of (oldest_of os))) (sym oldest)
        (each_distinct (λ t. has_tag (open_tags c past) t ≡ false) [] (map (λ x. x.tag) offer) tt (tags_each (λ t. has_tag (open_tags c past) t ≡ false) offer closed)))

    -- a granule of the offer is not free before it is taken
    offered_not_free : (g : ℕ) → reaches c h offer g ≡ true → is_free_now c (effects journal) g ≡ false
    offered_not_free g has = false_from_ne_true (is_free_now c (effects journal) g) (λ free.
        let test : Extent → Bool = λ x. has_granule (run_of c h x) g in
        absurd (omega (
          arith,
          free_none c sound past s g free h,
          many-append test (p.accepted h) (flat_map (λ xs. xs) (p.offers h)),
          ap (λ os. many test (flat_map (λ xs. xs) os)) oldest,
          many-append test offer (flat_map (λ xs. xs) later),
          many-any test offer has,
        )))

    same_free : (g : ℕ) → is_free_now c (effects journal ++ effects_of c (effects journal) o) g ≡ is_free_now c (effects journal) g
    same_free g =
        let listed_runs : in_extents c h (map listed offer) g ≡ reaches c h offer g = ap (λ runs. has_in_runs runs g) (same_runs c h offer) ∙ any-map (λ run. has_granule run g) (run_of c h) offer in
        let offered_runs : in_extents c h (oldest_of (offers_of h past)) g ≡ reaches c h offer g = ap (λ os. in_extents c h (oldest_of os) g) oldest ∙ any-map (λ run. has_granule run g) (run_of c h) offer in
        ap is_free (status_told c g past o over ∙ ap (λ es. status c g (past ++ es)) changed) ∙ elim (cases_Bool (reaches c h offer g)) [
          | inr none_here ↦ ap is_free (status-unanswered c g past [] refl h offer (map listed offer) host (listed_runs ∙ none_here) (offered_runs ∙ none_here))
          | inl has ↦ (let found = each-at (λ x. IsMade c (p.block (region_at c h x.start)) h (region_at c h x.start) x × (region_at c h x.start ≡ r)) (λ x. has_granule (run_of c h x) g) offer
              (each-both (λ x. IsMade c (p.block (region_at c h x.start)) h (region_at c h x.start) x) (λ x. region_at c h x.start ≡ r)
              (λ x. IsMade c (p.block (region_at c h x.start)) h (region_at c h x.start) x × (region_at c h x.start ≡ r)) (λ x a b. (a, b)) offer made in_region) has in
              let k : ℕ = region_at c h found.0.start in
              let of_region : region_of c g ≡ r = made_of_region c h sound host (p.block k) k found.0 (present_whole c sound p s k found.2.0.known) found.2.0 g found.1 ∙ found.2.1 in
              let outside : (region_spec c (region_of c g)).shareable ≡ false = ap (λ m. (region_spec c m).shareable) of_region ∙ private in
              ap is_free (status-taken c g past [] refl h offer (map listed offer) host outside (listed_runs ∙ has)) ∙ sym (offered_not_free g has))
        ]

  pub whole_offer_taken : IsOfferTaken c journal h q
  whole_offer_taken =
      let row = legal_allows c sound journal legal h (map listed offer) (record { offer = offer; later = later; oldest = oldest; alone = alone; some = all_same offer; shared = λ shared. inr (length-map offer listed) }) in
      let does = host_does c journal q h (HostRequest.AddResponse false (map listed offer)) read row refl in
      let blocks = pass leaves_blocks refl (λ run. refl) in
      record {
        succeeds = does.succeeds;
        keeps = subst (λ new. KeepsOthers c h (effects journal) (effects journal ++ new)) (sym does.effects)
            (others_kept c h past o (λ k apart. pass (leaves_host k) (ap not apart) (λ run. refl)) (λ kind. outcome_held c h kind past o (pass leaves_held refl (λ run. refl))) blocks);
        accepted = subst (λ new. accepted_of c h (effects journal ++ new) ≡ accepted_of c h (effects journal) ++ oldest_of (offers_of h (effects journal))) (sym does.effects)
            (outcome_accepted c h past o ∙ ap (fold (accepted_after c h) (accepted_of c h past)) changed
            ∙ over_takes c h (accepted_after c h) (λ b run. refl) (if h == h then accepted_of c h past ++ offer else accepted_of c h past) (map listed offer)
            ∙ ap (λ b. if b then accepted_of c h past ++ offer else accepted_of c h past) (eq-eqb h h refl) ∙ ap (λ os. accepted_of c h past ++ oldest_of os) (sym oldest));
        offers = subst (λ new. offers_of h (effects journal ++ new) ≡ drop 1 (offers_of h (effects journal))) (sym does.effects)
            (outcome_offers c h past o ∙ ap (fold (offers_after h) (offers_of h past)) changed
            ∙ over_takes c h (offers_after h) (λ b run. refl) (if h == h then drop 1 (offers_of h past) else offers_of h past) (map listed offer)
            ∙ ap (λ b. if b then drop 1 (offers_of h past) else offers_of h past) (eq-eqb h h refl));
        logs = λ k. subst (λ new. log_of (LogId.Host k) (effects journal ++ new) ≡ log_of (LogId.Host k) (effects journal)) (sym does.effects)
            (response_kept c past o (pass leaves_logs refl (λ run. refl)) h k (view_after c h (view_of c h journal) (respond_changes c h (offers_of h past) (held_of h HeldKind.Responses past) false (map listed offer))) (offers_of h past)
            (held_of h HeldKind.Responses past ++ map listed offer) refl);
        holders = λ k g. subst (λ new. holds k g (effects journal) ≡ true → holds k g (effects journal ++ new) ≡ true) (sym does.effects)
            (λ e. outcome_holds c k g past o ∙ ap (fold (holding_after k g) (holds k g past)) changed ∙ holding-takes c h k g (holds k g past) (map listed offer) ∙ ap (λ b. b || ((h == k) && in_extents c h (map listed offer) g)) e);
        free = λ private k. subst (λ new. blocks_free_now c k (effects journal ++ new) ≡ blocks_free_now c k (effects journal)) (sym does.effects)
            (blocks_stay c past (past ++ effects_of c past o) (λ m. outcome_blocks c m past o blocks) (same_free (ap (λ os. (region_spec c (region_of_offer c h (oldest_of os))).shareable) (sym oldest) ∙ private)) k);
      }

pub takes_whole_offers : (c : Configuration) → IsSound c → (journal : List Entry) → Legal c journal → TakesWholeOffers c journal
takes_whole_offers c sound journal legal h q alone some read = by (offers_of h (effects journal)) refl some
  where
    by : (offers : List (List Extent)) → offers_of h (effects journal) ≡ offers → 0 < length offers → IsOfferTaken c journal h q
    by [] oldest more = absurd (omega (arith, more))
    by (offer ∷ later) oldest more = whole_offer_taken c sound journal legal h q offer later oldest alone (subst (λ os. host_request q.opcode q.payload ≡ Ok (HostRequest.AddResponse false (map listed (oldest_of os)))) oldest read)
