-- An offer of free blocks leaves so many fewer free blocks of its region, and as many of each other region.
use Rattle.plan_rules.proofs.{Answering.manager_does, Filters.keeps_all, Filters.keeps_none}
use Rattle.plan_rules.proofs.FreeBlocks.{all_agree, blocks_gone, filter_agree, free_then, granules_in, sum_runs}
use Rattle.plan_rules.proofs.Keeping.{others_kept, outcome_accepted, outcome_blocks, outcome_held, outcome_holds, outcome_offers}
use Rattle.plan_rules.{proofs.KeptLogs.log_kept, proofs.KeptLogs.other_log, proofs.WholeOffers.status_told, specs.Kept.KeepsOthers, specs.Kept.begins_in}
use Rattle.plan_rules.specs.Taking.{IsOfferedFree, OffersFreeBlocks, blocks_free_now, free_offer_of}
use Rattle.std.proofs.Common.{◌≡◌, ◌≢◌, ℕ, suc, ◌+◌, ◌*◌, ◌/◌, ◌%◌, ◌<◌, ◌≤◌, Bool, true, false, not, ◌&&◌, ◌||◌, ◌==◌, List, [], ◌∷◌, ◌++◌, length, map, None, Some, refl, ap, sym, subst, ◌∙◌, inl, inr, arith, div-add-mod', ltb}
use Rattle.std.proofs.{Math.Nat.add-mul, Math.Nat.mul_assoc, Math.Nat.mul-le-mul_right, Math.Nat.zero-mul, lemmas.List.Sums.sum_by-cons, lemmas.Option.none-some}
use Rattle.std.specs.{List.AllByRecursion, List.list_any, Prelude.if◌then◌else◌, Prelude.flat_map, Prelude.Option, Prelude.sum_by, Result.result_err, declared.result.Result.TheVariants.Ok}
use Rattle.std.proofs.lemmas.Bool.{cases_Bool, cases_eq, eq-eqb, eqb-true, false≢true, false_from_ne_true, ltb-false, ne_eqb, not-false, or_parts}
use Rattle.cci_codec.specs.declared.messages.Request.{Request}
use Rattle.dcd_base.specs.{Words.has_granule, Words.has_in_runs, Words.has_tag, Words.same_tag, Words.zero_tag, declared.capacity.Extent.Extent, declared.capacity.Tag.Tag, declared.ids.HostId.HostId}
use Rattle.dcd_base.specs.declared.{media.Run.Run, steps.LogId.LogId}
use Rattle.dcd_codes.specs.{Rules.◌breaks◌, declared.rules.Rule.Rule}
use Rattle.extent_list.specs.ExtentLists.{has_extent_of}
use Rattle.fm_payloads.specs.{ManagerPayloads.manager_request, declared.requests.FmRequest.FmRequest}
use Rattle.granule_map.specs.Blocks.{block_count}
use Rattle.media_map.specs.Places.{extent_of, region_at, run_of}
use Rattle.region_config.{proofs.GranuleLemmas.region_is, proofs.PresentBlocks.granules_in-with_blocks, proofs.PresentBlocks.region_spec-with_blocks, specs.Configurations.Configuration}
use Rattle.region_config.specs.Granules.{first_granule, granule_size, hosts_of, is_supported, region_granules, region_of, region_spec, with_blocks}
use Rattle.region_config.specs.Soundness.{IsSound}
use Rattle.selection.{specs.Selections.free_runs, specs.Selections.is_free_block, specs.Selections.too_few_free, proofs.Prescribed.neither}
use Rattle.journal_core.specs.{Entries.effects, Holders.holds, declared.entries.Entry.Entry, declared.outcome.Effect.Effect}
use Rattle.isolation_laws.specs.device_rules.proofs.AddChoices.{marked_from, marked_runs, reach_runs, runs_back}
use Rattle.isolation_laws.specs.device_rules.proofs.{Adding.IsAdded, Adding.IsRow, Adding.added, Adding.row_of, BlockRuns.IsBlockRun, BlockRuns.free_block_runs, Holding.present_whole}
use Rattle.isolation_laws.specs.device_rules.proofs.Homes.{bytes_same, first_same, made_of_region, made_region, size_same, supported_some, supported_whole}
use Rattle.isolation_laws.specs.device_rules.proofs.{HostSearches.any_none, LegalSound.legal_is_sound}
use Rattle.isolation_laws.specs.device_rules.proofs.{ListSteps.any-map, ListSteps.each-at, ListSteps.each-change, ListSteps.many, ListSteps.many-any, ListSteps.many-append, OneOffer.reaches}
use Rattle.isolation_laws.specs.device_rules.proofs.{Overlaps.not_broken, RunEffects.in_extents, StatusOffers.status-not_offered, StatusOffers.status-offered, TagSteps.same_tag-is}
use Rattle.isolation_laws.specs.device_rules.specs.Adding.{add_outcome, add_rule, area_of, extents_of, is_free_now, per_block, present, region_free_blocks}
use Rattle.isolation_laws.specs.device_rules.specs.{Answers.manager_outcome, Answers.manager_result, Answers.manager_rule, Answers.unless, Hosts.accepted_of, Hosts.block_of, Hosts.offers_of}
use Rattle.isolation_laws.specs.device_rules.specs.{Legal.Legal, Logs.log_of, Outcomes.Outcome, Outcomes.effects_of, Pictures.Picture, Pictures.picture_of}
use Rattle.isolation_laws.specs.device_rules.specs.{Standing.IsMade, Standing.Sound, Standing.Stands, Tags.is_free, Tags.last_offer, Tags.open_tags, Tags.status, Tags.tag_runs, Views.view_of}

-- ---- small steps

abbrev long : Extent → ℕ
long x = x.length

marked_long : (shareable : Bool) (t : Tag) (n : ℕ) (xs : List Extent) → sum_by long (marked_from shareable t n xs) ≡ sum_by long xs
marked_long shareable t n [] = refl
marked_long shareable t n (x ∷ xs) =
    sum_by-cons long (record x { tag = t; sequence = if shareable then n else 0 }) (marked_from shareable t (n + 1) xs) ∙ ap (λ m. x.length + m) (marked_long shareable t (n + 1) xs) ∙ sym (sum_by-cons long x xs)

no_rule : (found : Option Rule) (o : Outcome) → result_err (unless found o) ≡ None → found ≡ None
no_rule None o none = refl
no_rule (Some rule) o none = absurd (none-some rule (sym none))

none_has : (p : Extent → Bool) (xs : List Extent) → many p xs ≡ 0 → list_any p xs ≡ false
none_has p xs none = false_from_ne_true (list_any p xs) (λ some. absurd (omega (arith, none, many-any p xs some)))

and_false : (b : Bool) → false ≡ (b && false)
and_false true = refl
and_false false = refl

and_true : (b : Bool) → b ≡ (b && true)
and_true true = refl
and_true false = refl

-- ---- the status of a granule once it is offered, or is not

module _ (c : Configuration) (sound : IsSound c) (past : List Effect) (before : Sound c (picture_of c past)) (h : HostId) (r : ℕ) (private : (region_spec c r).shareable ≡ false) where
  abbrev p : Picture
  p = picture_of c past

  s : Stands c (picture_of c past)
  s = before.stands

  free_behind : (new : List Extent) → IsAdded c (picture_of c past) h r zero_tag new → (g : ℕ) → is_free (status c g (past ++ Effect.Offer h new ∷ [])) ≡ (is_free (status c g past) && not (reaches c h new g))
  free_behind [] a g = absurd (omega (arith, a.some))
  free_behind (x ∷ xs) a g =
      let here : in_extents c h (x ∷ xs) g ≡ reaches c h (x ∷ xs) g = reach_runs c h g (x ∷ xs) in
      elim (cases_Bool (reaches c h (x ∷ xs) g)) [
        | inl has ↦ (let found = each-at (IsMade c (p.block r) h r) (λ y. has_granule (run_of c h y) g) (x ∷ xs) a.offer.made has in
            let of_region : region_of c g ≡ r = made_of_region c h sound a.offer.host (p.block r) r found.0 (present_whole c sound p s r found.2.known) found.2 g found.1 in
            let outside : (region_spec c (region_of c g)).shareable ≡ false = ap (λ m. (region_spec c m).shareable) of_region ∙ private in
            let nobody : (k : HostId) → holds k g past ≡ false = λ k. s.held k g ∙ any-map (λ run. has_granule run g) (run_of c k) (p.accepted k)
            ∙ none_has (λ y. has_granule (run_of c k y) g) (p.accepted k) (omega (arith, a.offer.all private g has k, many-append (λ y. has_granule (run_of c k y) g) (p.accepted k) (flat_map (λ ys. ys) (p.offers k)))) in
            let offered_now = status-offered c g past h x xs a.offer.host outside (here ∙ has) (any_none (λ k. holds k g past) (hosts_of c) nobody) in
            ap is_free offered_now ∙ and_false (is_free (status c g past)) ∙ ap (λ b. is_free (status c g past) && not b) (sym has))
        | inr lacks ↦ (let again : (t : Tag) → has_tag (open_tags c past) t ≡ true → has_extent_of t (x ∷ xs) ≡ true → has_in_runs (tag_runs c (last_offer t past)) g ≡ false = λ t opened has.
            (let found = each-at (λ y. y.tag ≡ zero_tag) (λ y. same_tag y.tag t) (x ∷ xs) a.offer.marked has in
            let is : zero_tag ≡ t = sym found.2 ∙ same_tag-is found.0.tag t found.1 in
            absurd (false≢true (sym closed ∙ ap (has_tag (open_tags c past)) is ∙ opened))) in
            ap is_free (status-not_offered c g past h x xs a.offer.host (here ∙ lacks) again) ∙ and_true (is_free (status c g past)) ∙ ap (λ b. is_free (status c g past) && not b) (sym lacks))
      ]
    where
      closed : has_tag (open_tags c past) zero_tag ≡ false
      closed = elim a.way [
        | inl fresh ↦ fresh.closed
        | inr shared ↦ absurd (false≢true (sym private ∙ shared.shareable))
      ]

-- ---- the offer

module _ (c : Configuration) (sound : IsSound c) (journal : List Entry) (legal : Legal c journal) (h : HostId) (r bytes : ℕ) (private : (region_spec c r).shareable ≡ false)
    (row : add_rule c (effects journal) (λ k. view_of c k journal) h 0 r bytes zero_tag [] ≡ None) where
  abbrev past : List Effect
  past = effects journal

  abbrev b : ℕ → ℕ
  b k = block_of c k (effects journal)

  before : Sound c (picture_of c (effects journal))
  before = legal_is_sound c sound journal legal

  facts : IsRow c (effects journal) (picture_of c (effects journal)) h 0 r bytes zero_tag []
  facts = row_of c journal h 0 r bytes zero_tag [] row

  it : IsAdded c (picture_of c (effects journal)) h r zero_tag (free_offer_of c (effects journal) h r bytes)
  it = added c sound (effects journal) before h r zero_tag bytes [] 0 facts

  abbrev new : List Extent
  new = free_offer_of c (effects journal) h r bytes

  abbrev o : Outcome
  o = add_outcome c (effects journal) (λ k. view_of c k journal) h 0 r bytes zero_tag []

  abbrev w : Configuration
  w = present c (effects journal)

  abbrev free : ℕ → Bool
  free = is_free_now c (effects journal)

  abbrev area : Run
  area = area_of (present c (effects journal)) r

  abbrev per : ℕ
  per = per_block (present c (effects journal)) r

  abbrev need : ℕ
  need = bytes / (region_spec (present c (effects journal)) r).block

  -- ---- the blocks of the region

  block_is : (region_spec (present c (effects journal)) r).block ≡ block_of c r (effects journal)
  block_is = ap (λ spec. spec.block) (region_spec-with_blocks c b r facts.region)

  supported : is_supported (region_spec c r) (block_of c r (effects journal)) ≡ true
  supported = before.stands.blocks r facts.region

  per_bytes : per * granule_size c r ≡ block_of c r (effects journal)
  per_bytes = (λ i. (block_is i / size_same c b r i) * granule_size c r) ∙ omega (arith, div-add-mod' (b r) (granule_size c r), supported_whole c r (b r) supported)

  per_some : 0 < per
  per_some = elim (cases_eq per 0) [
    | inl nothing ↦ absurd (omega (arith, per_bytes, ap (λ n. n * granule_size c r) nothing, zero-mul (granule_size c r), supported_some c r (b r) supported))
    | inr some ↦ omega (arith, some)
  ]

  blocks : AllByRecursion (IsBlockRun c (block_of c r (effects journal)) r) (free_runs free area per need)
  blocks = free_block_runs c (b r) r facts.region free area per (first_same c b r) (granules_in-with_blocks c b r) per_some per_bytes need

  abbrev size : ℕ
  size = (region_spec (present c (effects journal)) r).block

  rules : (((bytes == 0) || not (bytes % size == 0)) breaks Rule.BadLength bytes ≡ None) × (too_few_free need (region_free_blocks w free r) ≡ None)
  rules = neither (((bytes == 0) || not (bytes % size == 0)) breaks Rule.BadLength bytes) (too_few_free need (region_free_blocks w free r)) facts.by_length

  enough : need ≤ region_free_blocks w free r
  enough = ltb-false _ _ (not_broken (ltb (region_free_blocks w free r) need) (Rule.TooFewFree need (region_free_blocks w free r)) rules.1)

  whole : bytes % size ≡ 0
  whole = eqb-true (bytes % size) 0 (not-false (bytes % size == 0) (or_parts (bytes == 0) (not (bytes % size == 0)) (not_broken ((bytes == 0) || not (bytes % size == 0)) (Rule.BadLength bytes) rules.0)).1)

  -- ---- which granules are free then

  runs_are : map (run_of c h) new ≡ free_runs free area per need
  runs_are = marked_runs (region_spec c r).shareable zero_tag c h 1 (extents_of w h (free_runs free area per need)) ∙ runs_back c sound b h facts.host r facts.region before.stands.blocks (free_runs free area per need) blocks

  reached : (g : ℕ) → reaches c h new g ≡ has_in_runs (free_runs free area per need) g
  reached g = sym (reach_runs c h g new) ∙ ap (λ runs. has_in_runs runs g) runs_are

  free_now : (g : ℕ) → is_free_now c (effects journal ++ effects_of c (effects journal) o) g ≡ free_then free area per need per_some g
  free_now g = ap is_free (status_told c g past o refl) ∙ free_behind c sound past before h r private new it g ∙ ap (λ gone. free g && not gone) (reached g)

  same_blocks : (k : ℕ) → block_of c k (effects journal ++ effects_of c (effects journal) o) ≡ block_of c k (effects journal)
  same_blocks k = outcome_blocks c k past o refl

  counted : (k : ℕ) → blocks_free_now c k (effects journal ++ effects_of c (effects journal) o) ≡ region_free_blocks w (free_then free area per need per_some) k
  counted k = λ i. region_free_blocks (with_blocks c (λ m. same_blocks m i)) (λ g. free_now g i) k

  so_many_fewer : blocks_free_now c r (effects journal ++ effects_of c (effects journal) o) + bytes / block_of c r (effects journal) ≡ blocks_free_now c r (effects journal)
  so_many_fewer = (λ i. counted r i + bytes / sym block_is i) ∙ blocks_gone free area per need per_some enough

  -- ---- those of the other regions stay

  gone_region : (g : ℕ) → has_in_runs (free_runs free area per need) g ≡ true → region_of c g ≡ r
  gone_region g has =
      let found = each-at (IsMade c (b r) h r) (λ y. has_granule (run_of c h y) g) new it.offer.made (reached g ∙ has) in
      made_of_region c h sound facts.host (b r) r found.0 (present_whole c sound (picture_of c past) before.stands r found.2.known) found.2 g found.1

  elsewhere_same : (k : ℕ) → k < length c.regions → k ≢ r → region_free_blocks w (free_then free area per need per_some) k ≡ region_free_blocks w free k
  elsewhere_same k known other =
      let there : Run = area_of w k in
      let each : ℕ = per_block w k in
      let n : ℕ = block_count there each in
      ap length (filter_agree (is_free_block (free_then free area per need per_some) there each) (is_free_block free there each) 0 n (λ m low below.
      all_agree (free_then free area per need per_some) free (there.first + m * each) each (λ g from to.
      let next : first_granule c (suc k) ≡ first_granule c k + region_granules c k = refl in
      let last : (m + 1) * each ≤ n * each = mul-le-mul_right each (omega (arith, below)) in
      let here : region_of c g ≡ k = region_is c g k known (omega (arith, from, first_same c b k))
      (omega (arith, to, last, add-mul m 1 each, div-add-mod' there.count each, first_same c b k, granules_in-with_blocks c b k, next)) in
      let stays : has_in_runs (free_runs free area per need) g ≡ false = false_from_ne_true (has_in_runs (free_runs free area per need) g) (λ has. other (sym here ∙ gone_region g has)) in
      ap (λ gone. free g && not gone) stays ∙ sym (and_true (free g)))))

  -- ---- the extents

  in_region : AllByRecursion (λ x. region_at c h x.start ≡ r) new
  in_region = each-change (IsMade c (b r) h r) (λ x. region_at c h x.start ≡ r) (λ x m. made_region c h sound facts.host (b r) r x (present_whole c sound (picture_of c past) before.stands r m.known) m) new it.offer.made

  run_long : (run : Run) → IsBlockRun c (block_of c r (effects journal)) r run → (extent_of w h run zero_tag 0).length ≡ run.count * granule_size c r
  run_long run a =
      let at : region_of c run.first ≡ r = region_is c run.first r a.known a.from (omega (arith, a.to, a.some)) in
      bytes_same c b run ∙ ap (λ k. run.count * granule_size c k) at

  runs_long : (runs : List Run) → AllByRecursion (IsBlockRun c (block_of c r (effects journal)) r) runs → sum_by long (extents_of w h runs) ≡ sum_by granules_in runs * granule_size c r
  runs_long [] each = sym (zero-mul (granule_size c r))
  runs_long (run ∷ runs) each =
      sum_by-cons long (extent_of w h run zero_tag 0) (extents_of w h runs) ∙ (λ i. run_long run each.0 i + runs_long runs each.1 i)
      ∙ sym (ap (λ n. n * granule_size c r) (sum_by-cons granules_in run runs) ∙ add-mul run.count (sum_by granules_in runs) (granule_size c r))

  so_many_bytes : sum_by (λ (x : Extent). x.length) new ≡ bytes
  so_many_bytes =
      let runs : List Run = free_runs free area per need in
      marked_long (region_spec c r).shareable zero_tag 1 (extents_of w h runs) ∙ runs_long runs blocks ∙ ap (λ n. n * granule_size c r) (sum_runs free area per need enough)
      ∙ mul_assoc need per (granule_size c r) ∙ ap (λ n. need * n) (per_bytes ∙ sym block_is) ∙ omega (arith, div-add-mod' bytes size, whole)

  pub free_offer : (q : Request) → manager_request q.opcode q.payload ≡ Ok (FmRequest.Add h 0 r bytes zero_tag []) → IsOfferedFree c journal h r bytes q
  free_offer q read =
      let does = manager_does c journal q (FmRequest.Add h 0 r bytes zero_tag []) read row refl in
      record {
        succeeds = does.succeeds;
        keeps = subst (λ es. KeepsOthers c h (effects journal) (effects journal ++ es)) (sym does.effects)
            (others_kept c h past o (λ k apart. ap (λ e. not e && true) apart) (λ kind. outcome_held c h kind past o refl) refl);
        accepted = subst (λ es. accepted_of c h (effects journal ++ es) ≡ accepted_of c h (effects journal)) (sym does.effects) (outcome_accepted c h past o);
        offers = subst (λ es. offers_of h (effects journal ++ es) ≡ offers_of h (effects journal) ++ free_offer_of c (effects journal) h r bytes ∷ []) (sym does.effects)
            (outcome_offers c h past o ∙ ap (λ e. if e then offers_of h past ++ new ∷ [] else offers_of h past) (eq-eqb h h refl));
        logs = λ k apart. subst (λ es. log_of (LogId.Host k) (effects journal ++ es) ≡ log_of (LogId.Host k) (effects journal)) (sym does.effects) (log_kept c past o refl (LogId.Host h) _ refl (LogId.Host k) (other_log h k apart));
        holders = λ k g. subst (λ es. holds k g (effects journal ++ es) ≡ holds k g (effects journal)) (sym does.effects) (outcome_holds c k g past o);
        there = keeps_all (begins_in c h r) new (each-change (λ x. region_at c h x.start ≡ r) (λ x. begins_in c h r x ≡ true) (λ x at. eq-eqb (region_at c h x.start) r at) new in_region);
        elsewhere = λ k other. keeps_none (begins_in c h k) new (each-change (λ x. region_at c h x.start ≡ r) (λ x. begins_in c h k x ≡ false) (λ x at. ne_eqb (region_at c h x.start) k (λ e. other (sym e ∙ at))) new in_region);
        long = so_many_bytes;
        fewer = subst (λ es. blocks_free_now c r (effects journal ++ es) + bytes / block_of c r (effects journal) ≡ blocks_free_now c r (effects journal)) (sym does.effects) so_many_fewer;
        others = λ k known other. subst (λ es. blocks_free_now c k (effects journal ++ es) ≡ blocks_free_now c k (effects journal)) (sym does.effects) (counted k ∙ elsewhere_same k known other);
      }

pub offers_free_blocks : (c : Configuration) → IsSound c → (journal : List Entry) → Legal c journal → OffersFreeBlocks c journal
offers_free_blocks c sound journal legal h r bytes q private read unbroken =
    let row = no_rule (manager_rule c (effects journal) (λ k. view_of c k journal) (FmRequest.Add h 0 r bytes zero_tag [])) (manager_outcome c (effects journal) (λ k. view_of c k journal) (FmRequest.Add h 0 r bytes zero_tag []))
    (sym (ap (λ m. result_err (manager_result c journal m)) read) ∙ unbroken) in
    free_offer c sound journal legal h r bytes private row q read
