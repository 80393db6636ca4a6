-- An act of a plan that is refused is refused for want of room.
use Rattle.std.proofs.Common.{◌≡◌, ℕ, zero, suc, ◌+◌, ◌*◌, ◌/◌, ◌^◌, ◌<◌, ◌≤◌, Bool, true, false, ◌==◌, List, [], ◌∷◌, ◌++◌, length, Option, Some, None, refl, sym, ap, subst, ◌∙◌, inl, inr, ◌⊎◌, arith}
use Rattle.std.proofs.Math.Nat.{mul-div_cancel, mul-le-mul_right, mul-mod_left}
use Rattle.std.proofs.lemmas.{Bool.cases_Bool, Bool.cases_eq, Bool.eq-eqb, Bool.eqb-false, Bool.eqb-true, List.Sums.sum_by-cons}
use Rattle.std.specs.{List.AllByRecursion, List.find, List.range_with_len, Prelude.if◌then◌else◌, Prelude.is_some, Prelude.nat_lt, Prelude.option_and_then, Prelude.option_map, Prelude.sum_by}
use Rattle.std.specs.Result.{result_err}
use Rattle.dcd_base.specs.{declared.capacity.Extent.Extent, declared.ids.HostId.HostId, declared.steps.LogId.LogId, Words.◌or◌, Words.zero_tag}
use Rattle.dcd_codes.specs.{declared.rules.Rule.Rule, Rules.◌breaks◌}
use Rattle.event_log.specs.Logs.{Log, room_in}
use Rattle.fm_payloads.specs.declared.requests.FmRequest.{FmRequest}
use Rattle.extent_list.specs.Listing.{too_many_extents}
use Rattle.region_config.{specs.Configurations.Configuration, specs.Soundness.IsSound, proofs.Searches.or_parts as option_parts}
use Rattle.journal_core.specs.{Entries.effects, declared.outcome.Effect.Effect, declared.entries.Entry.Entry}
use Rattle.isolation_laws.specs.device_rules.proofs.{Homes.supported_some, LegalSound.legal_is_sound}
use Rattle.isolation_laws.specs.device_rules.specs.{Answers.broken, Answers.manager_outcome, Answers.manager_result, Answers.manager_rule, Answers.unless, Hosts.block_of, Legal.Legal, Logs.log_of}
use Rattle.isolation_laws.specs.device_rules.specs.{Outcomes.Outcome, Outcomes.log_full, Views.extents_in, Views.view_of}
use Rattle.plan_rules.proofs.{AllActs.acts_leave, AllowedParts.prepared_allowed, Demanded.IsReadyToGain, Demanded.gaining_walk, Demanded.touches_pair, Heard.add_heard}
use Rattle.plan_rules.proofs.{Meeting.gain_ready, Meeting.part_3, Providing.fewer_free, Providing.offer_taken_too, RoomAlone.only_room_is_wanting, Walks.AllApart, Walks.both_by}
use Rattle.plan_rules.{proofs.WithoutFault.IsFaultless, proofs.WithoutFault.faultless, specs.ActsLeft.Unbroken, specs.ActsLeft.journal_behind, specs.ActsLeft.offering, specs.ActsLeft.providing}
use Rattle.plan_rules.specs.{Holding.Step, Holding.gain, Holding.stepped, Listing.by_manager, Listing.gained, Listing.gaining, Listing.offer_taken, Listing.planned, Listing.prepared, Listing.ready}
use Rattle.plan_rules.specs.{Taking.blocks_free_now, Taking.free_offer_of, declared.demands.Demand.Demand, declared.demands.Demands.Demands, declared.faults.PlanFault.PlanFault}
use Rattle.plan_rules.specs.Planning.{IsOfRoom, broken_at, is_bad_dead, is_bad_demand, is_open, is_room_rule, lowest_below, named_fault, plan_fault, refused_in, short_fault}

-- ---- acts of which the first that is refused wants room

WantsRoomOnly : Configuration → List Entry → List Step → Type 0
WantsRoomOnly c journal [] = Unit {0}
WantsRoomOnly c journal (s ∷ acts) = ((rule : Rule) → broken c journal s.0 s.1 ≡ Some rule → is_room_rule rule ≡ true) × (broken c journal s.0 s.1 ≡ None → WantsRoomOnly c (journal_behind c journal s) acts)

none_some : {X : Type 0} (x : X) (o : Option X) → o ≡ None → o ≡ Some x → ⊥
none_some x o none some = differ (sym none ∙ some)
  where
    differ : None ≡ Some x → ⊥
    differ e = cc

module _ (c : Configuration) where
  unbroken_wants : (journal : List Entry) (acts : List Step) → Unbroken c journal acts → WantsRoomOnly c journal acts
  unfolding WantsRoomOnly
  unbroken_wants journal [] none = tt
  unbroken_wants journal (s ∷ acts) none = (λ rule is. absurd (none_some rule (broken c journal s.0 s.1) none.0 is), λ fine. unbroken_wants (journal_behind c journal s) acts none.1)

  wants_both : (journal : List Entry) (first more : List Step) → WantsRoomOnly c journal first → (Unbroken c journal first → WantsRoomOnly c (stepped c journal first) more) → WantsRoomOnly c journal (first ++ more)
  unfolding WantsRoomOnly
  wants_both journal [] more wants rest = rest tt
  wants_both journal (s ∷ first) more wants rest = (wants.0, λ none. wants_both (journal_behind c journal s) first more (wants.1 none) (λ after. rest (none, after)))

  first_wants : (journal : List Entry) (acts : List Step) → WantsRoomOnly c journal acts → (i : ℕ) → i < length acts → ((k : ℕ) → k < i → broken_at c journal acts k ≡ None) →
      (rule : Rule) → broken_at c journal acts i ≡ Some rule → is_room_rule rule ≡ true
  unfolding WantsRoomOnly
  first_wants journal [] wants i below earlier rule is = absurd (omega (arith, below))
  first_wants journal (s ∷ acts) wants zero below earlier rule is = wants.0 rule is
  first_wants journal (s ∷ acts) wants (suc i) below earlier rule is =
      first_wants (journal_behind c journal s) acts (wants.1 (earlier 0 (omega arith))) i (omega (arith, below)) (λ k less. earlier (suc k) (omega (arith, less))) rule is

-- ---- the first number that passes

record IsFirst (p : ℕ → Bool) (a n i : ℕ) : Type 0 where
  passes : p i ≡ true
  below : i < a + n
  earlier : (k : ℕ) → a ≤ k → k < i → p k ≡ false

some_is : {X : Type 0} (x y : X) → Some x ≡ Some y → x ≡ y
some_is x y e = cc

first_found : (p : ℕ → Bool) (a n i : ℕ) → find p (range_with_len a n) ≡ Some i → IsFirst p a n i
first_found p a zero i found = absurd (none_some i None refl found)
first_found p a (suc n) i found = elim (cases_Bool (p a)) [
  | inl here ↦ (let is : a ≡ i = some_is a i (rw here at found) in
      record { passes = subst (λ k. p k ≡ true) is here; below = omega (arith, is); earlier = λ k from less. absurd (omega (arith, from, less, is)) })
  | inr fails ↦ (let rest = first_found p (a + 1) n i (rw fails at found) in
      record {
        passes = rest.passes;
        below = omega (arith, rest.below);
        earlier = λ k from less. elim (cases_eq a k) [
          | inl same ↦ subst (λ m. p m ≡ false) same fails
          | inr later ↦ rest.earlier k (omega (arith, from, later)) less
        ];
      })
]

none_by : (r : Option Rule) → is_some r ≡ false → r ≡ None
none_by None is = refl
none_by (Some rule) is = absurd (cc)

refused_of_room : (c : Configuration) (journal : List Entry) (acts : List Step) → WantsRoomOnly c journal acts → (fault : PlanFault) → refused_in c journal acts ≡ Some fault → IsOfRoom fault
refused_of_room c journal acts wants fault is = by (lowest_below (λ i. is_some (broken_at c journal acts i)) (length acts)) refl is
  where
    at : (i : ℕ) → IsFirst (λ i. is_some (broken_at c journal acts i)) 0 (length acts) i → (r : Option Rule) → broken_at c journal acts i ≡ r → option_map (PlanFault.Refused i) r ≡ Some fault → IsOfRoom fault
    at i first None same none = absurd (none_some fault None refl none)
    at i first (Some rule) same found = subst IsOfRoom (some_is (PlanFault.Refused i rule) fault found)
        (first_wants c journal acts wants i (omega (arith, first.below)) (λ k less. none_by (broken_at c journal acts k) (first.earlier k (omega arith) less)) rule same)

    by : (o : Option ℕ) → lowest_below (λ i. is_some (broken_at c journal acts i)) (length acts) ≡ o → option_and_then (λ i. option_map (PlanFault.Refused i) (broken_at c journal acts i)) o ≡ Some fault → IsOfRoom fault
    by None same none = absurd (none_some fault None refl none)
    by (Some i) same found = at i (first_found (λ i. is_some (broken_at c journal acts i)) 0 (length acts) i same) (broken_at c journal acts i) refl found

-- ---- one demand

unless_tells : (rule : Option Rule) (o : Outcome) → result_err (unless rule o) ≡ rule
unless_tells None o = refl
unless_tells (Some rule) o = refl

-- the rules of too many extents and of a full log want room
room_rules : (extents : ℕ) (h : HostId) (log : Log) (need : ℕ) (rule : Rule) → (too_many_extents extents or log_full h log need) ≡ Some rule → is_room_rule rule ≡ true
room_rules extents h log need rule is = by (nat_lt _ extents) (nat_lt (room_in (LogId.Host h) log) need) is
  where
    by : (many full : Bool) → ((many breaks Rule.TooManyExtents extents) or (full breaks Rule.LogFull h need (room_in (LogId.Host h) log))) ≡ Some rule → is_room_rule rule ≡ true
    by true full found = ap is_room_rule (sym (some_is (Rule.TooManyExtents extents) rule found))
    by false true found = ap is_room_rule (sym (some_is (Rule.LogFull h need (room_in (LogId.Host h) log)) rule found))
    by false false found = absurd (none_some rule None refl found)

module _ (c : Configuration) (sound : IsSound c) (past : List Effect) where
  -- Of each region so many blocks are free as these demands gain there.
  IsEnough : List Demand → List Entry → Type 0
  IsEnough xs journal = (r : ℕ) → r < length c.regions → sum_by (λ (x : Demand). if x.region == r then gain c past x else 0) xs ≤ blocks_free_now c r (effects journal)

  module _ (x : Demand) (journal : List Entry) (legal : Legal c journal) (is : IsReadyToGain c past x (effects journal)) where
    abbrev n : ℕ
    n = gain c past x

    fits_now : gain c past x * block_of c x.region (effects journal) < 2 ^ 64
    fits_now = rw is.block is.fits

    provided_wants : 0 < gain c past x → gain c past x ≤ blocks_free_now c x.region (effects journal) → WantsRoomOnly c journal (providing c x (gain c past x) journal)
    unfolding WantsRoomOnly
    provided_wants some free =
        let size : ℕ = block_of c x.region (effects journal) in
        let bytes : ℕ = n * size in
        let positive : 0 < size = supported_some c x.region size ((legal_is_sound c sound journal legal).stands.blocks x.region is.plain.region) in
        let count : bytes / size ≡ n = mul-div_cancel n positive in
        let request : FmRequest = FmRequest.Add x.host 0 x.region bytes zero_tag [] in
        let read = add_heard c sound x.host x.region bytes is.plain.host is.plain.region fits_now in
        let wanting = only_room_is_wanting c sound journal legal x.host x.region bytes
        (record { host = is.plain.host; known = is.plain.region; private = is.plain.private; some = omega (arith, mul-le-mul_right size some, positive); whole = mul-mod_left n size; enough = omega (arith, count, free) }) in
        let offer : List Extent = free_offer_of c (effects journal) x.host x.region bytes in
        let told = ap (λ r. result_err (manager_result c journal r)) read
        ∙ unless_tells (manager_rule c (effects journal) (λ k. view_of c k journal) request) (manager_outcome c (effects journal) (λ k. view_of c k journal) request) ∙ wanting in (
          λ rule breaks_it. room_rules (length (extents_in (view_of c x.host journal)) + length offer) x.host (log_of (LogId.Host x.host) (effects journal)) (length offer) rule (sym told ∙ breaks_it),
          λ none. unbroken_wants c (journal_behind c journal (offering c x n (effects journal))) (offer_taken x.host (effects (journal_behind c journal (offering c x n (effects journal)))) ∷ []) (offer_taken_too c sound journal legal x n is.plain fits_now some (none, tt) is.offers is.responses),
        )

    gained_wants : gain c past x ≤ blocks_free_now c x.region (effects journal) → WantsRoomOnly c journal (gained c past journal x)
    unfolding WantsRoomOnly
    gained_wants free = by (gain c past x == 0) refl
      where
        list : ℕ → List Step
        list size = let add = by_manager (FmRequest.Add x.host 0 x.region (gain c past x * size) zero_tag []) in add ∷ offer_taken x.host (effects (journal_behind c journal add)) ∷ []

        by : (none : Bool) → (gain c past x == 0) ≡ none → WantsRoomOnly c journal (if none then [] else list (block_of c x.region past))
        by true zero_ = tt
        by false some = subst (λ size. WantsRoomOnly c journal (list size)) is.block (provided_wants (omega (arith, eqb-false (gain c past x) 0 some)) free)

    -- and so many blocks are free no more
    free_after : Unbroken c journal (gained c past journal x) → (r : ℕ) → r < length c.regions →
        blocks_free_now c r (effects (stepped c journal (gained c past journal x))) + (if x.region == r then gain c past x else 0) ≡ blocks_free_now c r (effects journal)
    free_after none r known = by (gain c past x == 0) refl none
      where
        list : ℕ → List Step
        list size = let add = by_manager (FmRequest.Add x.host 0 x.region (gain c past x * size) zero_tag []) in add ∷ offer_taken x.host (effects (journal_behind c journal add)) ∷ []

        nothing : (here : Bool) (m : ℕ) → gain c past x ≡ 0 → m + (if here then gain c past x else 0) ≡ m
        nothing true m is_zero = omega (arith, is_zero)
        nothing false m is_zero = omega arith

        by : (none : Bool) → (gain c past x == 0) ≡ none → Unbroken c journal (if none then [] else list (block_of c x.region past)) →
            blocks_free_now c r (effects (stepped c journal (if none then [] else list (block_of c x.region past)))) + (if x.region == r then gain c past x else 0) ≡ blocks_free_now c r (effects journal)
        by true is_zero none = nothing (x.region == r) (blocks_free_now c r (effects journal)) (eqb-true (gain c past x) 0 is_zero)
        by false some none =
            subst (λ size. Unbroken c journal (list size) → blocks_free_now c r (effects (stepped c journal (list size))) + (if x.region == r then gain c past x else 0) ≡ blocks_free_now c r (effects journal)) is.block
            (λ whole. fewer_free c sound journal legal x (gain c past x) is.plain fits_now (omega (arith, eqb-false (gain c past x) 0 some)) (whole.0, tt) is.offers is.responses r known) none

  -- ---- all demands

  gaining_wants : (xs : List Demand) (journal : List Entry) → Legal c journal → AllApart touches_pair xs → AllByRecursion (λ x. IsReadyToGain c past x (effects journal)) xs → IsEnough xs journal →
      WantsRoomOnly c journal (gaining c past journal xs)
  unfolding WantsRoomOnly IsEnough
  gaining_wants [] journal legal apart is enough = tt
  gaining_wants (x ∷ xs) journal legal apart is enough =
      let f : ℕ → Demand → ℕ = λ r y. if y.region == r then gain c past y else 0 in
      let own : f x.region x ≡ gain c past x = ap (λ b. if b then gain c past x else 0) (eq-eqb x.region x.region refl) in
      let free : gain c past x ≤ blocks_free_now c x.region (effects journal) = omega (arith, enough x.region is.0.plain.region, sum_by-cons (f x.region) x xs, own) in
      let walk = gaining_walk c sound (acts_leave c sound) past in
      let next : List Entry = stepped c journal (gained c past journal x) in
      wants_both c journal (gained c past journal x) (gaining c past next xs) (gained_wants x journal legal is.0 free) (λ none.
      let left = walk.one x journal legal is.0 none in
      gaining_wants xs next left.legal apart.1
      (both_by xs (λ y other was. walk.stays_ready y (effects journal) (effects next) (λ m r at. left.still m r (λ mine. other m r mine at)) was) apart.0 is.1)
      (λ r known. omega (arith, enough r known, sum_by-cons (f r) x xs, free_after x journal legal is.0 none r known)))

-- ---- the whole list

planned_wants : (c : Configuration) → IsSound c → (journal : List Entry) → Legal c journal → (q : Demands) → IsFaultless c journal q → WantsRoomOnly c journal (planned c journal q)
unfolding IsEnough
planned_wants c sound journal legal q fine =
    let none = prepared_allowed c sound journal legal q fine in
    let clean = part_3 c sound (acts_leave c sound) journal legal q fine none in
    wants_both c journal (prepared c journal q) (gaining c (effects journal) (ready c journal q) q.demands) (unbroken_wants c journal (prepared c journal q) none)
    (λ again. gaining_wants c sound (effects journal) q.demands (ready c journal q) clean.0 fine.apart (gain_ready c sound (acts_leave c sound) journal legal q fine none) fine.enough)

-- a fault that stands first in the row, or what comes behind it
or_some : {X : Type 0} (a b : Option X) (x : X) → (a or b) ≡ Some x → (a ≡ Some x) ⊎ ((a ≡ None) × (b ≡ Some x))
or_some None b x is = inr (refl, is)
or_some (Some y) b x is = inl is

mapped_of_room : {X : Type 0} (f : X → PlanFault) → ((x : X) → IsOfRoom (f x)) → (o : Option X) (fault : PlanFault) → option_map f o ≡ Some fault → IsOfRoom fault
mapped_of_room f each None fault is = absurd (none_some fault None refl is)
mapped_of_room f each (Some x) fault is = subst IsOfRoom (some_is (f x) fault is) (each x)

named_of_room : (c : Configuration) (q : Demands) (fault : PlanFault) → named_fault c q ≡ Some fault → IsOfRoom fault
named_of_room c q fault is = elim (or_some (option_map PlanFault.BadDemand (lowest_below (is_bad_demand c q) (length q.demands))) (option_map PlanFault.BadDead (lowest_below (is_bad_dead c q) (length q.dead))) fault is) [
  | inl demand ↦ mapped_of_room PlanFault.BadDemand (λ i. tt) (lowest_below (is_bad_demand c q) (length q.demands)) fault demand
  | inr dead ↦ mapped_of_room PlanFault.BadDead (λ i. tt) (lowest_below (is_bad_dead c q) (length q.dead)) fault dead.1
]

pub fault_of_room : (c : Configuration) → IsSound c → (journal : List Entry) → Legal c journal → (q : Demands) (fault : PlanFault) → plan_fault c journal q ≡ Some fault → IsOfRoom fault
fault_of_room c sound journal legal q fault is =
    let shut : Option PlanFault = option_map PlanFault.Open (lowest_below (is_open (effects journal) q) c.hosts) in
    elim (or_some (named_fault c q or shut or short_fault c journal q) (refused_in c journal (planned c journal q)) fault is) [
      | inl early ↦ elim (or_some (named_fault c q or shut) (short_fault c journal q) fault early) [
        | inl earlier ↦ elim (or_some (named_fault c q) shut fault earlier) [
          | inl first ↦ named_of_room c q fault first
          | inr second ↦ mapped_of_room PlanFault.Open (λ h. tt) (lowest_below (is_open (effects journal) q) c.hosts) fault second.1
        ]
        | inr short ↦ mapped_of_room _ (λ r. tt) _ fault short.1
      ]
      | inr late ↦ (let three = option_parts (named_fault c q or shut) (short_fault c journal q) late.0 in
          let two = option_parts (named_fault c q) shut three.0 in
          refused_of_room c journal (planned c journal q) (planned_wants c sound journal legal q (faultless c journal q two.0 two.1 three.1)) fault late.1)
    ]
