-- A plan without a fault leaves what was demanded, where each of its acts leaves what it is to leave.
use Rattle.std.proofs.Common.{◌≡◌, ℕ, ◌+◌, ◌-◌, ◌*◌, ◌/◌, ◌%◌, ◌^◌, ◌<◌, ◌≤◌, Bool, true, false, ◌==◌, List, [], ◌∷◌, length, get_or, None, refl, sym, ap, subst, ◌∙◌, inl, inr, arith, div-add-mod'}
use Rattle.std.proofs.{Math.Nat.add-mul, lemmas.Bool.cases_lt, lemmas.Bool.eq-eqb}
use Rattle.std.proofs.lemmas.{List.Elements.All-contains, List.Elements.All-from_recursion, List.Elements.Contains-get_or, List.Elements.recursion_from_All, Nat.div-mul-add}
use Rattle.std.specs.{List.AllByRecursion, List.Contains, List.filter, Prelude.flat_map, Prelude.if◌then◌else◌, Prelude.sum_by}
use Rattle.dcd_base.specs.declared.{capacity.Extent.Extent, ids.HostId.HostId, steps.Actor.Actor}
use Rattle.region_config.{specs.Configurations.Configuration, specs.Granules.granule_size, specs.Soundness.IsSound, proofs.Searches.or_parts as option_parts}
use Rattle.media_map.specs.Places.{region_at}
use Rattle.journal_core.specs.{Entries.effects, declared.acts.Act.Act, declared.outcome.Effect.Effect, declared.outcome.HeldKind.HeldKind, declared.entries.Entry.Entry}
use Rattle.isolation_laws.specs.device_rules.{proofs.Homes.made_region, proofs.Homes.supported_some, proofs.Homes.supported_whole, proofs.LegalSound.legal_is_sound, specs.Adding.is_free_now}
use Rattle.isolation_laws.specs.device_rules.specs.{Counts.dirty_count, Hosts.accepted_of, Hosts.block_of, Legal.Legal, Pictures.Picture, Pictures.picture_of, Standing.IsHome}
use Rattle.plan_rules.proofs.{DeadHosts.HasNothing, DeadHosts.IsReadyToGo, DeadHosts.dead_gone, DeadHosts.touches_host, Room.all_needed, Room.free_fits}
use Rattle.plan_rules.proofs.Stillness.{Still, homes_before, still_all, still_self, still_then}
use Rattle.plan_rules.proofs.{UnbrokenActs.none_refused, UnbrokenActs.scrub_legal, UnbrokenActs.stepped-append, UnbrokenActs.unbroken_parts, Walks.LeavesAll, Walks.all_by, Walks.both_by}
use Rattle.plan_rules.{proofs.WithoutFault.IsClosed, proofs.WithoutFault.IsFaultless, proofs.WithoutFault.faultless, specs.ActsLeft.ActsLeaveAll, specs.ActsLeft.IsPlain, specs.ActsLeft.Unbroken}
use Rattle.plan_rules.specs.{Holding.blocks_held, Holding.extents_in_region, Holding.gain, Holding.stepped, Holding.surplus, Kept.bytes_in}
use Rattle.plan_rules.specs.Listing.{gaining, give_back_surplus, let_go, losing, planned, prepared, ready, zeroing}
use Rattle.plan_rules.specs.{Meeting.IsNamed, Meeting.MeetsDemands, Planning.named_fault, Planning.need_in, Planning.plan_fault, Planning.refused_in, Planning.short_fault}
use Rattle.plan_rules.specs.declared.demands.{Demand.Demand, Demands.Demands}
use Rattle.plan_rules.proofs.Demanded.{HasGained, HasLost, IsReadyToGain, IsReadyToLose, all_gained, all_lost, open_still, open_then, touches_pair}

-- ---- numbers

-- what is held, less what is too much and with what is too little, makes so many blocks as demanded
settled : (bytes size blocks : ℕ) → 0 < size → ((bytes - (bytes / size - blocks) * size) + (blocks - bytes / size) * size) / size ≡ blocks
settled bytes size blocks some =
    ap (λ n. n / size) (elim (cases_lt blocks (bytes / size)) [
      | inl more ↦ (
          let few : blocks - bytes / size ≡ 0 = omega (arith, more) in
          let parts : bytes / size * size ≡ blocks * size + (bytes / size - blocks) * size = ap (λ n. n * size) (omega (arith, more)) ∙ add-mul blocks (bytes / size - blocks) size in
          rw few (omega (arith, parts, div-add-mod' bytes size)))
      | inr less ↦ (
          let none : bytes / size - blocks ≡ 0 = omega (arith, less) in
          let parts : blocks * size ≡ bytes / size * size + (blocks - bytes / size) * size = ap (λ n. n * size) (omega (arith, less)) ∙ add-mul (bytes / size) (blocks - bytes / size) size in
          rw none (omega (arith, parts, div-add-mod' bytes size)))
    ]) ∙ div-mul-add blocks size (bytes % size) (omega (arith, some))

-- ---- lists

at_member : {X : Type 0} (P : X → Type 0) (xs : List X) (x : X) → AllByRecursion P xs → Contains xs x → P x
at_member P xs x each here = All-contains P xs x (All-from_recursion P xs each) here

module _ (c : Configuration) (sound : IsSound c) where
  none_left : (p : Picture) (h : HostId) → h < c.hosts → ((r : ℕ) → r < length c.regions → p.block r % granule_size c r ≡ 0) → (xs : List Extent) → AllByRecursion (IsHome c p h) xs →
      ((r : ℕ) → r < length c.regions → filter (λ (x : Extent). region_at c h x.start == r) xs ≡ []) → xs ≡ []
  none_left p h host whole [] homes none = refl
  none_left p h host whole (x ∷ xs) homes none =
      let home = homes.0 in
      let at : region_at c h x.start ≡ home.region = made_region c h sound host (p.block home.region) home.region x (whole home.region home.made.known) home.made in
      absurd (some_left x _ (rw (eq-eqb (region_at c h x.start) home.region at) at (none home.region home.made.known)))
    where
      some_left : (x : Extent) (xs : List Extent) → x ∷ xs ≡ [] → ⊥
      some_left x xs is = cc

  nothing_accepted : (journal : List Entry) → Legal c journal → (h : HostId) → h < c.hosts → ((r : ℕ) → r < length c.regions → extents_in_region c h r (effects journal) ≡ []) → accepted_of c h (effects journal) ≡ []
  nothing_accepted journal legal h host none =
      let is = legal_is_sound c sound journal legal in
      none_left (picture_of c (effects journal)) h host (λ r known. supported_whole c r _ (is.stands.blocks r known)) (accepted_of c h (effects journal))
      (homes_before c sound (picture_of c (effects journal)) h (accepted_of c h (effects journal)) _ (is.stands.home h)) none

  -- ---- the four parts

  module _ (leave : ActsLeaveAll c) (journal : List Entry) (legal : Legal c journal) (q : Demands) (fine : IsFaultless c journal q) where
    abbrev past : List Effect
    past = effects journal

    -- behind the dead hosts, behind those who give back, behind the scrub, and behind all
    abbrev buried : List Entry
    buried = stepped c journal (flat_map (let_go c (effects journal)) q.dead)

    abbrev lighter : List Entry
    lighter = stepped c journal (losing c (effects journal) q)

    abbrev clean : List Entry
    clean = ready c journal q

    abbrev full : List Entry
    full = stepped c journal (planned c journal q)

    -- ---- what is known before each part

    pub dead_ready : AllByRecursion (λ h. IsReadyToGo c sound leave past h (effects journal)) q.dead
    dead_ready = both_by q.dead (λ h host held. record { host = host; held = held; offers = refl; extents = λ r. refl }) fine.dead fine.dead_held

    pub lose_ready : (b : List Entry) → ((h : HostId) (r : ℕ) → AllByRecursion (λ d. d ≡ h → ⊥) q.dead → Still c h r past (effects b)) → AllByRecursion (λ x. IsReadyToLose c past x (effects b)) q.demands
    lose_ready b still =
        both_by q.demands (λ (x : Demand) (plain : IsPlain c x) (here : AllByRecursion (λ d. d ≡ x.host → ⊥) q.dead × IsClosed x.host (effects journal)). let own = still x.host x.region here.0 in record {
          plain = plain;
          releases = own.held HeldKind.Releases ∙ here.1.held HeldKind.Releases;
          extents = own.extents;
          block = own.blocks x.region;
        }) fine.plain (both_by q.demands (λ x alive closed. (alive, closed)) fine.living fine.closed)

    module _ (none_p : Unbroken c journal (prepared c journal q)) where
      none_3 : Unbroken c journal (losing c past q) × Unbroken c lighter (zeroing c (effects lighter))
      none_3 = unbroken_parts c journal (losing c past q) (zeroing c (effects lighter)) none_p

      none_2 : Unbroken c journal (flat_map (let_go c past) q.dead) × Unbroken c buried (flat_map (give_back_surplus c past) q.demands)
      none_2 = unbroken_parts c journal (flat_map (let_go c past) q.dead) (flat_map (give_back_surplus c past) q.demands) none_3.0

      pub part_1 : LeavesAll c touches_host (λ h before now. HasNothing c h now) journal q.dead buried
      part_1 = dead_gone c sound leave past q.dead journal legal fine.dead_apart
          dead_ready none_2.0

      living_still : (h : HostId) (r : ℕ) → AllByRecursion (λ d. d ≡ h → ⊥) q.dead → Still c h r (effects journal) (effects buried)
      living_still h r alive = part_1.still h r alive

      part_2 : LeavesAll c touches_pair (HasLost c past) buried q.demands lighter
      part_2 = subst (LeavesAll c touches_pair (HasLost c past) buried q.demands) (sym (stepped-append c journal (flat_map (let_go c past) q.dead) (flat_map (give_back_surplus c past) q.demands)))
          (all_lost c sound leave past q.demands buried part_1.legal fine.apart
          (lose_ready buried living_still) none_2.1)

      scrubbed_still : (n : ℕ) (none : Bool) → let after = stepped c lighter (if none then [] else (Actor.Sanitizer, Act.Scrub n) ∷ []) in
          Legal c after × ((h : HostId) (r : ℕ) → Still c h r (effects lighter) (effects after))
      scrubbed_still n true = (part_2.legal, λ h r. still_self c h r (effects lighter))
      scrubbed_still n false = let after = scrub_legal c lighter part_2.legal n in (after, still_all c sound lighter _ part_2.legal after ((leave lighter part_2.legal).scrubs n))

      pub part_3 : Legal c clean × ((h : HostId) (r : ℕ) → Still c h r (effects lighter) (effects clean))
      part_3 = subst (λ after. Legal c after × ((h : HostId) (r : ℕ) → Still c h r (effects lighter) (effects after))) (sym (stepped-append c journal (losing c past q) (zeroing c (effects lighter))))
          (scrubbed_still (dirty_count c (effects lighter)) (dirty_count c (effects lighter) == 0))

      past_regions : (h : HostId) → AllByRecursion (λ (x : Demand). touches_pair x h (length c.regions) → ⊥) q.demands
      past_regions h = all_by q.demands (λ x plain same. absurd (omega (arith, plain.region, same.1))) fine.plain

      gains_fit : AllByRecursion (λ (x : Demand). gain c past x * block_of c x.region past < 2 ^ 64) q.demands
      gains_fit = both_by q.demands (λ (x : Demand) (plain : IsPlain c x) (less : gain c past x ≤ need_in c past q x.region).
          let blocks = (part_3.1 0 (length c.regions)).blocks x.region ∙ (part_2.still 0 (length c.regions) (past_regions 0)).blocks x.region ∙ (living_still c.hosts 0 (all_by q.dead (λ d known same. absurd (omega (arith, known, same))) fine.dead)).blocks x.region in
          let supports = (legal_is_sound c sound clean part_3.0).stands.blocks x.region plain.region in
          subst (λ size. gain c past x * size < 2 ^ 64) blocks
          (free_fits c sound (λ r. block_of c r (effects clean)) (is_free_now c (effects clean)) x.region plain.region supports (gain c past x) (omega (arith, less, fine.enough x.region plain.region)))) fine.plain (all_needed c past q)

      pub gain_ready : AllByRecursion (λ x. IsReadyToGain c past x (effects clean)) q.demands
      gain_ready = both_by q.demands (λ (x : Demand) (plain : IsPlain c x) (here : (AllByRecursion (λ d. d ≡ x.host → ⊥) q.dead × IsClosed x.host (effects journal)) × (HasLost c past x (effects buried) (effects lighter) × (gain c past x * block_of c x.region past < 2 ^ 64))).
          let lists = open_then c x.host past (effects lighter) (effects clean)
          (open_then c x.host past (effects buried) (effects lighter) (open_still c x.host x.region past (effects buried) (living_still x.host x.region here.0.0)) here.1.0.lists)
          (open_still c x.host x.region (effects lighter) (effects clean) (part_3.1 x.host x.region)) in record {
            plain = plain;
            responses = lists.held HeldKind.Responses ∙ here.0.1.held HeldKind.Responses;
            offers = lists.offers ∙ here.0.1.offers;
            block = lists.blocks x.region;
            fits = here.1.1;
          }) fine.plain (both_by q.demands (λ x here lost. (here, lost)) (both_by q.demands (λ x alive closed. (alive, closed)) fine.living fine.closed) (both_by q.demands (λ x lost fits. (lost, fits)) part_2.each gains_fit))

      module _ (none_g : Unbroken c clean (gaining c past clean q.demands)) where
        part_4 : LeavesAll c touches_pair (HasGained c past) clean q.demands full
        part_4 = subst (LeavesAll c touches_pair (HasGained c past) clean q.demands) (sym (stepped-append c journal (prepared c journal q) (gaining c past clean q.demands)))
            (all_gained c sound leave past q.demands clean part_3.0 fine.apart
            gain_ready none_g)

        -- ---- who is not named

        still_behind : (h : HostId) (r : ℕ) → AllByRecursion (λ (x : Demand). touches_pair x h r → ⊥) q.demands → Still c h r (effects buried) (effects full)
        still_behind h r out = still_then c h r (effects buried) (effects lighter) (effects full) (part_2.still h r out)
            (still_then c h r (effects lighter) (effects clean) (effects full) (part_3.1 h r) (part_4.still h r out))

        other_still : (h : HostId) (r : ℕ) → AllByRecursion (λ d. d ≡ h → ⊥) q.dead → AllByRecursion (λ (x : Demand). touches_pair x h r → ⊥) q.demands → Still c h r (effects journal) (effects full)
        other_still h r alive out = still_then c h r (effects journal) (effects buried) (effects full) (living_still h r alive) (still_behind h r out)

        alive_by : (h : HostId) → (Contains q.dead h → ⊥) → AllByRecursion (λ d. d ≡ h → ⊥) q.dead
        alive_by h out = recursion_from_All (λ d. d ≡ h → ⊥) q.dead (λ k d below same. out (subst (Contains q.dead) same (Contains-get_or q.dead k d below)))

        out_by : (h : HostId) (r : ℕ) → (IsNamed q h r → ⊥) → AllByRecursion (λ (x : Demand). touches_pair x h r → ⊥) q.demands
        out_by h r out = recursion_from_All (λ (x : Demand). touches_pair x h r → ⊥) q.demands (λ k d below same. out (get_or q.demands k d, Contains-get_or q.demands k d below, same.0, same.1))

        -- ---- a dead host

        dead_out : (h : HostId) (r : ℕ) → Contains q.dead h → AllByRecursion (λ (x : Demand). touches_pair x h r → ⊥) q.demands
        dead_out h r here = all_by q.demands (λ x alive same. at_member (λ d. d ≡ x.host → ⊥) q.dead h alive here (sym same.0)) fine.living

        left_dead : (h : HostId) → Contains q.dead h → HasNothing c h (effects buried)
        left_dead h here = at_member (λ d. HasNothing c d (effects buried)) q.dead h part_1.each here

        -- ---- a demand

        record IsServed (x : Demand) : Type 0 where
          plain : IsPlain c x
          kept : Still c x.host x.region (effects journal) (effects buried)
          lost : HasLost c (effects journal) x (effects buried) (effects lighter)
          gained : HasGained c (effects journal) x (effects clean) (effects full)

        served : (x : Demand) → Contains q.demands x → IsServed x
        served x here = record {
          plain = at_member (IsPlain c) q.demands x fine.plain here;
          kept = living_still x.host x.region (at_member (λ (y : Demand). AllByRecursion (λ d. d ≡ y.host → ⊥) q.dead) q.demands x fine.living here);
          lost = at_member (λ y. HasLost c (effects journal) y (effects buried) (effects lighter)) q.demands x part_2.each here;
          gained = at_member (λ y. HasGained c (effects journal) y (effects clean) (effects full)) q.demands x part_4.each here;
        }

        sums : (xs : List Extent) → ℕ
        sums xs = sum_by (λ (x : Extent). x.length) xs

        blocks_now : (x : Demand) → IsServed x → blocks_held c x.host x.region (effects full) ≡ x.blocks
        unfolding sums
        blocks_now x s =
            let size : ℕ = block_of c x.region past in
            let held : ℕ = bytes_in c x.host x.region past in
            let before : bytes_in c x.host x.region (effects buried) ≡ held = ap sums s.kept.extents in
            let after : bytes_in c x.host x.region (effects clean) ≡ bytes_in c x.host x.region (effects lighter) = ap sums (part_3.1 x.host x.region).extents in
            let bytes : bytes_in c x.host x.region (effects full) ≡ (held - surplus c past x * size) + gain c past x * size =
            s.gained.bytes ∙ ap (λ n. n + gain c past x * size) (after ∙ s.lost.bytes ∙ ap (λ n. n - surplus c past x * size) before) in
            let block : block_of c x.region (effects full) ≡ size =
            s.gained.lists.blocks x.region ∙ (part_3.1 x.host x.region).blocks x.region ∙ s.lost.lists.blocks x.region ∙ s.kept.blocks x.region in
            (λ i. bytes i / block i) ∙ settled held size x.blocks (supported_some c x.region size ((legal_is_sound c sound journal legal).stands.blocks x.region s.plain.region))

        pub meets_demands : MeetsDemands c (effects journal) (effects full) q
        meets_demands = record {
          demanded = λ x here. blocks_now x (served x here);
          loses = λ x here less g inside at holds. let s = served x here in
              sym (s.kept.holders g at) ∙ s.lost.falls g inside at (sym ((part_3.1 x.host x.region).holders g at) ∙ s.gained.kept (omega (arith, less)) g inside at holds);
          keeps = λ x here more g inside at holds. let s = served x here in
              s.gained.rises g inside at ((part_3.1 x.host x.region).holders g at ∙ s.lost.kept (omega (arith, more)) g inside at (s.kept.holders g at ∙ holds));
          dead_extents = λ h here. nothing_accepted full part_4.legal h (at_member (λ d. d < c.hosts) q.dead h fine.dead here)
              (λ r known. (still_behind h r (dead_out h r here)).extents ∙ (left_dead h here).extents r known);
          dead_offers = λ h here. (still_behind h 0 (dead_out h 0 here)).offers ∙ (left_dead h here).offers;
          others = λ h r host out alive. (other_still h r (alive_by h alive) (out_by h r out)).extents;
          offers = λ h host alive. (other_still h (length c.regions) (alive_by h alive) (past_regions h)).offers;
        }

pub plan_meets_by : (c : Configuration) → IsSound c → ActsLeaveAll c → (journal : List Entry) → Legal c journal → (q : Demands) → plan_fault c journal q ≡ None →
    MeetsDemands c (effects journal) (effects (stepped c journal (planned c journal q))) q
plan_meets_by c sound leave journal legal q none =
    let three = option_parts _ (refused_in c journal (planned c journal q)) none in
    let two = option_parts _ (short_fault c journal q) three.0 in
    let one = option_parts (named_fault c q) _ two.0 in
    let parts = unbroken_parts c journal (prepared c journal q) (gaining c (effects journal) (ready c journal q) q.demands) (none_refused c journal (planned c journal q) three.1) in
    meets_demands c sound leave journal legal q (faultless c journal q one.0 one.1 two.1) parts.0 parts.1
