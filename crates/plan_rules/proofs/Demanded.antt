-- The second and the fourth part of a plan: who has too much gives back, and who has too little is provided.
use Rattle.std.proofs.Common.{◌≡◌, ℕ, Bool, true, ◌+◌, ◌-◌, ◌*◌, ◌/◌, ◌^◌, ◌<◌, false, ◌==◌, List, [], ◌∷◌, ◌++◌, refl, sym, ap, subst, ◌∙◌, arith}
use Rattle.std.{specs.Prelude.flat_map, specs.Prelude.if◌then◌else◌, specs.Prelude.reverse, specs.Prelude.sum_by, specs.List.AllByRecursion, proofs.lemmas.Bool.eqb-false, proofs.lemmas.Bool.eqb-true}
use Rattle.dcd_base.specs.{declared.capacity.Extent.Extent, declared.ids.HostId.HostId, Words.zero_tag}
use Rattle.fm_payloads.specs.declared.requests.FmRequest.{FmRequest}
use Rattle.host_payloads.specs.declared.requests.HostRequest.{HostRequest}
use Rattle.region_config.specs.{Configurations.Configuration, Soundness.IsSound}
use Rattle.journal_core.specs.{Entries.effects, declared.outcome.Effect.Effect, declared.outcome.HeldKind.HeldKind, declared.entries.Entry.Entry}
use Rattle.isolation_laws.specs.device_rules.specs.{Hosts.block_of, Hosts.held_of, Hosts.offers_of, Legal.Legal}
use Rattle.plan_rules.proofs.{Stillness.Still, Stillness.still_elsewhere, Stillness.still_self, UnbrokenActs.host_legal, UnbrokenActs.manager_legal}
use Rattle.plan_rules.proofs.Walks.{AllApart, IsWalk, LeavesAll, LeavesItem, walk, walk_each, walked}
use Rattle.plan_rules.specs.ActsLeft.{ActsLeaveAll, ChangesOnly, IsPlain, Unbroken, giving_back, journal_behind, offering, providing}
use Rattle.plan_rules.specs.{Holding.Step, Holding.blocks_held, Holding.extents_in_region, Holding.gain, Holding.stepped, Holding.surplus, Kept.bytes_in}
use Rattle.plan_rules.specs.{Listing.by_host, Listing.by_manager, Listing.gained, Listing.gaining, Listing.give_back_surplus, Listing.last_bytes, Listing.offer_taken, Meeting.HoldsStill}
use Rattle.plan_rules.specs.declared.demands.Demand.{Demand}

-- a demand touches its host's part of its region
abbrev pub touches_pair : Demand → HostId → ℕ → Type 0
touches_pair x h r = (x.host ≡ h) × (x.region ≡ r)

-- The host's offers and held lists, and the block sizes, are as they were.
pub record KeepsOpen (c : Configuration) (h : HostId) (before now : List Effect) : Type 0 where
  pub offers : offers_of h now ≡ offers_of h before
  pub held : (kind : HeldKind) → held_of h kind now ≡ held_of h kind before
  pub blocks : (s : ℕ) → block_of c s now ≡ block_of c s before

open_self : (c : Configuration) (h : HostId) (past : List Effect) → KeepsOpen c h past past
open_self c h past = record { offers = refl; held = λ kind. refl; blocks = λ s. refl }

open_only : (c : Configuration) (h : HostId) (r : ℕ) (before now : List Effect) → ChangesOnly c h r before now → KeepsOpen c h before now
open_only c h r before now only = record { offers = only.offers; held = only.keeps.held; blocks = only.keeps.blocks }

pub open_still : (c : Configuration) (h : HostId) (r : ℕ) (before now : List Effect) → Still c h r before now → KeepsOpen c h before now
open_still c h r before now still = record { offers = still.offers; held = still.held; blocks = still.blocks }

pub open_then : (c : Configuration) (h : HostId) (first second third : List Effect) → KeepsOpen c h first second → KeepsOpen c h second third → KeepsOpen c h first third
open_then c h first second third a b = record { offers = b.offers ∙ a.offers; held = λ kind. b.held kind ∙ a.held kind; blocks = λ s. b.blocks s ∙ a.blocks s }

-- ---- what is lost and what is gained

module _ (c : Configuration) (past : List Effect) (x : Demand) where
  -- So many bytes as the plan says are lost, and no granule is new.
  pub record HasLost (before now : List Effect) : Type 0 where
    pub lists : KeepsOpen c x.host before now
    pub bytes : bytes_in c x.host x.region now ≡ bytes_in c x.host x.region before - surplus c past x * block_of c x.region past
    pub falls : HoldsStill c x.host x.region now before
    pub kept : surplus c past x ≡ 0 → HoldsStill c x.host x.region before now

  -- So many bytes as the plan says are gained, and no granule is lost.
  pub record HasGained (before now : List Effect) : Type 0 where
    pub lists : KeepsOpen c x.host before now
    pub bytes : bytes_in c x.host x.region now ≡ bytes_in c x.host x.region before + gain c past x * block_of c x.region past
    pub rises : HoldsStill c x.host x.region before now
    pub kept : gain c past x ≡ 0 → HoldsStill c x.host x.region now before

  sum_of : List Extent → ℕ
  sum_of xs = sum_by (λ (x : Extent). x.length) xs

  pub lost_later : (a b d : List Effect) → Still c x.host x.region a b → HasLost b d → HasLost a d
  unfolding sum_of
  lost_later a b d still done = record {
    lists = open_then c x.host a b d (open_still c x.host x.region a b still) done.lists;
    bytes = done.bytes ∙ ap (λ xs. sum_of xs - surplus c past x * block_of c x.region past) still.extents;
    falls = λ g inside at holds. sym (still.holders g at) ∙ done.falls g inside at holds;
    kept = λ none g inside at holds. done.kept none g inside at (still.holders g at ∙ holds);
  }

  pub lost_still : (a b d : List Effect) → HasLost a b → Still c x.host x.region b d → HasLost a d
  unfolding sum_of
  lost_still a b d done still = record {
    lists = open_then c x.host a b d done.lists (open_still c x.host x.region b d still);
    bytes = ap sum_of still.extents ∙ done.bytes;
    falls = λ g inside at holds. done.falls g inside at (sym (still.holders g at) ∙ holds);
    kept = λ none g inside at holds. still.holders g at ∙ done.kept none g inside at holds;
  }

  pub gained_later : (a b d : List Effect) → Still c x.host x.region a b → HasGained b d → HasGained a d
  unfolding sum_of
  gained_later a b d still done = record {
    lists = open_then c x.host a b d (open_still c x.host x.region a b still) done.lists;
    bytes = done.bytes ∙ ap (λ xs. sum_of xs + gain c past x * block_of c x.region past) still.extents;
    rises = λ g inside at holds. done.rises g inside at (still.holders g at ∙ holds);
    kept = λ none g inside at holds. sym (still.holders g at) ∙ done.kept none g inside at holds;
  }

  pub gained_still : (a b d : List Effect) → HasGained a b → Still c x.host x.region b d → HasGained a d
  unfolding sum_of
  gained_still a b d done still = record {
    lists = open_then c x.host a b d done.lists (open_still c x.host x.region b d still);
    bytes = ap sum_of still.extents ∙ done.bytes;
    rises = λ g inside at holds. still.holders g at ∙ done.rises g inside at holds;
    kept = λ none g inside at holds. done.kept none g inside at (sym (still.holders g at) ∙ holds);
  }

  -- ---- what has to be known before

  -- The host has in the region what it had when the plan was made, and no releases are held.
  pub record IsReadyToLose (now : List Effect) : Type 0 where
    pub plain : IsPlain c x
    pub releases : held_of x.host HeldKind.Releases now ≡ []
    pub extents : extents_in_region c x.host x.region now ≡ extents_in_region c x.host x.region past
    pub block : block_of c x.region now ≡ block_of c x.region past

  -- The host has no offers, and no responses are held.
  pub record IsReadyToGain (now : List Effect) : Type 0 where
    pub plain : IsPlain c x
    pub responses : held_of x.host HeldKind.Responses now ≡ []
    pub offers : offers_of x.host now ≡ []
    pub block : block_of c x.region now ≡ block_of c x.region past
    pub fits : gain c past x * block_of c x.region past < 2 ^ 64

  module _ (sound : IsSound c) (leave : ActsLeaveAll c) (journal : List Entry) (legal : Legal c journal) where
    -- ---- one demand that has fallen

    lost_by : IsReadyToLose (effects journal) → (none : Bool) → (surplus c past x == 0) ≡ none →
        let acts = if none then [] else by_host x.host (HostRequest.GiveBack false (last_bytes (surplus c past x * block_of c x.region past) (reverse (extents_in_region c x.host x.region past)))) ∷ [] in
        Unbroken c journal acts → LeavesItem c (touches_pair x) HasLost journal acts
    lost_by ready true is none = let zero_ : surplus c past x ≡ 0 = eqb-true _ _ is in record {
      legal = legal;
      still = λ h r other. still_self c h r (effects journal);
      done = record { lists = open_self c x.host (effects journal); bytes = rw zero_ (omega arith); falls = λ g inside at holds. holds; kept = λ none g inside at holds. holds };
    }
    lost_by ready false is none =
        let n : ℕ = surplus c past x in
        let some : 0 < n = omega (arith, eqb-false n 0 is) in
        let list : ℕ → List Extent → Step = λ size xs. by_host x.host (HostRequest.GiveBack false (last_bytes (n * size) (reverse xs))) in
        let same : giving_back c x n (effects journal) ≡ list (block_of c x.region past) (extents_in_region c x.host x.region past) = λ i. list (ready.block i) (ready.extents i) in
        let blocks : blocks_held c x.host x.region (effects journal) ≡ blocks_held c x.host x.region past = λ i. sum_by (λ (x : Extent). x.length) (ready.extents i) / ready.block i in
        subst (λ s. Unbroken c journal (s ∷ []) → LeavesItem c (touches_pair x) HasLost journal (s ∷ [])) same (λ whole.
        let next : List Entry = journal_behind c journal (giving_back c x n (effects journal)) in
        let after = host_legal c journal legal x.host ready.plain.host (HostRequest.GiveBack false (last_bytes (n * block_of c x.region (effects journal)) (reverse (extents_in_region c x.host x.region (effects journal))))) in
        let left = (leave journal legal).gives x n ready.plain some (omega (arith, blocks)) ready.releases whole in
        record {
          legal = after;
          still = λ h r other. still_elsewhere c sound journal next legal after x.host x.region left.only h r (λ host region. other (host, region));
          done = record {
            lists = open_only c x.host x.region (effects journal) (effects next) left.only;
            bytes = left.less ∙ (λ i. bytes_in c x.host x.region (effects journal) - n * ready.block i);
            falls = left.falls;
            kept = λ none. absurd (omega (arith, some, none));
          };
        })
        none

    -- ---- one demand that has risen

    gained_by : IsReadyToGain (effects journal) → (none : Bool) → (gain c past x == 0) ≡ none →
        let add = by_manager (FmRequest.Add x.host 0 x.region (gain c past x * block_of c x.region past) zero_tag []) in
        let acts = if none then [] else add ∷ offer_taken x.host (effects (stepped c journal (add ∷ []))) ∷ [] in
        Unbroken c journal acts → LeavesItem c (touches_pair x) HasGained journal acts
    gained_by ready true is none = let zero_ : gain c past x ≡ 0 = eqb-true _ _ is in record {
      legal = legal;
      still = λ h r other. still_self c h r (effects journal);
      done = record { lists = open_self c x.host (effects journal); bytes = rw zero_ (omega arith); rises = λ g inside at holds. holds; kept = λ none g inside at holds. holds };
    }
    gained_by ready false is none =
        let n : ℕ = gain c past x in
        let some : 0 < n = omega (arith, eqb-false n 0 is) in
        let list : ℕ → List Step = λ size. let add = by_manager (FmRequest.Add x.host 0 x.region (n * size) zero_tag []) in add ∷ offer_taken x.host (effects (journal_behind c journal add)) ∷ [] in
        subst (λ size. Unbroken c journal (list size) → LeavesItem c (touches_pair x) HasGained journal (list size)) ready.block (λ whole.
        let next : List Entry = journal_behind c journal (offering c x n (effects journal)) in
        let end : List Entry = stepped c journal (providing c x n journal) in
        let middle = manager_legal c journal legal (FmRequest.Add x.host 0 x.region (n * block_of c x.region (effects journal)) zero_tag []) in
        let after = host_legal c next middle x.host ready.plain.host (HostRequest.AddResponse false _) in
        let left = (leave journal legal).provides x n ready.plain some (rw ready.block ready.fits) ready.offers ready.responses whole in
        record {
          legal = after;
          still = λ h r other. still_elsewhere c sound journal end legal after x.host x.region left.only h r (λ host region. other (host, region));
          done = record {
            lists = open_only c x.host x.region (effects journal) (effects end) left.only;
            bytes = left.more ∙ (λ i. bytes_in c x.host x.region (effects journal) + n * ready.block i);
            rises = left.rises;
            kept = λ none. absurd (omega (arith, some, none));
          };
        })
        none

-- ---- all demands

module _ (c : Configuration) (sound : IsSound c) (leave : ActsLeaveAll c) (past : List Effect) where
  pub losing_walk : IsWalk c (λ before x. give_back_surplus c past x) touches_pair (IsReadyToLose c past) (HasLost c past)
  losing_walk = record {
    stays_ready = λ x a b still ready. let own = still x.host x.region (refl, refl) in record {
      plain = ready.plain;
      releases = own.held HeldKind.Releases ∙ ready.releases;
      extents = own.extents ∙ ready.extents;
      block = own.blocks x.region ∙ ready.block;
    };
    done_later = λ x a b d still done. lost_later c past x a b d (still x.host x.region (refl, refl)) done;
    stays_done = λ x a b d still done. lost_still c past x a b d done (still x.host x.region (refl, refl));
    one = λ x journal legal ready none. lost_by c past x sound leave journal legal ready (surplus c past x == 0) refl none;
  }

  pub all_lost : (xs : List Demand) (journal : List Entry) → Legal c journal → AllApart touches_pair xs → AllByRecursion (λ x. IsReadyToLose c past x (effects journal)) xs →
      Unbroken c journal (flat_map (give_back_surplus c past) xs) → LeavesAll c touches_pair (HasLost c past) journal xs (stepped c journal (flat_map (give_back_surplus c past) xs))
  all_lost xs journal legal apart ready none =
      let walks = walk_each c (give_back_surplus c past) journal xs in
      subst (λ acts. LeavesAll c touches_pair (HasLost c past) journal xs (stepped c journal acts)) (sym walks)
      (walked c (λ before x. give_back_surplus c past x) touches_pair (IsReadyToLose c past) (HasLost c past) losing_walk xs journal legal apart ready (subst (Unbroken c journal) walks none))

  pub gaining_walk : IsWalk c (gained c past) touches_pair (IsReadyToGain c past) (HasGained c past)
  gaining_walk = record {
    stays_ready = λ x a b still ready. let own = still x.host x.region (refl, refl) in record {
      plain = ready.plain;
      responses = own.held HeldKind.Responses ∙ ready.responses;
      offers = own.offers ∙ ready.offers;
      block = own.blocks x.region ∙ ready.block;
      fits = ready.fits;
    };
    done_later = λ x a b d still done. gained_later c past x a b d (still x.host x.region (refl, refl)) done;
    stays_done = λ x a b d still done. gained_still c past x a b d done (still x.host x.region (refl, refl));
    one = λ x journal legal ready none. gained_by c past x sound leave journal legal ready (gain c past x == 0) refl none;
  }

  pub gaining_is : (xs : List Demand) (journal : List Entry) → gaining c past journal xs ≡ walk c (gained c past) journal xs
  gaining_is [] journal = refl
  gaining_is (x ∷ xs) journal = ap (λ rest. gained c past journal x ++ rest) (gaining_is xs (stepped c journal (gained c past journal x)))

  pub all_gained : (xs : List Demand) (journal : List Entry) → Legal c journal → AllApart touches_pair xs → AllByRecursion (λ x. IsReadyToGain c past x (effects journal)) xs →
      Unbroken c journal (gaining c past journal xs) → LeavesAll c touches_pair (HasGained c past) journal xs (stepped c journal (gaining c past journal xs))
  all_gained xs journal legal apart ready none =
      subst (λ acts. LeavesAll c touches_pair (HasGained c past) journal xs (stepped c journal acts)) (sym (gaining_is xs journal))
      (walked c (gained c past) touches_pair (IsReadyToGain c past) (HasGained c past) gaining_walk xs journal legal apart ready (subst (Unbroken c journal) (gaining_is xs journal) none))
