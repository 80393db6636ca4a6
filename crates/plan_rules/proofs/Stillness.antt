-- What stays of a host in one region, and whose granules it holds there.
use Rattle.std.proofs.Common.{◌≡◌, ◌≢◌, ℕ, ◌<◌, false, ◌||◌, ◌==◌, List, [], ◌∷◌, ◌++◌, map, refl, sym, ap, subst, ◌∙◌, inl, inr}
use Rattle.std.proofs.lemmas.Bool.{cases_Bool, cases_eq, cases_lt, eq-eqb, false≢true, false_from_ne_true}
use Rattle.std.specs.List.{AllByRecursion, filter}
use Rattle.dcd_base.specs.{declared.capacity.Extent.Extent, declared.ids.HostId.HostId, Words.has_granule, Words.has_in_runs}
use Rattle.region_config.specs.{Configurations.Configuration, Granules.region_of, Soundness.IsSound}
use Rattle.media_map.specs.Places.{region_at, run_of}
use Rattle.journal_core.specs.{Entries.effects, Holders.holds, declared.outcome.Effect.Effect, declared.outcome.HeldKind.HeldKind, declared.entries.Entry.Entry}
use Rattle.isolation_laws.specs.device_rules.proofs.{Homes.made_of_region, Homes.made_region, Homes.supported_whole, LegalSound.legal_is_sound}
use Rattle.isolation_laws.specs.device_rules.specs.{Hosts.accepted_of, Hosts.block_of, Hosts.held_of, Hosts.offers_of, Legal.Legal, Pictures.Picture, Pictures.picture_of}
use Rattle.isolation_laws.specs.device_rules.specs.Standing.{IsHome, Sound}
use Rattle.plan_rules.specs.{Kept.KeepsHost, Kept.KeepsHosts, Kept.KeepsOthers, Holding.extents_in_region, ActsLeft.ChangesOnly}

-- The host has the same extents and granules in the region, the same offers and the same held lists, and the block sizes are the same.
pub record Still (c : Configuration) (h : HostId) (r : ℕ) (before after : List Effect) : Type 0 where
  pub extents : extents_in_region c h r after ≡ extents_in_region c h r before
  pub holders : (g : ℕ) → region_of c g ≡ r → holds h g after ≡ holds h g before
  pub offers : offers_of h after ≡ offers_of h before
  pub held : (kind : HeldKind) → held_of h kind after ≡ held_of h kind before
  pub blocks : (s : ℕ) → block_of c s after ≡ block_of c s before

pub still_self : (c : Configuration) (h : HostId) (r : ℕ) (past : List Effect) → Still c h r past past
still_self c h r past = record { extents = refl; holders = λ g at. refl; offers = refl; held = λ kind. refl; blocks = λ s. refl }

pub still_then : (c : Configuration) (h : HostId) (r : ℕ) (first second third : List Effect) → Still c h r first second → Still c h r second third → Still c h r first third
still_then c h r first second third a b = record {
  extents = b.extents ∙ a.extents;
  holders = λ g at. b.holders g at ∙ a.holders g at;
  offers = b.offers ∙ a.offers;
  held = λ kind. b.held kind ∙ a.held kind;
  blocks = λ s. b.blocks s ∙ a.blocks s;
}

module _ (c : Configuration) (sound : IsSound c) where
  -- ---- a host holds the granules of a region that its extents there have

  module _ (p : Picture) (is : Sound c p) (h : HostId) (host : h < c.hosts) (r g : ℕ) (here : region_of c g ≡ r) where
    outside : (x : Extent) → IsHome c p h x → (region_at c h x.start == r) ≡ false → has_granule (run_of c h x) g ≡ false
    outside x home other = false_from_ne_true (has_granule (run_of c h x) g) (λ has.
        let whole = supported_whole c home.region (p.block home.region) (is.stands.blocks home.region home.made.known) in
        let at : region_at c h x.start ≡ r = made_region c h sound host (p.block home.region) home.region x whole home.made
        ∙ sym (made_of_region c h sound host (p.block home.region) home.region x whole home.made g has) ∙ here in
        false≢true (sym other ∙ eq-eqb (region_at c h x.start) r at))

    in_region : (xs : List Extent) → AllByRecursion (IsHome c p h) xs →
        has_in_runs (map (run_of c h) xs) g ≡ has_in_runs (map (run_of c h) (filter (λ (x : Extent). region_at c h x.start == r) xs)) g
    in_region [] homes = refl
    in_region (x ∷ xs) homes = elim (cases_Bool (region_at c h x.start == r)) [
      | inl inside ↦ rw inside (ap (λ b. has_granule (run_of c h x) g || b) (in_region xs homes.1))
      | inr other ↦ rw other (rw (outside x homes.0 other) (in_region xs homes.1))
    ]

  none_in : (h : HostId) (g : ℕ) (xs : List Extent) → xs ≡ [] → has_in_runs (map (run_of c h) xs) g ≡ has_in_runs (map (run_of c h) (filter (λ (x : Extent). region_at c h x.start == region_of c g) xs)) g
  none_in h g xs none = rw none refl

  pub homes_before : (p : Picture) (h : HostId) (xs ys : List Extent) → AllByRecursion (IsHome c p h) (xs ++ ys) → AllByRecursion (IsHome c p h) xs
  homes_before p h [] ys homes = tt
  homes_before p h (x ∷ xs) ys homes = (homes.0, homes_before p h xs ys homes.1)

  pub holds_in : (journal : List Entry) → Legal c journal → (h : HostId) (g : ℕ) →
      holds h g (effects journal) ≡ has_in_runs (map (run_of c h) (extents_in_region c h (region_of c g) (effects journal))) g
  holds_in journal legal h g =
      let is = legal_is_sound c sound journal legal in
      is.stands.held h g ∙ elim (cases_lt h c.hosts) [
        | inl host ↦ in_region (picture_of c (effects journal)) is h host (region_of c g) g refl (accepted_of c h (effects journal))
            (homes_before (picture_of c (effects journal)) h (accepted_of c h (effects journal)) _ (is.stands.home h))
        | inr past ↦ none_in h g (accepted_of c h (effects journal)) (is.stands.no_accepted h past)
      ]

  -- ---- what is still

  pub still_by : (a b : List Entry) → Legal c a → Legal c b → (h : HostId) (r : ℕ) →
      extents_in_region c h r (effects b) ≡ extents_in_region c h r (effects a) → offers_of h (effects b) ≡ offers_of h (effects a) →
      ((kind : HeldKind) → held_of h kind (effects b) ≡ held_of h kind (effects a)) → ((s : ℕ) → block_of c s (effects b) ≡ block_of c s (effects a)) →
      Still c h r (effects a) (effects b)
  still_by a b legal_a legal_b h r extents offers held blocks = record {
    extents = extents;
    holders = λ g at. holds_in b legal_b h g
        ∙ subst (λ s. has_in_runs (map (run_of c h) (extents_in_region c h s (effects b))) g ≡ has_in_runs (map (run_of c h) (extents_in_region c h s (effects a))) g) (sym at)
        (ap (λ xs. has_in_runs (map (run_of c h) xs) g) extents)
        ∙ sym (holds_in a legal_a h g);
    offers = offers;
    held = held;
    blocks = blocks;
  }

  module _ (a b : List Entry) (legal_a : Legal c a) (legal_b : Legal c b) where
    pub still_host : (h : HostId) (r : ℕ) → KeepsHost c h (effects a) (effects b) → ((s : ℕ) → block_of c s (effects b) ≡ block_of c s (effects a)) → Still c h r (effects a) (effects b)
    still_host h r keeps blocks = still_by a b legal_a legal_b h r
        (ap (filter (λ (x : Extent). region_at c h x.start == r)) keeps.accepted) keeps.offers keeps.held blocks

    pub still_all : KeepsHosts c (effects a) (effects b) → (h : HostId) (r : ℕ) → Still c h r (effects a) (effects b)
    still_all keeps h r = still_host h r (keeps.hosts h) keeps.blocks

    pub still_others : (k : HostId) → KeepsOthers c k (effects a) (effects b) → (h : HostId) (r : ℕ) → k ≢ h → Still c h r (effects a) (effects b)
    still_others k keeps h r other = still_host h r (keeps.others h other) keeps.blocks

    -- elsewhere than where extents may have changed
    pub still_elsewhere : (k : HostId) (s : ℕ) → ChangesOnly c k s (effects a) (effects b) → (h : HostId) (r : ℕ) → (k ≡ h → s ≡ r → ⊥) → Still c h r (effects a) (effects b)
    still_elsewhere k s only h r other = elim (cases_eq k h) [
      | inr apart ↦ still_others k only.keeps h r apart
      | inl same ↦ subst (λ m. Still c m r (effects a) (effects b)) same
          (still_by a b legal_a legal_b k r (only.elsewhere r (other same)) only.offers only.keeps.held only.keeps.blocks)
    ]
