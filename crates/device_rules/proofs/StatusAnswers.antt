-- The status of a granule after an offer is answered and what was accepted is taken.
use Rattle.std.proofs.Common.{◌≡◌, ◌≢◌, ℕ, ◌<◌, Bool, true, false, ◌&&◌, ◌||◌, List, [], ◌∷◌, ◌++◌, drop, inl, inr, refl, sym, ap, subst, ◌∙◌}
use Rattle.std.{specs.Prelude.◌==◌, specs.Prelude.if◌then◌else◌, specs.List.list_all, specs.List.list_any, proofs.lemmas.Bool.cases_eq, proofs.lemmas.Bool.eq-eqb, proofs.lemmas.Bool.ne_eqb}
use Rattle.cci_codec.specs.dcd_base.specs.declared.{ids.HostId.HostId, capacity.Extent.Extent}
use Rattle.extent_list.{proofs.EachTag.or_false, specs.media_map.specs.Places.run_of, specs.media_map.specs.region_config.specs.Configurations.Configuration}
use Rattle.extent_list.specs.media_map.specs.region_config.specs.Granules.{hosts_of, region_of, region_spec}
use Rattle.offer_core.specs.Offerings.{oldest_of}
use Rattle.journal_core.proofs.HoldingSteps.{holds-append, is_taken-append}
use Rattle.journal_core.specs.{Holders.holding_after, Holders.holds, Holders.is_soiled, Holders.is_taken, Holders.taking_after, declared.outcome.Effect.Effect}
use Rattle.device_rules.proofs.{HostSearches.any_gains, HostSearches.any_none, HostSearches.or_true, RunEffects.in_extents, RunEffects.takes, RunEffects.holding-takes, RunEffects.taking-takes}
use Rattle.device_rules.proofs.StatusParts.{offers_of-append, held_status, left_status, status_is, tagged_status, soiled-left, tagged-left}
use Rattle.device_rules.specs.{GranuleStates.is_granule_offered, Hosts.offers_after, Hosts.offers_of}
use Rattle.device_rules.specs.Tags.{Held, Tagged, Dirty, Free, is_held, is_offered, is_tagged, status}
use Rattle.device_rules.proofs.Leaving.{after_front, both_pass, is_quiet, leaves_offers, leaves_soil, leaves_tags, holding-over, map_passes, offers-over, quiet_holders, quiet_offers, quiet_soil, quiet_tags, quiet_taking, taking-over}

-- an answer, and what it takes, behind effects that change no status
abbrev pub answering : Configuration → List Effect → HostId → List Extent → List Extent → List Effect
answering c front k ys xs = front ++ Effect.Answer k ys ∷ takes c k xs

-- an offer that does not have the granule is not missed
without_oldest : (has : List Extent → Bool) (offers : List (List Extent)) → has (oldest_of offers) ≡ false → list_any has (drop 1 offers) ≡ list_any has offers
without_oldest has [] none = refl
without_oldest has (offer ∷ later) none = sym (ap (λ b. b || list_any has later) none)

module _ (c : Configuration) (g : ℕ) (past front : List Effect) (quiet : list_all is_quiet front ≡ true) (k : HostId) (ys xs : List Extent) where
  -- ---- the tests

  pub holds-answer : (h : HostId) → holds h g (past ++ answering c front k ys xs) ≡ (holds h g past || ((k == h) && in_extents c k xs g))
  holds-answer h =
      holds-append h g past (answering c front k ys xs)
      ∙ after_front (holding_after h g) (holds h g past) front (Effect.Answer k ys ∷ takes c k xs) (holding-over h g (holds h g past) front (quiet_holders front quiet))
      ∙ holding-takes c k h g (holds h g past) xs

  pub held-answer : k < c.hosts → is_held c g (past ++ answering c front k ys xs) ≡ (is_held c g past || in_extents c k xs g)
  held-answer known = (λ i. list_any (λ h. holds-answer h i) (hosts_of c)) ∙ any_gains (λ h. holds h g past) (λ h. in_extents c k xs g) k c.hosts known

  pub offers-answer : (h : HostId) → offers_of h (past ++ answering c front k ys xs) ≡ (if k == h then drop 1 (offers_of h past) else offers_of h past)
  offers-answer h =
      offers_of-append h past (answering c front k ys xs)
      ∙ after_front (offers_after h) (offers_of h past) front (Effect.Answer k ys ∷ takes c k xs) (offers-over h (offers_of h past) front (quiet_offers front quiet))
      ∙ offers-over h (if k == h then drop 1 (offers_of h past) else offers_of h past) (takes c k xs) (map_passes leaves_offers (λ x. Effect.Take k (run_of c k x)) (λ x. refl) xs)

  -- where the answered offer does not have the granule
  pub is_granule_offered-answer : in_extents c k (oldest_of (offers_of k past)) g ≡ false → (h : HostId) → is_granule_offered c h g (past ++ answering c front k ys xs) ≡ is_granule_offered c h g past
  is_granule_offered-answer out h = ap (λ offers. list_any (λ zs. in_extents c h zs g) offers) (offers-answer h) ∙ elim (cases_eq k h) [
    | inl same ↦ ap (λ b. list_any (λ zs. in_extents c h zs g) (if b then drop 1 (offers_of h past) else offers_of h past)) (eq-eqb k h same)
        ∙ without_oldest (λ zs. in_extents c h zs g) (offers_of h past) (subst (λ l. in_extents c l (oldest_of (offers_of l past)) g ≡ false) same out)
    | inr other ↦ ap (λ b. list_any (λ zs. in_extents c h zs g) (if b then drop 1 (offers_of h past) else offers_of h past)) (ne_eqb k h other)
  ]

  -- where no other offer has it
  pub not_offered-answer : ((h : HostId) → k ≢ h → is_granule_offered c h g past ≡ false) → list_any (λ zs. in_extents c k zs g) (drop 1 (offers_of k past)) ≡ false →
      (h : HostId) → is_granule_offered c h g (past ++ answering c front k ys xs) ≡ false
  not_offered-answer others later h = ap (λ offers. list_any (λ zs. in_extents c h zs g) offers) (offers-answer h) ∙ elim (cases_eq k h) [
    | inl same ↦ ap (λ b. list_any (λ zs. in_extents c h zs g) (if b then drop 1 (offers_of h past) else offers_of h past)) (eq-eqb k h same)
        ∙ subst (λ l. list_any (λ zs. in_extents c l zs g) (drop 1 (offers_of l past)) ≡ false) same later
    | inr other ↦ ap (λ b. list_any (λ zs. in_extents c h zs g) (if b then drop 1 (offers_of h past) else offers_of h past)) (ne_eqb k h other)
        ∙ others h other
  ]

  pub tagged-answer : is_tagged c g (past ++ answering c front k ys xs) ≡ is_tagged c g past
  tagged-answer = tagged-left c g past (answering c front k ys xs)
      (both_pass leaves_tags front (Effect.Answer k ys ∷ takes c k xs) (quiet_tags front quiet) (map_passes leaves_tags (λ x. Effect.Take k (run_of c k x)) (λ x. refl) xs))

  pub taken-answer : is_taken g (past ++ answering c front k ys xs) ≡ (is_taken g past || in_extents c k xs g)
  taken-answer =
      is_taken-append g past (answering c front k ys xs)
      ∙ after_front (taking_after g) (is_taken g past) front (Effect.Answer k ys ∷ takes c k xs) (taking-over g (is_taken g past) front (quiet_taking front quiet))
      ∙ taking-takes c k g (is_taken g past) xs

  pub soiled-answer : is_soiled g (past ++ answering c front k ys xs) ≡ is_soiled g past
  soiled-answer = soiled-left g past (answering c front k ys xs)
      (both_pass leaves_soil front (Effect.Answer k ys ∷ takes c k xs) (quiet_soil front quiet) (map_passes leaves_soil (λ x. Effect.Take k (run_of c k x)) (λ x. refl) xs))

  -- ---- the status

  -- what is taken is held, where no other host can share it
  pub status-taken : k < c.hosts → (region_spec c (region_of c g)).shareable ≡ false → in_extents c k xs g ≡ true → status c g (past ++ answering c front k ys xs) ≡ Held
  status-taken known private here =
      let after : List Effect = past ++ answering c front k ys xs in
      status_is c g after true (is_offered c g after) (is_tagged c g after) (is_taken g after) (is_soiled g after) (record {
        held_is = held-answer known ∙ ap (λ b. is_held c g past || b) here ∙ or_true (is_held c g past);
        offered_is = refl;
        tagged_is = refl;
        taken_is = refl;
        soiled_is = refl;
      })
      ∙ held_status (region_spec c (region_of c g)) private (is_offered c g after) (is_tagged c g after) (is_taken g after) (is_soiled g after)

  -- what was offered and is not taken is as it was before the offer
  pub status-declined : k < c.hosts → (region_spec c (region_of c g)).shareable ≡ false → in_extents c k xs g ≡ false → is_held c g past ≡ false →
      ((h : HostId) → k ≢ h → is_granule_offered c h g past ≡ false) → list_any (λ zs. in_extents c k zs g) (drop 1 (offers_of k past)) ≡ false → is_tagged c g past ≡ false →
      status c g (past ++ answering c front k ys xs) ≡ (if ((region_spec c (region_of c g)).sanitize && is_taken g past) || is_soiled g past then Dirty else Free)
  status-declined known private not_here not_held others later untagged =
      status_is c g (past ++ answering c front k ys xs) false false false (is_taken g past) (is_soiled g past) (record {
        held_is = held-answer known ∙ (λ i. not_held i || not_here i);
        offered_is = any_none (λ h. is_granule_offered c h g (past ++ answering c front k ys xs)) (hosts_of c) (not_offered-answer others later);
        tagged_is = tagged-answer ∙ untagged;
        taken_is = taken-answer ∙ ap (λ b. is_taken g past || b) not_here ∙ or_false (is_taken g past);
        soiled_is = soiled-answer;
      })
      ∙ left_status (region_spec c (region_of c g)) private (is_taken g past) (is_soiled g past)

  -- a granule that is neither taken nor of the answered offer
  pub status-unanswered : k < c.hosts → in_extents c k xs g ≡ false → in_extents c k (oldest_of (offers_of k past)) g ≡ false →
      status c g (past ++ answering c front k ys xs) ≡ status c g past
  status-unanswered known not_taken not_offered =
      status_is c g (past ++ answering c front k ys xs) (is_held c g past) (is_offered c g past) (is_tagged c g past) (is_taken g past) (is_soiled g past) (record {
        held_is = held-answer known ∙ ap (λ b. is_held c g past || b) not_taken ∙ or_false (is_held c g past);
        offered_is = λ i. list_any (λ h. is_granule_offered-answer not_offered h i) (hosts_of c);
        tagged_is = tagged-answer;
        taken_is = taken-answer ∙ ap (λ b. is_taken g past || b) not_taken ∙ or_false (is_taken g past);
        soiled_is = soiled-answer;
      })

  -- a granule of an open tag stays one
  pub status-answer_shared : (region_spec c (region_of c g)).shareable ≡ true → is_tagged c g past ≡ true → status c g (past ++ answering c front k ys xs) ≡ Tagged
  status-answer_shared shared tagged =
      let after : List Effect = past ++ answering c front k ys xs in
      status_is c g after (is_held c g after) (is_offered c g after) true (is_taken g after) (is_soiled g after)
      (record { held_is = refl; offered_is = refl; tagged_is = tagged-answer ∙ tagged; taken_is = refl; soiled_is = refl })
      ∙ tagged_status (region_spec c (region_of c g)) shared (is_held c g after) (is_offered c g after) (is_taken g after) (is_soiled g after)
