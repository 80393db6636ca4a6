-- What keeps a granule clean: effects by which nothing is taken, an offer of what is free, an answer to one, and a scrub.
use Rattle.std.proofs.Common.{◌≡◌, ℕ, ◌<◌, Bool, true, false, ◌&&◌, ◌||◌, not, ◌==◌, List, [], ◌∷◌, ◌++◌, inl, inr, refl, sym, ap, subst, ◌∙◌, arith}
use Rattle.std.{specs.Prelude.fold, specs.Prelude.map, specs.Prelude.flat_map, specs.List.list_all, specs.List.list_any, specs.List.range_with_len, proofs.lemmas.List.Folds.list_any-append}
use Rattle.std.proofs.lemmas.Bool.{and_parts, cases_Bool, cases_lt, eqb-true, false≢true, false_from_ne_true, or_cases, or_left, or_right}
use Rattle.dcd_base.specs.{Words.has_granule, Words.has_in_runs, declared.capacity.Extent.Extent, declared.ids.HostId.HostId}
use Rattle.granule_map.specs.Choices.{joined}
use Rattle.journal_core.{proofs.HoldingSteps.holds-append, proofs.HoldingSteps.holds-push, proofs.HoldingSteps.is_taken-append, proofs.HoldingSteps.is_taken-push, specs.Entries.effects}
use Rattle.journal_core.specs.{Holders.holding_after, Holders.holds, Holders.is_soiled, Holders.is_taken, Holders.taking_after, declared.entries.Entry.Entry, declared.outcome.Effect.Effect}
use Rattle.extent_list.{proofs.EachTag.or_false, specs.media_map.specs.Places.run_of, specs.media_map.specs.region_config.specs.Configurations.Configuration}
use Rattle.extent_list.specs.media_map.specs.region_config.specs.{Granules.region_of, Granules.region_spec, Granules.same_region, Soundness.IsSound}
use Rattle.offer_core.specs.Offerings.{oldest_of}
use Rattle.device_rules.proofs.{FreeGranules.shared_claim, HostSearches.any_at, JoinedRuns.any_taken, JoinedRuns.joined_has, JoinedRuns.passes_there}
use Rattle.device_rules.proofs.{Leaving.after_front, Leaving.holding-over, Leaving.is_quiet, Leaving.leaves_holders, Leaving.leaves_offers, Leaving.map_passes, ListSteps.any-map, OneOffer.any-implies}
use Rattle.device_rules.proofs.{OutcomeSteps.after-outcome, OutcomeSteps.over-outcome, RunEffects.in_extents, RunEffects.run_from, RunEffects.takes, RunEffects.zeros}
use Rattle.device_rules.proofs.StatusAnswers.{answering, holds-answer, not_offered-answer, offers-answer, taken-answer}
use Rattle.device_rules.proofs.{StatusKept.no_later_offer, StatusKept.no_other_offer, StatusOffers.is_granule_offered-offer}
use Rattle.device_rules.proofs.{StatusParts.held_status, StatusParts.offers_of-append, StatusParts.offers_of-left, StatusParts.status_is, StatusParts.tagged_status, StatusZeros.taken-zeros}
use Rattle.device_rules.{proofs.TagSearches.any_of_tag, specs.Answers.scrubbed, specs.Answers.zeroes, specs.GranuleStates.is_granule_offered, specs.GranuleStates.stands_for}
use Rattle.device_rules.specs.{Hosts.offers_after, Hosts.offers_of, Invariants.Holdings, Outcomes.Outcome, Outcomes.effects_of, Pictures.Picture, Pictures.picture_of, Standing.Stands}
use Rattle.device_rules.specs.Tags.{dirty_granules, all_granules, is_dirty, is_held, is_offered, is_tagged, open_tags, status}
use Rattle.isolation_laws.proofs.CalmEffects.{calm_held, calm_offered, calm_taken, calm_writers, in_later, is_calm}
use Rattle.isolation_laws.proofs.WritersOver.{IsOwn, nobody, nobody_over, other_takes, own_zeros}
use Rattle.isolation_laws.specs.Laws.{Writers, writers_by}

-- who holds the granule took it since it was zeroed
abbrev pub HeldTaken : ℕ → List Effect → Type 0
HeldTaken g past = (h : HostId) → holds h g past ≡ true → is_taken g past ≡ true

-- while it is offered it was not taken since it was zeroed
abbrev pub OfferedUntaken : Configuration → ℕ → List Effect → Type 0
OfferedUntaken c g past = (h : HostId) → is_granule_offered c h g past ≡ true → is_taken g past ≡ false

-- Its region is sanitized, and hosts cannot share it.
pub record IsSwept (c : Configuration) (g : ℕ) : Type 0 where
  pub sanitize : (region_spec c (region_of c g)).sanitize ≡ true
  pub private : (region_spec c (region_of c g)).shareable ≡ false

-- Nobody has stored into it while it was not taken, and its holder alone since it took it.
pub record AreOwn (g : ℕ) (past : List Effect) (w : Writers) : Type 0 where
  pub untaken : is_taken g past ≡ false → w ≡ nobody
  pub held : (h : HostId) → holds h g past ≡ true → IsOwn h w

-- So it stays over these effects.
pub record KeepsClean (c : Configuration) (g : ℕ) (past new : List Effect) : Type 0 where
  pub held : HeldTaken g past → HeldTaken g (past ++ new)
  pub offered : IsSwept c g → OfferedUntaken c g past → OfferedUntaken c g (past ++ new)
  pub own : IsSwept c g → OfferedUntaken c g past → (w : Writers) → AreOwn g past w → (h : HostId) → holds h g (past ++ new) ≡ true → IsOwn h (fold (writers_by g) w new)

-- ---- where nothing is offered, taken or zeroed

pub keeps_calm : (c : Configuration) (g : ℕ) (past new : List Effect) → list_all is_calm new ≡ true → KeepsClean c g past new
keeps_calm c g past new calm = record {
  held = λ held h now. same_taken ∙ held h (was_held h now);
  offered = λ swept untaken h now. same_taken ∙ untaken h
      (calm_offered h (λ xs. in_extents c h xs g) (offers_of h past) new calm (sym (ap (list_any (λ xs. in_extents c h xs g)) (offers_of-append h past new)) ∙ now));
  own = λ swept untaken w own h now. subst (IsOwn h) (sym (calm_writers g w new calm)) (own.held h (was_held h now));
}
  where
    same_taken : is_taken g (past ++ new) ≡ is_taken g past
    same_taken = is_taken-append g past new ∙ calm_taken g (is_taken g past) new calm

    was_held : (h : HostId) → holds h g (past ++ new) ≡ true → holds h g past ≡ true
    was_held h now = calm_held h g (holds h g past) new calm (sym (holds-append h g past new) ∙ now)

-- ---- a command, where its changes keep it so

pub keeps_outcome : (c : Configuration) (g : ℕ) (past : List Effect) (o : Outcome) → KeepsClean c g past o.changes → KeepsClean c g past (effects_of c past o)
keeps_outcome c g past o keeps = record {
  held = λ held h now. same_taken ∙ keeps.held held h (sym (same_holds h) ∙ now);
  offered = λ swept untaken h now. same_taken ∙ keeps.offered swept untaken h (sym (same_offered h) ∙ now);
  own = λ swept untaken w own h now. subst (IsOwn h) (sym (over-outcome (writers_by g) (λ b t. refl) (λ b l e. refl) (λ b l. refl) c w past o))
      (keeps.own swept untaken w own h (sym (same_holds h) ∙ now));
}
  where
    same_taken : is_taken g (past ++ effects_of c past o) ≡ is_taken g (past ++ o.changes)
    same_taken = after-outcome (taking_after g) (λ b t. refl) (λ b l e. refl) (λ b l. refl) c false past o ∙ sym (is_taken-append g past o.changes)

    same_holds : (h : HostId) → holds h g (past ++ effects_of c past o) ≡ holds h g (past ++ o.changes)
    same_holds h = after-outcome (holding_after h g) (λ b t. refl) (λ b l e. refl) (λ b l. refl) c false past o ∙ sym (holds-append h g past o.changes)

    same_offered : (h : HostId) → is_granule_offered c h g (past ++ effects_of c past o) ≡ is_granule_offered c h g (past ++ o.changes)
    same_offered h = ap (list_any (λ xs. in_extents c h xs g)) (after-outcome (offers_after h) (λ b t. refl) (λ b l e. refl) (λ b l. refl) c [] past o ∙ sym (offers_of-append h past o.changes))

-- ---- an offer of granules that were not taken

pub keeps_offer : (c : Configuration) (g : ℕ) (past : List Effect) (k : HostId) (xs : List Extent) → (IsSwept c g → in_extents c k xs g ≡ true → is_taken g past ≡ false) →
    KeepsClean c g past (Effect.Offer k xs ∷ [])
keeps_offer c g past k xs fresh = record {
  held = λ held h now. is_taken-push g past (Effect.Offer k xs) ∙ held h (sym (holds-push h g past (Effect.Offer k xs)) ∙ now);
  offered = λ swept untaken h now. is_taken-push g past (Effect.Offer k xs) ∙ elim (or_cases (is_granule_offered c h g past) ((k == h) && in_extents c h xs g) (sym (is_granule_offered-offer c g past k xs h) ∙ now)) [
    | inl was ↦ untaken h was
    | inr new ↦ (let parts = and_parts (k == h) (in_extents c h xs g) new in
        fresh swept (subst (λ l. in_extents c l xs g ≡ true) (sym (eqb-true k h parts.0)) parts.1))
  ];
  own = λ swept untaken w own h now. own.held h (sym (holds-push h g past (Effect.Offer k xs)) ∙ now);
}

-- ---- an answer

-- what is in the oldest offer is in an offer
in_oldest : (has : List Extent → Bool) (offers : List (List Extent)) → has [] ≡ false → has (oldest_of offers) ≡ true → list_any has offers ≡ true
in_oldest has [] none some = absurd (false≢true (sym none ∙ some))
in_oldest has (offer ∷ later) none some = or_left (has offer) (list_any has later) some

module _ (c : Configuration) (before : List Entry) (kept : Holdings c before) (g : ℕ) (front : List Effect) (quiet : list_all is_quiet front ≡ true) (calm : list_all is_calm front ≡ true)
    (k : HostId) (ys xs : List Extent) (inside : in_extents c k xs g ≡ true → in_extents c k (oldest_of (offers_of k (effects before))) g ≡ true) where
  abbrev past : List Effect
  past = effects before

  abbrev new : List Effect
  new = answering c front k ys xs

  now_taken : is_taken g (effects before ++ answering c front k ys xs) ≡ (is_taken g (effects before) || in_extents c k xs g)
  now_taken = taken-answer c g past front quiet k ys xs

  -- who holds it then held it, or takes it
  module _ (h : HostId) (now : holds h g (effects before ++ answering c front k ys xs) ≡ true) where
    either_held : (holds h g past || ((k == h) && in_extents c k xs g)) ≡ true
    either_held = sym (holds-answer c g past front quiet k ys xs h) ∙ now

    taken_then : HeldTaken g past → is_taken g (effects before ++ answering c front k ys xs) ≡ true
    taken_then held = now_taken ∙ elim (or_cases (holds h g past) ((k == h) && in_extents c k xs g) either_held) [
      | inl was ↦ or_left (is_taken g past) (in_extents c k xs g) (held h was)
      | inr takes ↦ or_right (is_taken g past) (in_extents c k xs g) (and_parts (k == h) (in_extents c k xs g) takes).1
    ]

    held_before : in_extents c k xs g ≡ false → holds h g past ≡ true
    held_before out = elim (or_cases (holds h g past) ((k == h) && in_extents c k xs g) either_held) [
      | inl was ↦ was
      | inr takes ↦ absurd (false≢true (sym out ∙ (and_parts (k == h) (in_extents c k xs g) takes).1))
    ]

  module _ (swept : IsSwept c g) (untaken : OfferedUntaken c g (effects before)) where
    -- what is taken is offered no longer, and the rest is as before
    untaken_then : (h : HostId) → is_granule_offered c h g (effects before ++ answering c front k ys xs) ≡ true → is_taken g (effects before ++ answering c front k ys xs) ≡ false
    untaken_then h now = elim (cases_Bool (in_extents c k xs g)) [
      | inl here ↦ absurd (false≢true (sym (not_offered-answer c g past front quiet k ys xs
          (no_other_offer c before kept g swept.private k (inside here)) (no_later_offer c before kept g swept.private k (inside here)) h) ∙ now))
      | inr out ↦ now_taken ∙ ap (λ b. is_taken g past || b) out ∙ or_false (is_taken g past)
          ∙ untaken h (in_later (λ zs. in_extents c h zs g) (k == h) (offers_of h past) (sym (ap (list_any (λ zs. in_extents c h zs g)) (offers-answer c g past front quiet k ys xs h)) ∙ now))
    ]

    -- what is taken was not taken before, so nobody has stored into it
    own_then : (w : Writers) → AreOwn g (effects before) w → (h : HostId) → holds h g (effects before ++ answering c front k ys xs) ≡ true → IsOwn h (fold (writers_by g) w (answering c front k ys xs))
    own_then w own h now = elim (cases_Bool (in_extents c k xs g)) [
      | inl here ↦ (let unused : w ≡ nobody = own.untaken (untaken k (in_oldest (λ zs. in_extents c k zs g) (offers_of k past) refl (inside here))) in
          subst (IsOwn h) (sym (ap (λ v. fold (writers_by g) v new) unused ∙ nobody_over g new)) (refl, refl))
      | inr out ↦ subst (IsOwn h) (sym (after_front (writers_by g) w front (Effect.Answer k ys ∷ takes c k xs) (calm_writers g w front calm) ∙ other_takes c k g w xs out)) (own.held h (held_before h now out))
    ]

  pub keeps_answer : KeepsClean c g (effects before) (answering c front k ys xs)
  keeps_answer = record {
    held = λ held h now. taken_then h now held;
    offered = untaken_then;
    own = own_then;
  }

-- ---- a scrub

-- a host of the device that passes is one of them
one_of_hosts : (p : HostId → Bool) (h n : ℕ) → h < n → p h ≡ true → list_any p (range_with_len 0 n) ≡ true
one_of_hosts p h n known passes = any-implies (λ k. (h == k) && p k) p (range_with_len 0 n) (λ k both. (and_parts (h == k) (p k) both).1) (any_at p h 0 n (omega arith) (omega (arith, known)) ∙ passes)

module _ (c : Configuration) (sound : IsSound c) (past : List Effect) (s : Stands c (picture_of c past)) (g : ℕ) where
  abbrev p : Picture
  p = picture_of c past

  -- a granule that a host of the device holds is not dirty: where hosts can share it an open tag has it
  module _ (h : HostId) (known : h < c.hosts) (held : holds h g past ≡ true) where
    tagged_then : (region_spec c (region_of c g)).shareable ≡ true → is_tagged c g past ≡ true
    tagged_then shared =
        let test : Extent → Bool = λ y. has_granule (run_of c h y) g in
        let accepted : list_any test (p.accepted h) ≡ true = sym (any-map (λ run. has_granule run g) (run_of c h) (p.accepted h)) ∙ sym (s.held h g) ∙ held in
        let claim = shared_claim c sound p s h g known shared
        (list_any-append test (p.accepted h) (flat_map (λ xs. xs) (p.offers h)) ∙ or_left (list_any test (p.accepted h)) (list_any test (flat_map (λ xs. xs) (p.offers h))) accepted) in
        any_of_tag (stands_for c past g) claim.0 (open_tags c past) claim.1 claim.2

    not_dirty : is_dirty (status c g past) ≡ false
    not_dirty = elim (cases_Bool (region_spec c (region_of c g)).shareable) [
      | inl shared ↦ ap is_dirty (status_is c g past (is_held c g past) (is_offered c g past) true (is_taken g past) (is_soiled g past)
          (record { held_is = refl; offered_is = refl; tagged_is = tagged_then shared; taken_is = refl; soiled_is = refl })
          ∙ tagged_status (region_spec c (region_of c g)) shared (is_held c g past) (is_offered c g past) (is_taken g past) (is_soiled g past))
      | inr private ↦ ap is_dirty (status_is c g past true (is_offered c g past) (is_tagged c g past) (is_taken g past) (is_soiled g past)
          (record { held_is = one_of_hosts (λ k. holds k g past) h c.hosts known held; offered_is = refl; tagged_is = refl; taken_is = refl; soiled_is = refl })
          ∙ held_status (region_spec c (region_of c g)) private (is_offered c g past) (is_tagged c g past) (is_taken g past) (is_soiled g past))
    ]

  -- only hosts of the device hold anything
  held_known : (h : HostId) → holds h g past ≡ true → h < c.hosts
  held_known h held = elim (cases_lt h c.hosts) [
    | inl known ↦ known
    | inr beyond ↦ absurd (false≢true (sym (s.held h g ∙ ap (λ xs. has_in_runs (map (run_of c h) xs) g) (s.no_accepted h beyond)) ∙ held))
  ]

  module _ (n : ℕ) where
    abbrev runs : List (ℕ × ℕ)
    runs = joined (same_region c) (scrubbed c past n)

    same_holds : (h : HostId) → holds h g (past ++ zeroes c (scrubbed c past n)) ≡ holds h g past
    same_holds h = holds-append h g past (zeros runs) ∙ holding-over h g (holds h g past) (zeros runs) (map_passes leaves_holders (λ r. Effect.Zero (run_from r)) (λ r. refl) runs)

    same_offered : (h : HostId) → is_granule_offered c h g (past ++ zeroes c (scrubbed c past n)) ≡ is_granule_offered c h g past
    same_offered h = ap (list_any (λ xs. in_extents c h xs g)) (offers_of-left h past (zeros runs) (map_passes leaves_offers (λ r. Effect.Zero (run_from r)) (λ r. refl) runs))

    -- it zeroes dirty granules alone
    not_zeroed : (h : HostId) → holds h g past ≡ true → has_in_runs (map run_from (joined (same_region c) (scrubbed c past n))) g ≡ false
    not_zeroed h held = false_from_ne_true _ (λ here. absurd (false≢true (sym (not_dirty h (held_known h held) held)
        ∙ passes_there (λ m. is_dirty (status c m past)) g (all_granules c) (any_taken (λ m. m == g) n (dirty_granules c past) (sym (joined_has (same_region c) (scrubbed c past n) g) ∙ here)))))

    pub keeps_scrub : KeepsClean c g past (zeroes c (scrubbed c past n))
    keeps_scrub = record {
      held = λ held h now. (let was : holds h g past ≡ true = sym (same_holds h) ∙ now in
          taken-zeros c g past runs ∙ (λ i. held h was i && not (not_zeroed h was i)));
      offered = λ swept untaken h now. taken-zeros c g past runs ∙ ap (λ b. b && not (has_in_runs (map run_from runs) g)) (untaken h (sym (same_offered h) ∙ now));
      own = λ swept untaken w own h now. own_zeros h g w runs (own.held h (sym (same_holds h) ∙ now));
    }
