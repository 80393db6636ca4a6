-- What the holdings of a legal journal say of a granule's status when an offer is answered, extents leave or a tag ends.
use Rattle.std.proofs.Common.{◌≡◌, ◌≢◌, ℕ, ◌+◌, ◌<◌, Bool, true, false, ◌&&◌, ◌||◌, List, [], ◌∷◌, ◌++◌, drop, length, inl, inr, refl, sym, ap, ◌∙◌, arith}
use Rattle.std.{proofs.lemmas.Bool.cases_Bool, proofs.lemmas.Bool.false≢true, proofs.lemmas.List.length-append, proofs.lemmas.List.Elements.filter-append, specs.List.list_all, specs.List.list_any}
use Rattle.std.specs.Prelude.{filter, flat_map, if◌then◌else◌}
use Rattle.cci_codec.specs.dcd_base.specs.{declared.ids.HostId.HostId, declared.capacity.Extent.Extent, Words.has_granule}
use Rattle.extent_list.specs.media_map.specs.{Places.run_of, region_config.specs.Configurations.Configuration}
use Rattle.extent_list.specs.media_map.specs.region_config.specs.Granules.{hosts_of, region_of, region_spec}
use Rattle.offer_core.specs.Offerings.{oldest_of}
use Rattle.journal_core.specs.{declared.entries.Entry.Entry, declared.outcome.Effect.Effect, Entries.effects, Holders.holds, Holders.is_soiled, Holders.is_taken}
use Rattle.device_rules.proofs.{HoldersApart.alone_holds, HoldersApart.clear_holds, HoldersApart.parts, HoldersApart.some_claim, HoldersApart.some_offer, HostSearches.any_none, Leaving.is_quiet}
use Rattle.device_rules.proofs.{RunEffects.in_extents, StatusAnswers.answering, StatusAnswers.status-declined, StatusLeaves.removing, StatusLeaves.status-removed}
use Rattle.device_rules.specs.{GranuleStates.is_granule_offered, Hosts.offers_of, Invariants.Holdings, Invariants.claims_of}
use Rattle.device_rules.specs.Tags.{Dirty, Free, is_held, is_offered, is_tagged, status}

-- an offer is among all
oldest_offered : (has : List Extent → Bool) (offers : List (List Extent)) → has [] ≡ false → has (oldest_of offers) ≡ true → list_any has offers ≡ true
oldest_offered has [] none some = absurd (false≢true (sym none ∙ some))
oldest_offered has (offer ∷ later) none some = ap (λ b. b || list_any has later) some

-- the claims of the oldest offer, and those of the others
offered_parts : (p : Extent → Bool) (offers : List (List Extent)) →
    length (filter p (flat_map (λ xs. xs) offers)) ≡ length (filter p (oldest_of offers)) + length (filter p (flat_map (λ xs. xs) (drop 1 offers)))
offered_parts p [] = refl
offered_parts p (offer ∷ later) = ap length (filter-append p offer (flat_map (λ xs. xs) later)) ∙ length-append (filter p offer) (filter p (flat_map (λ xs. xs) later))

module _ (c : Configuration) (journal : List Entry) (kept : Holdings c journal) (g : ℕ) (private : (region_spec c (region_of c g)).shareable ≡ false) (k : HostId) where
  -- ---- a granule of the oldest offer of a host

  module _ (oldest : in_extents c k (oldest_of (offers_of k (effects journal))) g ≡ true) where
    is_offered_it : is_granule_offered c k g (effects journal) ≡ true
    is_offered_it = oldest_offered (λ xs. in_extents c k xs g) (offers_of k (effects journal)) refl oldest

    pub not_held_offered : is_held c g (effects journal) ≡ false
    not_held_offered = any_none (λ h. holds h g (effects journal)) (hosts_of c) (λ h. elim (cases_Bool (holds h g (effects journal))) [
      | inl held ↦ absurd (clear_holds c journal kept k h g private is_offered_it held)
      | inr free ↦ free
    ])

    claims : (h : HostId) → is_granule_offered c h g (effects journal) ≡ true → 0 < length (claims_of c h journal g)
    claims h offered = omega (arith, parts c journal kept h g, some_offer (run_of c h) g (offers_of h (effects journal)) offered)

    pub no_other_offer : (h : HostId) → k ≢ h → is_granule_offered c h g (effects journal) ≡ false
    no_other_offer h other = elim (cases_Bool (is_granule_offered c h g (effects journal))) [
      | inl offered ↦ absurd (other (sym (kept.one h k g private (claims h offered) (claims k is_offered_it))))
      | inr free ↦ free
    ]

    pub no_later_offer : list_any (λ xs. in_extents c k xs g) (drop 1 (offers_of k (effects journal))) ≡ false
    no_later_offer = elim (cases_Bool (list_any (λ xs. in_extents c k xs g) (drop 1 (offers_of k (effects journal))))) [
      | inl later ↦ absurd (omega (
        arith,
        kept.once k g private,
        parts c journal kept k g,
        offered_parts (λ x. has_granule (run_of c k x) g) (offers_of k (effects journal)),
        some_claim (run_of c k) g (oldest_of (offers_of k (effects journal))) oldest,
        some_offer (run_of c k) g (drop 1 (offers_of k (effects journal))) later,
      ))
      | inr free ↦ free
    ]

    -- What was offered and is not taken is free, unless it is dirty: nobody else has it.
    pub status-declined_kept : (front : List Effect) (quiet : list_all is_quiet front ≡ true) (ys xs : List Extent) → k < c.hosts →
        in_extents c k xs g ≡ false → is_tagged c g (effects journal) ≡ false →
        status c g (effects journal ++ answering c front k ys xs)
        ≡ (if ((region_spec c (region_of c g)).sanitize && is_taken g (effects journal)) || is_soiled g (effects journal) then Dirty else Free)
    status-declined_kept front quiet ys xs known not_here untagged =
        status-declined c g (effects journal) front quiet k ys xs known private not_here not_held_offered no_other_offer no_later_offer untagged

  -- ---- a granule that the host holds

  module _ (held : holds k g (effects journal) ≡ true) where
    pub one_holder : (h : HostId) → holds h g (effects journal) ≡ true → k ≡ h
    one_holder h other = alone_holds c journal kept g k h private held other

    pub not_offered_held : is_offered c g (effects journal) ≡ false
    not_offered_held = any_none (λ h. is_granule_offered c h g (effects journal)) (hosts_of c) (λ h. elim (cases_Bool (is_granule_offered c h g (effects journal))) [
      | inl offered ↦ absurd (clear_holds c journal kept h k g private offered held)
      | inr free ↦ free
    ])

    -- What the host loses is dirty or free: nobody else has it.
    pub status-removed_kept : (front : List Effect) (quiet : list_all is_quiet front ≡ true) (clean : Bool) (xs : List Extent) →
        in_extents c k xs g ≡ true → is_tagged c g (effects journal) ≡ false →
        status c g (effects journal ++ removing c front k clean xs)
        ≡ (if ((region_spec c (region_of c g)).sanitize && is_taken g (effects journal)) || (is_soiled g (effects journal) || (clean && true)) then Dirty else Free)
    status-removed_kept front quiet clean xs here untagged =
        status-removed c g (effects journal) front quiet k clean xs private here one_holder not_offered_held untagged
