-- The status of a granule after a host gives extents back or loses them by force.
use Rattle.std.proofs.Common.{◌≡◌, ℕ, Bool, true, false, ◌&&◌, ◌||◌, not, List, ◌++◌, inl, inr, refl, ap, ◌∙◌}
use Rattle.std.{specs.Prelude.◌==◌, specs.Prelude.if◌then◌else◌, specs.List.list_all, specs.List.list_any, proofs.lemmas.Bool.cases_Bool, proofs.lemmas.Bool.eq-eqb}
use Rattle.cci_codec.specs.dcd_base.specs.declared.{ids.HostId.HostId, capacity.Extent.Extent}
use Rattle.extent_list.specs.media_map.specs.region_config.specs.{Configurations.Configuration, Granules.hosts_of, Granules.region_of, Granules.region_spec}
use Rattle.journal_core.proofs.HoldingSteps.{holds-append, is_soiled-append}
use Rattle.journal_core.specs.{Holders.holding_after, Holders.holds, Holders.is_soiled, Holders.is_taken, Holders.soil_after, declared.outcome.Effect.Effect}
use Rattle.device_rules.proofs.{EffectKinds.removals_pass, HostSearches.any_none, RunEffects.in_extents, RunEffects.holding-removals, RunEffects.soil-removals}
use Rattle.device_rules.proofs.StatusParts.{left_status, status_is, tagged_status, offered-left, tagged-left, taken-left}
use Rattle.device_rules.specs.{ReleaseOutcomes.removals, Tags.Tagged, Tags.Dirty, Tags.Free, Tags.is_held, Tags.is_offered, Tags.is_tagged, Tags.status}
use Rattle.device_rules.proofs.Leaving.{after_front, both_pass, is_quiet, leaves_offers, leaves_tags, leaves_taking, holding-over, quiet_holders, quiet_offers, quiet_soil, quiet_tags, quiet_taking, soil-over}

-- a removal, cleaning or not, behind effects that change no status; where it does not clean it is also what the host gives back
abbrev pub removing : Configuration → List Effect → HostId → Bool → List Extent → List Effect
removing c front k clean xs = front ++ removals c k clean xs

kept_all : (b s : Bool) → (b && not (s && false)) ≡ b
kept_all true true = refl
kept_all true false = refl
kept_all false s = refl

clean_nothing : (b clean : Bool) → (b || (clean && false)) ≡ b
clean_nothing true clean = refl
clean_nothing false true = refl
clean_nothing false false = refl

module _ (c : Configuration) (g : ℕ) (past front : List Effect) (quiet : list_all is_quiet front ≡ true) (k : HostId) (clean : Bool) (xs : List Extent) where
  -- ---- the tests

  pub holds-remove : (h : HostId) → holds h g (past ++ removing c front k clean xs) ≡ (holds h g past && not ((k == h) && in_extents c k xs g))
  holds-remove h =
      holds-append h g past (removing c front k clean xs)
      ∙ after_front (holding_after h g) (holds h g past) front (removals c k clean xs) (holding-over h g (holds h g past) front (quiet_holders front quiet))
      ∙ holding-removals c k h g clean (holds h g past) xs

  -- nobody holds it who was its one holder
  pub not_held-remove : in_extents c k xs g ≡ true → ((h : HostId) → holds h g past ≡ true → k ≡ h) → is_held c g (past ++ removing c front k clean xs) ≡ false
  not_held-remove here alone = any_none (λ h. holds h g (past ++ removing c front k clean xs)) (hosts_of c) (λ h. holds-remove h ∙ elim (cases_Bool (holds h g past)) [
    | inl has ↦ (let it : k ≡ h = alone h has in λ i. has i && not (eq-eqb k h it i && here i))
    | inr none ↦ ap (λ b. b && not ((k == h) && in_extents c k xs g)) none
  ])

  pub held-remove : in_extents c k xs g ≡ false → is_held c g (past ++ removing c front k clean xs) ≡ is_held c g past
  held-remove out = λ i. list_any (λ h. (holds-remove h ∙ ap (λ b. holds h g past && not ((k == h) && b)) out ∙ kept_all (holds h g past) (k == h)) i) (hosts_of c)

  pub offered-remove : is_offered c g (past ++ removing c front k clean xs) ≡ is_offered c g past
  offered-remove = offered-left c g past (removing c front k clean xs)
      (both_pass leaves_offers front (removals c k clean xs) (quiet_offers front quiet) (removals_pass leaves_offers k (λ run. refl) (λ run. refl) c true clean xs))

  pub tagged-remove : is_tagged c g (past ++ removing c front k clean xs) ≡ is_tagged c g past
  tagged-remove = tagged-left c g past (removing c front k clean xs)
      (both_pass leaves_tags front (removals c k clean xs) (quiet_tags front quiet) (removals_pass leaves_tags k (λ run. refl) (λ run. refl) c true clean xs))

  pub taken-remove : is_taken g (past ++ removing c front k clean xs) ≡ is_taken g past
  taken-remove = taken-left g past (removing c front k clean xs)
      (both_pass leaves_taking front (removals c k clean xs) (quiet_taking front quiet) (removals_pass leaves_taking k (λ run. refl) (λ run. refl) c true clean xs))

  pub soiled-remove : is_soiled g (past ++ removing c front k clean xs) ≡ (is_soiled g past || (clean && in_extents c k xs g))
  soiled-remove =
      is_soiled-append g past (removing c front k clean xs)
      ∙ after_front (soil_after g) (is_soiled g past) front (removals c k clean xs) (soil-over g (is_soiled g past) front (quiet_soil front quiet))
      ∙ soil-removals c k g clean (is_soiled g past) xs

  -- ---- the status

  -- what its one holder loses is dirty or free
  pub status-removed : (region_spec c (region_of c g)).shareable ≡ false → in_extents c k xs g ≡ true → ((h : HostId) → holds h g past ≡ true → k ≡ h) →
      is_offered c g past ≡ false → is_tagged c g past ≡ false →
      status c g (past ++ removing c front k clean xs) ≡ (if ((region_spec c (region_of c g)).sanitize && is_taken g past) || (is_soiled g past || (clean && true)) then Dirty else Free)
  status-removed private here alone not_offered untagged =
      status_is c g (past ++ removing c front k clean xs) false false false (is_taken g past) (is_soiled g past || (clean && true)) (record {
        held_is = not_held-remove here alone;
        offered_is = offered-remove ∙ not_offered;
        tagged_is = tagged-remove ∙ untagged;
        taken_is = taken-remove;
        soiled_is = soiled-remove ∙ ap (λ b. is_soiled g past || (clean && b)) here;
      })
      ∙ left_status (region_spec c (region_of c g)) private (is_taken g past) (is_soiled g past || (clean && true))

  -- a granule of none of the extents
  pub status-not_removed : in_extents c k xs g ≡ false → status c g (past ++ removing c front k clean xs) ≡ status c g past
  status-not_removed out =
      status_is c g (past ++ removing c front k clean xs) (is_held c g past) (is_offered c g past) (is_tagged c g past) (is_taken g past) (is_soiled g past) (record {
        held_is = held-remove out;
        offered_is = offered-remove;
        tagged_is = tagged-remove;
        taken_is = taken-remove;
        soiled_is = soiled-remove ∙ ap (λ b. is_soiled g past || (clean && b)) out ∙ clean_nothing (is_soiled g past) clean;
      })

  -- a granule of an open tag stays one
  pub status-remove_shared : (region_spec c (region_of c g)).shareable ≡ true → is_tagged c g past ≡ true → status c g (past ++ removing c front k clean xs) ≡ Tagged
  status-remove_shared shared tagged =
      let after : List Effect = past ++ removing c front k clean xs in
      status_is c g after (is_held c g after) (is_offered c g after) true (is_taken g after) (is_soiled g after)
      (record { held_is = refl; offered_is = refl; tagged_is = tagged-remove ∙ tagged; taken_is = refl; soiled_is = refl })
      ∙ tagged_status (region_spec c (region_of c g)) shared (is_held c g after) (is_offered c g after) (is_taken g after) (is_soiled g after)
