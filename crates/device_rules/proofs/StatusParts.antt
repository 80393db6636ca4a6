-- The tests that make the status of a granule, after more effects.
use Rattle.std.proofs.Common.{◌≡◌, ℕ, Bool, true, false, ◌&&◌, ◌||◌, not, List, [], ◌++◌, refl, ◌∙◌}
use Rattle.std.{specs.Prelude.fold, specs.Prelude.map, specs.Prelude.None, specs.Prelude.if◌then◌else◌, specs.List.list_all, specs.List.list_any, proofs.lemmas.List.Sums.fold-append}
use Rattle.cci_codec.specs.dcd_base.specs.{declared.ids.HostId.HostId, declared.capacity.Tag.Tag, Words.has_in_runs}
use Rattle.extent_list.specs.media_map.specs.{Places.run_of, region_config.specs.Configurations.Configuration}
use Rattle.extent_list.specs.media_map.specs.region_config.specs.{Granules.hosts_of, Granules.region_of, Granules.region_spec, declared.region_spec.RegionSpec.RegionSpec}
use Rattle.journal_core.proofs.HoldingSteps.{holds-append, is_soiled-append, is_taken-append}
use Rattle.journal_core.specs.{Holders.holding_after, Holders.holds, Holders.is_soiled, Holders.is_taken, declared.outcome.Effect.Effect}
use Rattle.device_rules.specs.Hosts.{offers_after, offers_of}
use Rattle.device_rules.specs.Tags.{Status, Held, Offered, Tagged, Dirty, Free, is_held, is_offered, is_tagged, last_offer, last_offer_after, open_tags, status, tag_runs, tags_after}
use Rattle.device_rules.proofs.Leaving.{is_quiet, leaves_holders, leaves_offers, leaves_soil, leaves_tags, leaves_taking, holding-over, last_offer-over, offers-over, quiet_holders, quiet_offers, quiet_soil, quiet_tags, quiet_taking, soil-over, tags-over, taking-over}

-- the status by its tests
abbrev pub status_by : RegionSpec → Bool → Bool → Bool → Bool → Bool → Status
status_by spec held offered tagged taken soiled =
    if not spec.shareable && held then Held
    else if not spec.shareable && offered then Offered
    else if tagged then Tagged
    else if (spec.sanitize && taken) || soiled then Dirty
    else Free

-- The tests are these after some effects.
pub record Parts (c : Configuration) (g : ℕ) (past : List Effect) (held offered tagged taken soiled : Bool) : Type 0 where
  pub held_is : is_held c g past ≡ held
  pub offered_is : is_offered c g past ≡ offered
  pub tagged_is : is_tagged c g past ≡ tagged
  pub taken_is : is_taken g past ≡ taken
  pub soiled_is : is_soiled g past ≡ soiled

pub status_is : (c : Configuration) (g : ℕ) (past : List Effect) (held offered tagged taken soiled : Bool) → Parts c g past held offered tagged taken soiled →
    status c g past ≡ status_by (region_spec c (region_of c g)) held offered tagged taken soiled
status_is c g past held offered tagged taken soiled p =
    λ i. status_by (region_spec c (region_of c g)) (p.held_is i) (p.offered_is i) (p.tagged_is i) (p.taken_is i) (p.soiled_is i)

-- ---- each test after more effects

pub is_held-append : (c : Configuration) (g : ℕ) (past new : List Effect) → is_held c g (past ++ new) ≡ list_any (λ h. fold (holding_after h g) (holds h g past) new) (hosts_of c)
is_held-append c g past new = λ i. list_any (λ h. holds-append h g past new i) (hosts_of c)

pub offers_of-append : (h : HostId) (past new : List Effect) → offers_of h (past ++ new) ≡ fold (offers_after h) (offers_of h past) new
offers_of-append h past new = fold-append (offers_after h) [] past new

pub last_offer-append : (t : Tag) (past new : List Effect) → last_offer t (past ++ new) ≡ fold (last_offer_after t) (last_offer t past) new
last_offer-append t past new = fold-append (last_offer_after t) None past new

pub open_tags-append : (c : Configuration) (past new : List Effect) → open_tags c (past ++ new) ≡ fold (tags_after c) (open_tags c past) new
open_tags-append c past new = fold-append (tags_after c) [] past new

-- ---- and after effects that leave it

pub held-left : (c : Configuration) (g : ℕ) (past new : List Effect) → list_all leaves_holders new ≡ true → is_held c g (past ++ new) ≡ is_held c g past
held-left c g past new all = is_held-append c g past new ∙ (λ i. list_any (λ h. holding-over h g (holds h g past) new all i) (hosts_of c))

pub offers_of-left : (h : HostId) (past new : List Effect) → list_all leaves_offers new ≡ true → offers_of h (past ++ new) ≡ offers_of h past
offers_of-left h past new all = offers_of-append h past new ∙ offers-over h (offers_of h past) new all

pub offered-left : (c : Configuration) (g : ℕ) (past new : List Effect) → list_all leaves_offers new ≡ true → is_offered c g (past ++ new) ≡ is_offered c g past
offered-left c g past new all = λ i. list_any (λ h. list_any (λ xs. has_in_runs (map (run_of c h) xs) g) (offers_of-left h past new all i)) (hosts_of c)

pub last_offer-stays : (t : Tag) (past new : List Effect) → list_all leaves_tags new ≡ true → last_offer t (past ++ new) ≡ last_offer t past
last_offer-stays t past new all = last_offer-append t past new ∙ last_offer-over t (last_offer t past) new all

pub open_tags-stay : (c : Configuration) (past new : List Effect) → list_all leaves_tags new ≡ true → open_tags c (past ++ new) ≡ open_tags c past
open_tags-stay c past new all = open_tags-append c past new ∙ tags-over c (open_tags c past) new all

pub tagged-left : (c : Configuration) (g : ℕ) (past new : List Effect) → list_all leaves_tags new ≡ true → is_tagged c g (past ++ new) ≡ is_tagged c g past
tagged-left c g past new all = λ i. list_any (λ t. has_in_runs (tag_runs c (last_offer-stays t past new all i)) g) (open_tags-stay c past new all i)

pub taken-left : (g : ℕ) (past new : List Effect) → list_all leaves_taking new ≡ true → is_taken g (past ++ new) ≡ is_taken g past
taken-left g past new all = is_taken-append g past new ∙ taking-over g (is_taken g past) new all

pub soiled-left : (g : ℕ) (past new : List Effect) → list_all leaves_soil new ≡ true → is_soiled g (past ++ new) ≡ is_soiled g past
soiled-left g past new all = is_soiled-append g past new ∙ soil-over g (is_soiled g past) new all

-- Hold, Unhold, Logged, Missed, Cleared, Reset, Ref and Block change no status.
pub status-quiet : (c : Configuration) (g : ℕ) (past new : List Effect) → list_all is_quiet new ≡ true → status c g (past ++ new) ≡ status c g past
status-quiet c g past new all = status_is c g (past ++ new) (is_held c g past) (is_offered c g past) (is_tagged c g past) (is_taken g past) (is_soiled g past) (record {
  held_is = held-left c g past new (quiet_holders new all);
  offered_is = offered-left c g past new (quiet_offers new all);
  tagged_is = tagged-left c g past new (quiet_tags new all);
  taken_is = taken-left g past new (quiet_taking new all);
  soiled_is = soiled-left g past new (quiet_soil new all);
})

-- ---- what the tests say of a status

-- of a granule that no host can share
module _ (spec : RegionSpec) (private : spec.shareable ≡ false) where
  pub held_status : (offered tagged taken soiled : Bool) → status_by spec true offered tagged taken soiled ≡ Held
  held_status offered tagged taken soiled = rw private refl

  pub offered_status : (tagged taken soiled : Bool) → status_by spec false true tagged taken soiled ≡ Offered
  offered_status tagged taken soiled = rw private refl

  pub left_status : (taken soiled : Bool) → status_by spec false false false taken soiled ≡ (if (spec.sanitize && taken) || soiled then Dirty else Free)
  left_status taken soiled = rw private refl

-- of one that hosts can share
module _ (spec : RegionSpec) (shared : spec.shareable ≡ true) where
  pub tagged_status : (held offered taken soiled : Bool) → status_by spec held offered true taken soiled ≡ Tagged
  tagged_status held offered taken soiled = rw shared refl

  pub untagged_status : (held offered taken soiled : Bool) → status_by spec held offered false taken soiled ≡ (if (spec.sanitize && taken) || soiled then Dirty else Free)
  untagged_status held offered taken soiled = rw shared refl

-- a granule of an open tag is tagged, soiled or not
pub tagged_still : (c : Configuration) (g : ℕ) (past : List Effect) → (region_spec c (region_of c g)).shareable ≡ true → is_tagged c g past ≡ true → status c g past ≡ Tagged
tagged_still c g past shareable tagged = rw (shareable, tagged) refl
