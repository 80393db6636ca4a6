-- How the table follows a command that breaks no rule.
use Rattle.std.specs.Prelude.{◌≡◌, ℕ, true, false, not, List, [], ◌∷◌, ◌++◌, map, if◌then◌else◌}
use Rattle.cci_codec.specs.dcd_base.specs.declared.{capacity.Extent.Extent, capacity.Tag.Tag, ids.HostId.HostId}
use Rattle.journal_core.specs.declared.outcome.Effect.{Effect}
use Rattle.extent_list.specs.media_map.specs.{Places.run_of, region_config.specs.Configurations.Configuration, region_config.specs.Granules.region_spec}
use Rattle.tag_refs.specs.{Tables.entries_changed, Tables.has_entry, Tables.is_used, Tables.opened, Tables.passes, Tables.still_used, Tables.with_reference, declared.entries.TagEntry.TagEntry}
use Rattle.device_rules.specs.{Adding.offered, Hosts.accepted_of, Hosts.offers_of, Outcomes.Outcome, Outcomes.effects_of, Outcomes.ended, Tabled.OfferDoes, Tabled.Tabled, Tabled.past_of}
use Rattle.device_rules.specs.TagCommands.{add_reference_outcome, remove_reference_outcome}
use Rattle.device_rules.specs.TagTable.{IsTable, among, among_offers, ending, host_of_tags_set}

-- Of the tags that may end by the command, what the host has of them after its changes is set anew: those end of which
-- the entry is used no more, and the table is right after the command.
pub record IsHostOfTagsSet (c : Configuration) (past : List Effect) (h : HostId) (o : Outcome) (entries : List TagEntry) : Type 0 where
  pub ended_are : ended c past o.changes o.tags
      ≡ ending h (among (accepted_of c h (past ++ o.changes))) (among_offers (offers_of h (past ++ o.changes))) entries o.tags
  pub table : IsTable c (past ++ effects_of c past o)
      (host_of_tags_set h (among (accepted_of c h (past ++ o.changes))) (among_offers (offers_of h (past ++ o.changes))) o.tags entries)

-- An offer of these extents with the tag. Where nothing is shared the table stays. Where the tag is open its entry is
-- set anew, and does not end; else it gets an entry behind the others.
pub record IsOffered (c : Configuration) (past : List Effect) (h : HostId) (r : ℕ) (tag : Tag) (new : List Extent) (o : Outcome) (entries : List TagEntry) : Type 0 where
  pub private : (region_spec c r).shareable ≡ false → IsTable c (past ++ effects_of c past o) entries
  pub shared : (region_spec c r).shareable ≡ true → has_entry tag entries ≡ true →
      IsTable c (past ++ effects_of c past o) (host_of_tags_set h (among (accepted_of c h past)) (λ t. true) (tag ∷ []) entries)
  pub none_ends : (region_spec c r).shareable ≡ true → has_entry tag entries ≡ true →
      ending h (among (accepted_of c h past)) (λ t. true) entries (tag ∷ []) ≡ []
  pub begun : (region_spec c r).shareable ≡ true → has_entry tag entries ≡ false →
      IsTable c (past ++ effects_of c past o) (entries ++ opened tag r (map (run_of c h) new) h ∷ [])

-- ---- over a legal journal

-- What the host has of the tags that may end is set anew.
abbrev pub SetsHostOfTags : Tabled → HostId → Outcome → Type 0
SetsHostOfTags t h o = IsHostOfTagsSet t.config (past_of t) h o t.entries

-- The table follows the offer, of the extents that are chosen for it.
abbrev pub FollowsOffer : (t : Tabled) (o : Outcome) → OfferDoes t o → Type 0
FollowsOffer t o a = IsOffered t.config (past_of t) a.host a.region a.tag
    (offered t.config (past_of t) a.host a.policy a.region a.bytes a.tag a.list) o t.entries

-- ---- references of the manager

-- A new reference is set in the tag's entry (5606h).
abbrev pub SetsReference : Configuration → List Effect → Tag → Type 0
SetsReference c past tag = (entries : List TagEntry) → IsTable c past entries →
    IsTable c (past ++ effects_of c past (add_reference_outcome past tag)) (entries_changed tag (with_reference true) entries)

-- A reference that goes is taken out of the tag's entry, and the tag ends where nothing else uses it (5607h).
pub record DropsReference (c : Configuration) (past : List Effect) (tag : Tag) (entries : List TagEntry) : Type 0 where
  pub table : IsTable c (past ++ effects_of c past (remove_reference_outcome tag)) (still_used (entries_changed tag (with_reference false) entries))
  pub ended_are : ended c past (Effect.Ref tag false ∷ []) (tag ∷ [])
      ≡ (if passes tag (λ e. not (is_used (with_reference false e))) entries then tag ∷ [] else [])
