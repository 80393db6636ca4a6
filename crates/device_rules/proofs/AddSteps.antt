-- The table after the manager offers capacity, and what the rules of that read in it: 5604h.
use Rattle.std.proofs.Common.{◌≡◌, ℕ, ◌<◌, ◌≤◌, true, false, ◌&&◌, ◌||◌, not, ◌==◌, List, [], ◌∷◌, ◌++◌, map, Some, None, refl, sym, ap, subst, ◌∙◌, inl, inr, arith}
use Rattle.std.specs.{Prelude.if◌then◌else◌, Prelude.unwrap_or, List.list_any}
use Rattle.std.proofs.lemmas.Bool.{and_cases, and_parts, and_right, cases_Bool, cases_lt, eq-eqb, eqb-true, false≢true, le-leb, ne_eqb, not-false}
use Rattle.cci_codec.specs.dcd_base.specs.{Words.has_tag, Words.is_zero_tag, declared.capacity.Extent.Extent, declared.capacity.Tag.Tag, declared.steps.LogId.LogId}
use Rattle.event_records.specs.declared.events.Event.{Event}
use Rattle.extent_list.specs.{ExtentLists.has_extent_of, media_map.specs.Places.run_of, media_map.specs.region_config.specs.Configurations.Configuration}
use Rattle.extent_list.specs.media_map.specs.region_config.specs.{Granules.hosts_of, Granules.region_spec, Soundness.IsSound}
use Rattle.fm_payloads.specs.declared.requests.FmRequest.{FmRequest}
use Rattle.journal_core.specs.{Entries.effects, declared.entries.Entry.Entry, declared.outcome.Effect.Effect}
use Rattle.tag_refs.specs.{Tables.opened, Tables.passes, Tables.has_entry, Tables.entry_referenced, declared.entries.TagEntry.TagEntry}
use Rattle.device_rules.proofs.{Adding.IsAdded, Adding.IsRow, Adding.added, Adding.row_of, HostOfTagsSet.anew, HostOfTagsSet.ended_ending, LegalSound.legal_is_sound}
use Rattle.device_rules.proofs.OfferSteps.{opened_table, private_table, shared_held, shared_now, shared_offered, shared_tags, shared_uses}
use Rattle.device_rules.proofs.{OneOffer.IsShared, ReferenceSteps.table_referenced, SettledTags.unended, TagEntries.open_uses, TagEntries.table_live, TagEntries.table_passes, TagEntries.uses}
use Rattle.device_rules.specs.{Adding.is_open_in, Adding.offered, Answers.manager_outcome, Answers.manager_rule, Hosts.accepted_of, Hosts.offers_of, Legal.Legal, Outcomes.Outcome, Outcomes.ended}
use Rattle.device_rules.specs.{Pictures.picture_of, Standing.Sound, Tabled.OfferDoes, Tabled.Tabled, TagTable.IsTable, TagTable.among, TagTableSteps.FollowsOffer, TagTableSteps.IsOffered}
use Rattle.device_rules.specs.{Tags.is_live, Tags.is_referenced, Tags.last_offer, Tags.open_tags, Tags.region_of_offer, Tags.tag_region, Views.view_of}

-- ---- what the rules read

module _ (c : Configuration) (past : List Effect) (entries : List TagEntry) (table : IsTable c past entries) (tag : Tag) where
  -- whether the tag is open in the region
  pub table_open_in : (r : ℕ) → is_open_in c past r tag ≡ passes tag (λ e. e.region == r) entries
  table_open_in r = sym (table_passes c past entries table tag (λ e. e.region == r) (unwrap_or (tag_region c (last_offer tag past)) 0 == r) (λ e open_tag is tag_is.
      (λ i. unwrap_or (is.region_is i) 0 == r) ∙ ap (λ t. unwrap_or (tag_region c (last_offer t past)) 0 == r) tag_is))

  -- whether it is in use
  pub table_in_use : (is_referenced tag past ≡ true → has_tag (open_tags c past) tag ≡ true) →
      is_live c tag past ≡ (not (is_zero_tag tag)
      && (list_any (λ h. has_extent_of tag (accepted_of c h past) || list_any (has_extent_of tag) (offers_of h past)) (hosts_of c) || passes tag entry_referenced entries))
  table_in_use opened_by =
      ap (λ b. not (is_zero_tag tag) && (list_any (λ h. has_extent_of tag (accepted_of c h past) || list_any (has_extent_of tag) (offers_of h past)) (hosts_of c) || b))
      (table_referenced c past entries table tag opened_by)

-- ---- what the row says of the tag

-- the tag is open just by the policy that shares, and then in the region; else nobody uses it
pub record IsPicked (c : Configuration) (past : List Effect) (policy r : ℕ) (tag : Tag) : Type 0 where
  pub open_is : has_tag (open_tags c past) tag ≡ (policy == 3)
  pub of_region : has_tag (open_tags c past) tag ≡ true → tag_region c (last_offer tag past) ≡ Some r
  pub unused : (region_spec c r).shareable ≡ true → has_tag (open_tags c past) tag ≡ false → uses c past tag ≡ false

module _ (c : Configuration) (past : List Effect) (now : Sound c (picture_of c past)) (h policy r bytes : ℕ) (tag : Tag) (list : List Extent) (row : IsRow c past (picture_of c past) h policy r bytes tag list) where
  closed : is_live c tag past ≡ false → has_tag (open_tags c past) tag ≡ false
  closed dead = elim (cases_Bool (has_tag (open_tags c past) tag)) [
    | inr it ↦ it
    | inl open_tag ↦ absurd (false≢true (sym dead ∙ now.live tag open_tag))
  ]

  nonzero : (region_spec c r).shareable ≡ true → is_zero_tag tag ≡ false
  nonzero shared = elim (and_cases (is_zero_tag tag) (region_spec c r).shareable row.no_zero) [
    | inl it ↦ it
    | inr private ↦ absurd (false≢true (sym private ∙ shared))
  ]

  new_tag : policy ≤ 2 → IsPicked c past policy r tag
  new_tag low =
      let dead : is_live c tag past ≡ false = sym (ap (λ b. b && is_live c tag past) (le-leb policy 2 low)) ∙ row.not_live in
      let shut : has_tag (open_tags c past) tag ≡ false = closed dead in record {
        open_is = shut ∙ sym (ne_eqb policy 3 (λ e. absurd (omega (arith, e, low))));
        of_region = λ open_tag. absurd (false≢true (sym shut ∙ open_tag));
        unused = λ shared _. sym (ap (λ b. not b && uses c past tag) (nonzero shared)) ∙ dead;
      }

  shared_tag : 2 < policy → IsPicked c past policy r tag
  shared_tag high =
      let three : policy ≡ 3 = omega (arith, high, row.policies) in
      let open_in : is_open_in c past r tag ≡ true = not-false (is_open_in c past r tag) (sym (ap (λ b. b && not (is_open_in c past r tag)) (eq-eqb policy 3 three)) ∙ row.is_open) in
      let parts = and_parts (has_tag (open_tags c past) tag) (unwrap_or (tag_region c (last_offer tag past)) 0 == r) open_in in
      let a = now.stands.opened tag parts.0 in
      let told : tag_region c (last_offer tag past) ≡ Some (region_of_offer c a.host a.extents) = ap (tag_region c) a.offer in
      let is : region_of_offer c a.host a.extents ≡ r = sym (ap (λ o. unwrap_or o 0) told) ∙ eqb-true _ _ parts.1 in record {
        open_is = parts.0 ∙ sym (eq-eqb policy 3 three);
        of_region = λ open_tag. told ∙ ap (λ k. Some k) is;
        unused = λ shared shut. absurd (false≢true (sym shut ∙ parts.0));
      }

  pub picked : IsPicked c past policy r tag
  picked = elim (cases_lt 2 policy) [
    | inl high ↦ shared_tag high
    | inr low ↦ new_tag low
  ]

-- ---- the offer

module _ (c : Configuration) (sound : IsSound c) (past : List Effect) (now : Sound c (picture_of c past)) (h policy r : ℕ) (tag : Tag) (pick : IsPicked c past policy r tag)
    (entries : List TagEntry) (table : IsTable c past entries) where
  offered_table : (new : List Extent) → IsAdded c (picture_of c past) h r tag new → (log_records : List (LogId × List Event)) →
      IsOffered c past h r tag new (record { payload = []; changes = Effect.Offer h new ∷ []; tags = []; log_records = log_records }) entries
  offered_table [] a log_records = absurd (omega (arith, a.some))
  offered_table (x ∷ xs) a log_records =
      let o : Outcome = record { payload = []; changes = Effect.Offer h (x ∷ xs) ∷ []; tags = []; log_records = log_records } in
      let is_open : has_entry tag entries ≡ true → has_tag (open_tags c past) tag ≡ true = λ live. table_live c past entries table tag ∙ live in
      record {
        private = λ private. unended c past o entries refl (private_table c sound past now h r tag x xs a entries table (shut private) private);
        shared = λ shareable live.
            let s = is_shared (is_open live) in
            let of_region = pick.of_region (is_open live) in
            anew c past now o h a.offer.host (tag ∷ []) (shared_now c sound past now h r tag x xs a s of_region) (among (accepted_of c h past)) (λ t. true)
            (shared_held c sound past now h r tag x xs a s of_region) (shared_offered c sound past now h r tag x xs a s of_region) entries table
            (shared_tags c sound past now h r tag x xs a s of_region) (λ t open_tag. inl (shared_uses c sound past now h r tag x xs a s of_region t open_tag));
        none_ends = λ shareable live.
            let s = is_shared (is_open live) in
            let of_region = pick.of_region (is_open live) in
            sym (ended_ending c past (Effect.Offer h (x ∷ xs) ∷ []) h a.offer.host (tag ∷ []) (shared_now c sound past now h r tag x xs a s of_region) (among (accepted_of c h past)) (λ t. true)
            (shared_held c sound past now h r tag x xs a s of_region) (shared_offered c sound past now h r tag x xs a s of_region) now entries table)
            ∙ none_over (shared_uses c sound past now h r tag x xs a s of_region tag (is_open live)) (open_uses c past now tag (is_open live)).0;
        begun = λ shareable dead.
            let closed_tag : has_tag (open_tags c past) tag ≡ false = table_live c past entries table tag ∙ dead in
            unended c past o (entries ++ opened tag r (map (run_of c h) (x ∷ xs)) h ∷ []) refl (opened_table c sound past now h r tag x xs a entries table shareable closed_tag (pick.unused shareable closed_tag));
      }
    where
      shut : (region_spec c r).shareable ≡ false → has_tag (open_tags c past) tag ≡ false
      shut private = elim a.way [
        | inl fresh ↦ fresh.closed
        | inr shared ↦ absurd (false≢true (sym private ∙ shared.shareable))
      ]

      is_shared : has_tag (open_tags c past) tag ≡ true → IsShared c (picture_of c past) h r tag (x ∷ xs)
      is_shared open_tag = elim a.way [
        | inl fresh ↦ absurd (false≢true (sym fresh.closed ∙ open_tag))
        | inr shared ↦ shared
      ]

      none_over : uses c (past ++ Effect.Offer h (x ∷ xs) ∷ []) tag ≡ true → not (is_zero_tag tag) ≡ true → ended c past (Effect.Offer h (x ∷ xs) ∷ []) (tag ∷ []) ≡ []
      none_over used some = (λ i. if has_tag (open_tags c past) tag && not (some i && used i) then tag ∷ [] else []) ∙ ap (λ b. if b then tag ∷ [] else []) (and_right (has_tag (open_tags c past) tag) false refl)

module _ (c : Configuration) (sound : IsSound c) (before : List Entry) (legal : Legal c before) (entries : List TagEntry) (table : IsTable c (effects before) entries)
    (h policy r bytes : ℕ) (tag : Tag) (list : List Extent) (row : manager_rule c (effects before) (λ k. view_of c k before) (FmRequest.Add h policy r bytes tag list) ≡ None) where
  now : Sound c (picture_of c (effects before))
  now = legal_is_sound c sound before legal

  rules : IsRow c (effects before) (picture_of c (effects before)) h policy r bytes tag list
  rules = row_of c before h policy r bytes tag list row

  -- the tag is open just where the policy shares
  pub table-policy : has_entry tag entries ≡ (policy == 3)
  table-policy = sym (table_live c (effects before) entries table tag) ∙ (picked c (effects before) now h policy r bytes tag list rules).open_is

  pub table-add : IsOffered c (effects before) h r tag (offered c (effects before) h policy r bytes tag list)
      (manager_outcome c (effects before) (λ k. view_of c k before) (FmRequest.Add h policy r bytes tag list)) entries
  table-add = offered_table c sound (effects before) now h policy r tag (picked c (effects before) now h policy r bytes tag list rules) entries table
      (offered c (effects before) h policy r bytes tag list) (added c sound (effects before) now h r tag bytes list policy rules)
      (manager_outcome c (effects before) (λ k. view_of c k before) (FmRequest.Add h policy r bytes tag list)).log_records

-- ---- over a legal journal

pub follows_offer : (t : Tabled) (o : Outcome) (a : OfferDoes t o) → FollowsOffer t o a
follows_offer t o a =
    let past : List Effect = effects t.before in
    subst (λ x. IsOffered t.config past a.host a.region a.tag (offered t.config past a.host a.policy a.region a.bytes a.tag a.list) x t.entries) (sym a.does.is)
    (table-add t.config t.sound t.before t.legal t.entries t.table a.host a.policy a.region a.bytes a.tag a.list a.does.row)
