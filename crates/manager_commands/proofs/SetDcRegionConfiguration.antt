-- The row of a new block size, by what is kept of the region.
use Rattle.std.proofs.Common.{◌≡◌, ℕ, zero, suc, ◌+◌, ◌<◌, ◌≤◌, Bool, not, ◌==◌, List, [], ◌∷◌, map, length, Option, Some, None, refl, sym, ap, subst, ◌∙◌, arith, ltb}
use Rattle.std.{specs.Prelude.All, specs.Prelude.count_by, specs.List.range_with_len, proofs.lemmas.Bool.le-leb, proofs.lemmas.List.Sums.length-filter}
use Rattle.event_records.specs.dcd_base.specs.{Words.flag_of, Words.◌or◌, declared.ids.HostId.HostId}
use Rattle.extent_list.specs.{dcd_codes.specs.Rules.◌breaks◌, dcd_codes.specs.Rules.each_in, dcd_codes.specs.declared.rules.Rule.Rule, media_map.specs.region_config.proofs.Faultless.granules_within}
use Rattle.extent_list.specs.media_map.specs.region_config.{proofs.PresentBlocks.granules_in-with_blocks, specs.Configurations.Configuration}
use Rattle.extent_list.specs.media_map.specs.region_config.specs.Granules.{first_granule, granule_total, region_granules, hosts_of, is_supported, region_spec, sizes_in}
use Rattle.extent_list.specs.media_map.specs.region_config.specs.{Soundness.IsSound, declared.region_spec.RegionSpec.RegionSpec}
use Rattle.selection.{specs.granule_map.specs.StateLists.is_free_at, proofs.Agreeing.Agree}
use Rattle.journal_core.specs.{Entries.effects, declared.entries.Entry.Entry, declared.outcome.Effect.Effect}
use Rattle.device_state.specs.{StateAfter.IsStateAfter, declared.state.State.State, device_rules.specs.Adding.is_free_now, device_rules.specs.Hosts.block_of, device_rules.specs.Outcomes.log_full}
use Rattle.device_state.specs.device_rules.specs.{Settings.in_use, Settings.no_such_region, Settings.set_outcome, Settings.set_rule, Tags.is_free, Tags.status, Views.View}
use Rattle.manager_commands.proofs.{FreeGranules.filter_agree, FreeGranules.free_at, Reached.first_kept, Reached.hosts_kept, Reached.region_kept, Rows.kept_rule, Rows.not_up_to}
use Rattle.manager_commands.specs.SetDcRegionConfiguration.{region_record, size_rule, told_to_all, used_in}
use Rattle.device_commands.specs.{Drafts.Informs, Drafts.as_records, declared.draft.Draft.Draft, declared.log_records.LogRecords.LogRecords}

-- another block leaves the sizes that are supported
other_block : (spec : RegionSpec) (b size : ℕ) (sanitize : Bool) (used : ℕ) → size_rule (record spec { block = b }) size sanitize used ≡ size_rule spec size sanitize used
unfolding sizes_in
other_block spec b size sanitize used = refl

module _ (c : Configuration) (sound : IsSound c) (journal : List Entry) (s : State) (kept : IsStateAfter c journal s) (r : ℕ) (known : r < length c.regions) where
  granules_same : region_granules s.present r ≡ region_granules c r
  granules_same = ap (λ (d : Configuration). region_granules d r) kept.present_is ∙ granules_in-with_blocks c (λ k. block_of c k (effects journal)) r

  -- the tests of the granules agree
  pub free_agree : Agree (is_free_at s.granules.states) (is_free_now c (effects journal)) 0 (granule_total c)
  free_agree g low high = free_at c (effects journal) s.granules kept.granule_count kept.cells g high

  used_agree : count_by (λ g. not (is_free_at s.granules.states g)) (range_with_len (first_granule c r) (region_granules c r)) ≡ in_use c (effects journal) r
  used_agree =
      let p : ℕ → Bool = λ g. not (is_free_at s.granules.states g) in
      let q : ℕ → Bool = λ g. not (is_free (status c g (effects journal))) in
      let rs : List ℕ = range_with_len (first_granule c r) (region_granules c r) in
      sym (length-filter p rs)
      ∙ ap length (filter_agree p q (first_granule c r) (region_granules c r) (λ g low high. ap not (free_agree g (omega arith) (omega (arith, high, granules_within c r known)))))
      ∙ length-filter q rs

  used_kept : used_in s r ≡ in_use c (effects journal) r
  used_kept = (λ i. count_by (λ g. not (is_free_at s.granules.states g)) (range_with_len (first_kept c journal s kept r i) (granules_same i))) ∙ used_agree

  module _ (view_for : HostId → View) (sanitize : Bool) (size : ℕ) where
    abbrev logs_rule : Option Rule
    logs_rule = each_in (hosts_of c) (λ before h. log_full h (view_for h).log 1)

    rules : Option Rule → Option Rule
    rules first =
        first
        or (not (is_supported (region_spec c r) size) breaks Rule.NotSupportedSize size)
        or (not (flag_of sanitize == flag_of (region_spec c r).sanitize) breaks Rule.SanitizeDiffers)
        or (ltb 0 (in_use c (effects journal) r) breaks Rule.RegionInUse (in_use c (effects journal) r))
        or logs_rule

    -- the row is that of the size, and then of the logs
    pub set_rule-is : no_such_region c r ≡ None → set_rule c (effects journal) view_for r sanitize size ≡ (size_rule (region_spec s.present r) size sanitize (used_in s r) or logs_rule)
    unfolding rules
    set_rule-is none =
        ap rules none
        ∙ ap (λ (o : Option Rule). o or logs_rule)
        (sym ((λ i. size_rule (region_kept c journal s kept r known i) size sanitize (used_kept i)) ∙ other_block (region_spec c r) (block_of c r (effects journal)) size sanitize (in_use c (effects journal) r)))

    here : no_such_region c r ≡ None
    here = kept_rule _ (Rule.NoSuchRegion r) (not_up_to (length c.regions) r known)

    -- the size breaks a rule
    pub set_rule-size : (rule : Rule) → size_rule (region_spec s.present r) size sanitize (used_in s r) ≡ Some rule → set_rule c (effects journal) view_for r sanitize size ≡ Some rule
    set_rule-size rule broken = set_rule-is here ∙ ap (λ (o : Option Rule). o or logs_rule) broken

    -- it breaks none
    pub set_rule-logs : (found : Option Rule) → size_rule (region_spec s.present r) size sanitize (used_in s r) ≡ None →
        each_in (hosts_of s.present) (λ before h. log_full h (view_for h).log 1) ≡ found → set_rule c (effects journal) view_for r sanitize size ≡ found
    set_rule-logs found fine logs =
        set_rule-is here ∙ ap (λ (o : Option Rule). o or logs_rule) fine
        ∙ ap (λ n. each_in (range_with_len 0 n) (λ (before : List HostId) h. log_full h (view_for h).log 1)) (sym (hosts_kept c journal s kept)) ∙ logs

    -- each host of the device is told
    pub told_all : (d : Draft) → Informs s.present.hosts view_for (set_outcome s.present view_for r size) d → Informs c.hosts view_for (set_outcome c view_for r size) d
    told_all d is =
        subst (λ n. Informs n view_for (record { payload = []; changes = Effect.Block r size ∷ []; tags = []; log_records = map (region_record view_for r) (range_with_len 0 n) }) d) (hosts_kept c journal s kept) is

-- what is told to all is what the outcome tells, and names hosts of the device
pub told_records : (view_for : HostId → View) (r : ℕ) (hosts : List HostId) → map (λ (n : LogRecords). as_records (view_for n.host) n) (told_to_all r hosts) ≡ map (region_record view_for r) hosts
told_records view_for r [] = refl
told_records view_for r (h ∷ hosts) = ap (λ rest. region_record view_for r h ∷ rest) (told_records view_for r hosts)

pub told_known : (r n first count : ℕ) → first + count ≤ n → All (λ (t : LogRecords). t.host < n) (told_to_all r (range_with_len first count))
told_known r n first zero within i d less = absurd (omega (arith, less))
told_known r n first (suc count) within zero d less = omega (arith, within)
told_known r n first (suc count) within (suc i) d less = told_known r n (first + 1) count (omega (arith, within)) i d (omega (arith, less))

-- a region past the last
pub unknown_region : (c : Configuration) (journal : List Entry) (view_for : HostId → View) (r : ℕ) (sanitize : Bool) (size : ℕ) → length c.regions ≤ r →
    set_rule c (effects journal) view_for r sanitize size ≡ Some (Rule.NoSuchRegion r)
unknown_region c journal view_for r sanitize size past = rw (le-leb (length c.regions) r past) refl
