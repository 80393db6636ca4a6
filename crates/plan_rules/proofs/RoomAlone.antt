-- An offer of free blocks of which there are enough is refused for want of room alone.
use Rattle.std.proofs.Common.{◌≡◌, ℕ, ◌+◌, ◌/◌, ◌%◌, Bool, true, false, not, ◌&&◌, ◌||◌, ◌==◌, List, [], ◌++◌, length, None, Some, refl, ap, sym, ◌∙◌, inl, inr, arith, leb, ltb}
use Rattle.std.proofs.lemmas.{Bool.cases_Bool, Bool.eq-eqb, Bool.false≢true, Bool.le-ltb, Bool.lt-leb, Bool.ne_eqb, List.Folds.list_any-append}
use Rattle.std.specs.Prelude.{Option}
use Rattle.dcd_base.specs.{Words.◌or◌, Words.is_zero_tag, Words.same_tag, Words.zero_tag, declared.capacity.Extent.Extent, declared.capacity.Tag.Tag, declared.ids.HostId.HostId}
use Rattle.dcd_base.specs.declared.steps.LogId.{LogId}
use Rattle.dcd_codes.specs.{Rules.◌breaks◌, declared.rules.Rule.Rule}
use Rattle.extent_list.specs.{ExtentLists.has_extent_of, ExtentLists.real_tags, Listing.too_many_extents}
use Rattle.region_config.{proofs.PresentBlocks.region_spec-with_blocks, specs.Configurations.Configuration, specs.Granules.region_spec, specs.Soundness.IsSound}
use Rattle.selection.specs.Selections.{free_runs, too_few_free}
use Rattle.journal_core.specs.{Entries.effects, declared.entries.Entry.Entry, declared.outcome.Effect.Effect}
use Rattle.isolation_laws.specs.device_rules.specs.Adding.{add_rule, area_of, by_length_rule, extents_of, is_free_now, per_block, present, region_free_blocks, too_many_tags}
use Rattle.isolation_laws.specs.device_rules.{proofs.AddChoices.marked_tags, proofs.ListSteps.each-at, proofs.TagSteps.same_tag-is, specs.Hosts.block_of, specs.Legal.Legal, specs.Logs.log_of}
use Rattle.isolation_laws.specs.device_rules.specs.{Outcomes.log_full, Views.extents_in, Views.view_of}
use Rattle.plan_rules.proofs.{Emptying.none_of_two, Emptying.unbroken, PrivateTags.legal_keeps_tags, RealTags.real_few}
use Rattle.plan_rules.specs.Taking.{CanBeOfferedFree, OnlyRoomIsWanting, free_offer_of}

-- a row of which but two rules are kept
two_left : (front first kept last : Option Rule) → front ≡ None → kept ≡ None → (((front or first) or kept) or last) ≡ (first or last)
two_left front None kept last none is = rw (none, is) refl
two_left front (Some rule) kept last none is = rw none refl

module _ (c : Configuration) (sound : IsSound c) (journal : List Entry) (legal : Legal c journal) (h : HostId) (r bytes : ℕ) (can : CanBeOfferedFree c (effects journal) h r bytes) where
  abbrev past : List Effect
  past = effects journal

  abbrev w : Configuration
  w = present c (effects journal)

  abbrev size : ℕ
  size = (region_spec (present c (effects journal)) r).block

  abbrev new : List Extent
  new = free_offer_of c (effects journal) h r bytes

  size_is : (region_spec (present c (effects journal)) r).block ≡ block_of c r (effects journal)
  size_is = ap (λ spec. spec.block) (region_spec-with_blocks c (λ k. block_of c k past) r can.known)

  -- there are blocks enough
  by_length : by_length_rule (present c (effects journal)) (is_free_now c (effects journal)) r 0 bytes ≡ None
  by_length =
      let some : (bytes == 0) ≡ false = ne_eqb bytes 0 (λ e. absurd (omega (arith, e, can.some))) in
      let whole : (bytes % size == 0) ≡ true = eq-eqb (bytes % size) 0 (ap (λ n. bytes % n) size_is ∙ can.whole) in
      let enough : ltb (region_free_blocks w (is_free_now c past) r) (bytes / size) ≡ false = le-ltb _ _ (omega (arith, ap (λ n. bytes / n) size_is, can.enough)) in
      none_of_two (((bytes == 0) || not (bytes % size == 0)) breaks Rule.BadLength bytes) (too_few_free (bytes / size) (region_free_blocks w (is_free_now c past) r))
      (unbroken _ _ (λ i. some i || not (whole i))) (unbroken _ _ enough)

  -- and no more tags
  few_tags : too_many_tags (length (real_tags (extents_in (view_of c h journal) ++ new))) ≡ None
  few_tags =
      let xs : List Extent = extents_in (view_of c h journal) in
      let runs = free_runs (is_free_now c past) (area_of w r) (per_block w r) (bytes / size) in
      let marked = marked_tags (region_spec c r).shareable zero_tag 1 (extents_of w h runs) in
      let same : (t : Tag) → is_zero_tag t ≡ false → has_extent_of t (xs ++ new) ≡ true → has_extent_of t xs ≡ true = λ t real has. elim (cases_Bool (has_extent_of t new)) [
        | inl here ↦ (let found = each-at (λ x. x.tag ≡ zero_tag) (λ x. same_tag x.tag t) new marked here in
            absurd (false≢true (sym real ∙ ap is_zero_tag (sym (same_tag-is found.0.tag t found.1) ∙ found.2))))
        | inr lacks ↦ by (has_extent_of t xs) (has_extent_of t new) lacks (sym (list_any-append (λ x. same_tag x.tag t) xs new) ∙ has)
      ] in
      unbroken _ _ (le-ltb _ _ (omega (arith, real_few (xs ++ new) xs same, (legal_keeps_tags c sound journal legal).few h)))
    where
      by : (a b : Bool) → b ≡ false → (a || b) ≡ true → a ≡ true
      by true b lacks e = refl
      by false b lacks e = absurd (false≢true (sym lacks ∙ e))

  pub room_alone : add_rule c (effects journal) (λ k. view_of c k journal) h 0 r bytes zero_tag []
      ≡ (too_many_extents (length (extents_in (view_of c h journal)) + length new) or log_full h (log_of (LogId.Host h) (effects journal)) (length new))
  room_alone =
      let private : (is_zero_tag zero_tag && (region_spec c r).shareable) ≡ false = ap (λ b. is_zero_tag zero_tag && b) can.private in
      let front = none_of_two _ _ (none_of_two _ _ (none_of_two _ _ (none_of_two _ _ (none_of_two _ _ (none_of_two _ _ (none_of_two _ _ (none_of_two _ _ (none_of_two _ _
      (unbroken (leb c.hosts h) (Rule.NoSuchHost h) (lt-leb _ _ can.host)) refl) (unbroken (leb (length c.regions) r) (Rule.NoSuchRegion r) (lt-leb _ _ can.known))) refl)
      (unbroken (is_zero_tag zero_tag && (region_spec c r).shareable) Rule.ZeroTag private)) refl) refl) refl) by_length) refl in
      two_left _ (too_many_extents (length (extents_in (view_of c h journal)) + length new)) (too_many_tags (length (real_tags (extents_in (view_of c h journal) ++ new))))
      (log_full h (log_of (LogId.Host h) past) (length new)) front few_tags

pub only_room_is_wanting : (c : Configuration) → IsSound c → (journal : List Entry) → Legal c journal → OnlyRoomIsWanting c journal
only_room_is_wanting c sound journal legal h r bytes can = room_alone c sound journal legal h r bytes can
