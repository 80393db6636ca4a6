-- What the manager offers where nothing is shared was free before, and so not taken where the region is zeroed.
use Rattle.std.proofs.Common.{◌≡◌, ℕ, ◌*◌, ◌/◌, ◌%◌, ◌<◌, Bool, true, false, not, ◌&&◌, ◌||◌, ◌==◌, List, inl, inr, refl, sym, ap, subst, ◌∙◌, arith, div-add-mod', zero-mul}
use Rattle.std.proofs.lemmas.Bool.{cases_eq, eqb-false, eqb-true, false≢true, not-false, or_parts}
use Rattle.std.specs.Prelude.{if◌then◌else◌}
use Rattle.dcd_base.specs.{Words.has_in_runs, declared.capacity.Extent.Extent, declared.capacity.Tag.Tag, declared.ids.HostId.HostId}
use Rattle.extent_list.specs.{dcd_codes.specs.Rules.◌breaks◌, dcd_codes.specs.declared.rules.Rule.Rule, media_map.specs.region_config.specs.Configurations.Configuration}
use Rattle.extent_list.specs.media_map.specs.region_config.specs.{Granules.region_of, Granules.region_spec, Soundness.IsSound}
use Rattle.journal_core.specs.{Holders.is_soiled, Holders.is_taken, declared.outcome.Effect.Effect}
use Rattle.selection.{specs.Selections.too_few_free, proofs.Prescribed.neither}
use Rattle.device_rules.proofs.{AddChoices.contiguous_reached, AddChoices.free_reached, AddChoices.marked_runs, AddChoices.prescribed_reached, AddChoices.reach_runs, Adding.IsRow, OneOffer.reaches}
use Rattle.device_rules.{proofs.Overlaps.not_broken, specs.Adding.is_free_now, specs.Adding.offered, specs.Adding.present, specs.Adding.with_tag, specs.Adding.region_longest_free as blocks_together}
use Rattle.device_rules.specs.{Pictures.Picture, Pictures.picture_of, Standing.Sound, Standing.Stands}
use Rattle.device_rules.specs.Tags.{Dirty, Free, Held, Offered, Tagged, is_free, is_held, is_offered, is_tagged, status}

-- ---- a free granule was not taken since it was zeroed

untaken_free : (private held offered with_tag sanitize taken soiled : Bool) → sanitize ≡ true →
    is_free (if private && held then Held else if private && offered then Offered else if with_tag then Tagged else if (sanitize && taken) || soiled then Dirty else Free) ≡ true → taken ≡ false
untaken_free true true offered with_tag sanitize taken soiled is free = absurd (false≢true free)
untaken_free true false true with_tag sanitize taken soiled is free = absurd (false≢true free)
untaken_free true false false true sanitize taken soiled is free = absurd (false≢true free)
untaken_free true false false false false taken soiled is free = absurd (false≢true is)
untaken_free true false false false true true soiled is free = absurd (false≢true free)
untaken_free true false false false true false soiled is free = refl
untaken_free false held offered true sanitize taken soiled is free = absurd (false≢true free)
untaken_free false held offered false false taken soiled is free = absurd (false≢true is)
untaken_free false held offered false true true soiled is free = absurd (false≢true free)
untaken_free false held offered false true false soiled is free = refl

pub free_untaken : (c : Configuration) (g : ℕ) (past : List Effect) → (region_spec c (region_of c g)).sanitize ≡ true → is_free (status c g past) ≡ true → is_taken g past ≡ false
free_untaken c g past sanitize free =
    untaken_free (not (region_spec c (region_of c g)).shareable) (is_held c g past) (is_offered c g past) (is_tagged c g past) (region_spec c (region_of c g)).sanitize (is_taken g past) (is_soiled g past) sanitize free

-- ---- what is offered

module _ (c : Configuration) (sound : IsSound c) (past : List Effect) (before : Sound c (picture_of c past)) (h : HostId) (r bytes : ℕ) (t : Tag) (list : List Extent) where
  abbrev p : Picture
  p = picture_of c past

  s : Stands c (picture_of c past)
  s = before.stands

  abbrev size : ℕ
  size = (region_spec (present c past) r).block

  -- marks change no granule
  marked_reach : (shareable : Bool) (xs : List Extent) (g : ℕ) → reaches c h (with_tag shareable t xs) g ≡ reaches c h xs g
  marked_reach shareable xs g = sym (reach_runs c h g (with_tag shareable t xs)) ∙ ap (λ runs. has_in_runs runs g) (marked_runs shareable t c h 1 xs) ∙ reach_runs c h g xs

  -- some blocks are needed
  need_some : ((bytes == 0) || not (bytes % (region_spec (present c past) r).block == 0)) ≡ false → 0 < bytes / (region_spec (present c past) r).block
  need_some e =
      let parts = or_parts (bytes == 0) (not (bytes % size == 0)) e in
      let some = eqb-false bytes 0 parts.0 in
      let whole = eqb-true (bytes % size) 0 (not-false _ parts.1) in
      elim (cases_eq (bytes / size) 0) [
        | inl nothing ↦ absurd (omega (arith, div-add-mod' bytes size, ap (λ n. n * size) nothing, zero-mul size, whole, some))
        | inr it ↦ omega (arith, it)
      ]

  abbrev AreFree : List Extent → Type 0
  AreFree xs = (g : ℕ) → reaches c h xs g ≡ true → is_free (status c g past) ≡ true

  marked_free : (shareable : Bool) (xs : List Extent) → AreFree xs → AreFree (with_tag shareable t xs)
  marked_free shareable xs free g has = free g (sym (marked_reach shareable xs g) ∙ has)

  by_free : IsRow c past p h 0 r bytes t list → AreFree (offered c past h 0 r bytes t list)
  by_free row = marked_free (region_spec c r).shareable _ (free_reached c sound p.block h row.host r row.region s.blocks (is_free_now c past) (bytes / size))

  by_contiguous : IsRow c past p h 1 r bytes t list → AreFree (offered c past h 1 r bytes t list)
  by_contiguous row =
      let parts = neither (((bytes == 0) || not (bytes % size == 0)) breaks Rule.BadLength bytes) (too_few_free (bytes / size) (blocks_together (present c past) (is_free_now c past) r)) row.by_length in
      let some = need_some (not_broken _ (Rule.BadLength bytes) parts.0) in
      marked_free (region_spec c r).shareable _ (λ g has. contiguous_reached c sound p.block h row.host r row.region s.blocks (is_free_now c past) (bytes / size) g some has)

  by_list : IsRow c past p h 2 r bytes t list → AreFree (offered c past h 2 r bytes t list)
  by_list row = marked_free (region_spec c r).shareable list (prescribed_reached c sound p.block h row.host r row.region s.blocks (is_free_now c past) list row.by_list)

  -- shared access is offered in a shareable region alone
  by_shared : (region_spec c r).shareable ≡ false → IsRow c past p h 3 r bytes t list → AreFree (offered c past h 3 r bytes t list)
  by_shared private row = absurd (false≢true (sym private ∙ not-false _ row.to_share))

  pub offered_free : (policy : ℕ) → (region_spec c r).shareable ≡ false → IsRow c past (picture_of c past) h policy r bytes t list →
      (g : ℕ) → reaches c h (offered c past h policy r bytes t list) g ≡ true → is_free (status c g past) ≡ true
  offered_free policy private row = elim (cases_eq policy 0) [
    | inl is ↦ subst (λ n. IsRow c past p h n r bytes t list → AreFree (offered c past h n r bytes t list)) (sym is) by_free row
    | inr not_free ↦ elim (cases_eq policy 1) [
      | inl is ↦ subst (λ n. IsRow c past p h n r bytes t list → AreFree (offered c past h n r bytes t list)) (sym is) by_contiguous row
      | inr not_contiguous ↦ elim (cases_eq policy 2) [
        | inl is ↦ subst (λ n. IsRow c past p h n r bytes t list → AreFree (offered c past h n r bytes t list)) (sym is) by_list row
        | inr not_prescribed ↦ (let is : policy ≡ 3 = omega (arith, row.policies, not_free, not_contiguous, not_prescribed) in
            subst (λ n. IsRow c past p h n r bytes t list → AreFree (offered c past h n r bytes t list)) (sym is) (by_shared private) row)
      ]
    ]
  ]
