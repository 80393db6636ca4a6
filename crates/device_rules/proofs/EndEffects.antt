-- Which tags some effects end: just those that are open before them and not after.
use Rattle.std.proofs.Common.{◌≡◌, Bool, true, false, ◌&&◌, ◌||◌, not, List, [], ◌∷◌, ◌++◌, map, refl, sym, ap, ◌∙◌}
use Rattle.std.proofs.lemmas.{Bool.and_from, Bool.and_parts, Bool.false≢true, Bool.false_from_ne_true, Bool.not_from_false, Bool.or_from, Bool.or_left, List.Folds.list_any-append}
use Rattle.std.{proofs.lemmas.List.Sums.fold-append, specs.List.list_all, specs.List.list_any, specs.Prelude.flat_map, specs.Prelude.fold, specs.Prelude.if◌then◌else◌}
use Rattle.cci_codec.specs.dcd_base.specs.{declared.capacity.Tag.Tag, Words.has_tag, Words.same_tag}
use Rattle.extent_list.specs.media_map.specs.{region_config.specs.Configurations.Configuration, region_config.specs.Granules.region_spec, Places.region_at}
use Rattle.journal_core.specs.declared.outcome.Effect.{Effect}
use Rattle.device_rules.proofs.{EffectKinds.any_log, EffectKinds.told_passes, EffectKinds.tells_any, Pictures.picture-outcome}
use Rattle.device_rules.{proofs.TagSteps.has_tag-filter, proofs.TagSteps.not_ended, proofs.TagSteps.open_still, proofs.TagSteps.without_tags, specs.Invariants.is_end_of, specs.Logs.log_of}
use Rattle.device_rules.specs.{Outcomes.Outcome, Outcomes.effects_of, Outcomes.ended, Outcomes.entered_all, Tags.is_live, Tags.open_tags, Tags.tags_after}

-- The effects end just the tags that are open before them and not after.
abbrev pub EndsOpen : Configuration → List Effect → List Effect → Type 0
EndsOpen c past new = (t : Tag) → list_any (is_end_of t) new ≡ (has_tag (open_tags c past) t && not (has_tag (open_tags c (past ++ new)) t))

-- ---- effects that end none

abbrev pub ends_none : Effect → Bool
ends_none (Effect.TagEnd t) = false
ends_none e = true

not_end_of : (t : Tag) (e : Effect) → ends_none e ≡ true → is_end_of t e ≡ false
not_end_of t (Effect.TagEnd u) none = absurd (false≢true none)
not_end_of t e none = refl

none_ends : (t : Tag) (new : List Effect) → list_all ends_none new ≡ true → list_any (is_end_of t) new ≡ false
none_ends t [] none = refl
none_ends t (e ∷ new) none =
    let parts = and_parts (ends_none e) (list_all ends_none new) none in
    or_from (is_end_of t e) (list_any (is_end_of t) new) (not_end_of t e parts.0) (none_ends t new parts.1)

-- a tag that is open stays so over them
grown : (tags : List Tag) (u t : Tag) (opens : Bool) → has_tag tags t ≡ true → has_tag (if opens then tags ++ u ∷ [] else tags) t ≡ true
grown tags u t false has = has
grown tags u t true has = list_any-append (same_tag t) tags (u ∷ []) ∙ or_left (has_tag tags t) (has_tag (u ∷ []) t) has

stays_open : (c : Configuration) (tags : List Tag) (t : Tag) (e : Effect) → ends_none e ≡ true → has_tag tags t ≡ true → has_tag (tags_after c tags e) t ≡ true
stays_open c tags t (Effect.Offer h []) none has = has
stays_open c tags t (Effect.Offer h (x ∷ xs)) none has = grown tags x.tag t ((region_spec c (region_at c h x.start)).shareable && not (has_tag tags x.tag)) has
stays_open c tags t (Effect.TagEnd u) none has = absurd (false≢true none)
stays_open c tags t e none has = has

pub open_over : (c : Configuration) (tags : List Tag) (t : Tag) (new : List Effect) → list_all ends_none new ≡ true → has_tag tags t ≡ true → has_tag (fold (tags_after c) tags new) t ≡ true
open_over c tags t [] none has = has
open_over c tags t (e ∷ new) none has =
    let parts = and_parts (ends_none e) (list_all ends_none new) none in
    open_over c (tags_after c tags e) t new parts.1 (stays_open c tags t e parts.0 has)

-- what is said of a tag that stays open, and of one that was not open
none_gone : (before after : Bool) → (before ≡ true → after ≡ true) → (before && not after) ≡ false
none_gone false after stays = refl
none_gone true after stays = ap not (stays refl)

pub quiet_ends : (c : Configuration) (past new : List Effect) → list_all ends_none new ≡ true → EndsOpen c past new
quiet_ends c past new none t =
    none_ends t new none
    ∙ sym (none_gone (has_tag (open_tags c past) t) (has_tag (open_tags c (past ++ new)) t) (λ has.
    ap (λ tags. has_tag tags t) (fold-append (tags_after c) [] past new) ∙ open_over c (open_tags c past) t new none has))

-- ---- a command

any_of_ends : (t : Tag) (tags : List Tag) → list_any (is_end_of t) (map Effect.TagEnd tags) ≡ has_tag tags t
any_of_ends t [] = refl
any_of_ends t (u ∷ tags) = ap (λ b. same_tag t u || b) (any_of_ends t tags)

module _ (c : Configuration) (past : List Effect) (o : Outcome) (none : list_all ends_none o.changes ≡ true) where
  abbrev over : List Tag
  over = ended c past o.changes o.tags

  abbrev records : List Effect
  records = flat_map (λ n. entered_all n.0 (log_of n.0 past) n.1) o.log_records

  abbrev then_open : List Tag
  then_open = fold (tags_after c) (open_tags c past) o.changes

  records_end_none : list_all ends_none (flat_map (λ n. entered_all n.0 (log_of n.0 past) n.1) o.log_records) ≡ true
  records_end_none = told_passes ends_none any_log (λ l is. record { logged = λ event. refl; missed = refl }) past o.log_records (tells_any o.log_records)

  -- its effects end the tags that end
  ends_are : (t : Tag) → list_any (is_end_of t) (effects_of c past o) ≡ has_tag (ended c past o.changes o.tags) t
  ends_are t =
      list_any-append (is_end_of t) (o.changes ++ map Effect.TagEnd over) records
      ∙ (λ i. list_any-append (is_end_of t) o.changes (map Effect.TagEnd over) i || none_ends t records records_end_none i)
      ∙ (λ i. (none_ends t o.changes none i || any_of_ends t over i) || false)
      ∙ or_nothing (has_tag over t)
    where
      or_nothing : (b : Bool) → (b || false) ≡ b
      or_nothing true = refl
      or_nothing false = refl

  open_after : open_tags c (past ++ effects_of c past o) ≡ without_tags (fold (tags_after c) (open_tags c past) o.changes) (ended c past o.changes o.tags)
  open_after = λ i. (picture-outcome c past o i).tags

  -- The effects of a command whose changes end no tag end just the tags that are no more open then.
  pub outcome_ends : EndsOpen c past (effects_of c past o)
  outcome_ends t = ends_are t ∙ by (has_tag over t) refl ∙ ap (λ tags. has_tag (open_tags c past) t && not (has_tag tags t)) (sym open_after)
    where
      by : (b : Bool) → has_tag (ended c past o.changes o.tags) t ≡ b → b ≡ (has_tag (open_tags c past) t && not (has_tag (without_tags (fold (tags_after c) (open_tags c past) o.changes) (ended c past o.changes o.tags)) t))
      by true ends =
          let passes = (has_tag-filter (λ u. has_tag (open_tags c past) u && not (is_live c u (past ++ o.changes))) o.tags t ends).1 in
          let was = (and_parts (has_tag (open_tags c past) t) (not (is_live c t (past ++ o.changes))) passes).0 in
          sym (and_from (has_tag (open_tags c past) t) (not (has_tag (without_tags then_open over) t)) was
          (not_from_false (has_tag (without_tags then_open over) t) (false_from_ne_true (has_tag (without_tags then_open over) t) (λ has.
          false≢true (sym (not_ended then_open over t has) ∙ ends)))))
      by false stays = sym (none_gone (has_tag (open_tags c past) t) (has_tag (without_tags then_open over) t) (λ has.
          open_still then_open over t (open_over c (open_tags c past) t o.changes none has) stays))
