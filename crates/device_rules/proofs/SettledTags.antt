-- A table after a command, where its entries are right for the changes of the command.
use Rattle.std.proofs.Common.{◌≡◌, ◌⊎◌, Bool, true, false, ◌&&◌, not, List, [], ◌∷◌, ◌++◌, map, filter, None, refl, sym, ap, ◌∙◌, inl, inr}
use Rattle.std.{specs.List.AllByRecursion, specs.List.list_any, proofs.lemmas.Bool.cases_Bool, proofs.lemmas.Bool.false≢true, proofs.lemmas.List.Sums.fold-append}
use Rattle.cci_codec.specs.dcd_base.specs.{Words.has_tag, Words.is_zero_tag, Words.same_tag, declared.capacity.Tag.Tag, declared.ids.HostId.HostId}
use Rattle.extent_list.specs.{ExtentLists.has_extent_of, media_map.specs.region_config.specs.Configurations.Configuration}
use Rattle.journal_core.specs.declared.outcome.Effect.{Effect}
use Rattle.tag_refs.specs.{Tables.is_used, Tables.still_used, declared.entries.TagEntry.TagEntry}
use Rattle.device_rules.proofs.{ListSteps.each-change, OutcomeSteps.after-outcome, Pictures.picture-outcome}
use Rattle.device_rules.proofs.TagEntries.{each_open, entry-moved, open_uses, tags_in, used_is, uses}
use Rattle.device_rules.proofs.{TagSearches.filter_nothing, TagSearches.filter_twice, TagSteps.same_tag-is, TagSteps.without_tag, TagSteps.without_tags}
use Rattle.device_rules.specs.{Hosts.accepted_after, Hosts.accepted_of, Hosts.offers_after, Hosts.offers_of, Outcomes.Outcome, Outcomes.effects_of, Outcomes.ended, Pictures.picture_of, Standing.Sound}
use Rattle.device_rules.specs.TagTable.{IsEntry, IsTable}
use Rattle.device_rules.specs.Tags.{is_live, is_referenced, last_offer, last_offer_after, open_tags, reference_after, tag_region, tag_runs, tags_after}

-- ---- entries that change and keep their tags

mapped_tags : (f : TagEntry → TagEntry) → ((e : TagEntry) → (f e).tag ≡ e.tag) → (entries : List TagEntry) → tags_in (map f entries) ≡ tags_in entries
mapped_tags f same [] = refl
mapped_tags f same (e ∷ entries) = λ i. same e i ∷ mapped_tags f same entries i

each-mapped : (P : TagEntry → Type 0) (f : TagEntry → TagEntry) (entries : List TagEntry) → AllByRecursion (λ e. P (f e)) entries → AllByRecursion P (map f entries)
each-mapped P f [] each = tt
each-mapped P f (e ∷ entries) each = (each.0, each-mapped P f entries each.1)

-- they are the table of other effects that leave the open tags, where each is right for those
pub mapped : (c : Configuration) (past past' : List Effect) (entries : List TagEntry) (f : TagEntry → TagEntry) → ((e : TagEntry) → (f e).tag ≡ e.tag) →
    open_tags c past' ≡ open_tags c past → IsTable c past entries →
    ((e : TagEntry) → has_tag (open_tags c past) e.tag ≡ true → IsEntry c past e → IsEntry c past' (f e)) → IsTable c past' (map f entries)
mapped c past past' entries f same tags table step = record {
  tags_are = mapped_tags f same entries ∙ table.tags_are ∙ sym tags;
  each = each-mapped (IsEntry c past') f entries (each_open c past entries table (λ e. IsEntry c past' (f e)) step);
}

-- ---- the tags that end

without_is : (tags over : List Tag) → without_tags tags over ≡ filter (λ u. not (has_tag over u)) tags
without_is tags [] = filter_nothing tags
without_is tags (t ∷ over) = without_is (without_tag tags t) over ∙ filter_twice (λ u. same_tag u t) (has_tag over) tags

-- a tag is among those that pass just where it is among all and passes
and_false : (a b : Bool) → b ≡ false → false ≡ (a && b)
and_false true b fail = sym fail
and_false false b fail = refl

pub has_filter : (p : Tag → Bool) (tags : List Tag) (t : Tag) → has_tag (filter p tags) t ≡ (has_tag tags t && p t)
has_filter p [] t = refl
has_filter p (u ∷ tags) t = elim (cases_Bool (same_tag t u)) [
  | inl same ↦ (let is : p u ≡ p t = ap p (sym (same_tag-is t u same)) in elim (cases_Bool (p u)) [
    | inl pass ↦ rw (pass, same) (sym (sym is ∙ pass))
    | inr fail ↦ rw (fail, same) (has_filter p tags t ∙ sym (and_false (has_tag tags t) (p t) (sym is ∙ fail)) ∙ sym fail ∙ is)
  ])
  | inr other ↦ elim (cases_Bool (p u)) [
    | inl pass ↦ rw (pass, other) (has_filter p tags t)
    | inr fail ↦ rw (fail, other) (has_filter p tags t)
  ]
]

lives_or : (u g : Bool) → (u ≡ true) ⊎ (g ≡ true) → u ≡ not (g && not u)
lives_or true true may = refl
lives_or true false may = refl
lives_or false true may = refl
lives_or false false (inl e) = absurd (false≢true e)
lives_or false false (inr e) = absurd (false≢true e)

-- ---- after a command

module _ (c : Configuration) (past : List Effect) (o : Outcome) where
  abbrev mid : List Effect
  mid = past ++ o.changes

  abbrev fin : List Effect
  fin = past ++ effects_of c past o

  abbrev over : List Tag
  over = ended c past o.changes o.tags

  pub accepted-outcome : (h : HostId) → accepted_of c h (past ++ effects_of c past o) ≡ accepted_of c h (past ++ o.changes)
  accepted-outcome h = after-outcome (accepted_after c h) (λ b t. refl) (λ b l e. refl) (λ b l. refl) c [] past o ∙ sym (fold-append (accepted_after c h) [] past o.changes)

  pub offers-outcome : (h : HostId) → offers_of h (past ++ effects_of c past o) ≡ offers_of h (past ++ o.changes)
  offers-outcome h = after-outcome (offers_after h) (λ b t. refl) (λ b l e. refl) (λ b l. refl) c [] past o ∙ sym (fold-append (offers_after h) [] past o.changes)

  pub last-outcome : (t : Tag) → last_offer t (past ++ effects_of c past o) ≡ last_offer t (past ++ o.changes)
  last-outcome t = after-outcome (last_offer_after t) (λ b t. refl) (λ b l e. refl) (λ b l. refl) c None past o ∙ sym (fold-append (last_offer_after t) None past o.changes)

  pub referenced-outcome : (t : Tag) → is_referenced t (past ++ effects_of c past o) ≡ is_referenced t (past ++ o.changes)
  referenced-outcome t = after-outcome (reference_after t) (λ b t. refl) (λ b l e. refl) (λ b l. refl) c false past o ∙ sym (fold-append (reference_after t) false past o.changes)

  pub tags-outcome : open_tags c (past ++ effects_of c past o) ≡ filter (λ u. not (has_tag (ended c past o.changes o.tags) u)) (open_tags c (past ++ o.changes))
  tags-outcome =
      ap (λ p. p.tags) (picture-outcome c past o)
      ∙ ap (λ tags. without_tags tags over) (sym (fold-append (tags_after c) [] past o.changes))
      ∙ without_is (open_tags c mid) over

  -- its entries stay right
  pub entry-outcome : (e : TagEntry) → IsEntry c (past ++ o.changes) e → IsEntry c (past ++ effects_of c past o) e
  entry-outcome e is = entry-moved c mid fin e (ap (tag_region c) (last-outcome e.tag)) (ap (tag_runs c) (last-outcome e.tag))
      (λ h. ap (has_extent_of e.tag) (accepted-outcome h)) (λ h. ap (list_any (has_extent_of e.tag)) (offers-outcome h)) (referenced-outcome e.tag) is

  -- ---- where no tag may end

  pub unended : (entries : List TagEntry) → o.tags ≡ [] → IsTable c (past ++ o.changes) entries → IsTable c (past ++ effects_of c past o) entries
  unended entries none table = record {
    tags_are = table.tags_are ∙ filter_nothing (open_tags c mid) ∙ sym (tags-outcome ∙ ap (λ tags. filter (λ u. not (has_tag (ended c past o.changes tags) u)) (open_tags c mid)) none);
    each = each-change (IsEntry c mid) (IsEntry c fin) entry-outcome entries table.each;
  }

  -- ---- and where some do

  left_tags : (entries : List TagEntry) → AllByRecursion (λ e. is_used e ≡ not (has_tag (ended c past o.changes o.tags) e.tag)) entries →
      tags_in (still_used entries) ≡ filter (λ u. not (has_tag (ended c past o.changes o.tags) u)) (tags_in entries)
  left_tags [] each = refl
  left_tags (e ∷ entries) each = by (is_used e) refl (not (has_tag over e.tag)) refl each.0 (left_tags entries each.1)
    where
      by : (a : Bool) → is_used e ≡ a → (b : Bool) → not (has_tag (ended c past o.changes o.tags) e.tag) ≡ b → is_used e ≡ not (has_tag (ended c past o.changes o.tags) e.tag) →
          tags_in (still_used entries) ≡ filter (λ u. not (has_tag (ended c past o.changes o.tags) u)) (tags_in entries) →
          tags_in (still_used (e ∷ entries)) ≡ filter (λ u. not (has_tag (ended c past o.changes o.tags) u)) (e.tag ∷ tags_in entries)
      by true used true stays same rest = rw (used, stays) (ap (λ tags. e.tag ∷ tags) rest)
      by false used false stays same rest = rw (used, stays) rest
      by true used false stays same rest = absurd (false≢true (sym stays ∙ sym same ∙ used))
      by false used true stays same rest = absurd (false≢true (sym used ∙ same ∙ stays))

  each-left : (entries : List TagEntry) → AllByRecursion (IsEntry c (past ++ o.changes)) entries → AllByRecursion (IsEntry c (past ++ effects_of c past o)) (still_used entries)
  each-left [] each = tt
  each-left (e ∷ entries) each = elim (cases_Bool (is_used e)) [
    | inl used ↦ rw used (entry-outcome e each.0, each-left entries each.1)
    | inr unused ↦ rw unused (each-left entries each.1)
  ]

  -- an open tag ends just where it is one of those that may, and is used no more
  ends_unused : (t : Tag) → has_tag (open_tags c past) t ≡ true → not (is_zero_tag t) ≡ true → (uses c (past ++ o.changes) t ≡ true) ⊎ (has_tag o.tags t ≡ true) →
      uses c (past ++ o.changes) t ≡ not (has_tag (ended c past o.changes o.tags) t)
  ends_unused t open_tag nonzero may =
      let gone : has_tag over t ≡ (has_tag o.tags t && (has_tag (open_tags c past) t && not (is_live c t mid))) = has_filter (λ u. has_tag (open_tags c past) u && not (is_live c u mid)) o.tags t in
      let is : has_tag over t ≡ (has_tag o.tags t && not (uses c mid t)) = gone ∙ (λ i. has_tag o.tags t && (open_tag i && not (nonzero i && uses c mid t))) in
      lives_or (uses c mid t) (has_tag o.tags t) may ∙ sym (ap not is)

  -- Entries that are right for the changes are the table once those that are not used are out.
  pub settled : (entries : List TagEntry) → Sound c (picture_of c past) → open_tags c (past ++ o.changes) ≡ open_tags c past → IsTable c (past ++ o.changes) entries →
      ((t : Tag) → has_tag (open_tags c past) t ≡ true → (uses c (past ++ o.changes) t ≡ true) ⊎ (has_tag o.tags t ≡ true)) →
      IsTable c (past ++ effects_of c past o) (still_used entries)
  settled entries now tags table may = record {
    tags_are = left_tags entries (each_open c mid entries table (λ e. is_used e ≡ not (has_tag over e.tag)) (λ e open_tag is.
        let was : has_tag (open_tags c past) e.tag ≡ true = ap (λ us. has_tag us e.tag) (sym tags) ∙ open_tag in
        used_is c mid e is ∙ ends_unused e.tag was (open_uses c past now e.tag was).0 (may e.tag was)))
        ∙ ap (filter (λ u. not (has_tag over u))) table.tags_are ∙ sym tags-outcome;
    each = each-left entries table.each;
  }
