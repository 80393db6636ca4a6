-- What one host has of some tags is set anew: the table after that, and the tags that end by it.
use Rattle.std.proofs.Common.{◌≡◌, ◌⊎◌, ◌<◌, Bool, true, false, ◌&&◌, ◌||◌, not, ◌==◌, List, [], ◌∷◌, ◌++◌, map, refl, sym, ap, subst, ◌∙◌, inl, inr}
use Rattle.std.{proofs.lemmas.Bool.cases_Bool, proofs.lemmas.Bool.or_left, proofs.lemmas.Bool.or_right, specs.List.AllByRecursion, specs.List.list_any}
use Rattle.std.specs.Prelude.{if◌then◌else◌, filter}
use Rattle.cci_codec.specs.dcd_base.specs.{Words.has_tag, Words.same_tag, declared.capacity.Tag.Tag, declared.ids.HostId.HostId, Hosts.with_host, Hosts.without_host}
use Rattle.extent_list.specs.{ExtentLists.has_extent_of, media_map.specs.region_config.specs.Configurations.Configuration, media_map.specs.region_config.specs.Granules.hosts_of}
use Rattle.journal_core.specs.declared.outcome.Effect.{Effect}
use Rattle.tag_refs.specs.{Tables.entries_changed, Tables.is_entry_of, Tables.is_used, Tables.passes, Tables.set_by, Tables.still_used, declared.entries.TagEntry.TagEntry}
use Rattle.device_rules.proofs.{HostBits.Agree, HostBits.agree_all, HostBits.host_bits-change, HostBits.set_by-twice, SettledTags.mapped, SettledTags.settled}
use Rattle.device_rules.proofs.TagEntries.{entry-moved, open_uses, table_passes, table_used, used_is, uses}
use Rattle.device_rules.{proofs.TagSteps.same_tag-back, proofs.TagSteps.same_tag-is, proofs.TagSteps.same_tag-self, specs.Outcomes.Outcome, specs.Outcomes.effects_of, specs.Outcomes.ended}
use Rattle.device_rules.specs.{Pictures.Picture, Pictures.picture_of, Standing.Sound, TagTable.IsEntry, TagTable.IsTable, TagTable.ending, TagTable.host_of_tags_set}
use Rattle.device_rules.specs.Tags.{is_accepted_by, is_live, is_offered_to, open_tags, tag_region, tag_runs}

-- ---- told tag by tag, or all at once

-- an entry that is used stands before the others
abbrev keep : TagEntry → List TagEntry → List TagEntry
keep e rest = if is_used e then e ∷ rest else rest

abbrev AreUsed : List TagEntry → Type 0
AreUsed entries = AllByRecursion (λ e. is_used e ≡ true) entries

used_stay : (entries : List TagEntry) → AreUsed entries → still_used entries ≡ entries
used_stay [] used = refl
used_stay (e ∷ entries) used = rw used.0 (ap (λ rest. e ∷ rest) (used_stay entries used.1))

still_used_are : (entries : List TagEntry) → AreUsed (still_used entries)
still_used_are [] = tt
still_used_are (e ∷ entries) = elim (cases_Bool (is_used e)) [
  | inl used ↦ rw used (used, still_used_are entries)
  | inr unused ↦ rw unused (still_used_are entries)
]

module _ (h : HostId) (held offered : Tag → Bool) where
  -- the entry as it is told now
  abbrev pub set : TagEntry → TagEntry
  set e = set_by h (held e.tag) (offered e.tag) e

  -- where its tag is one of those
  abbrev pub tell : List Tag → TagEntry → TagEntry
  tell told e = if has_tag told e.tag then set_by h (held e.tag) (offered e.tag) e else e

  pub tell_tag : (told : List Tag) (e : TagEntry) → (if has_tag told e.tag then set_by h (held e.tag) (offered e.tag) e else e).tag ≡ e.tag
  tell_tag told e = by (has_tag told e.tag)
    where
      by : (b : Bool) → (if b then set_by h (held e.tag) (offered e.tag) e else e).tag ≡ e.tag
      by true = refl
      by false = refl

  none_told : (entries : List TagEntry) → entries ≡ map (tell []) entries
  none_told [] = refl
  none_told (e ∷ entries) = ap (λ rest. e ∷ rest) (none_told entries)

  -- the first tag and then the others
  after_keep : (told : List Tag) (e : TagEntry) (entries : List TagEntry) →
      still_used (map (tell told) (keep e entries)) ≡ (if is_used e then keep (tell told e) (still_used (map (tell told) entries)) else still_used (map (tell told) entries))
  after_keep told e entries = elim (cases_Bool (is_used e)) [
    | inl used ↦ rw used refl
    | inr unused ↦ rw unused refl
  ]

  told_twice : (told : List Tag) (e : TagEntry) → tell told (set e) ≡ set e
  told_twice told e = by (has_tag told e.tag)
    where
      by : (b : Bool) → (if b then set (set e) else set e) ≡ set e
      by true = set_by-twice h (held e.tag) (offered e.tag) e
      by false = refl

  first_set : (d : TagEntry) (x : TagEntry) (rest : List TagEntry) → x ≡ d → (if is_used d then keep x rest else rest) ≡ keep d rest
  first_set d x rest is = elim (cases_Bool (is_used d)) [
    | inl used ↦ rw (is, used) refl
    | inr unused ↦ rw unused refl
  ]

  one_told : (t : Tag) (told : List Tag) (e : TagEntry) (rest : List TagEntry) → is_used e ≡ true →
      (if is_used (if is_entry_of t e then set_by h (held t) (offered t) e else e) then keep (tell told (if is_entry_of t e then set_by h (held t) (offered t) e else e)) rest else rest)
      ≡ keep (tell (t ∷ told) e) rest
  one_told t told e rest used = by (same_tag t e.tag) refl
    where
      there : (same_tag e.tag t || has_tag told e.tag) ≡ true → tell (t ∷ told) e ≡ set e
      there has = ap (λ b. if b then set e else e) has

      elsewhere : same_tag e.tag t ≡ false → tell (t ∷ told) e ≡ tell told e
      elsewhere other = ap (λ b. if b || has_tag told e.tag then set e else e) other

      by : (b : Bool) → same_tag t e.tag ≡ b →
          (if is_used (if b then set_by h (held t) (offered t) e else e) then keep (tell told (if b then set_by h (held t) (offered t) e else e)) rest else rest) ≡ keep (tell (t ∷ told) e) rest
      by true here =
          let is : t ≡ e.tag = same_tag-is t e.tag here in
          ap (λ u. if is_used (set_by h (held u) (offered u) e) then keep (tell told (set_by h (held u) (offered u) e)) rest else rest) is
          ∙ first_set (set e) (tell told (set e)) rest (told_twice told e)
          ∙ ap (λ x. keep x rest) (sym (there (or_left (same_tag e.tag t) (has_tag told e.tag) (same_tag-back e.tag t ∙ here))))
      by false other =
          ap (λ b. if b then keep (tell told e) rest else rest) used
          ∙ ap (λ x. keep x rest) (sym (elsewhere (same_tag-back e.tag t ∙ other)))

  merge : (t : Tag) (told : List Tag) (entries : List TagEntry) → AllByRecursion (λ e. is_used e ≡ true) entries →
      still_used (map (tell told) (still_used (entries_changed t (set_by h (held t) (offered t)) entries))) ≡ still_used (map (tell (t ∷ told)) entries)
  merge t told [] used = refl
  merge t told (e ∷ entries) used =
      let now : TagEntry = if is_entry_of t e then set_by h (held t) (offered t) e else e in
      after_keep told now (still_used (entries_changed t (set_by h (held t) (offered t)) entries))
      ∙ one_told t told e (still_used (map (tell told) (still_used (entries_changed t (set_by h (held t) (offered t)) entries)))) used.0
      ∙ ap (λ rest. keep (tell (t ∷ told) e) rest) (merge t told entries used.1)

  pub host_of_tags_set-is : (told : List Tag) (entries : List TagEntry) → AllByRecursion (λ e. is_used e ≡ true) entries →
      host_of_tags_set h held offered told entries ≡ still_used (map (tell told) entries)
  host_of_tags_set-is [] entries used = sym (used_stay entries used) ∙ ap still_used (none_told entries)
  host_of_tags_set-is (t ∷ told) entries used =
      let first : List TagEntry = still_used (entries_changed t (set_by h (held t) (offered t)) entries) in
      host_of_tags_set-is told first (still_used_are (entries_changed t (set_by h (held t) (offered t)) entries)) ∙ merge t told entries used

-- ---- what the changes leave

-- From one picture to another what open tags stand for stays, and who uses them but for one host; and of that host the
-- tags that are not told.
pub record Told (c : Configuration) (h : HostId) (told : List Tag) (p q : Picture) : Type 0 where
  pub region : (t : Tag) → has_tag p.tags t ≡ true → tag_region c (q.last t) ≡ tag_region c (p.last t)
  pub runs : (t : Tag) → has_tag p.tags t ≡ true → tag_runs c (q.last t) ≡ tag_runs c (p.last t)
  pub referenced : (t : Tag) → q.referenced t ≡ p.referenced t
  pub accepted_others : (k : HostId) → (h == k) ≡ false → q.accepted k ≡ p.accepted k
  pub offers_others : (k : HostId) → (h == k) ≡ false → q.offers k ≡ p.offers k
  pub accepted_kept : (t : Tag) → has_tag p.tags t ≡ true → has_tag told t ≡ false → has_extent_of t (q.accepted h) ≡ has_extent_of t (p.accepted h)
  pub offers_kept : (t : Tag) → has_tag p.tags t ≡ true → has_tag told t ≡ false → list_any (has_extent_of t) (q.offers h) ≡ list_any (has_extent_of t) (p.offers h)

module _ (c : Configuration) (past new : List Effect) (h : HostId) (known : h < c.hosts) (told : List Tag) (r : Told c h told (picture_of c past) (picture_of c (past ++ new)))
    (held offered : Tag → Bool) (held_is : (t : Tag) → has_tag told t ≡ true → held t ≡ is_accepted_by c t (past ++ new) h)
    (offered_is : (t : Tag) → has_tag told t ≡ true → offered t ≡ is_offered_to t (past ++ new) h) where
  accepted_agree : (t : Tag) → Agree h (is_accepted_by c t past) (is_accepted_by c t (past ++ new))
  accepted_agree t k other = ap (has_extent_of t) (r.accepted_others k other)

  offered_agree : (t : Tag) → Agree h (is_offered_to t past) (is_offered_to t (past ++ new))
  offered_agree t k other = ap (list_any (has_extent_of t)) (r.offers_others k other)

  set_entry : (e : TagEntry) → has_tag (open_tags c past) e.tag ≡ true → has_tag told e.tag ≡ true → IsEntry c past e →
      IsEntry c (past ++ new) (set_by h (held e.tag) (offered e.tag) e)
  set_entry e open_tag is_told is = record {
    region_is = is.region_is ∙ sym (r.region e.tag open_tag);
    runs_are = is.runs_are ∙ sym (r.runs e.tag open_tag);
    holders_are = (λ i. if held_is e.tag is_told i then with_host (is.holders_are i) h else without_host (is.holders_are i) h)
        ∙ sym (host_bits-change c h (is_accepted_by c e.tag past) (is_accepted_by c e.tag (past ++ new)) known (accepted_agree e.tag));
    offered_are = (λ i. if offered_is e.tag is_told i then with_host (is.offered_are i) h else without_host (is.offered_are i) h)
        ∙ sym (host_bits-change c h (is_offered_to e.tag past) (is_offered_to e.tag (past ++ new)) known (offered_agree e.tag));
    referenced_is = is.referenced_is ∙ sym (r.referenced e.tag);
  }

  -- who uses a tag that is not told
  accepted_same : (t : Tag) → has_tag (open_tags c past) t ≡ true → has_tag told t ≡ false → (k : HostId) → is_accepted_by c t (past ++ new) k ≡ is_accepted_by c t past k
  accepted_same t open_tag untold = agree_all h (is_accepted_by c t past) (is_accepted_by c t (past ++ new)) (accepted_agree t) (r.accepted_kept t open_tag untold)

  offered_same : (t : Tag) → has_tag (open_tags c past) t ≡ true → has_tag told t ≡ false → (k : HostId) → is_offered_to t (past ++ new) k ≡ is_offered_to t past k
  offered_same t open_tag untold = agree_all h (is_offered_to t past) (is_offered_to t (past ++ new)) (offered_agree t) (r.offers_kept t open_tag untold)

  pub uses_same : (t : Tag) → has_tag (open_tags c past) t ≡ true → has_tag told t ≡ false → uses c (past ++ new) t ≡ uses c past t
  uses_same t open_tag untold = λ i. list_any (λ k. accepted_same t open_tag untold k i || offered_same t open_tag untold k i) (hosts_of c) || r.referenced t i

  pub told_entry : (e : TagEntry) → has_tag (open_tags c past) e.tag ≡ true → IsEntry c past e →
      IsEntry c (past ++ new) (if has_tag told e.tag then set_by h (held e.tag) (offered e.tag) e else e)
  told_entry e open_tag is = by (has_tag told e.tag) refl
    where
      by : (b : Bool) → has_tag told e.tag ≡ b → IsEntry c (past ++ new) (if b then set_by h (held e.tag) (offered e.tag) e else e)
      by true is_told = set_entry e open_tag is_told is
      by false untold = entry-moved c past (past ++ new) e (r.region e.tag open_tag) (r.runs e.tag open_tag) (accepted_same e.tag open_tag untold) (offered_same e.tag open_tag untold) (r.referenced e.tag) is

  module _ (now : Sound c (picture_of c past)) (entries : List TagEntry) (table : IsTable c past entries) where
    pub told_table : open_tags c (past ++ new) ≡ open_tags c past → IsTable c (past ++ new) (map (tell h held offered told) entries)
    told_table tags = mapped c past (past ++ new) entries (tell h held offered told) (tell_tag h held offered told) tags table told_entry

    -- ---- the tags that end

    agree_filter : (p q : Tag → Bool) (tags : List Tag) → ((t : Tag) → has_tag tags t ≡ true → p t ≡ q t) → filter p tags ≡ filter q tags
    agree_filter p q [] agree = refl
    agree_filter p q (t ∷ tags) agree =
        let here : p t ≡ q t = agree t (or_left (same_tag t t) (has_tag tags t) (same_tag-self t)) in
        let rest : filter p tags ≡ filter q tags = agree_filter p q tags (λ u has. agree u (or_right (same_tag u t) (has_tag tags u) has)) in
        λ i. if here i then t ∷ rest i else rest i

    one_ends : (t : Tag) → has_tag told t ≡ true → (has_tag (open_tags c past) t && not (is_live c t (past ++ new))) ≡ passes t (λ e. not (is_used (set_by h (held t) (offered t) e))) entries
    one_ends t is_told = sym (table_passes c past entries table t (λ e. not (is_used (set_by h (held t) (offered t) e))) (not (is_live c t (past ++ new))) (λ e open_tag is tag_is.
        subst (λ u. not (is_used (set_by h (held u) (offered u) e)) ≡ not (is_live c u (past ++ new))) tag_is
        (ap not (used_is c (past ++ new) (set_by h (held e.tag) (offered e.tag) e) (set_entry e open_tag (ap (has_tag told) tag_is ∙ is_told) is)
        ∙ sym (ap (λ b. b && uses c (past ++ new) e.tag) (open_uses c past now e.tag open_tag).0)))))

    pub ended_ending : ended c past new told ≡ ending h held offered entries told
    ended_ending = agree_filter (λ t. has_tag (open_tags c past) t && not (is_live c t (past ++ new))) (λ t. passes t (λ e. not (is_used (set_by h (held t) (offered t) e))) entries) told one_ends

-- ---- a command

-- Where each tag that is used no more may end, the table is the one that is set anew.
pub anew : (c : Configuration) (past : List Effect) (now : Sound c (picture_of c past)) (o : Outcome) (h : HostId) (known : h < c.hosts) (told : List Tag)
    (r : Told c h told (picture_of c past) (picture_of c (past ++ o.changes))) (held offered : Tag → Bool)
    (held_is : (t : Tag) → has_tag told t ≡ true → held t ≡ is_accepted_by c t (past ++ o.changes) h)
    (offered_is : (t : Tag) → has_tag told t ≡ true → offered t ≡ is_offered_to t (past ++ o.changes) h)
    (entries : List TagEntry) → IsTable c past entries → open_tags c (past ++ o.changes) ≡ open_tags c past →
    ((t : Tag) → has_tag (open_tags c past) t ≡ true → (uses c (past ++ o.changes) t ≡ true) ⊎ (has_tag o.tags t ≡ true)) →
    IsTable c (past ++ effects_of c past o) (host_of_tags_set h held offered told entries)
anew c past now o h known told r held offered held_is offered_is entries table tags may =
    subst (IsTable c (past ++ effects_of c past o)) (sym (host_of_tags_set-is h held offered told entries (table_used c past entries now table)))
    (settled c past o (map (tell h held offered told) entries) now tags (told_table c past o.changes h known told r held offered held_is offered_is now entries table tags) may)

-- The tags of the command are those that are told.
module _ (c : Configuration) (past : List Effect) (now : Sound c (picture_of c past)) (o : Outcome) (h : HostId) (known : h < c.hosts)
    (r : Told c h o.tags (picture_of c past) (picture_of c (past ++ o.changes))) (entries : List TagEntry) (table : IsTable c past entries) where
  pub ended_after_set : ended c past o.changes o.tags ≡ ending h (λ t. is_accepted_by c t (past ++ o.changes) h) (λ t. is_offered_to t (past ++ o.changes) h) entries o.tags
  ended_after_set = ended_ending c past o.changes h known o.tags r (λ t. is_accepted_by c t (past ++ o.changes) h) (λ t. is_offered_to t (past ++ o.changes) h) (λ t has. refl) (λ t has. refl) now entries table

  pub table_after_set : open_tags c (past ++ o.changes) ≡ open_tags c past →
      IsTable c (past ++ effects_of c past o) (host_of_tags_set h (λ t. is_accepted_by c t (past ++ o.changes) h) (λ t. is_offered_to t (past ++ o.changes) h) o.tags entries)
  table_after_set tags = anew c past now o h known o.tags r (λ t. is_accepted_by c t (past ++ o.changes) h) (λ t. is_offered_to t (past ++ o.changes) h) (λ t has. refl) (λ t has. refl) entries table tags
      (λ t open_tag. elim (cases_Bool (has_tag o.tags t)) [
        | inl may ↦ inr may
        | inr untold ↦ inl (uses_same c past o.changes h known o.tags r (λ t. is_accepted_by c t (past ++ o.changes) h) (λ t. is_offered_to t (past ++ o.changes) h) (λ t has. refl) (λ t has. refl) t open_tag untold
            ∙ (open_uses c past now t open_tag).1)
      ])
