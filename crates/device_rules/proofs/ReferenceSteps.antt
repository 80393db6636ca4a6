-- The table after the manager adds a reference to a tag, or removes it: 5606h and 5607h.
use Rattle.std.proofs.Common.{◌≡◌, ◌⊎◌, Bool, true, false, ◌&&◌, ◌||◌, not, List, [], ◌∷◌, ◌++◌, refl, sym, ap, subst, ◌∙◌, inl, inr}
use Rattle.std.{specs.Prelude.if◌then◌else◌, specs.List.list_any, proofs.lemmas.Bool.cases_Bool, proofs.lemmas.Bool.or_left}
use Rattle.cci_codec.specs.dcd_base.specs.{Words.has_tag, Words.is_zero_tag, Words.same_tag, declared.capacity.Tag.Tag, declared.ids.HostId.HostId}
use Rattle.extent_list.specs.{ExtentLists.has_extent_of, media_map.specs.region_config.specs.Configurations.Configuration, media_map.specs.region_config.specs.Granules.hosts_of}
use Rattle.journal_core.specs.declared.outcome.Effect.{Effect}
use Rattle.tag_refs.specs.Tables.{entries_changed, is_entry_of, is_used, passes, still_used, with_reference, entry_referenced}
use Rattle.tag_refs.specs.declared.entries.TagEntry.{TagEntry}
use Rattle.device_rules.proofs.{HostBits.host_bits-same, Pictures.picture-append, SettledTags.mapped, SettledTags.settled, SettledTags.unended}
use Rattle.device_rules.proofs.TagEntries.{entry-moved, open_uses, table_passes, used_is, uses}
use Rattle.device_rules.{proofs.TagSteps.same_tag-back, proofs.TagSteps.same_tag-is, proofs.TagSteps.same_tag-self, specs.Outcomes.effects_of, specs.Outcomes.ended, specs.Pictures.picture_of}
use Rattle.device_rules.specs.{Standing.Sound, TagCommands.add_reference_outcome, TagCommands.remove_reference_outcome, TagTable.IsEntry, TagTable.IsTable}
use Rattle.device_rules.specs.Tags.{is_accepted_by, is_live, is_offered_to, is_referenced, last_offer, open_tags, tag_region, tag_runs}

-- ---- whether the manager has a reference

-- what the table says of it
pub table_referenced : (c : Configuration) (past : List Effect) (entries : List TagEntry) → IsTable c past entries → (tag : Tag) →
    (is_referenced tag past ≡ true → has_tag (open_tags c past) tag ≡ true) → is_referenced tag past ≡ passes tag entry_referenced entries
table_referenced c past entries table tag opened =
    by (is_referenced tag past) refl
    ∙ sym (table_passes c past entries table tag entry_referenced (is_referenced tag past) (λ e open_tag is tag_is. is.referenced_is ∙ ap (λ t. is_referenced t past) tag_is))
  where
    by : (b : Bool) → is_referenced tag past ≡ b → is_referenced tag past ≡ (has_tag (open_tags c past) tag && is_referenced tag past)
    by true on = on ∙ sym (λ i. opened on i && on i)
    by false off = off ∙ sym (ap (λ b. has_tag (open_tags c past) tag && b) off ∙ none (has_tag (open_tags c past) tag))
      where
        none : (b : Bool) → (b && false) ≡ false
        none true = refl
        none false = refl

-- ---- after changes that leave all but references

-- The effects leave the lists and the tags, and set the reference of one tag.
pub record IsReferred (c : Configuration) (past new : List Effect) (tag : Tag) (on : Bool) : Type 0 where
  pub accepted : (t : Tag) (h : HostId) → is_accepted_by c t (past ++ new) h ≡ is_accepted_by c t past h
  pub offered : (t : Tag) (h : HostId) → is_offered_to t (past ++ new) h ≡ is_offered_to t past h
  pub last : (t : Tag) → last_offer t (past ++ new) ≡ last_offer t past
  pub tags : open_tags c (past ++ new) ≡ open_tags c past
  pub referenced : (t : Tag) → is_referenced t (past ++ new) ≡ (if same_tag tag t then on else is_referenced t past)

pub referred : (c : Configuration) (past : List Effect) (tag : Tag) (on : Bool) → IsReferred c past (Effect.Ref tag on ∷ []) tag on
referred c past tag on = let told = picture-append c past (Effect.Ref tag on ∷ []) in record {
  accepted = λ t h. ap (λ p. has_extent_of t (p.accepted h)) told;
  offered = λ t h. ap (λ p. list_any (has_extent_of t) (p.offers h)) told;
  last = λ t. ap (λ p. p.last t) told;
  tags = ap (λ p. p.tags) told;
  referenced = λ t. ap (λ p. p.referenced t) told;
}

-- the reference may be there already
pub added : (c : Configuration) (past : List Effect) (tag : Tag) → IsReferred c past (add_reference_outcome past tag).changes tag true
added c past tag = by (is_referenced tag past) refl
  where
    here : (t : Tag) → is_referenced tag past ≡ true → (same : Bool) → same_tag tag t ≡ same → is_referenced t past ≡ (if same then true else is_referenced t past)
    here t known true same = ap (λ u. is_referenced u past) (sym (same_tag-is tag t same)) ∙ known
    here t known false same = refl

    by : (known : Bool) → is_referenced tag past ≡ known → IsReferred c past (if known then [] else Effect.Ref tag true ∷ []) tag true
    by false is = referred c past tag true
    by true is = let told = picture-append c past [] in record {
      accepted = λ t h. ap (λ p. has_extent_of t (p.accepted h)) told;
      offered = λ t h. ap (λ p. list_any (has_extent_of t) (p.offers h)) told;
      last = λ t. ap (λ p. p.last t) told;
      tags = ap (λ p. p.tags) told;
      referenced = λ t. ap (λ p. p.referenced t) told ∙ here t is (same_tag tag t) refl;
    }

module _ (c : Configuration) (past new : List Effect) (tag : Tag) (on : Bool) (r : IsReferred c past new tag on) (entries : List TagEntry) (table : IsTable c past entries) where
  abbrev set : TagEntry → TagEntry
  set e = if is_entry_of tag e then with_reference on e else e

  set_tag : (e : TagEntry) (b : Bool) → (if b then with_reference on e else e).tag ≡ e.tag
  set_tag e true = refl
  set_tag e false = refl

  set_entry : (e : TagEntry) → IsEntry c past e → IsEntry c (past ++ new) (if is_entry_of tag e then with_reference on e else e)
  set_entry e is = by (same_tag tag e.tag) refl
    where
      by : (b : Bool) → same_tag tag e.tag ≡ b → IsEntry c (past ++ new) (if b then with_reference on e else e)
      by true here = record {
        region_is = is.region_is ∙ ap (tag_region c) (sym (r.last e.tag));
        runs_are = is.runs_are ∙ ap (tag_runs c) (sym (r.last e.tag));
        holders_are = is.holders_are ∙ sym (host_bits-same c (is_accepted_by c e.tag past) (is_accepted_by c e.tag (past ++ new)) (r.accepted e.tag));
        offered_are = is.offered_are ∙ sym (host_bits-same c (is_offered_to e.tag past) (is_offered_to e.tag (past ++ new)) (r.offered e.tag));
        referenced_is = sym (r.referenced e.tag ∙ ap (λ b. if b then on else is_referenced e.tag past) here);
      }
      by false other = entry-moved c past (past ++ new) e (ap (tag_region c) (r.last e.tag)) (ap (tag_runs c) (r.last e.tag)) (r.accepted e.tag) (r.offered e.tag)
          (r.referenced e.tag ∙ ap (λ b. if b then on else is_referenced e.tag past) other) is

  set_table : IsTable c (past ++ new) (entries_changed tag (with_reference on) entries)
  set_table = mapped c past (past ++ new) entries set (λ e. set_tag e (is_entry_of tag e)) r.tags table (λ e open_tag is. set_entry e is)

-- ---- 5606h

pub table-add_reference : (c : Configuration) (past : List Effect) (tag : Tag) (entries : List TagEntry) → IsTable c past entries →
    IsTable c (past ++ effects_of c past (add_reference_outcome past tag)) (entries_changed tag (with_reference true) entries)
table-add_reference c past tag entries table =
    unended c past (add_reference_outcome past tag) (entries_changed tag (with_reference true) entries) refl
    (set_table c past (add_reference_outcome past tag).changes tag true (added c past tag) entries table)

-- ---- 5607h

module _ (c : Configuration) (past : List Effect) (now : Sound c (picture_of c past)) (tag : Tag) (entries : List TagEntry) (table : IsTable c past entries) where
  r : IsReferred c past (Effect.Ref tag false ∷ []) tag false
  r = referred c past tag false

  hosts_same : (t : Tag) → list_any (λ h. is_accepted_by c t (past ++ Effect.Ref tag false ∷ []) h || is_offered_to t (past ++ Effect.Ref tag false ∷ []) h) (hosts_of c)
      ≡ list_any (λ h. is_accepted_by c t past h || is_offered_to t past h) (hosts_of c)
  hosts_same t = λ i. list_any (λ h. r.accepted t h i || r.offered t h i) (hosts_of c)

  -- another tag is used as it was
  may : (t : Tag) → has_tag (open_tags c past) t ≡ true → (uses c (past ++ Effect.Ref tag false ∷ []) t ≡ true) ⊎ (has_tag (tag ∷ []) t ≡ true)
  may t open_tag = elim (cases_Bool (same_tag tag t)) [
    | inl same ↦ inr (or_left (same_tag t tag) false (same_tag-back t tag ∙ same))
    | inr other ↦ inl ((λ i. hosts_same t i || (r.referenced t ∙ ap (λ b. if b then false else is_referenced t past) other) i) ∙ (open_uses c past now t open_tag).1)
  ]

  pub table-remove_reference : IsTable c (past ++ effects_of c past (remove_reference_outcome tag)) (still_used (entries_changed tag (with_reference false) entries))
  table-remove_reference =
      settled c past (remove_reference_outcome tag) (entries_changed tag (with_reference false) entries) now r.tags (set_table c past (Effect.Ref tag false ∷ []) tag false r entries table) may

  -- the tag ends where nothing else uses it
  unused : (e : TagEntry) → has_tag (open_tags c past) e.tag ≡ true → IsEntry c past e → e.tag ≡ tag →
      not (is_used (with_reference false e)) ≡ not (is_live c tag (past ++ Effect.Ref tag false ∷ []))
  unused e open_tag is tag_is =
      let here : same_tag tag e.tag ≡ true = ap (same_tag tag) tag_is ∙ same_tag-self tag in
      let entry : IsEntry c (past ++ Effect.Ref tag false ∷ []) (with_reference false e) =
      subst (λ b. IsEntry c (past ++ Effect.Ref tag false ∷ []) (if b then with_reference false e else e)) here (set_entry c past (Effect.Ref tag false ∷ []) tag false r entries table e is) in
      let nonzero : not (is_zero_tag e.tag) ≡ true = (open_uses c past now e.tag open_tag).0 in
      ap not (used_is c (past ++ Effect.Ref tag false ∷ []) (with_reference false e) entry ∙ sym (ap (λ b. b && uses c (past ++ Effect.Ref tag false ∷ []) e.tag) nonzero))
      ∙ ap (λ t. not (is_live c t (past ++ Effect.Ref tag false ∷ []))) tag_is

  pub ended-reference : ended c past (Effect.Ref tag false ∷ []) (tag ∷ []) ≡ (if passes tag (λ e. not (is_used (with_reference false e))) entries then tag ∷ [] else [])
  ended-reference = ap (λ b. if b then tag ∷ [] else [])
      (sym (table_passes c past entries table tag (λ e. not (is_used (with_reference false e))) (not (is_live c tag (past ++ Effect.Ref tag false ∷ []))) unused))
