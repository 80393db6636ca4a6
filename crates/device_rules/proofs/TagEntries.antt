-- What the entries of a table say of their tags, and the entry that is found.
use Rattle.std.proofs.Common.{◌≡◌, Bool, true, ◌&&◌, ◌||◌, not, ◌==◌, List, [], ◌∷◌, map, refl, sym, ap, ◌∙◌, inl, inr}
use Rattle.std.{specs.List.AllByRecursion, specs.List.list_any, proofs.lemmas.Bool.and_parts, proofs.lemmas.Bool.cases_Bool, proofs.lemmas.Bool.or_left, proofs.lemmas.Bool.or_right}
use Rattle.cci_codec.specs.dcd_base.specs.{Words.has_tag, Words.is_zero_tag, Words.same_tag, declared.capacity.Tag.Tag, declared.ids.HostId.HostId}
use Rattle.journal_core.specs.declared.outcome.Effect.{Effect}
use Rattle.extent_list.specs.media_map.specs.region_config.specs.{Configurations.Configuration, Granules.hosts_of}
use Rattle.tag_refs.specs.{Tables.has_entry, Tables.is_used, Tables.passes, declared.entries.TagEntry.TagEntry}
use Rattle.device_rules.proofs.{HostBits.host_bits-same, HostBits.host_bits-some, HostSearches.any_or, TagSteps.same_tag-is, TagSteps.same_tag-self}
use Rattle.device_rules.specs.{Pictures.picture_of, Standing.Sound, TagTable.IsEntry, TagTable.IsTable}
use Rattle.device_rules.specs.Tags.{is_accepted_by, is_offered_to, is_referenced, last_offer, open_tags, tag_region, tag_runs, is_live as tag_lives}

abbrev pub tags_in : List TagEntry → List Tag
tags_in entries = map (λ (e : TagEntry). e.tag) entries

-- whether a host has accepted the tag or is offered it, or the manager has a reference
abbrev pub uses : Configuration → List Effect → Tag → Bool
uses c past t = list_any (λ h. is_accepted_by c t past h || is_offered_to t past h) (hosts_of c) || is_referenced t past

-- an entry is used just where its tag is
pub used_is : (c : Configuration) (past : List Effect) (e : TagEntry) → IsEntry c past e → is_used e ≡ uses c past e.tag
used_is c past e is =
    let held : HostId → Bool = is_accepted_by c e.tag past in
    let offered : HostId → Bool = is_offered_to e.tag past in
    (λ i. not (is.holders_are i == 0) || not (is.offered_are i == 0) || is.referenced_is i)
    ∙ (λ i. host_bits-some c held i || host_bits-some c offered i || is_referenced e.tag past)
    ∙ ap (λ b. b || is_referenced e.tag past) (sym (any_or held offered (hosts_of c)))

-- open tags are not zero, and are used
pub open_uses : (c : Configuration) (past : List Effect) → Sound c (picture_of c past) → (t : Tag) → has_tag (open_tags c past) t ≡ true →
    (not (is_zero_tag t) ≡ true) × (uses c past t ≡ true)
open_uses c past now t open_tag = and_parts (not (is_zero_tag t)) (uses c past t) (now.live t open_tag)

-- what other effects say alike of the tag leaves its entry
pub entry-moved : (c : Configuration) (past past' : List Effect) (e : TagEntry) →
    tag_region c (last_offer e.tag past') ≡ tag_region c (last_offer e.tag past) →
    tag_runs c (last_offer e.tag past') ≡ tag_runs c (last_offer e.tag past) →
    ((h : HostId) → is_accepted_by c e.tag past' h ≡ is_accepted_by c e.tag past h) →
    ((h : HostId) → is_offered_to e.tag past' h ≡ is_offered_to e.tag past h) →
    is_referenced e.tag past' ≡ is_referenced e.tag past → IsEntry c past e → IsEntry c past' e
entry-moved c past past' e region runs accepted offered referenced is = record {
  region_is = is.region_is ∙ sym region;
  runs_are = is.runs_are ∙ sym runs;
  holders_are = is.holders_are ∙ sym (host_bits-same c (is_accepted_by c e.tag past) (is_accepted_by c e.tag past') accepted);
  offered_are = is.offered_are ∙ sym (host_bits-same c (is_offered_to e.tag past) (is_offered_to e.tag past') offered);
  referenced_is = is.referenced_is ∙ sym referenced;
}

-- ---- of each entry, whose tag is one of theirs

each-tag : (P Q : TagEntry → Type 0) (entries : List TagEntry) → ((e : TagEntry) → has_tag (tags_in entries) e.tag ≡ true → P e → Q e) →
    AllByRecursion P entries → AllByRecursion Q entries
each-tag P Q [] step each = tt
each-tag P Q (e ∷ entries) step each = (
  step e (or_left (same_tag e.tag e.tag) (has_tag (tags_in entries) e.tag) (same_tag-self e.tag)) each.0,
  each-tag P Q entries (λ d has. step d (or_right (same_tag d.tag e.tag) (has_tag (tags_in entries) d.tag) has)) each.1,
)

pub each_open : (c : Configuration) (past : List Effect) (entries : List TagEntry) → IsTable c past entries → (Q : TagEntry → Type 0) →
    ((e : TagEntry) → has_tag (open_tags c past) e.tag ≡ true → IsEntry c past e → Q e) → AllByRecursion Q entries
each_open c past entries table Q step =
    each-tag (IsEntry c past) Q entries (λ e has. step e (ap (λ tags. has_tag tags e.tag) (sym table.tags_are) ∙ has)) table.each

-- ---- the entry of a tag

found_passes : (t : Tag) (test : TagEntry → Bool) (b : Bool) (entries : List TagEntry) → AllByRecursion (λ e. e.tag ≡ t → test e ≡ b) entries →
    passes t test entries ≡ (has_tag (tags_in entries) t && b)
found_passes t test b [] each = refl
found_passes t test b (e ∷ entries) each = elim (cases_Bool (same_tag t e.tag)) [
  | inl here ↦ rw here (each.0 (sym (same_tag-is t e.tag here)))
  | inr other ↦ rw other (found_passes t test b entries each.1)
]

-- an open tag has an entry, and it passes a test as its effects say
pub table_passes : (c : Configuration) (past : List Effect) (entries : List TagEntry) → IsTable c past entries → (t : Tag) (test : TagEntry → Bool) (b : Bool) →
    ((e : TagEntry) → has_tag (open_tags c past) e.tag ≡ true → IsEntry c past e → e.tag ≡ t → test e ≡ b) →
    passes t test entries ≡ (has_tag (open_tags c past) t && b)
table_passes c past entries table t test b step =
    found_passes t test b entries (each_open c past entries table (λ e. e.tag ≡ t → test e ≡ b) step)
    ∙ ap (λ tags. has_tag tags t && b) table.tags_are

found_live : (t : Tag) (entries : List TagEntry) → has_entry t entries ≡ has_tag (tags_in entries) t
found_live t [] = refl
found_live t (e ∷ entries) = elim (cases_Bool (same_tag t e.tag)) [
  | inl here ↦ rw here refl
  | inr other ↦ rw other (found_live t entries)
]

-- a tag has an entry just where it is open
pub table_live : (c : Configuration) (past : List Effect) (entries : List TagEntry) → IsTable c past entries → (t : Tag) → has_tag (open_tags c past) t ≡ has_entry t entries
table_live c past entries table t = sym (found_live t entries ∙ ap (λ tags. has_tag tags t) table.tags_are)

-- and each entry is used
pub table_used : (c : Configuration) (past : List Effect) (entries : List TagEntry) → Sound c (picture_of c past) → IsTable c past entries → AllByRecursion (λ e. is_used e ≡ true) entries
table_used c past entries now table = each_open c past entries table (λ e. is_used e ≡ true) (λ e open_tag is. used_is c past e is ∙ (open_uses c past now e.tag open_tag).1)

-- so an open tag lives just where its entry is used
pub table_lives : (c : Configuration) (past : List Effect) (entries : List TagEntry) → Sound c (picture_of c past) → IsTable c past entries → (t : Tag) →
    has_tag (open_tags c past) t ≡ true → tag_lives c t past ≡ passes t is_used entries
table_lives c past entries now table t open_tag =
    ap (λ b. b && uses c past t) (open_uses c past now t open_tag).0
    ∙ sym (table_passes c past entries table t is_used (uses c past t) (λ e is_open is tag_is. used_is c past e is ∙ ap (uses c past) tag_is) ∙ ap (λ b. b && uses c past t) open_tag)
