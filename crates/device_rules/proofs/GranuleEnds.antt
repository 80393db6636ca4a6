-- What is kept of a granule stays right when tags end.
use Rattle.std.proofs.Common.{◌≡◌, ℕ, ◌≤◌, Bool, true, false, ◌&&◌, ◌||◌, not, List, [], ◌∷◌, ◌++◌, inl, inr, refl, sym, ap, subst, ◌∙◌, map}
use Rattle.std.proofs.lemmas.Bool.{and_parts, cases_Bool, false≢true, false_from_ne_true, or_left, or_right}
use Rattle.std.specs.{List.list_all, List.list_any, Prelude.count_by}
use Rattle.cci_codec.specs.dcd_base.specs.{Words.has_granule, Words.has_in_runs, Words.has_tag, Words.same_tag, declared.capacity.Extent.Extent, declared.capacity.Tag.Tag, declared.ids.HostId.HostId}
use Rattle.cci_codec.specs.dcd_base.specs.declared.media.Run.{Run}
use Rattle.granule_map.specs.Tables.{Cell, settled}
use Rattle.journal_core.specs.{Entries.effects, Holders.is_soiled, Holders.is_taken, declared.entries.Entry.Entry, declared.outcome.Effect.Effect}
use Rattle.extent_list.specs.media_map.specs.{Places.run_of, region_config.specs.Configurations.Configuration, region_config.specs.Granules.region_of, region_config.specs.Granules.region_spec}
use Rattle.extent_list.specs.media_map.specs.region_config.specs.Soundness.{IsSound}
use Rattle.device_rules.proofs.{CellChanges.cell_ends, CellChanges.where_here, GranuleSteps.Keeps, GranuleSteps.keeps_outcome, GranuleSteps.settled_status, GranuleSteps.unclean_by}
use Rattle.device_rules.proofs.{Holding.present_whole, Homes.made_of_region, HostSearches.any_none, Leaving.leaves_soil, Leaving.leaves_tags, Leaving.leaves_taking, Leaving.map_passes}
use Rattle.device_rules.proofs.{ListSteps.any-map, ListSteps.each-at, StatusParts.last_offer-stays, StatusParts.open_tags-stay, StatusParts.soiled-left, StatusParts.taken-left}
use Rattle.device_rules.proofs.{StatusTags.ends, StatusTags.status-ended, StatusTags.status-not_ended, TagSearches.any_agree, TagSearches.any_of_tag, TagSearches.same_tag-self}
use Rattle.device_rules.{proofs.TagSteps.has_tag-filter, specs.GranuleCells.IsCell, specs.GranuleCells.is_unclean, specs.GranuleStates.stands_for, specs.GranuleTable.AreKnown}
use Rattle.device_rules.specs.{Invariants.tags_on, Outcomes.Outcome, Outcomes.effects_of, Outcomes.ended, Pictures.Picture, Pictures.picture_of, Standing.IsMade, Standing.Stands}
use Rattle.device_rules.specs.Tags.{is_live, is_tagged, last_offer, open_tags, tag_runs}

-- one of some tags that passes a test
record IsFound (q : Tag → Bool) (tags : List Tag) : Type 0 where
  tag : Tag
  among : has_tag tags tag ≡ true
  passes : q tag ≡ true

found_tag : (q : Tag → Bool) (tags : List Tag) → list_any q tags ≡ true → IsFound q tags
found_tag q [] some = absurd (false≢true some)
found_tag q (t ∷ tags) some = elim (cases_Bool (q t)) [
  | inl here ↦ record { tag = t; among = or_left (same_tag t t) (has_tag tags t) (same_tag-self t); passes = here }
  | inr other ↦ (let rest = found_tag q tags (sym (ap (λ b. b || list_any q tags) other) ∙ some) in
      record { tag = rest.tag; among = or_right (same_tag rest.tag t) (has_tag tags rest.tag) rest.among; passes = rest.passes })
]

-- none of them passes
none_of_tags : (q : Tag → Bool) (tags : List Tag) → list_any q tags ≡ false → (t : Tag) → has_tag tags t ≡ true → q t ≡ false
none_of_tags q tags none t among = false_from_ne_true (q t) (λ passes. absurd (false≢true (sym none ∙ any_of_tag q t tags among passes)))

-- The tags are open, their runs are known, none stands for a granule that no host can share, and one open tag at most has the granule.
record CanEnd (c : Configuration) (runs : Tag → List Run) (g : ℕ) (past : List Effect) (over : List Tag) : Type 0 where
  is_open : (t : Tag) → has_tag over t ≡ true → has_tag (open_tags c past) t ≡ true
  known : (t : Tag) → has_tag over t ≡ true → runs t ≡ tag_runs c (last_offer t past)
  shared : (region_spec c (region_of c g)).shareable ≡ false → (t : Tag) → has_tag over t ≡ true → stands_for c past g t ≡ false
  few : tags_on c past g ≤ 1

module _ (c : Configuration) (oldest : HostId → List Extent) (runs : Tag → List Run) (g : ℕ) (past : List Effect) (over : List Tag) (can : CanEnd c runs g past over) where
  unclean-ends : is_unclean c g (past ++ ends over) ≡ is_unclean c g past
  unclean-ends = unclean_by c g (past ++ ends over) (is_taken g past) (is_soiled g past)
      (taken-left g past (ends over) (map_passes leaves_taking Effect.TagEnd (λ t. refl) over))
      (soiled-left g past (ends over) (map_passes leaves_soil Effect.TagEnd (λ t. refl) over))

  module _ (cell : Cell) (is : IsCell c past g cell) where
    of_one : IsFound (stands_for c past g) over → IsCell c (past ++ ends over) g (settled cell)
    of_one found = record {
      status_is = elim (cases_Bool (region_spec c (region_of c g)).shareable) [
        | inl shared ↦ settled_status cell.unclean (is_unclean c g past) is.unclean_is
            ∙ sym (status-ended c g past over shared found.tag (can.is_open found.tag found.among) found.among found.passes can.few)
        | inr private ↦ absurd (false≢true (sym (can.shared private found.tag found.among) ∙ found.passes))
      ];
      unclean_is = is.unclean_is ∙ sym unclean-ends;
    }

    of_none : list_any (stands_for c past g) over ≡ false → IsCell c (past ++ ends over) g cell
    of_none none = record {
      status_is = is.status_is ∙ sym (status-not_ended c g past over (none_of_tags (stands_for c past g) over none));
      unclean_is = is.unclean_is ∙ sym unclean-ends;
    }

    by : (some : Bool) → list_any (stands_for c past g) over ≡ some → IsCell c (past ++ ends over) g (where_here some settled cell)
    by true some = of_one (found_tag (stands_for c past g) over some)
    by false none = of_none none

  keeps_ends : Keeps c oldest runs g past (ends over)
  keeps_ends cell is =
      let told : list_any (λ t. has_in_runs (runs t) g) over ≡ list_any (stands_for c past g) over =
      any_agree (λ t. has_in_runs (runs t) g) (stands_for c past g) over (λ t among. ap (λ rs. has_in_runs rs g) (can.known t among)) in
      subst (λ x. IsCell c (past ++ ends over) g x) (sym (cell_ends c oldest runs g over cell ∙ ap (λ b. where_here b settled cell) told))
      (by cell is (list_any (stands_for c past g) over) refl)

module _ (c : Configuration) (sound : IsSound c) (past : List Effect) (s : Stands c (picture_of c past)) (g : ℕ) (private : (region_spec c (region_of c g)).shareable ≡ false) where
  -- an open tag stands for granules that hosts can share
  pub private_stands : (t : Tag) → has_tag (open_tags c past) t ≡ true → stands_for c past g t ≡ false
  private_stands t is_open = false_from_ne_true (stands_for c past g t) (λ stands.
      let p : Picture = picture_of c past in
      let a = s.opened t is_open in
      let there : has_in_runs (map (run_of c a.host) a.extents) g ≡ true = sym (ap (λ last. has_in_runs (tag_runs c last) g) a.offer) ∙ stands in
      let found = each-at (IsMade c (p.block a.region) a.host a.region) (λ x. has_granule (run_of c a.host x) g) a.extents a.each
      (sym (any-map (λ run. has_granule run g) (run_of c a.host) a.extents) ∙ there) in
      let at = made_of_region c a.host sound a.known (p.block a.region) a.region found.0 (present_whole c sound p s a.region found.2.known) found.2 g found.1 in
      absurd (false≢true (sym private ∙ ap (λ r. (region_spec c r).shareable) at ∙ a.shareable)))

  -- so none has another
  pub private_untagged : is_tagged c g past ≡ false
  private_untagged = any_agree (stands_for c past g) (λ t. false) (open_tags c past) private_stands ∙ any_none (λ t. false) (open_tags c past) (λ t. refl)

module _ (c : Configuration) (sound : IsSound c) (before : List Entry) (s : Stands c (picture_of c (effects before)))
    (oldest : HostId → List Extent) (runs : Tag → List Run) (known : AreKnown c before oldest runs) (g : ℕ) where
  ended_open : (changes : List Effect) (tags : List Tag) (t : Tag) → has_tag (ended c (effects before) changes tags) t ≡ true → has_tag (open_tags c (effects before)) t ≡ true
  ended_open changes tags t among =
      let test : Tag → Bool = λ u. has_tag (open_tags c (effects before)) u && not (is_live c u (effects before ++ changes)) in
      (and_parts (has_tag (open_tags c (effects before)) t) (not (is_live c t (effects before ++ changes))) (has_tag-filter test tags t among).1).0

  -- A command keeps it right where its changes do, and offer nothing: the tags that end are open ones.
  pub keeps_command : (o : Outcome) → list_all leaves_tags o.changes ≡ true → Keeps c oldest runs g (effects before) o.changes → Keeps c oldest runs g (effects before) (effects_of c (effects before) o)
  keeps_command o left changes =
      let past : List Effect = effects before in
      keeps_outcome c oldest runs g past o changes (keeps_ends c oldest runs g (past ++ o.changes) (ended c past o.changes o.tags) (record {
        is_open = λ t among. ap (λ tags. has_tag tags t) (open_tags-stay c past o.changes left) ∙ ended_open o.changes o.tags t among;
        known = λ t among. known.tags t (ended_open o.changes o.tags t among) ∙ ap (tag_runs c) (sym (last_offer-stays t past o.changes left));
        shared = λ private t among. ap (λ last. has_in_runs (tag_runs c last) g) (last_offer-stays t past o.changes left)
            ∙ private_stands c sound past s g private t (ended_open o.changes o.tags t among);
        few = subst (λ n. n ≤ 1) (sym (λ i. count_by (λ t. has_in_runs (tag_runs c (last_offer-stays t past o.changes left i)) g) (open_tags-stay c past o.changes left i))) (s.apart g);
      }))
