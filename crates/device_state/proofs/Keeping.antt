-- What is kept is what the entries so far say, also once one more legal entry is entered.
use Rattle.std.proofs.Common.{◌≡◌, ℕ, ◌+◌, ◌%◌, ◌^◌, ◌<◌, ◌≤◌, Bool, true, false, ◌==◌, List, [], ◌∷◌, ◌++◌, length, get_or, inl, inr, refl, ap, sym, subst, ◌∙◌, arith}
use Rattle.std.proofs.{Math.Nat.mod-add-mod, lemmas.Bool.cases_eq, lemmas.Bool.cases_lt, lemmas.Bool.eq-eqb, lemmas.Bool.false≢true, lemmas.Bool.ne_eqb, lemmas.List.get_or_past}
use Rattle.std.specs.{Cmp.Lexicographic.same_text, List.AllByRecursion, List.list_any, Prelude.fold, Prelude.map, Prelude.Some, Prelude.if◌then◌else◌}
use Rattle.cci_codec.specs.dcd_base.specs.{Words.has_tag, Words.same_tag, declared.capacity.Tag.Tag, declared.ids.HostId.HostId, declared.steps.LogId.LogId, Hosts.has_host}
use Rattle.event_log.specs.{LogStates.LogState, Logs.empty_log, Logs.places_in, Logs.state_of, Logs.IsLogOf}
use Rattle.device_rules.{proofs.LegalLogs.legal_logs, proofs.LegalSound.legal_is_sound, proofs.Rooms.room_for, proofs.ViewSteps.view_of-push, specs.Adding.present, specs.GranuleCells.IsCell}
use Rattle.device_rules.specs.GranuleTable.{AreKnown, StaysRight}
use Rattle.device_rules.specs.{Hosts.accepted_after, Hosts.block_after, Hosts.block_of, Hosts.held_after, Hosts.moves, Hosts.offers_after, Hosts.offers_of, Legal.Legal, Legal.Meets}
use Rattle.device_rules.specs.{Logs.log_after, Logs.log_of, TagTable.IsEntry, TagTable.IsTable, Tags.last_offer, Tags.open_tags, Tags.tag_runs}
use Rattle.device_rules.specs.Views.{lists_in, View, view_after, view_of}
use Rattle.granule_map.specs.Tables.{cell_at}
use Rattle.device_state.proofs.{DeviceEffects.each_of_device, HolderBits.holding_over, HolderBits.length-over, HolderBits.none_over, OffersEntered.table_follows, RecordSteps.log_all}
use Rattle.device_state.{proofs.TablesEntered.Agree, specs.Entered.IsEntered, specs.Entered.log_by, specs.Entered.oldest_in, specs.Entered.present_by, specs.Entered.runs_found, specs.Entered.runs_in}
use Rattle.device_state.specs.{EnteredLists.counted, EnteredLists.lists_by, EnteredLists.lists_of, StateAfter.IsStateAfter, StateAfter.IsPart, StateAfter.no_part, StateAfter.part_of}
use Rattle.device_state.specs.{Updates.IsOfDevice, Updates.lists_after, declared.parts.HostPart.HostPart, declared.state.State.State}
use Rattle.extent_list.specs.{HostLists.Lists, HostLists.next_generation, media_map.specs.region_config.proofs.PresentBlocks.with_block-with_blocks}
use Rattle.extent_list.specs.media_map.specs.region_config.specs.{Configurations.Configuration, Granules.granule_total, Granules.region_spec, Granules.with_blocks, Soundness.IsSound}
use Rattle.journal_core.{proofs.EachSteps.Each-push, proofs.JournalSteps.effects-push, proofs.JournalSteps.over-push, specs.Entries.effects, specs.Holders.holding_after, specs.Holders.holds}
use Rattle.journal_core.specs.declared.{entries.Entry.Entry, outcome.Effect.Effect, outcome.HeldKind.HeldKind}
use Rattle.offer_core.specs.Offerings.{oldest_of}
use Rattle.tag_refs.specs.{Tables.entry_with, declared.entries.TagEntry.TagEntry}

-- ---- the present configuration

same_number : (a b : ℕ) → (a == b) ≡ (b == a)
same_number a b = elim (cases_eq a b) [
  | inl same ↦ eq-eqb a b same ∙ sym (eq-eqb b a (sym same))
  | inr other ↦ ne_eqb a b other ∙ sym (ne_eqb b a (λ e. other (sym e)))
]

present_one : (c : Configuration) (b : ℕ → ℕ) (e : Effect) → IsOfDevice c e → present_by (with_blocks c b) e ≡ with_blocks c (λ r. block_after r (b r) e)
present_one c b (Effect.Block r size) is =
    with_block-with_blocks c b r size is.0 ∙ (λ i. with_blocks c (λ k. if same_number k r i then size else b k))
present_one c b e is = refl

present_over : (c : Configuration) (b : ℕ → ℕ) (new : List Effect) → AllByRecursion (IsOfDevice c) new → fold present_by (with_blocks c b) new ≡ with_blocks c (λ r. fold (block_after r) (b r) new)
present_over c b [] all = refl
present_over c b (e ∷ new) all = ap (λ (d : Configuration). fold present_by d new) (present_one c b e all.0) ∙ present_over c (λ r. block_after r (b r) e) new all.1

-- ---- the open tags

one_tag : (t u : Tag) → same_tag t u ≡ true → t ≡ u
one_tag t u same = let bytes : t.0 ≡ u.0 = same_text t.0 u.0 (sym same) in λ i. record { 0 = bytes i }

found_runs : (c : Configuration) (past : List Effect) (t : Tag) (entries : List TagEntry) → AllByRecursion (IsEntry c past) entries →
    has_tag (map (λ (e : TagEntry). e.tag) entries) t ≡ true → runs_found (entry_with t entries) ≡ tag_runs c (last_offer t past)
found_runs c past t [] each has = absurd (false≢true has)
found_runs c past t (x ∷ xs) each has = by (same_tag t x.tag) refl (found_runs c past t xs each.1)
  where
    by : (b : Bool) → same_tag t x.tag ≡ b → (has_tag (map (λ (e : TagEntry). e.tag) xs) t ≡ true → runs_found (entry_with t xs) ≡ tag_runs c (last_offer t past)) →
        runs_found (entry_with t (x ∷ xs)) ≡ tag_runs c (last_offer t past)
    by true here rest =
        ap (λ b. runs_found (if b then Some x else entry_with t xs)) here
        ∙ each.0.runs_are ∙ ap (λ u. tag_runs c (last_offer u past)) (sym (one_tag t x.tag here))
    by false other rest =
        ap (λ b. runs_found (if b then Some x else entry_with t xs)) other ∙ rest (rw other at has)

table_runs : (c : Configuration) (past : List Effect) (entries : List TagEntry) → IsTable c past entries → (t : Tag) → has_tag (open_tags c past) t ≡ true →
    runs_found (entry_with t entries) ≡ tag_runs c (last_offer t past)
table_runs c past entries table t open_tag = found_runs c past t entries table.each (ap (λ tags. has_tag tags t) table.tags_are ∙ open_tag)

-- ---- lists

-- each list is the fold of its own
pub lists_fields : (c : Configuration) (h : HostId) (l : Lists) (new : List Effect) → fold (lists_by c h) l new ≡ record {
  accepted = fold (accepted_after c h) l.accepted new;
  offers = fold (offers_after h) l.offers new;
  responses = fold (held_after h HeldKind.Responses) l.responses new;
  releases = fold (held_after h HeldKind.Releases) l.releases new;
  generation = l.generation;
}
lists_fields c h l [] = refl
lists_fields c h l (e ∷ new) = lists_fields c h (lists_by c h l e) new

pub lists_right : (c : Configuration) (h : HostId) (v : View) (new : List Effect) → counted h new (fold (lists_by c h) (lists_in v) new) ≡ lists_in (view_after c h v new)
lists_right c h v new = ap (counted h new) (lists_fields c h (lists_in v) new) ∙ by (list_any (moves h) new)
  where
    l : Lists
    l = record {
      accepted = fold (accepted_after c h) v.accepted new;
      offers = fold (offers_after h) v.offers new;
      responses = fold (held_after h HeldKind.Responses) v.responses new;
      releases = fold (held_after h HeldKind.Releases) v.releases new;
      generation = v.changes % 2 ^ 32;
    }

    by : (moved : Bool) → (if moved then record l { generation = next_generation l.generation } else l) ≡ record l { generation = (if moved then v.changes + 1 else v.changes) % 2 ^ 32 }
    by true = λ i. record l { generation = mod-add-mod v.changes (2 ^ 32) 1 i }
    by false = refl

-- ---- one more entry

module _ (c : Configuration) (sound : IsSound c) (before : List Entry) (legal : Legal c before) (e : Entry) (meets : Meets c before e)
    (old now : State) (kept : IsStateAfter c before old) (step : IsEntered c e.effects old now) where
  past : List Effect
  past = effects before

  each : AllByRecursion (IsOfDevice c) e.effects
  each = each_of_device c before e meets

  known : AreKnown c before (oldest_in old) (runs_in old)
  known = record { offers = offers; tags = table_runs c (effects before) old.tags.entries kept.tags_are }
    where
      offers : (h : HostId) → oldest_in old h ≡ oldest_of (offers_of h (effects before))
      offers h = elim (cases_lt h c.hosts) [
        | inl host ↦ ap (λ (l : Lists). oldest_of l.offers) (kept.parts h host).lists_are
        | inr none ↦ ap (λ (p : HostPart). oldest_of p.lists.offers) (get_or_past old.hosts.items h no_part (omega (arith, kept.host_count, none)))
            ∙ ap oldest_of (sym ((legal_is_sound c sound before legal).stands.no_offers h none))
      ]

  present_now : now.present ≡ present c (effects (before ++ e ∷ []))
  present_now =
      step.present_is ∙ ap (λ (d : Configuration). fold present_by d e.effects) kept.present_is
      ∙ present_over c (λ r. block_of c r (effects before)) e.effects each
      ∙ sym (λ i. with_blocks c (λ r. over-push (block_after r) (region_spec c r).block before e i))

  -- a log that was the one of its history is so again
  log_now : (l : LogId) (was is : LogState) → IsLogOf l (log_of l (effects before)) was → is ≡ fold (log_by l) was e.effects → IsLogOf l (log_of l (effects (before ++ e ∷ []))) is
  log_now l was is kept_log changed = record {
    is = changed ∙ ap (λ (s : LogState). fold (log_by l) s e.effects) kept_log.is
        ∙ log_all l (log_of l (effects before)) e.effects (room_for c before e legal meets l)
        ∙ sym (ap (state_of (places_in l)) (over-push (log_after l) empty_log before e));
    told = (legal_logs c (before ++ e ∷ []) (Each-push (Meets c) before e legal meets)).history l;
  }

  lists_now : (h : HostId) → h < c.hosts → (part_of now h).lists ≡ lists_after c h before e.effects
  lists_now h host =
      step.lists h (omega (arith, host, kept.host_count))
      ∙ ap (λ (l : Lists). counted h e.effects (fold (lists_by c h) l e.effects)) (kept.parts h host).lists_are
      ∙ lists_right c h (view_of c h before) e.effects

  part_now : (h : HostId) → h < c.hosts → IsPart h (view_of c h (before ++ e ∷ [])) (part_of now h)
  part_now h host = record {
    lists_are = lists_now h host ∙ sym (ap lists_in (view_of-push c h before e));
    log_is = log_now (LogId.Host h) (part_of old h).log (part_of now h).log (kept.parts h host).log_is (step.logs h (omega (arith, host, kept.host_count)));
  }

  held_now : (g : ℕ) (h : HostId) → g < granule_total c → h < c.hosts → has_host (get_or now.holders g 0) h ≡ holds h g (effects (before ++ e ∷ []))
  held_now g h granule host =
      ap (λ (bits : List ℕ). has_host (get_or bits g 0) h) step.holders_are
      ∙ holding_over c sound.hosts h g old.holders e.effects (omega (arith, granule, kept.holder_count)) each
      ∙ ap (λ (b : Bool). fold (holding_after h g) b e.effects) (kept.held g h granule host)
      ∙ sym (over-push (holding_after h g) false before e)

  no_others_now : (g : ℕ) (h : HostId) → g < granule_total c → c.hosts ≤ h → has_host (get_or now.holders g 0) h ≡ false
  no_others_now g h granule other =
      ap (λ (bits : List ℕ). has_host (get_or bits g 0) h) step.holders_are
      ∙ none_over c sound.hosts h g old.holders e.effects (omega (arith, granule, kept.holder_count)) each other (kept.no_others g h granule other)

  agree : Agree c (effects before) (lists_of old)
  agree = record {
    accepted = λ h host. ap (λ (l : Lists). l.accepted) (kept.parts h host).lists_are;
    offers = λ h host. ap (λ (l : Lists). l.offers) (kept.parts h host).lists_are;
  }

  tags_now : IsTable c (effects (before ++ e ∷ [])) now.tags.entries
  tags_now =
      subst (λ new. IsTable c new now.tags.entries) (sym (effects-push before e))
      (subst (IsTable c (effects before ++ e.effects)) (sym step.tags_are)
      (table_follows c sound before legal e meets (lists_of old) old.tags.entries agree kept.tags_are each))

  -- Where the granules stay right, everything that is kept is what the entries say, also the new one.
  pub kept-entered : StaysRight c before e → IsStateAfter c (before ++ e ∷ []) now
  kept-entered right = record {
    present_is = present_now;
    host_count = step.host_count ∙ kept.host_count;
    parts = part_now;
    manager_log = log_now LogId.Manager old.manager now.manager kept.manager_log step.manager_is;
    granule_count = step.granule_count ∙ kept.granule_count;
    cells = λ g granule. subst (IsCell c (effects (before ++ e ∷ [])) g) (sym (step.cells g (omega (arith, granule, kept.granule_count))))
        (right (oldest_in old) (runs_in old) known g granule (cell_at old.granules g) (kept.cells g granule));
    holder_count = ap length step.holders_are ∙ length-over old.holders e.effects ∙ kept.holder_count;
    held = held_now;
    no_others = no_others_now;
    tags_are = tags_now;
  }
