-- Steps that leave the table as it is.
use Rattle.std.proofs.Common.{◌≡◌, ℕ, Bool, true, false, List, [], ◌++◌, None, Option, refl, sym, ap, ◌∙◌}
use Rattle.std.{specs.List.list_all, specs.List.list_any, proofs.lemmas.Bool.false≢true, proofs.lemmas.List.Sums.fold-append}
use Rattle.cci_codec.specs.dcd_base.specs.declared.{capacity.Extent.Extent, capacity.Tag.Tag, ids.HostId.HostId, steps.LogId.LogId}
use Rattle.extent_list.specs.{ExtentLists.has_extent_of, media_map.specs.region_config.specs.Configurations.Configuration}
use Rattle.fm_payloads.specs.declared.requests.FmRequest.{FmRequest}
use Rattle.host_payloads.specs.declared.requests.HostRequest.{HostRequest}
use Rattle.journal_core.specs.declared.outcome.{Effect.Effect, HeldKind.HeldKind}
use Rattle.tag_refs.specs.declared.entries.TagEntry.{TagEntry}
use Rattle.device_rules.proofs.EffectKinds.{PassClearing, PassHeld, clear_passes, dropped_passes, hold_passes, zeroes_pass}
use Rattle.device_rules.proofs.{Leaving.over-leaving, ListSteps.each-change, SettledTags.unended, TagEntries.entry-moved}
use Rattle.device_rules.specs.{Answers.dropped, Answers.host_outcome, Answers.manager_outcome, Answers.zeroes, Hosts.accepted_after, Hosts.accepted_of, Hosts.offers_after, Hosts.offers_of}
use Rattle.device_rules.specs.{Logs.log_of, Outcomes.Outcome, Outcomes.effects_of, QuietRequests.is_quiet_host, QuietRequests.is_quiet_manager, QuietRequests.leaves_table}
use Rattle.device_rules.specs.TagTable.{IsEntry, IsTable}
use Rattle.device_rules.specs.{Tags.is_referenced, Tags.last_offer, Tags.last_offer_after, Tags.open_tags, Tags.reference_after, Tags.tag_region, Tags.tag_runs, Tags.tags_after, Views.View}

accepted-left : (c : Configuration) (h : HostId) (accepted : List Extent) (e : Effect) → leaves_table e ≡ true → accepted_after c h accepted e ≡ accepted
accepted-left c h accepted (Effect.Answer k xs) left = absurd (false≢true left)
accepted-left c h accepted (Effect.Leave k run) left = absurd (false≢true left)
accepted-left c h accepted e left = refl

offers-left : (h : HostId) (offers : List (List Extent)) (e : Effect) → leaves_table e ≡ true → offers_after h offers e ≡ offers
offers-left h offers (Effect.Offer k xs) left = absurd (false≢true left)
offers-left h offers (Effect.Answer k xs) left = absurd (false≢true left)
offers-left h offers e left = refl

last-left : (t : Tag) (last : Option (HostId × List Extent)) (e : Effect) → leaves_table e ≡ true → last_offer_after t last e ≡ last
last-left t last (Effect.Offer k xs) left = absurd (false≢true left)
last-left t last e left = refl

reference-left : (t : Tag) (on : Bool) (e : Effect) → leaves_table e ≡ true → reference_after t on e ≡ on
reference-left t on (Effect.Ref u new) left = absurd (false≢true left)
reference-left t on e left = refl

tags-left : (c : Configuration) (live : List Tag) (e : Effect) → leaves_table e ≡ true → tags_after c live e ≡ live
tags-left c live (Effect.Offer k xs) left = absurd (false≢true left)
tags-left c live (Effect.TagEnd t) left = absurd (false≢true left)
tags-left c live e left = refl

-- Such effects leave the table.
module _ (c : Configuration) (past new : List Effect) (all : list_all leaves_table new ≡ true) where
  accepted_same : (h : HostId) → accepted_of c h (past ++ new) ≡ accepted_of c h past
  accepted_same h = fold-append (accepted_after c h) [] past new ∙ over-leaving (accepted_after c h) leaves_table (accepted-left c h) (accepted_of c h past) new all

  offers_same : (h : HostId) → offers_of h (past ++ new) ≡ offers_of h past
  offers_same h = fold-append (offers_after h) [] past new ∙ over-leaving (offers_after h) leaves_table (offers-left h) (offers_of h past) new all

  last_same : (t : Tag) → last_offer t (past ++ new) ≡ last_offer t past
  last_same t = fold-append (last_offer_after t) None past new ∙ over-leaving (last_offer_after t) leaves_table (last-left t) (last_offer t past) new all

  referenced_same : (t : Tag) → is_referenced t (past ++ new) ≡ is_referenced t past
  referenced_same t = fold-append (reference_after t) false past new ∙ over-leaving (reference_after t) leaves_table (reference-left t) (is_referenced t past) new all

  tags_same : open_tags c (past ++ new) ≡ open_tags c past
  tags_same = fold-append (tags_after c) [] past new ∙ over-leaving (tags_after c) leaves_table (tags-left c) (open_tags c past) new all

  pub table_left : (entries : List TagEntry) → IsTable c past entries → IsTable c (past ++ new) entries
  table_left entries table = record {
    tags_are = table.tags_are ∙ sym tags_same;
    each = each-change (IsEntry c past) (IsEntry c (past ++ new)) (λ e is. entry-moved c past (past ++ new) e (ap (tag_region c) (last_same e.tag)) (ap (tag_runs c) (last_same e.tag))
        (λ h. ap (has_extent_of e.tag) (accepted_same h)) (λ h. ap (list_any (has_extent_of e.tag)) (offers_same h)) (referenced_same e.tag) is) entries table.each;
  }

-- and so does a command with such changes by which no tag may end
quiet_outcome : (c : Configuration) (past : List Effect) (o : Outcome) (entries : List TagEntry) → list_all leaves_table o.changes ≡ true → o.tags ≡ [] →
    IsTable c past entries → IsTable c (past ++ effects_of c past o) entries
quiet_outcome c past o entries all none table = unended c past o entries none (table_left c past o.changes all entries table)

-- ---- by command

held : (h : HostId) → PassHeld leaves_table h
held h = record { hold = λ kind xs. refl; unhold = λ kind. refl }

clearing : (l : LogId) → PassClearing leaves_table l
clearing l = record { cleared = λ n. refl; reset = refl }

module _ (c : Configuration) (past : List Effect) (entries : List TagEntry) (table : IsTable c past entries) where
  -- a refusal
  pub table-refused : (h : HostId) (v : View) (opcode : ℕ) → IsTable c (past ++ dropped h v opcode) entries
  table-refused h v opcode = table_left c past (dropped h v opcode) (dropped_passes leaves_table h (held h) v opcode) entries table

  -- a scrub
  pub table-scrubbed : (gs : List ℕ) → IsTable c (past ++ zeroes c gs) entries
  table-scrubbed gs = table_left c past (zeroes c gs) (zeroes_pass leaves_table (λ run. refl) c gs) entries table

  pub table-host : (h : HostId) (v : View) (q : HostRequest) → is_quiet_host q ≡ true → IsTable c (past ++ effects_of c past (host_outcome c h v q)) entries
  table-host h v (HostRequest.GetEvents log) quiet = quiet_outcome c past (host_outcome c h v (HostRequest.GetEvents log)) entries refl refl table
  table-host h v (HostRequest.ClearEvents log all handles) quiet =
      quiet_outcome c past (host_outcome c h v (HostRequest.ClearEvents log all handles)) entries (clear_passes leaves_table (LogId.Host h) (clearing (LogId.Host h)) log v.log all handles) refl table
  table-host h v (HostRequest.GetConfiguration count first) quiet = quiet_outcome c past (host_outcome c h v (HostRequest.GetConfiguration count first)) entries refl refl table
  table-host h v (HostRequest.GetExtents count first) quiet = quiet_outcome c past (host_outcome c h v (HostRequest.GetExtents count first)) entries refl refl table
  table-host h v (HostRequest.AddResponse true list) quiet =
      quiet_outcome c past (host_outcome c h v (HostRequest.AddResponse true list)) entries (hold_passes leaves_table h (held h) HeldKind.Responses list) refl table
  table-host h v (HostRequest.AddResponse false list) quiet = absurd (false≢true quiet)
  table-host h v (HostRequest.GiveBack true list) quiet =
      quiet_outcome c past (host_outcome c h v (HostRequest.GiveBack true list)) entries (hold_passes leaves_table h (held h) HeldKind.Releases list) refl table
  table-host h v (HostRequest.GiveBack false list) quiet = absurd (false≢true quiet)

  pub table-manager : (view_for : HostId → View) (q : FmRequest) → is_quiet_manager q ≡ true → IsTable c (past ++ effects_of c past (manager_outcome c past view_for q)) entries
  table-manager view_for (FmRequest.GetEvents log) quiet = quiet_outcome c past (manager_outcome c past view_for (FmRequest.GetEvents log)) entries refl refl table
  table-manager view_for (FmRequest.ClearEvents log all handles) quiet =
      quiet_outcome c past (manager_outcome c past view_for (FmRequest.ClearEvents log all handles)) entries (clear_passes leaves_table LogId.Manager (clearing LogId.Manager) log (log_of LogId.Manager past) all handles) refl table
  table-manager view_for FmRequest.GetInfo quiet = quiet_outcome c past (manager_outcome c past view_for FmRequest.GetInfo) entries refl refl table
  table-manager view_for (FmRequest.GetRegions host count first) quiet = quiet_outcome c past (manager_outcome c past view_for (FmRequest.GetRegions host count first)) entries refl refl table
  table-manager view_for (FmRequest.SetRegion r sanitize size) quiet = quiet_outcome c past (manager_outcome c past view_for (FmRequest.SetRegion r sanitize size)) entries refl refl table
  table-manager view_for (FmRequest.GetExtentLists host count first) quiet = quiet_outcome c past (manager_outcome c past view_for (FmRequest.GetExtentLists host count first)) entries refl refl table
  table-manager view_for (FmRequest.ListTags first count) quiet = quiet_outcome c past (manager_outcome c past view_for (FmRequest.ListTags first count)) entries refl refl table
  table-manager view_for (FmRequest.Add host policy r bytes tag list) quiet = absurd (false≢true quiet)
  table-manager view_for (FmRequest.Remove host flags r bytes tag list) quiet = absurd (false≢true quiet)
  table-manager view_for (FmRequest.AddReference tag) quiet = absurd (false≢true quiet)
  table-manager view_for (FmRequest.RemoveReference tag) quiet = absurd (false≢true quiet)
