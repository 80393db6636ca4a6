-- The table after a response, a release and a removal that break no rule: 4802h, 4803h and 5605h.
use Rattle.std.proofs.Common.{◌≡◌, ℕ, ◌<◌, true, false, ◌==◌, List, ◌++◌, None, refl, sym, ap, subst, ◌∙◌}
use Rattle.std.proofs.lemmas.Bool.{false≢true}
use Rattle.cci_codec.specs.dcd_base.specs.declared.{capacity.Extent.Extent, capacity.Tag.Tag, ids.HostId.HostId}
use Rattle.fm_payloads.specs.declared.requests.FmRequest.{FmRequest}
use Rattle.host_payloads.specs.declared.requests.HostRequest.{HostRequest}
use Rattle.journal_core.specs.{Entries.effects, declared.entries.Entry.Entry, declared.outcome.Effect.Effect}
use Rattle.extent_list.specs.media_map.specs.region_config.specs.{Configurations.Configuration, Soundness.IsSound}
use Rattle.tag_refs.specs.declared.entries.TagEntry.{TagEntry}
use Rattle.device_rules.proofs.HostOfTagsSet.{Told, ended_after_set, table_after_set}
use Rattle.device_rules.proofs.{LeavingSteps.IsGone, LeavingSteps.release_told, LeavingSteps.removal_row, LeavingSteps.removal_told, LegalSound.legal_is_sound, Pictures.picture-append}
use Rattle.device_rules.proofs.ResponseSteps.{response_tags, response_told}
use Rattle.device_rules.specs.{Answers.host_outcome, Answers.host_rule, Answers.manager_outcome, Answers.manager_rule, Legal.Legal, Outcomes.Outcome}
use Rattle.device_rules.specs.{Pictures.Picture, Pictures.picture_after, Pictures.picture_of, QuietRequests.is_quiet_host}
use Rattle.device_rules.specs.ReleaseOutcomes.{give_back_outcome, is_cleaning, is_forced, policy_in, remove_outcome}
use Rattle.device_rules.specs.{ResponseOutcomes.respond_outcome, Standing.Sound, Tabled.HostDoes, Tabled.RemovalDoes, Tabled.Tabled, TagTable.IsTable}
use Rattle.device_rules.specs.{TagTableSteps.IsHostOfTagsSet, TagTableSteps.SetsHostOfTags, Views.View, Views.view_of}

-- a command that leaves what the tags have that may not end
anew_of : (c : Configuration) (past : List Effect) → Sound c (picture_of c past) → (o : Outcome) (h : HostId) → h < c.hosts →
    IsGone c h o.tags (picture_of c past) (picture_after c (picture_of c past) o.changes) → (entries : List TagEntry) → IsTable c past entries → IsHostOfTagsSet c past h o entries
anew_of c past now o h known gone entries table =
    let told : Told c h o.tags (picture_of c past) (picture_of c (past ++ o.changes)) = subst (Told c h o.tags (picture_of c past)) (sym (picture-append c past o.changes)) gone.told_is in
    record {
      ended_are = ended_after_set c past now o h known told entries table;
      table = table_after_set c past now o h known told entries table (ap (λ p. p.tags) (picture-append c past o.changes) ∙ gone.tags_are);
    }

module _ (c : Configuration) (sound : IsSound c) (before : List Entry) (legal : Legal c before) (entries : List TagEntry) (table : IsTable c (effects before) entries) where
  now : Sound c (picture_of c (effects before))
  now = legal_is_sound c sound before legal

  pub table-response : (h : HostId) → h < c.hosts → (list : List Extent) → host_rule c h (view_of c h before) (HostRequest.AddResponse false list) ≡ None →
      IsHostOfTagsSet c (effects before) h (host_outcome c h (view_of c h before) (HostRequest.AddResponse false list)) entries
  table-response h known list row =
      let v : View = view_of c h before in
      let p : Picture = picture_of c (effects before) in
      anew_of c (effects before) now (respond_outcome c h v false list) h known
      (record { told_is = response_told c sound p now h known v.offers refl v.responses list row; tags_are = response_tags c sound p now h known v.offers v.responses list }) entries table

  pub table-release : (h : HostId) → h < c.hosts → (list : List Extent) → host_rule c h (view_of c h before) (HostRequest.GiveBack false list) ≡ None →
      IsHostOfTagsSet c (effects before) h (host_outcome c h (view_of c h before) (HostRequest.GiveBack false list)) entries
  table-release h known list row =
      let v : View = view_of c h before in
      anew_of c (effects before) now (give_back_outcome c h v false list) h known (release_told c sound (picture_of c (effects before)) now h known v.releases list row) entries table

  pub table-removal : (h flags r bytes : ℕ) (tag : Tag) (list : List Extent) → manager_rule c (effects before) (λ k. view_of c k before) (FmRequest.Remove h flags r bytes tag list) ≡ None →
      IsHostOfTagsSet c (effects before) h (manager_outcome c (effects before) (λ k. view_of c k before) (FmRequest.Remove h flags r bytes tag list)) entries
  table-removal h flags r bytes tag list row =
      let of_row = removal_row c (λ k. view_of c k before) h flags r tag list row in
      anew_of c (effects before) now (remove_outcome c (λ k. view_of c k before) h flags tag list) h of_row.host
      (removal_told c sound (picture_of c (effects before)) now h of_row.host (is_forced flags) (is_cleaning flags) (policy_in flags == 0) r tag list of_row.inner) entries table

-- ---- over a legal journal

-- a request of a host that ends its list
pub told-ended_list : (t : Tabled) (h : HostId) (q : HostRequest) (o : Outcome) → is_quiet_host q ≡ false → HostDoes t h q o → SetsHostOfTags t h o
told-ended_list t h (HostRequest.AddResponse false list) o ends does =
    subst (λ x. SetsHostOfTags t h x) (sym does.is) (table-response t.config t.sound t.before t.legal t.entries t.table h does.known list does.row)
told-ended_list t h (HostRequest.GiveBack false list) o ends does =
    subst (λ x. SetsHostOfTags t h x) (sym does.is) (table-release t.config t.sound t.before t.legal t.entries t.table h does.known list does.row)
told-ended_list t h (HostRequest.AddResponse true list) o ends does = absurd (false≢true (sym ends))
told-ended_list t h (HostRequest.GiveBack true list) o ends does = absurd (false≢true (sym ends))
told-ended_list t h (HostRequest.GetEvents log) o ends does = absurd (false≢true (sym ends))
told-ended_list t h (HostRequest.ClearEvents log all handles) o ends does = absurd (false≢true (sym ends))
told-ended_list t h (HostRequest.GetConfiguration count first) o ends does = absurd (false≢true (sym ends))
told-ended_list t h (HostRequest.GetExtents count first) o ends does = absurd (false≢true (sym ends))

pub told-removal : (t : Tabled) (o : Outcome) (a : RemovalDoes t o) → SetsHostOfTags t a.host o
told-removal t o a = subst (λ x. SetsHostOfTags t a.host x) (sym a.does.is)
    (table-removal t.config t.sound t.before t.legal t.entries t.table a.host a.flags a.region a.bytes a.tag a.list a.does.row)
