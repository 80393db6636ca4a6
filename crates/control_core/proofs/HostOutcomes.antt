-- Which tags end by a host's command that breaks no rule.
use Rattle.std.proofs.Common.{◌≡◌, ◌<◌, true, false, List, [], ◌++◌, None, refl, sym, ap, ◌∙◌}
use Rattle.cci_codec.specs.dcd_base.specs.declared.ids.HostId.{HostId}
use Rattle.extent_list.specs.media_map.specs.region_config.specs.{Configurations.Configuration, Soundness.IsSound}
use Rattle.host_payloads.specs.declared.requests.HostRequest.{HostRequest}
use Rattle.journal_core.specs.{Entries.effects, declared.entries.Entry.Entry, declared.outcome.Effect.Effect}
use Rattle.device_commands.specs.device_rules.{proofs.GivingSteps.table-release, proofs.GivingSteps.table-response, specs.Answers.host_outcome, specs.Answers.host_rule}
use Rattle.device_commands.specs.device_rules.specs.{Hosts.accepted_of, Hosts.offers_of, Legal.Legal, Outcomes.Outcome, Outcomes.ended}
use Rattle.device_commands.specs.device_rules.specs.{TagTable.IsTable, TagTable.among, TagTable.among_offers, TagTable.ending, Views.View, Views.view_of}
use Rattle.tag_refs.specs.declared.entries.TagEntry.{TagEntry}
use Rattle.control_core.specs.Doing.{IsOfHost}

-- The tags that end are those that the host's lists after the changes no longer keep.
abbrev pub AreEnded : Configuration → List Effect → HostId → Outcome → List TagEntry → Type 0
AreEnded c past h o entries = ended c past o.changes o.tags ≡ ending h (among (accepted_of c h (past ++ o.changes))) (among_offers (offers_of h (past ++ o.changes))) entries o.tags

-- a command by which no tag may end
pub none_ended : (c : Configuration) (past : List Effect) (h : HostId) (o : Outcome) → o.tags ≡ [] → (entries : List TagEntry) → AreEnded c past h o entries
none_ended c past h o none entries =
    ap (ended c past o.changes) none ∙ sym (ap (ending h (among (accepted_of c h (past ++ o.changes))) (among_offers (offers_of h (past ++ o.changes))) entries) none)

module _ (c : Configuration) (sound : IsSound c) (before : List Entry) (legal : Legal c before) (h : HostId) (known : h < c.hosts) where
  abbrev its : View
  its = view_of c h before

  its_ended : (q : HostRequest) → host_rule c h its q ≡ None → (entries : List TagEntry) → IsTable c (effects before) entries → AreEnded c (effects before) h (host_outcome c h its q) entries
  its_ended (HostRequest.GetEvents log) row entries table = none_ended c (effects before) h (host_outcome c h its (HostRequest.GetEvents log)) refl entries
  its_ended (HostRequest.ClearEvents log all handles) row entries table = none_ended c (effects before) h (host_outcome c h its (HostRequest.ClearEvents log all handles)) refl entries
  its_ended (HostRequest.GetConfiguration count first) row entries table = none_ended c (effects before) h (host_outcome c h its (HostRequest.GetConfiguration count first)) refl entries
  its_ended (HostRequest.GetExtents count first) row entries table = none_ended c (effects before) h (host_outcome c h its (HostRequest.GetExtents count first)) refl entries
  its_ended (HostRequest.AddResponse true xs) row entries table = none_ended c (effects before) h (host_outcome c h its (HostRequest.AddResponse true xs)) refl entries
  its_ended (HostRequest.AddResponse false xs) row entries table = (table-response c sound before legal entries table h known xs row).ended_are
  its_ended (HostRequest.GiveBack true xs) row entries table = none_ended c (effects before) h (host_outcome c h its (HostRequest.GiveBack true xs)) refl entries
  its_ended (HostRequest.GiveBack false xs) row entries table = (table-release c sound before legal entries table h known xs row).ended_are

  pub host_of : (q : HostRequest) → host_rule c h its q ≡ None → IsOfHost c before h (host_outcome c h its q)
  host_of q row = record { host = known; ended_are = its_ended q row }
