-- A legal journal with the table of its open tags, and the requests that break no rule then.
use Rattle.std.specs.Prelude.{◌≡◌, ◌<◌, ℕ, List, None}
use Rattle.cci_codec.specs.dcd_base.specs.declared.{capacity.Extent.Extent, capacity.Tag.Tag, ids.HostId.HostId}
use Rattle.fm_payloads.specs.declared.requests.FmRequest.{FmRequest}
use Rattle.host_payloads.specs.declared.requests.HostRequest.{HostRequest}
use Rattle.journal_core.specs.{Entries.effects, declared.entries.Entry.Entry, declared.outcome.Effect.Effect}
use Rattle.extent_list.specs.media_map.specs.region_config.specs.{Configurations.Configuration, Soundness.IsSound}
use Rattle.tag_refs.specs.declared.entries.TagEntry.{TagEntry}
use Rattle.device_rules.specs.{Answers.host_outcome, Answers.host_rule, Answers.manager_outcome, Answers.manager_rule, Legal.Legal, Outcomes.Outcome, Views.View, Views.view_of, TagTable.IsTable}

-- A legal journal of a sound configuration, with the table of its open tags.
pub record Tabled : Type 0 where
  pub config : Configuration
  pub before : List Entry
  pub entries : List TagEntry
  pub sound : IsSound config
  pub legal : Legal config before
  pub table : IsTable config (effects before) entries

-- what has changed by then
abbrev pub past_of : Tabled → List Effect
past_of t = effects t.before

-- what each host sees then
abbrev pub views_of : Tabled → HostId → View
views_of t = λ h. view_of t.config h t.before

-- A request of a host that breaks no rule then, and what it does.
pub record HostDoes (t : Tabled) (h : HostId) (q : HostRequest) (o : Outcome) : Type 0 where
  pub known : h < t.config.hosts
  pub row : host_rule t.config h (views_of t h) q ≡ None
  pub is : o ≡ host_outcome t.config h (views_of t h) q

-- A request of the manager that breaks no rule then, and what it does.
pub record ManagerDoes (t : Tabled) (q : FmRequest) (o : Outcome) : Type 0 where
  pub row : manager_rule t.config (past_of t) (views_of t) q ≡ None
  pub is : o ≡ manager_outcome t.config (past_of t) (views_of t) q

-- An offer (5604h) that breaks no rule then, and what it does.
pub record OfferDoes (t : Tabled) (o : Outcome) : Type 0 where
  pub host : HostId
  pub policy : ℕ
  pub region : ℕ
  pub bytes : ℕ
  pub tag : Tag
  pub list : List Extent
  pub does : ManagerDoes t (FmRequest.Add host policy region bytes tag list) o

-- A removal (5605h) that breaks no rule then, and what it does.
pub record RemovalDoes (t : Tabled) (o : Outcome) : Type 0 where
  pub host : HostId
  pub flags : ℕ
  pub region : ℕ
  pub bytes : ℕ
  pub tag : Tag
  pub list : List Extent
  pub does : ManagerDoes t (FmRequest.Remove host flags region bytes tag list) o
