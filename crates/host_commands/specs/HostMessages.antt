-- How a host's message is read, and what it comes to by what the device keeps of the host.
use Rattle.std.specs.{Prelude.◌≡◌, Prelude.None, declared.result.Result.Result, declared.result.Result.TheVariants.Ok, declared.result.Result.TheVariants.Err}
use Rattle.cci_codec.specs.{declared.messages.Request.Request, dcd_base.specs.declared.ids.HostId.HostId, dcd_base.specs.declared.steps.LogId.LogId}
use Rattle.extent_list.specs.{HostLists.Lists, dcd_codes.specs.Rules.ByRow, dcd_codes.specs.declared.refusals.Refusal.Refusal, media_map.specs.region_config.specs.Configurations.Configuration}
use Rattle.extent_list.specs.media_map.specs.region_config.specs.Granules.{with_blocks}
use Rattle.event_log.specs.{LogStates.LogState, Logs.IsLogOf}
use Rattle.host_payloads.specs.{HostPayloads.host_request, declared.requests.HostRequest.HostRequest}
use Rattle.device_commands.specs.{Drafts.Drafts, declared.draft.Draft.Draft, device_rules.specs.Answers.host_outcome, device_rules.specs.Answers.host_result_in, device_rules.specs.Answers.host_rule}
use Rattle.device_commands.specs.device_rules.specs.Views.{View, lists_in}

-- The draft is the outcome of the request that the message is, which breaks no rule.
pub record IsDraft (c : Configuration) (h : HostId) (v : View) (q : Request) (draft : Draft) : Type 0 where
  pub request : HostRequest
  pub asked : host_request q.opcode q.payload ≡ Ok request
  pub row : host_rule c h v request ≡ None
  pub drafts : Drafts c h v (host_outcome c h v request) draft

-- So it is, or this is the first rule that the message breaks.
abbrev pub IsDrafted : Configuration → HostId → View → Request → Result Draft Refusal → Type 0
IsDrafted c h v q (Ok draft) = IsDraft c h v q draft
IsDrafted c h v q (Err (Refusal.Broken rule)) = host_result_in c h v q ≡ Err rule
IsDrafted c h v q (Err Refusal.NoMemory) = Unit {0}

-- A host's request answers by its row, and the draft is its outcome, for each view that the present blocks and the lists
-- show: most requests read nothing of the log.
abbrev pub AnswersByLists : Configuration → Configuration → HostId → Lists → HostRequest → Result Draft Refusal → Type 0
AnswersByLists c present h lists q result = (v : View) → present ≡ with_blocks c v.block → lists ≡ lists_in v →
    ByRow (host_rule c h v q) (Drafts c h v (host_outcome c h v q)) result

-- A host's message is drafted, or refused by this rule, for each view that the present blocks, the lists and the log show.
abbrev pub DraftsHost : Configuration → Configuration → HostId → Lists → LogState → Request → Result Draft Refusal → Type 0
DraftsHost c present h lists log q result = (v : View) → present ≡ with_blocks c v.block → lists ≡ lists_in v → IsLogOf (LogId.Host h) v.log log →
    IsDrafted c h v q result
