-- What a draft says of the first broken rule.
use Rattle.std.{proofs.Common.◌≡◌, proofs.Common.List, proofs.Common.ap, proofs.Common.◌∙◌, specs.Result.result_err, specs.declared.result.Result.Result}
use Rattle.std.specs.declared.result.Result.TheVariants.{Ok, Err}
use Rattle.cci_codec.specs.{declared.messages.Request.Request, dcd_base.specs.declared.ids.HostId.HostId}
use Rattle.extent_list.specs.{dcd_codes.specs.Rules.ByRow, dcd_codes.specs.declared.refusals.Refusal.Refusal, media_map.specs.region_config.specs.Configurations.Configuration}
use Rattle.fm_payloads.specs.{ManagerPayloads.manager_request, declared.requests.FmRequest.FmRequest}
use Rattle.journal_core.specs.{Entries.effects, declared.entries.Entry.Entry}
use Rattle.host_commands.specs.HostMessages.{IsDrafted}
use Rattle.manager_commands.specs.ManagerMessages.{rule_after}
use Rattle.device_commands.specs.declared.draft.Draft.{Draft}
use Rattle.device_commands.specs.device_rules.specs.Answers.{host_outcome, host_result, host_result_in, manager_outcome, manager_result, unless}
use Rattle.device_commands.specs.device_rules.specs.Views.{View, view_of}
use Rattle.control_core.specs.Broken.{HasRow}

pub host_row : (c : Configuration) (h : HostId) (v : View) (q : Request) (r : Result Draft Refusal) → IsDrafted c h v q r → HasRow (result_err (host_result_in c h v q)) r
host_row c h v q (Ok d) it = ap (λ a. result_err (host_result c h v a)) it.asked ∙ ap (λ row. result_err (unless row (host_outcome c h v it.request))) it.row
host_row c h v q (Err (Refusal.Broken rule)) it = ap result_err it
host_row c h v q (Err Refusal.NoMemory) it = tt

pub manager_row : (c : Configuration) (journal : List Entry) (q : Request) (asked : FmRequest) (Makes : Draft → Type 0) → manager_request q.opcode q.payload ≡ Ok asked →
    (r : Result Draft Refusal) → ByRow (rule_after c journal asked) Makes r → HasRow (result_err (manager_result c journal (manager_request q.opcode q.payload))) r
manager_row c journal q asked Makes is (Ok d) it = ap (λ a. result_err (manager_result c journal a)) is ∙ ap (λ row. result_err (unless row (manager_outcome c (effects journal) (λ h. view_of c h journal) asked))) it.0
manager_row c journal q asked Makes is (Err (Refusal.Broken rule)) it = ap (λ a. result_err (manager_result c journal a)) is ∙ ap (λ row. result_err (unless row (manager_outcome c (effects journal) (λ h. view_of c h journal) asked))) it
manager_row c journal q asked Makes is (Err Refusal.NoMemory) it = tt
