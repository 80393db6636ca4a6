-- The rule that a command breaks, and the answer to a command or a scrub.
use Rattle.std.specs.Prelude.{ℕ, ◌==◌, ◌++◌, List, [], length, map, take, Option, Some, None, if◌then◌else◌}
use Rattle.std.specs.{Result.result_err, declared.result.Result.Result, declared.result.Result.TheVariants.Ok, declared.result.Result.TheVariants.Err}
use Rattle.cci_codec.specs.dcd_base.specs.declared.{faults.PayloadFault.PayloadFault as HostFault, faults.PayloadFault.PayloadFault as ManagerFault, ids.HostId.HostId, steps.Actor.Actor}
use Rattle.cci_codec.specs.{dcd_base.specs.declared.steps.LogId.LogId, declared.messages.Request.Request}
use Rattle.extent_list.specs.{ExtentLists.count_in, dcd_codes.specs.Rules.code_of, dcd_codes.specs.Rules.number_of, dcd_codes.specs.declared.codes.Code.Code, dcd_codes.specs.declared.rules.Rule.Rule}
use Rattle.extent_list.specs.media_map.specs.region_config.specs.{Configurations.Configuration, Granules.same_region, Granules.with_blocks}
use Rattle.host_payloads.specs.{declared.requests.HostRequest.HostRequest, HostPayloads.host_request}
use Rattle.fm_payloads.specs.{declared.requests.FmRequest.FmRequest, ManagerPayloads.manager_request}
use Rattle.journal_core.specs.{declared.acts.Act.Act, declared.acts.Reply.Reply, declared.outcome.HeldKind.HeldKind, declared.outcome.Effect.Effect, declared.entries.Entry.Entry, Entries.effects}
use Rattle.device_rules.specs.Adding.{add_rule, add_outcome}
use Rattle.device_rules.specs.{EventCommands.log_named, EventCommands.no_such_log, EventCommands.events_reply, EventCommands.clear_rule, EventCommands.clear_outcome, Logs.log_of}
use Rattle.device_rules.specs.{Outcomes.Outcome, Outcomes.only, Outcomes.effects_of, ReleaseOutcomes.give_back_outcome, ReleaseOutcomes.remove_rule, ReleaseOutcomes.remove_outcome}
use Rattle.device_rules.specs.ResponseOutcomes.{unhold, respond_outcome}
use Rattle.device_rules.specs.TagCommands.{add_reference_rule, add_reference_outcome, remove_reference_rule, remove_reference_outcome, tags_rule, tags_reply}
use Rattle.device_rules.specs.{Tags.dirty_granules, Views.View, Views.view_of}
use Rattle.offer_core.specs.Responses.{respond_rule}
use Rattle.release_core.specs.Releases.{give_back_rule}
use Rattle.granule_map.specs.Choices.{joined}
use Rattle.device_rules.specs.Settings.{past_end, no_such_region, configuration_reply, extents_reply, info_reply, regions_rule, regions_reply, lists_rule, lists_reply, set_rule, set_outcome}

-- ---- the first broken rule of a request, in the order of its row

-- A host's request: its view alone decides.
abbrev pub host_rule : Configuration → HostId → View → HostRequest → Option Rule
host_rule c h v (HostRequest.GetEvents log) = no_such_log log
host_rule c h v (HostRequest.ClearEvents log all handles) = clear_rule log v.log all handles
host_rule c h v (HostRequest.GetConfiguration count first) = no_such_region c first
host_rule c h v (HostRequest.GetExtents count first) = past_end first (length v.accepted)
host_rule c h v (HostRequest.AddResponse more list) = respond_rule (with_blocks c v.block) h (length v.accepted) v.offers v.responses more list
host_rule c h v (HostRequest.GiveBack more list) = give_back_rule (with_blocks c v.block) h v.accepted (count_in v.offers) (v.releases ++ list) more

abbrev pub host_outcome : Configuration → HostId → View → HostRequest → Outcome
host_outcome c h v (HostRequest.GetEvents log) = only (events_reply (log_named log v.log))
host_outcome c h v (HostRequest.ClearEvents log all handles) = clear_outcome (LogId.Host h) log v.log all handles
host_outcome c h v (HostRequest.GetConfiguration count first) = only (configuration_reply c h v count first)
host_outcome c h v (HostRequest.GetExtents count first) = only (extents_reply v count first)
host_outcome c h v (HostRequest.AddResponse more list) = respond_outcome c h v more list
host_outcome c h v (HostRequest.GiveBack more list) = give_back_outcome c h v more list

-- The manager's request reads what has happened and each host's view.
abbrev pub manager_rule : Configuration → List Effect → (HostId → View) → FmRequest → Option Rule
manager_rule c past view_for (FmRequest.GetEvents log) = no_such_log log
manager_rule c past view_for (FmRequest.ClearEvents log all handles) = clear_rule log (log_of LogId.Manager past) all handles
manager_rule c past view_for FmRequest.GetInfo = None
manager_rule c past view_for (FmRequest.GetRegions host count first) = regions_rule c host first
manager_rule c past view_for (FmRequest.SetRegion r sanitize size) = set_rule c past view_for r sanitize size
manager_rule c past view_for (FmRequest.GetExtentLists host count first) = lists_rule c view_for host first
manager_rule c past view_for (FmRequest.Add host policy r bytes tag list) = add_rule c past view_for host policy r bytes tag list
manager_rule c past view_for (FmRequest.Remove host flags r bytes tag list) = remove_rule c view_for host flags r tag list
manager_rule c past view_for (FmRequest.AddReference tag) = add_reference_rule c past tag
manager_rule c past view_for (FmRequest.RemoveReference tag) = remove_reference_rule past tag
manager_rule c past view_for (FmRequest.ListTags first count) = tags_rule c past first

abbrev pub manager_outcome : Configuration → List Effect → (HostId → View) → FmRequest → Outcome
manager_outcome c past view_for (FmRequest.GetEvents log) = only (events_reply (log_named log (log_of LogId.Manager past)))
manager_outcome c past view_for (FmRequest.ClearEvents log all handles) = clear_outcome LogId.Manager log (log_of LogId.Manager past) all handles
manager_outcome c past view_for FmRequest.GetInfo = only (info_reply c past)
manager_outcome c past view_for (FmRequest.GetRegions host count first) = only (regions_reply c view_for host count first)
manager_outcome c past view_for (FmRequest.SetRegion r sanitize size) = set_outcome c view_for r size
manager_outcome c past view_for (FmRequest.GetExtentLists host count first) = only (lists_reply view_for host count first)
manager_outcome c past view_for (FmRequest.Add host policy r bytes tag list) = add_outcome c past view_for host policy r bytes tag list
manager_outcome c past view_for (FmRequest.Remove host flags r bytes tag list) = remove_outcome c view_for host flags tag list
manager_outcome c past view_for (FmRequest.AddReference tag) = add_reference_outcome past tag
manager_outcome c past view_for (FmRequest.RemoveReference tag) = remove_reference_outcome tag
manager_outcome c past view_for (FmRequest.ListTags first count) = only (tags_reply c past first count)

-- ---- a message: its opcode and length come first

-- what a message comes to: the rule that it breaks, or what it does
abbrev pub unless : Option Rule → Outcome → Result Outcome Rule
unless None o = Ok o
unless (Some rule) o = Err rule

-- the rule that a payload breaks which is no request
abbrev pub host_payload_rule : HostFault → Rule
host_payload_rule (HostFault.UnknownOpcode opcode) = Rule.UnknownOpcode opcode
host_payload_rule (HostFault.WrongLength need have) = Rule.WrongLength need have
host_payload_rule HostFault.NoMemory = Rule.UnknownOpcode 0

abbrev pub manager_payload_rule : ManagerFault → Rule
manager_payload_rule (ManagerFault.UnknownOpcode opcode) = Rule.UnknownOpcode opcode
manager_payload_rule (ManagerFault.WrongLength need have) = Rule.WrongLength need have
manager_payload_rule ManagerFault.NoMemory = Rule.UnknownOpcode 0

abbrev pub host_result : Configuration → HostId → View → Result HostRequest HostFault → Result Outcome Rule
host_result c h v (Ok request) = unless (host_rule c h v request) (host_outcome c h v request)
host_result c h v (Err fault) = Err (host_payload_rule fault)

abbrev pub manager_result : Configuration → List Entry → Result FmRequest ManagerFault → Result Outcome Rule
manager_result c journal (Ok request) = unless (manager_rule c (effects journal) (λ h. view_of c h journal) request) (manager_outcome c (effects journal) (λ h. view_of c h journal) request)
manager_result c journal (Err fault) = Err (manager_payload_rule fault)

-- a refused response or release empties its held list
abbrev pub dropped : HostId → View → ℕ → List Effect
dropped h v opcode =
    if opcode == 0x4802 then unhold h HeldKind.Responses v.responses
    else if opcode == 0x4803 then unhold h HeldKind.Releases v.releases
    else []

abbrev pub response : Request → Code → List ℕ → Reply
response q code payload = Reply.Answer (record { tag = q.tag; opcode = q.opcode; code = number_of code; payload = payload })

-- the reply to a message, and its effects
abbrev pub reply_with : Request → Result Outcome Rule → Reply
reply_with q (Ok o) = response q Code.Success o.payload
reply_with q (Err rule) = response q (code_of rule) []

abbrev pub effects_with : Configuration → List Effect → List Effect → Result Outcome Rule → List Effect
effects_with c past refused (Ok o) = effects_of c past o
effects_with c past refused (Err rule) = refused

-- ---- a scrub

-- the lowest dirty granules, as many as asked or all
abbrev pub scrubbed : Configuration → List Effect → ℕ → List ℕ
scrubbed c past n = take n (dirty_granules c past)

abbrev pub zeroes : Configuration → List ℕ → List Effect
zeroes c gs = map (λ r. Effect.Zero (record { first = r.0; count = r.1 })) (joined (same_region c) gs)

-- ---- both

-- what a host's message comes to, in its view
abbrev pub host_result_in : Configuration → HostId → View → Request → Result Outcome Rule
host_result_in c h v q = host_result c h v (host_request q.opcode q.payload)

abbrev pub host_answer : Configuration → List Entry → HostId → Act → Reply × List Effect
host_answer c journal h (Act.Command q) = let v = view_of c h journal in let result = host_result_in c h v q in
    (reply_with q result, effects_with c (effects journal) (dropped h v q.opcode) result)
host_answer c journal h act = (Reply.Stored, [])

abbrev pub manager_answer : Configuration → List Entry → Act → Reply × List Effect
manager_answer c journal (Act.Command q) = let result = manager_result c journal (manager_request q.opcode q.payload) in
    (reply_with q result, effects_with c (effects journal) [] result)
manager_answer c journal act = (Reply.Stored, [])

abbrev pub scrub_answer : Configuration → List Entry → Act → Reply × List Effect
scrub_answer c journal (Act.Scrub n) = let gs = scrubbed c (effects journal) n in (Reply.Scrubbed (length gs), zeroes c gs)
scrub_answer c journal act = (Reply.Stored, [])

-- The answer to a command or a scrub, which is all that the device says and does.
abbrev pub answer : Configuration → List Entry → Actor → Act → Reply × List Effect
answer c journal (Actor.Host h) act = host_answer c journal h act
answer c journal Actor.Manager act = manager_answer c journal act
answer c journal Actor.Sanitizer act = scrub_answer c journal act

-- The rule that a command breaks, if any. For a host the configuration and its view decide.
abbrev pub broken_host : Configuration → HostId → View → Act → Option Rule
broken_host c h v (Act.Command q) = result_err (host_result_in c h v q)
broken_host c h v act = None

abbrev pub broken_manager : Configuration → List Entry → Act → Option Rule
broken_manager c journal (Act.Command q) = result_err (manager_result c journal (manager_request q.opcode q.payload))
broken_manager c journal act = None

abbrev pub broken : Configuration → List Entry → Actor → Act → Option Rule
broken c journal (Actor.Host h) act = broken_host c h (view_of c h journal) act
broken c journal Actor.Manager act = broken_manager c journal act
broken c journal Actor.Sanitizer act = None
