-- What a host's message comes to is the answer to it.
use Rattle.std.proofs.Common.{◌≡◌, ℕ, ◌≤◌, true, false, List, [], ◌∷◌, ◌++◌, length, map, None, sym, ap, ◌∙◌, subst, arith}
use Rattle.std.{specs.Prelude.All, specs.List.AllByRecursion, specs.declared.result.Result.TheVariants.Ok, specs.declared.result.Result.TheVariants.Err, proofs.lemmas.List.Elements.All-from_recursion}
use Rattle.cci_codec.specs.dcd_base.specs.declared.{capacity.Extent.Extent, ids.HostId.HostId, steps.Actor.Actor, steps.LogId.LogId}
use Rattle.cci_codec.specs.declared.messages.Request.{Request}
use Rattle.extent_list.specs.{dcd_codes.specs.Rules.code_of, dcd_codes.specs.declared.rules.Rule.Rule, media_map.specs.region_config.specs.Configurations.Configuration}
use Rattle.event_records.specs.declared.events.Event.{Event}
use Rattle.host_payloads.specs.{HostPayloads.host_request, declared.requests.HostRequest.HostRequest}
use Rattle.journal_core.specs.{Entries.effects, declared.acts.Act.Act, declared.acts.Reply.Reply, declared.entries.Entry.Entry, declared.outcome.Effect.Effect}
use Rattle.device_commands.specs.{declared.log_records.LogRecords.LogRecords, device_rules.specs.Outcomes.Outcome}
use Rattle.device_commands.specs.device_rules.specs.{ResponseOutcomes.response_records, ResponseOutcomes.respond_changes, Views.View, Views.view_after, Views.view_of}
use Rattle.device_commands.specs.device_rules.specs.Answers.{dropped, effects_with, host_outcome, host_result, host_result_in, host_rule, reply_with, response, unless}
use Rattle.control_core.specs.{Deciding.IsDecidedBy, Deciding.IsShort, Doing.IsDone, declared.decided.Decided.Decided}
use Rattle.manager_commands.specs.device_state.specs.Updates.{IsOfLog}

-- ---- the logs that are told are of the device

known_map : (hosts : ℕ) (events : LogRecords → List Event) (log_records : List LogRecords) → AllByRecursion (λ (n : LogId × List Event). IsOfLog hosts n.0) (map (λ (n : LogRecords). (n.log, events n)) log_records) → AllByRecursion (λ (n : LogRecords). IsOfLog hosts n.log) log_records
known_map hosts events [] each = tt
known_map hosts events (n ∷ log_records) each = (each.0, known_map hosts events log_records each.1)

pub records_known : (hosts : ℕ) (events : LogRecords → List Event) (log_records : List LogRecords) (told : List (LogId × List Event)) → map (λ (n : LogRecords). (n.log, events n)) log_records ≡ told → AllByRecursion (λ (n : LogId × List Event). IsOfLog hosts n.0) told → All (λ (n : LogRecords). IsOfLog hosts n.log) log_records
records_known hosts events log_records told is each =
    All-from_recursion (λ (n : LogRecords). IsOfLog hosts n.log) log_records
    (known_map hosts events log_records (subst (AllByRecursion (λ (n : LogId × List Event). IsOfLog hosts n.0)) (sym is) each))

-- a host's commands tell the manager
response_known : (hosts : ℕ) (c : Configuration) (h : HostId) (v : View) (offers : List (List Extent)) (all : List Extent) → AllByRecursion (λ (n : LogId × List Event). IsOfLog hosts n.0) (response_records c h v offers all)
response_known hosts c h v [] all = tt
response_known hosts c h v (offer ∷ later) [] = (tt, tt)
response_known hosts c h v (offer ∷ later) (x ∷ xs) = (tt, tt)

pub host_known : (hosts : ℕ) (c : Configuration) (h : HostId) (v : View) (q : HostRequest) → AllByRecursion (λ (n : LogId × List Event). IsOfLog hosts n.0) (host_outcome c h v q).log_records
host_known hosts c h v (HostRequest.GetEvents log) = tt
host_known hosts c h v (HostRequest.ClearEvents log all handles) = tt
host_known hosts c h v (HostRequest.GetConfiguration count first) = tt
host_known hosts c h v (HostRequest.GetExtents count first) = tt
host_known hosts c h v (HostRequest.AddResponse true xs) = tt
host_known hosts c h v (HostRequest.AddResponse false xs) = response_known hosts c h (view_after c h v (respond_changes c h v.offers v.responses false xs)) v.offers (v.responses ++ xs)
host_known hosts c h v (HostRequest.GiveBack true xs) = tt
host_known hosts c h v (HostRequest.GiveBack false xs) = (tt, tt)

-- ---- a message that breaks no rule

module _ (c : Configuration) (before : List Entry) (h : HostId) (q : Request) where
  pub decided_host : (r : HostRequest) → host_request q.opcode q.payload ≡ Ok r → host_rule c h (view_of c h before) r ≡ None → (d : Decided) → IsDone c before q (host_outcome c h (view_of c h before) r) d →
      length (host_outcome c h (view_of c h before) r).payload ≤ 2048 → IsDecidedBy c before (Actor.Host h) (Act.Command q) d
  decided_host r asked row d done short =
      let v : View = view_of c h before in
      let o : Outcome = host_outcome c h (view_of c h before) r in
      let is : host_result_in c h (view_of c h before) q ≡ Ok (host_outcome c h (view_of c h before) r) = ap (host_result c h v) asked ∙ ap (λ rule. unless rule o) row in record {
        reply = done.reply ∙ sym (ap (reply_with q) is);
        effects = done.effects ∙ sym (ap (effects_with c (effects before) (dropped h v q.opcode)) is);
        short = subst IsShort (sym done.reply) short;
      }

  -- ---- a message that is refused

  pub refused_host : (rule : Rule) → host_result_in c h (view_of c h before) q ≡ Err rule → (reply : Reply) (new : List Effect) → reply ≡ response q (code_of rule) [] → new ≡ dropped h (view_of c h before) q.opcode →
      IsDecidedBy c before (Actor.Host h) (Act.Command q) (record { reply = reply; effects = new })
  refused_host rule is reply new answers effects_are = record {
    reply = answers ∙ sym (ap (reply_with q) is);
    effects = effects_are ∙ sym (ap (effects_with c (effects before) (dropped h (view_of c h before) q.opcode)) is);
    short = subst IsShort (sym answers) (omega arith);
  }
