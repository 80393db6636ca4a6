-- What a command does whose request breaks no rule.
use Rattle.std.{proofs.Common.◌≡◌, proofs.Common.List, proofs.Common.[], proofs.Common.None, proofs.Common.ap, proofs.Common.◌∙◌, specs.declared.result.Result.TheVariants.Ok, specs.Result.result_err}
use Rattle.cci_codec.specs.declared.messages.Request.{Request}
use Rattle.dcd_base.specs.declared.{ids.HostId.HostId, steps.Actor.Actor}
use Rattle.dcd_codes.specs.declared.codes.Code.{Code}
use Rattle.fm_payloads.specs.{ManagerPayloads.manager_request, declared.requests.FmRequest.FmRequest}
use Rattle.host_payloads.specs.{HostPayloads.host_request, declared.requests.HostRequest.HostRequest}
use Rattle.region_config.specs.Configurations.{Configuration}
use Rattle.journal_core.specs.{Entries.effects, declared.acts.Act.Act, declared.entries.Entry.Entry, declared.outcome.Effect.Effect}
use Rattle.isolation_laws.specs.device_rules.specs.Answers.{answer, dropped, effects_with, host_outcome, host_result, host_rule, manager_outcome, manager_result, manager_rule, reply_with, response, unless}
use Rattle.isolation_laws.specs.device_rules.specs.{Outcomes.Outcome, Outcomes.effects_of, Views.View, Views.view_of}
use Rattle.plan_rules.specs.Kept.{Succeeds}

-- it succeeds without a payload, with the effects of what it does
pub record Does (c : Configuration) (journal : List Entry) (actor : Actor) (q : Request) (o : Outcome) : Type 0 where
  pub succeeds : Succeeds c journal actor q
  pub effects : (answer c journal actor (Act.Command q)).1 ≡ effects_of c (effects journal) o

module _ (c : Configuration) (journal : List Entry) (q : Request) where
  pub host_does : (h : HostId) (request : HostRequest) → host_request q.opcode q.payload ≡ Ok request → host_rule c h (view_of c h journal) request ≡ None
      → (host_outcome c h (view_of c h journal) request).payload ≡ [] → Does c journal (Actor.Host h) q (host_outcome c h (view_of c h journal) request)
  host_does h request read row empty =
      let v : View = view_of c h journal in
      let o : Outcome = host_outcome c h v request in
      let past : List Effect = effects journal in
      record {
        succeeds = record {
          unbroken = ap (λ r. result_err (host_result c h v r)) read ∙ ap (λ rule. result_err (unless rule o)) row;
          success = ap (λ r. reply_with q (host_result c h v r)) read ∙ ap (λ rule. reply_with q (unless rule o)) row ∙ ap (response q Code.Success) empty;
        };
        effects = ap (λ r. effects_with c past (dropped h v q.opcode) (host_result c h v r)) read ∙ ap (λ rule. effects_with c past (dropped h v q.opcode) (unless rule o)) row;
      }

  pub manager_does : (request : FmRequest) → manager_request q.opcode q.payload ≡ Ok request → manager_rule c (effects journal) (λ k. view_of c k journal) request ≡ None
      → (manager_outcome c (effects journal) (λ k. view_of c k journal) request).payload ≡ [] → Does c journal Actor.Manager q (manager_outcome c (effects journal) (λ k. view_of c k journal) request)
  manager_does request read row empty =
      let past : List Effect = effects journal in
      let o : Outcome = manager_outcome c past (λ k. view_of c k journal) request in
      record {
        succeeds = record {
          unbroken = ap (λ r. result_err (manager_result c journal r)) read ∙ ap (λ rule. result_err (unless rule o)) row;
          success = ap (λ r. reply_with q (manager_result c journal r)) read ∙ ap (λ rule. reply_with q (unless rule o)) row ∙ ap (response q Code.Success) empty;
        };
        effects = ap (λ r. effects_with c past [] (manager_result c journal r)) read ∙ ap (λ rule. effects_with c past [] (unless rule o)) row;
      }
