-- What a host's own acts make of its view: what they make of it alone.
use Rattle.std.proofs.Common.{◌≡◌, true, false, List, [], ◌∷◌, Option, Some, None, ◌++◌, refl}
use Rattle.std.specs.declared.result.Result.{Result, TheVariants.Ok, TheVariants.Err}
use Rattle.cci_codec.specs.declared.messages.Request.{Request}
use Rattle.dcd_base.specs.declared.{capacity.Extent.Extent, ids.HostId.HostId, steps.Actor.Actor, faults.PayloadFault.PayloadFault as HostFault}
use Rattle.extent_list.specs.{dcd_codes.specs.declared.rules.Rule.Rule, media_map.specs.region_config.specs.Configurations.Configuration}
use Rattle.host_payloads.specs.{HostPayloads.host_request, declared.requests.HostRequest.HostRequest}
use Rattle.journal_core.specs.{Entries.effects, declared.acts.Act.Act, declared.entries.Entry.Entry, declared.outcome.Effect.Effect}
use Rattle.device_rules.proofs.{EffectKinds.tells, ViewsLeft.is_other_log}
use Rattle.device_rules.specs.{Answers.dropped, Answers.effects_with, Answers.host_outcome, Answers.host_result, Answers.host_rule, Answers.unless, Legal.right_answer, Outcomes.Outcome}
use Rattle.device_rules.specs.{ResponseOutcomes.respond_changes, ResponseOutcomes.response_records, Views.View, Views.view_after, Views.view_of}
use Rattle.isolation_laws.{specs.Solo.changes_with, specs.Solo.solo_after, specs.declared.items.Item.Item, proofs.JoinedViews.view_after-outcome}

module _ (c : Configuration) (h : HostId) where
  -- ---- what a host does is told to the manager

  response_tells : (v : View) (offers : List (List Extent)) (taken : List Extent) → tells (is_other_log h) (response_records c h v offers taken) ≡ true
  response_tells v [] taken = refl
  response_tells v (offer ∷ later) [] = refl
  response_tells v (offer ∷ later) (x ∷ xs) = refl

  host_tells : (v : View) (q : HostRequest) → tells (is_other_log h) (host_outcome c h v q).log_records ≡ true
  host_tells v (HostRequest.GetEvents log) = refl
  host_tells v (HostRequest.ClearEvents log all handles) = refl
  host_tells v (HostRequest.GetConfiguration count first) = refl
  host_tells v (HostRequest.GetExtents count first) = refl
  host_tells v (HostRequest.AddResponse true xs) = refl
  host_tells v (HostRequest.AddResponse false xs) = response_tells (view_after c h v (respond_changes c h v.offers v.responses false xs)) v.offers (v.responses ++ xs)
  host_tells v (HostRequest.GiveBack true xs) = refl
  host_tells v (HostRequest.GiveBack false xs) = refl

  -- ---- so its changes alone count for it

  by_rule : (v : View) (past : List Effect) (q : Request) (rule : Option Rule) (o : Outcome) → tells (is_other_log h) o.log_records ≡ true →
      view_after c h v (effects_with c past (dropped h v q.opcode) (unless rule o)) ≡ view_after c h v (changes_with h v q (unless rule o))
  by_rule v past q None o others = view_after-outcome c h v past o others
  by_rule v past q (Some rule) o others = refl

  by_request : (v : View) (past : List Effect) (q : Request) (result : Result HostRequest HostFault) →
      view_after c h v (effects_with c past (dropped h v q.opcode) (host_result c h v result)) ≡ view_after c h v (changes_with h v q (host_result c h v result))
  by_request v past q (Ok r) = by_rule v past q (host_rule c h v r) (host_outcome c h v r) (host_tells v r)
  by_request v past q (Err fault) = refl

  pub own_step : (before : List Entry) (act : Act) → view_after c h (view_of c h before) (right_answer c before (Actor.Host h) act).1 ≡ solo_after c h (view_of c h before) (Item.Own act)
  own_step before (Act.Command q) = by_request (view_of c h before) (effects before) q (host_request q.opcode q.payload)
  own_step before (Act.Load d) = refl
  own_step before (Act.Store d value) = refl
  own_step before (Act.Scrub n) = refl
