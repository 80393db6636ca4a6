-- What the commands of one host, and the manager's for it, make of what the other hosts see: nothing.
use Rattle.std.proofs.Common.{◌≡◌, ◌≢◌, ℕ, true, ◌&&◌, not, List, [], ◌∷◌, ◌++◌, Option, None, Some, refl, sym, ap, subst, ◌∙◌}
use Rattle.std.{proofs.lemmas.Bool.ne_eqb, specs.List.list_all, specs.Prelude.◌==◌, specs.declared.result.Result.Result}
use Rattle.std.specs.declared.result.Result.TheVariants.{Ok, Err}
use Rattle.cci_codec.specs.dcd_base.specs.declared.{capacity.Extent.Extent, capacity.Tag.Tag, ids.HostId.HostId, steps.Actor.Actor, steps.LogId.LogId, faults.PayloadFault.PayloadFault as HostFault}
use Rattle.extent_list.specs.{dcd_codes.specs.declared.rules.Rule.Rule, media_map.specs.region_config.specs.Configurations.Configuration}
use Rattle.host_payloads.specs.{HostPayloads.host_request, declared.requests.HostRequest.HostRequest}
use Rattle.journal_core.specs.{Entries.effects, declared.acts.Act.Act, declared.entries.Entry.Entry, declared.outcome.Effect.Effect}
use Rattle.device_rules.proofs.EffectKinds.{PassHeld, PassLists, dropped_passes, host_passes, removals_pass}
use Rattle.device_rules.{proofs.ViewsLeft.leaves_view, proofs.ViewsLeft.others_records, proofs.ViewsLeft.outcome-leaves, proofs.ViewsLeft.view_of-left, specs.Adding.add_outcome}
use Rattle.device_rules.specs.{Answers.dropped, Answers.effects_with, Answers.host_outcome, Answers.host_result, Answers.host_rule, Answers.unless, Legal.Meets, Legal.right_answer}
use Rattle.device_rules.specs.{Outcomes.Outcome, Outcomes.effects_of, ReleaseOutcomes.is_cleaning, ReleaseOutcomes.is_forced, ReleaseOutcomes.remove_outcome, ReleaseOutcomes.removed}
use Rattle.device_rules.specs.Views.{View, view_of}

-- ---- changes of one host leave the views of the others

module _ (c : Configuration) (h k : HostId) (other : h ≢ k) where
  apart : not (h == k) ≡ true
  apart = ap not (ne_eqb h k other)

  held : PassHeld (leaves_view k) h
  held = record { hold = λ kind xs. apart; unhold = λ kind. apart }

  lists : PassLists (leaves_view k) h
  lists = record { answer = λ xs. apart; take = λ run. refl; leave = λ run. apart }

  -- A host's command that breaks no rule leaves what the others see.
  pub host-leaves : (past : List Effect) (v : View) (r : HostRequest) → list_all (leaves_view k) (effects_of c past (host_outcome c h v r)) ≡ true
  host-leaves past v r = host_passes (leaves_view k) h (λ t. refl) (others_records k LogId.Manager refl) (record { cleared = λ n. apart; reset = apart }) held lists c past v r

  -- and so does one that is refused
  pub dropped-leaves : (v : View) (opcode : ℕ) → list_all (leaves_view k) (dropped h v opcode) ≡ true
  dropped-leaves v opcode = dropped_passes (leaves_view k) h held v opcode

  -- The manager's offers and removals leave what the hosts see that they do not name.
  pub add-leaves : (past : List Effect) (view_for : HostId → View) (policy r bytes : ℕ) (tag : Tag) (xs : List Extent) → list_all (leaves_view k) (effects_of c past (add_outcome c past view_for h policy r bytes tag xs)) ≡ true
  add-leaves past view_for policy r bytes tag xs = outcome-leaves c k past (add_outcome c past view_for h policy r bytes tag xs) (ap (λ b. b && true) apart) (ap (λ b. b && true) apart)

  pub remove-leaves : (past : List Effect) (view_for : HostId → View) (flags : ℕ) (tag : Tag) (xs : List Extent) → list_all (leaves_view k) (effects_of c past (remove_outcome c view_for h flags tag xs)) ≡ true
  remove-leaves past view_for flags tag xs = outcome-leaves c k past (remove_outcome c view_for h flags tag xs) (removals_pass (leaves_view k) h (λ run. apart) (λ run. refl) c (is_forced flags) (is_cleaning flags) (removed (view_for h).accepted flags tag xs)) (ap (λ b. b && true) apart)

-- ---- so no step of one host changes what another sees

module _ (c : Configuration) (before : List Entry) (h k : HostId) (other : h ≢ k) where
  by_rule : (rule : Option Rule) (o : Outcome) (refused : List Effect) → list_all (leaves_view k) (effects_of c (effects before) o) ≡ true → list_all (leaves_view k) refused ≡ true →
      list_all (leaves_view k) (effects_with c (effects before) refused (unless rule o)) ≡ true
  by_rule None o refused fine broken = fine
  by_rule (Some rule) o refused fine broken = broken

  by_request : (opcode : ℕ) (result : Result HostRequest HostFault) →
      list_all (leaves_view k) (effects_with c (effects before) (dropped h (view_of c h before) opcode) (host_result c h (view_of c h before) result)) ≡ true
  by_request opcode (Ok r) = by_rule (host_rule c h (view_of c h before) r) (host_outcome c h (view_of c h before) r) (dropped h (view_of c h before) opcode)
      (host-leaves c h k other (effects before) (view_of c h before) r) (dropped-leaves c h k other (view_of c h before) opcode)
  by_request opcode (Err fault) = dropped-leaves c h k other (view_of c h before) opcode

  pub answer-leaves : (act : Act) → list_all (leaves_view k) (right_answer c before (Actor.Host h) act).1 ≡ true
  answer-leaves (Act.Command q) = by_request q.opcode (host_request q.opcode q.payload)
  answer-leaves (Act.Load d) = refl
  answer-leaves (Act.Store d value) = refl
  answer-leaves (Act.Scrub n) = refl

  pub view_of-other : (e : Entry) → Meets c before e → e.actor ≡ Actor.Host h → view_of c k (before ++ e ∷ []) ≡ view_of c k before
  view_of-other e meets actor = view_of-left c k before e
      (subst (λ new. list_all (leaves_view k) new ≡ true) (sym (meets.effects ∙ ap (λ a. (right_answer c before a e.act).1) actor)) (answer-leaves e.act))
