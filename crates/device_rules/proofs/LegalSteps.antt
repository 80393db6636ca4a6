-- What every legal journal keeps, by its steps: what a step may do, case by case, and one more entry.
use Rattle.std.proofs.Common.{◌≡◌, ℕ, ◌<◌, Bool, true, false, List, [], ◌∷◌, ◌++◌, Option, Some, None, refl, sym, subst, append_assoc, append-nil}
use Rattle.std.{proofs.lemmas.Bool.ltb-true, specs.Prelude.◌==◌, specs.Prelude.if◌then◌else◌, specs.Prelude.IsTrue, specs.declared.result.Result.Result}
use Rattle.std.specs.declared.result.Result.TheVariants.{Ok, Err}
use Rattle.cci_codec.specs.dcd_base.specs.declared.{capacity.Extent.Extent, faults.PayloadFault.PayloadFault as ManagerFault, faults.PayloadFault.PayloadFault as HostFault, ids.HostId.HostId}
use Rattle.cci_codec.specs.dcd_base.specs.declared.steps.Actor.{Actor}
use Rattle.extent_list.specs.{dcd_codes.specs.declared.rules.Rule.Rule, media_map.specs.region_config.specs.Configurations.Configuration}
use Rattle.fm_payloads.specs.{ManagerPayloads.manager_request, declared.requests.FmRequest.FmRequest}
use Rattle.host_payloads.specs.{HostPayloads.host_request, declared.requests.HostRequest.HostRequest}
use Rattle.journal_core.{proofs.EachSteps.Each-push, specs.Entries.EachFrom, specs.Entries.effects, specs.Entries.fits, specs.declared.acts.Act.Act, specs.declared.entries.Entry.Entry}
use Rattle.journal_core.specs.declared.outcome.{Effect.Effect, HeldKind.HeldKind}
use Rattle.device_rules.specs.Answers.{dropped, effects_with, host_outcome, host_result, host_rule, manager_outcome, manager_result, manager_rule, scrubbed, unless, zeroes}
use Rattle.device_rules.specs.{Legal.Legal, Legal.Meets, Legal.right_answer, Outcomes.Outcome, Outcomes.effects_of, ResponseOutcomes.unhold, Views.View, Views.view_of}

-- ---- one more entry

kept_from : (c : Configuration) (P : List Entry → Type 0) → ((before : List Entry) (e : Entry) → Legal c before → P before → Meets c before e → P (before ++ e ∷ [])) →
    (before journal : List Entry) → Legal c before → P before → EachFrom before (Meets c) journal → P (before ++ journal)
kept_from c P step before [] legal p all = subst P (sym (append-nil before)) p
kept_from c P step before (e ∷ journal) legal p all =
    subst P (append_assoc before (e ∷ []) journal)
    (kept_from c P step (before ++ e ∷ []) journal (Each-push (Meets c) before e legal all.0) (step before e legal p all.0) all.1)

-- What holds at first, and after each legal step where it held before, holds of every legal journal.
pub by_steps : (c : Configuration) (P : List Entry → Type 0) → P [] →
    ((before : List Entry) (e : Entry) → Legal c before → P before → Meets c before e → P (before ++ e ∷ [])) →
    (journal : List Entry) → Legal c journal → P journal
by_steps c P first step journal legal = kept_from c P step [] journal tt first legal

-- ---- what a step may do

-- What holds of the effects of each kind of step: of none, of a refusal that ends a held list, of a host's and the manager's
-- command that breaks no rule, and of a scrub.
pub record Cases (c : Configuration) (before : List Entry) (R : List Effect → Type 0) : Type 0 where
  pub nothing : R []
  pub refused : (h : HostId) (kind : HeldKind) (xs : List Extent) → R (unhold h kind xs)
  pub host : (h : HostId) (q : HostRequest) → h < c.hosts → host_rule c h (view_of c h before) q ≡ None →
      R (effects_of c (effects before) (host_outcome c h (view_of c h before) q))
  pub manager : (q : FmRequest) → manager_rule c (effects before) (λ h. view_of c h before) q ≡ None →
      R (effects_of c (effects before) (manager_outcome c (effects before) (λ h. view_of c h before) q))
  pub scrub : (n : ℕ) → R (zeroes c (scrubbed c (effects before) n))

module _ (c : Configuration) (before : List Entry) (R : List Effect → Type 0) (cases : Cases c before R) where
  by_rule : (rule : Option Rule) (o : Outcome) (refused : List Effect) → (rule ≡ None → R (effects_of c (effects before) o)) → R refused →
      R (effects_with c (effects before) refused (unless rule o))
  by_rule None o refused fine broken = fine refl
  by_rule (Some rule) o refused fine broken = broken

  dropped_case : (h : HostId) (v : View) (opcode : ℕ) → R (dropped h v opcode)
  dropped_case h v opcode = by (opcode == 0x4802) (opcode == 0x4803)
    where
      by : (a b : Bool) → R (if a then unhold h HeldKind.Responses v.responses else if b then unhold h HeldKind.Releases v.releases else [])
      by true b = cases.refused h HeldKind.Responses v.responses
      by false true = cases.refused h HeldKind.Releases v.releases
      by false false = cases.nothing

  host_case : (h : HostId) → h < c.hosts → (opcode : ℕ) (result : Result HostRequest HostFault) →
      R (effects_with c (effects before) (dropped h (view_of c h before) opcode) (host_result c h (view_of c h before) result))
  host_case h known opcode (Ok q) = by_rule (host_rule c h (view_of c h before) q) (host_outcome c h (view_of c h before) q) (dropped h (view_of c h before) opcode)
      (cases.host h q known) (dropped_case h (view_of c h before) opcode)
  host_case h known opcode (Err fault) = dropped_case h (view_of c h before) opcode

  manager_case : (result : Result FmRequest ManagerFault) → R (effects_with c (effects before) [] (manager_result c before result))
  manager_case (Ok q) = by_rule (manager_rule c (effects before) (λ h. view_of c h before) q) (manager_outcome c (effects before) (λ h. view_of c h before) q) [] (cases.manager q) cases.nothing
  manager_case (Err fault) = cases.nothing

  pub answer_case : (actor : Actor) (act : Act) → IsTrue (fits c.hosts actor act) → R (right_answer c before actor act).1
  answer_case (Actor.Host h) (Act.Command q) fit = host_case h (ltb-true h c.hosts fit) q.opcode (host_request q.opcode q.payload)
  answer_case (Actor.Host h) (Act.Load d) fit = cases.nothing
  answer_case (Actor.Host h) (Act.Store d value) fit = cases.nothing
  answer_case (Actor.Host h) (Act.Scrub n) fit = cases.nothing
  answer_case Actor.Manager (Act.Command q) fit = manager_case (manager_request q.opcode q.payload)
  answer_case Actor.Manager (Act.Load d) fit = cases.nothing
  answer_case Actor.Manager (Act.Store d value) fit = cases.nothing
  answer_case Actor.Manager (Act.Scrub n) fit = cases.nothing
  answer_case Actor.Sanitizer (Act.Scrub n) fit = cases.scrub n
  answer_case Actor.Sanitizer (Act.Command q) fit = cases.nothing
  answer_case Actor.Sanitizer (Act.Load d) fit = cases.nothing
  answer_case Actor.Sanitizer (Act.Store d value) fit = cases.nothing

  -- so of the effects of an entry that meets what is asked
  pub step_case : (e : Entry) → Meets c before e → R e.effects
  step_case e meets = subst R (sym meets.effects) (answer_case e.actor e.act meets.allowed)
