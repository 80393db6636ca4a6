-- From how a part of a plan ends to how the whole ends.
use Rattle.std.proofs.Common.{◌≡◌, ◌≢◌, ℕ, List, Some, None, Ok, Err, refl, sym, ap, subst, ◌∙◌}
use Rattle.std.specs.{Prelude.IfOk, declared.result.Result.Result}
use Rattle.dcd_base.specs.declared.failures.NoMemory.{NoMemory}
use Rattle.region_config.specs.Configurations.{Configuration}
use Rattle.journal_core.specs.{Entries.effects, declared.entries.Entry.Entry}
use Rattle.plan_rules.{proofs.AlikePlans.plan_fault_same, proofs.AlikePlans.planned_same, proofs.AlikeSteps.alike_stepped, proofs.Succeeding.all_succeed, specs.Holding.Step, specs.Holding.stepped}
use Rattle.plan_rules.specs.{Listing.planned, Meeting.MeetsDemands, PlanAlike.PlanAlike, Planning.IsPlan, Planning.plan_fault, declared.demands.Demands.Demands, declared.faults.PlanFault.PlanFault}
use Rattle.pool_planner.specs.{PlanPrinting.plan_text, PlanEnds.IsPlannedEnd, declared.status.PlanStatus.PlanStatus}

-- ---- over a device

module _ (c : Configuration) (entries journal : List Entry) (q : Demands) (alike : PlanAlike entries journal) where
  -- there is a list, and it was taken
  pub list_end : (acts : List Step) → IsPlan c entries q (Ok acts) → MeetsDemands c (effects entries) (effects (stepped c entries acts)) q → (taken : Result (PlanStatus × List ℕ) NoMemory) → IfOk taken (λ e. e.0 ≡ PlanStatus.Done) → IfOk taken (λ e. e.1 ≡ plan_text c journal acts)
      → IfOk taken (λ e. IsPlannedEnd c journal q e.0 e.1)
  list_end acts plan meets (Err failure) done is = tt
  list_end acts plan meets (Ok e) done is =
      let none : plan_fault c journal q ≡ None = sym (plan_fault_same c entries journal q alike) ∙ plan.0 in
      let list : acts ≡ planned c journal q = plan.1 ∙ planned_same c entries journal q alike in
      let leaves : MeetsDemands c (effects journal) (effects (stepped c journal acts)) q =
      subst (λ after. MeetsDemands c (effects journal) after q) (alike_stepped c entries journal acts alike).past
      (subst (λ before. MeetsDemands c before (effects (stepped c entries acts)) q) alike.past meets) in
      subst (λ status. IsPlannedEnd c journal q status e.1) (sym done) (record {
        faultless = none;
        succeeds = all_succeed c journal q none;
        meets = subst (λ steps. MeetsDemands c (effects journal) (effects (stepped c journal steps)) q) list leaves;
        is = is ∙ ap (plan_text c journal) list;
      })

  -- there is none
  pub fault_end : (fault : PlanFault) → fault ≢ PlanFault.NoMemory → IsPlan c entries q (Err fault) → plan_fault c journal q ≡ Some fault
  fault_end PlanFault.NoMemory known plan = absurd (known refl)
  fault_end (PlanFault.BadDemand i) known plan = sym (plan_fault_same c entries journal q alike) ∙ plan
  fault_end (PlanFault.BadDead i) known plan = sym (plan_fault_same c entries journal q alike) ∙ plan
  fault_end (PlanFault.Open h) known plan = sym (plan_fault_same c entries journal q alike) ∙ plan
  fault_end (PlanFault.Short r need have) known plan = sym (plan_fault_same c entries journal q alike) ∙ plan
  fault_end (PlanFault.Refused i rule) known plan = sym (plan_fault_same c entries journal q alike) ∙ plan

-- ---- over a script
