-- Over journals that are alike a plan is the same, and has the same fault.
use Rattle.std.proofs.Common.{◌≡◌, ℕ, ◌++◌, List, [], ◌∷◌, length, Option, Some, None, refl, ap, subst, ◌∙◌}
use Rattle.std.specs.{Prelude.◌==◌, Prelude.if◌then◌else◌, Prelude.nat_lt, Prelude.option_and_then, Prelude.option_map, Prelude.is_some, Prelude.slice_get, Prelude.take, Result.result_err}
use Rattle.std.specs.declared.result.Result.{Result, TheVariants.Ok, TheVariants.Err}
use Rattle.dcd_base.specs.{Words.◌or◌, declared.steps.Actor.Actor, declared.faults.PayloadFault.PayloadFault}
use Rattle.region_config.specs.Configurations.{Configuration}
use Rattle.journal_core.specs.{Entries.effects, declared.acts.Act.Act, declared.entries.Entry.Entry, declared.outcome.Effect.Effect}
use Rattle.fm_payloads.specs.{declared.requests.FmRequest.FmRequest, ManagerPayloads.manager_request}
use Rattle.isolation_laws.specs.device_rules.proofs.Answered.{view_same}
use Rattle.isolation_laws.specs.device_rules.specs.Answers.{broken, broken_host, manager_outcome, manager_result, manager_rule, unless}
use Rattle.plan_rules.{proofs.AlikeSteps.alike_stepped, specs.Holding.Step, specs.Holding.gain, specs.Holding.stepped, specs.PlanAlike.PlanAlike, specs.declared.demands.Demand.Demand}
use Rattle.plan_rules.specs.declared.{demands.Demands.Demands, faults.PlanFault.PlanFault}
use Rattle.plan_rules.specs.Listing.{added, gained, gaining, losing, planned, prepared, ready, offer_taken, zeroing}
use Rattle.plan_rules.specs.Planning.{broken_at, broken_by, lowest_below, free_in, is_open, named_fault, need_in, plan_fault, refused_in, short_fault}

module _ (c : Configuration) where
  -- ---- the list

  prepared_same : (a b : List Entry) (q : Demands) → PlanAlike a b → prepared c a q ≡ prepared c b q
  prepared_same a b q alike = λ i. losing c (alike.past i) q ++ zeroing c (lost i)
    where
      lost : effects (stepped c a (losing c (effects a) q)) ≡ effects (stepped c b (losing c (effects b) q))
      lost = ap (λ acts. effects (stepped c a acts)) (λ i. losing c (alike.past i) q) ∙ (alike_stepped c a b (losing c (effects b) q) alike).past

  ready_alike : (a b : List Entry) (q : Demands) → PlanAlike a b → PlanAlike (ready c a q) (ready c b q)
  ready_alike a b q alike = subst (λ acts. PlanAlike (ready c a q) (stepped c b acts)) (prepared_same a b q alike) (alike_stepped c a b (prepared c a q) alike)

  gained_same : (past : List Effect) (a b : List Entry) (x : Demand) → PlanAlike a b → gained c past a x ≡ gained c past b x
  gained_same past a b x alike = λ i. if gain c past x == 0 then []
      else added c past x ∷ offer_taken x.host ((alike_stepped c a b (added c past x ∷ []) alike).past i) ∷ []

  gaining_more : (past : List Effect) (a b : List Entry) (x : Demand) (xs : List Demand) → PlanAlike a b →
      gaining c past (stepped c a (gained c past a x)) xs ≡ gaining c past (stepped c b (gained c past a x)) xs →
      gaining c past a (x ∷ xs) ≡ gaining c past b (x ∷ xs)
  gaining_more past a b x xs alike rest = ap (λ more. gained c past a x ++ more) rest
      ∙ ap (λ acts. acts ++ gaining c past (stepped c b acts) xs) (gained_same past a b x alike)

  gaining_same : (past : List Effect) (a b : List Entry) (xs : List Demand) → PlanAlike a b → gaining c past a xs ≡ gaining c past b xs
  gaining_same past a b [] alike = refl
  gaining_same past a b (x ∷ xs) alike =
      gaining_more past a b x xs alike (gaining_same past (stepped c a (gained c past a x)) (stepped c b (gained c past a x)) xs (alike_stepped c a b (gained c past a x) alike))

  pub planned_same : (a b : List Entry) (q : Demands) → PlanAlike a b → planned c a q ≡ planned c b q
  planned_same a b q alike = λ i. prepared_same a b q alike i ++ rest i
    where
      rest : gaining c (effects a) (ready c a q) q.demands ≡ gaining c (effects b) (ready c b q) q.demands
      rest = gaining_same (effects a) (ready c a q) (ready c b q) q.demands (ready_alike a b q alike)
          ∙ (λ i. gaining c (alike.past i) (ready c b q) q.demands)

  -- ---- the fault

  result_same : (a b : List Entry) (asked : Result FmRequest PayloadFault) → PlanAlike a b → manager_result c a asked ≡ manager_result c b asked
  result_same a b (Ok request) alike = λ i. unless (manager_rule c (alike.past i) (λ h. view_same c a b alike.past alike.changes h i) request)
      (manager_outcome c (alike.past i) (λ h. view_same c a b alike.past alike.changes h i) request)
  result_same a b (Err fault) alike = refl

  pub broken_same : (a b : List Entry) (actor : Actor) (act : Act) → PlanAlike a b → broken c a actor act ≡ broken c b actor act
  broken_same a b (Actor.Host h) act alike = λ i. broken_host c h (view_same c a b alike.past alike.changes h i) act
  broken_same a b Actor.Manager (Act.Command q) alike = λ i. result_err (result_same a b (manager_request q.opcode q.payload) alike i)
  broken_same a b Actor.Manager (Act.Load d) alike = refl
  broken_same a b Actor.Manager (Act.Store d value) alike = refl
  broken_same a b Actor.Manager (Act.Scrub n) alike = refl
  broken_same a b Actor.Sanitizer act alike = refl

  broken_by_same : (a b : List Entry) (s : Option Step) → PlanAlike a b → broken_by c a s ≡ broken_by c b s
  broken_by_same a b None alike = refl
  broken_by_same a b (Some s) alike = broken_same a b s.0 s.1 alike

  pub refused_same : (a b : List Entry) (acts : List Step) → PlanAlike a b → refused_in c a acts ≡ refused_in c b acts
  refused_same a b acts alike = λ j. option_and_then (λ i. option_map (PlanFault.Refused i) (at i j)) (lowest_below (λ i. is_some (at i j)) (length acts))
    where
      at : (i : ℕ) → broken_at c a acts i ≡ broken_at c b acts i
      at i = broken_by_same (stepped c a (take i acts)) (stepped c b (take i acts)) (slice_get acts i) (alike_stepped c a b (take i acts) alike)

  short_same : (a b : List Entry) (q : Demands) → PlanAlike a b → short_fault c a q ≡ short_fault c b q
  short_same a b q alike = λ i.
      option_map (λ r. PlanFault.Short r (need_in c (alike.past i) q r) (free_in c (free i) r))
      (lowest_below (λ r. nat_lt (free_in c (free i) r) (need_in c (alike.past i) q r)) (length c.regions))
    where
      free : effects (ready c a q) ≡ effects (ready c b q)
      free = (ready_alike a b q alike).past

  pub plan_fault_same : (a b : List Entry) (q : Demands) → PlanAlike a b → plan_fault c a q ≡ plan_fault c b q
  plan_fault_same a b q alike = λ i.
      named_fault c q
      or option_map PlanFault.Open (lowest_below (is_open (alike.past i) q) c.hosts)
      or short_same a b q alike i
      or refused i
    where
      refused : refused_in c a (planned c a q) ≡ refused_in c b (planned c b q)
      refused = refused_same a b (planned c a q) alike ∙ ap (refused_in c b) (planned_same a b q alike)
