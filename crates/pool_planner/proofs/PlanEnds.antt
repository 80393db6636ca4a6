-- What a plan answers, by what was found on the way.
use Rattle.std.proofs.Common.{◌≡◌, List, [], ◌++◌, Option, Some, None, sym, ap, subst, ◌∙◌}
use Rattle.std.specs.{Prelude.IfErr, Prelude.IfOk, Prelude.option_map, declared.result.Result.Result, declared.result.Result.TheVariants.Ok, declared.result.Result.TheVariants.Err}
use Rattle.dcd_base.specs.Words.{◌or◌}
use Rattle.region_config.specs.Configurations.{Configuration}
use Rattle.journal_core.specs.{Entries.effects, declared.entries.Entry.Entry, declared.outcome.Effect.Effect}
use Rattle.plan_rules.{proofs.AlikePlans.plan_fault_same, proofs.AlikePlans.planned_same, proofs.Succeeding.all_succeed, specs.Holding.Step, specs.Holding.stepped}
use Rattle.plan_rules.specs.{Listing.gaining, Listing.losing, Listing.planned, Listing.prepared, Listing.zeroing, Meeting.MeetsDemands, PlanAlike.PlanAlike, PlanAlike.replayed}
use Rattle.plan_rules.specs.{WholePlans.PlansMeetDemands, WholePlans.PlansWantRoomOnly, declared.demands.Demands.Demands, declared.faults.PlanFault.PlanFault}
use Rattle.plan_rules.specs.Planning.{AllSucceed, IsOfRoom, IsPlan, is_open, lowest_below, named_fault, plan_fault, refused_in, short_fault}
use Rattle.pool_planner.{proofs.Taking.takes_then, specs.Trials.IsFinished, specs.Trials.IsPrepared, specs.Trials.IsTried, specs.Trials.TriesMore, specs.Trials.short_between}
use Rattle.pool_planner.specs.declared.trial.Trial.{Trial}

pub plan_err : (c : Configuration) (journal : List Entry) (q : Demands) (fault : PlanFault) → plan_fault c journal q ≡ Some fault → IsPlan c journal q (Err fault)
plan_err c journal q (PlanFault.BadDemand i) is = is
plan_err c journal q (PlanFault.BadDead i) is = is
plan_err c journal q (PlanFault.Open h) is = is
plan_err c journal q (PlanFault.Short r need have) is = is
plan_err c journal q (PlanFault.Refused i rule) is = is
plan_err c journal q PlanFault.NoMemory is = tt

module _ (c : Configuration) (journal : List Entry) (q : Demands) where
  abbrev start : List Entry
  start = replayed c journal

  abbrev open_fault : List Effect → Option PlanFault
  open_fault past = option_map PlanFault.Open (lowest_below (is_open past q) c.hosts)

  -- ---- the first faults

  -- ---- the trial

  -- what is lost and zeroed
  pub is_prepared : (fresh lost zeroed : Trial) → PlanAlike start journal → fresh.control.config ≡ c → IsTried c start [] fresh →
      TriesMore fresh lost (losing c (effects journal) q) → TriesMore lost zeroed (zeroing lost.control.config (effects lost.control.entries)) → IsPrepared c journal q zeroed
  is_prepared fresh lost zeroed alike config tried first second = record {
    alike = alike;
    config = all.config ∙ config;
    tried = subst (λ d. IsTried d start (prepared c start q) zeroed) config (all.tried start [] (subst (λ d. IsTried d start [] fresh) (sym config) tried));
  }
    where
      loses : TriesMore fresh lost (losing c (effects start) q)
      loses = subst (λ past. TriesMore fresh lost (losing c past q)) (sym alike.past) first

      left : lost.control.entries ≡ stepped c start (losing c (effects start) q)
      left = loses.entries ∙ (λ i. stepped (config i) (tried.entries i) (losing c (effects start) q))

      zeroes : TriesMore lost zeroed (zeroing c (effects (stepped c start (losing c (effects start) q))))
      zeroes = subst (TriesMore lost zeroed) (λ i. zeroing ((loses.config ∙ config) i) (effects (left i))) second

      all : TriesMore fresh zeroed (prepared c start q)
      all = takes_then loses zeroes

  module _ (before after : Trial) (ready_is : IsPrepared c journal q before) where
    short_start : short_fault c start q ≡ short_between c (effects journal) (effects before.control.entries) q
    short_start = λ i. short_between c (ready_is.alike.past i) (effects (sym ready_is.tried.entries i)) q

    open_start : open_fault (effects start) ≡ open_fault (effects journal)
    open_start = ap open_fault ready_is.alike.past

    pub fault_short : (fault : PlanFault) → named_fault c q ≡ None → open_fault (effects journal) ≡ None →
        short_between c (effects journal) (effects before.control.entries) q ≡ Some fault → plan_fault c journal q ≡ Some fault
    fault_short fault named opened is = sym (plan_fault_same c start journal q ready_is.alike)
        ∙ (λ i. named i or (open_start ∙ opened) i or (short_start ∙ is) i or refused_in c start (planned c start q))

    module _ (gained : TriesMore before after (gaining c (effects journal) before.control.entries q.demands)) where
      whole : IsTried c start (planned c start q) after
      whole = subst (λ d. IsTried d start (planned c start q) after) ready_is.config
          (subst (λ more. IsTried before.control.config start (prepared c start q ++ more) after)
          (λ i. gaining c (sym ready_is.alike.past i) (ready_is.tried.entries i) q.demands)
          (gained.tried start (prepared c start q) (subst (λ d. IsTried d start (prepared c start q) before) (sym ready_is.config) ready_is.tried)))

      pub plan_ends : (result : Result (List Step) PlanFault) → named_fault c q ≡ None → open_fault (effects journal) ≡ None →
          short_between c (effects journal) (effects before.control.entries) q ≡ None → IsFinished after result → IsPlan c journal q result
      plan_ends (Ok acts) named opened short end = (
        sym (plan_fault_same c start journal q ready_is.alike) ∙ (λ i. named i or (open_start ∙ opened) i or (short_start ∙ short) i or (sym whole.refused ∙ end.0) i),
        end.1 ∙ whole.acts_are ∙ planned_same c start journal q ready_is.alike,
      )
      plan_ends (Err fault) named opened short end = plan_err c journal q fault
          (sym (plan_fault_same c start journal q ready_is.alike) ∙ (λ i. named i or (open_start ∙ opened) i or (short_start ∙ short) i or (sym whole.refused ∙ end) i))

pub plan_succeeds : (c : Configuration) (journal : List Entry) (q : Demands) (result : Result (List Step) PlanFault) → IsPlan c journal q result → IfOk result (AllSucceed c journal)
plan_succeeds c journal q (Ok acts) is = subst (AllSucceed c journal) (sym is.1) (all_succeed c journal q is.0)
plan_succeeds c journal q (Err fault) is = tt

pub plan_leaves : (c : Configuration) (journal : List Entry) (q : Demands) (result : Result (List Step) PlanFault) → PlansMeetDemands c journal → IsPlan c journal q result →
    IfOk result (λ acts. MeetsDemands c (effects journal) (effects (stepped c journal acts)) q)
plan_leaves c journal q (Ok acts) meets is = subst (λ steps. MeetsDemands c (effects journal) (effects (stepped c journal steps)) q) (sym is.1) (meets q is.0)
plan_leaves c journal q (Err fault) meets is = tt

pub plan_of_room : (c : Configuration) (journal : List Entry) (q : Demands) (result : Result (List Step) PlanFault) → PlansWantRoomOnly c journal → IsPlan c journal q result → IfErr result IsOfRoom
plan_of_room c journal q (Ok acts) room is = tt
plan_of_room c journal q (Err (PlanFault.Refused i rule)) room is = room q (PlanFault.Refused i rule) is
plan_of_room c journal q (Err (PlanFault.BadDemand i)) room is = tt
plan_of_room c journal q (Err (PlanFault.BadDead i)) room is = tt
plan_of_room c journal q (Err (PlanFault.Open h)) room is = tt
plan_of_room c journal q (Err (PlanFault.Short r need have)) room is = tt
plan_of_room c journal q (Err PlanFault.NoMemory) room is = tt
