use Rattle.std.proofs.{Common.[], Common.◌∷◌, Common.◌++◌, Common.sym, Common.subst, Common.ap, Common.◌∙◌, lemmas.List.Sums.fold_push}
use Rattle.std.specs.Prelude.{IsTrue}
use Rattle.region_config.specs.Configurations.{Configuration}
use Rattle.journal_core.specs.{Entries.fits, declared.entries.Entry.Entry}
use Rattle.device_plain.specs.kept_journal.{specs.Lending.lent, specs.Lending.lent_entry, proofs.Lists.next_has, proofs.Lists.one_more_done}
use Rattle.plan_rules.specs.PlanAlike.{with_act_of}
use Rattle.pool_planner.proofs.TakenAgain.{all_fit}
use Rattle.pool_planner.proofs.replaying.take_all.Goals as goal

pub again-requires : goal.again-requires
again-requires g c =
    let cfg = c.args.control.now.config in
    let e : Entry = lent_entry c.in-Some.entry in
    subst (λ (d : Configuration). IsTrue (fits d.hosts e.actor e.act)) (sym c.loop-entry.invariant.config)
    (next_has (λ (x : Entry). IsTrue (fits cfg.hosts x.actor x.act)) c.loop-entry.invariant.done (g.J.Lender.rest c.loop-entry.journal) (g.J.Lender.rest c.args.journal.now)
    e (ap lent (sym c.in-Some.is) ∙ c.peek.ensures) c.loop-entry.invariant.parts (all_fit cfg (g.J.Lender.rest c.args.journal.now) c.requires.legal))

pub loop-entry-preserved : goal.loop-entry-preserved
loop-entry-preserved g c =
    let cfg = c.args.control.now.config in
    let done = c.loop-entry.invariant.done in
    let e : Entry = lent_entry c.in-Some.entry in
    record {
      done = done ++ e ∷ [];
      config = c.again.ensures.config ∙ c.loop-entry.invariant.config;
      parts = one_more_done done (g.J.Lender.rest c.loop-entry.journal) (g.J.Lender.rest c.skip.new.self) (g.J.Lender.rest c.args.journal.now) e
          (ap lent (sym c.in-Some.is) ∙ c.peek.ensures) c.skip.ensures c.loop-entry.invariant.parts;
      entries = c.in_ok-again.ensures.entries
          ∙ (λ i. with_act_of (c.loop-entry.invariant.config i) (c.loop-entry.invariant.entries i) e)
          ∙ sym (fold_push (with_act_of cfg) [] done e);
    }
