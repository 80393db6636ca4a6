use Rattle.std.{proofs.Common.◌≡◌, proofs.Common.◌∷◌, proofs.Common.[], proofs.Common.List, proofs.Common.ap, proofs.Common.subst, proofs.Common.sym, proofs.Common.◌∙◌, specs.Prelude.OnOk}
use Rattle.dcd_base.specs.declared.capacity.Extent.{Extent}
use Rattle.journal_core.specs.Entries.{effects}
use Rattle.plan_rules.specs.{Holding.Step, Listing.for_some, Listing.removal, Listing.removal_step}
use Rattle.pool_planner.{specs.Trials.TriesMore, proofs.Taking.for_one}
use Rattle.pool_planner.proofs.letting_go.empty_region.Goals as goal

pub returns : goal.returns
returns c =
    let h = c.args.host in
    let r = c.args.region in
    let xs = c.in_ok-extents.extents in
    let one : removal c.args.control.now.config h (effects c.args.control.now.entries) r ≡ removal_step h r xs ∷ [] =
    ap (λ (xs : List Extent). for_some xs (removal_step h r xs)) (sym c.in_ok-extents.ensures.those) ∙ for_one xs (removal_step h r xs) (sym c.is_empty.ensures ∙ c.if-is_empty.false) in
    subst (λ (more : List Step). OnOk c.take.result (TriesMore c.args.trial.now c.take.new.self more)) (ap (λ (s : Step). s ∷ []) c.in_ok-removal_step.ensures ∙ sym one) c.take.ensures
