use Rattle.std.{proofs.Common.◌≡◌, proofs.Common.[], proofs.Common.refl, proofs.Common.rules, proofs.Common.subst, proofs.Common.sym, specs.declared.result.Result.Result}
use Rattle.std.specs.declared.result.Result.TheVariants.{Err}
use Rattle.cci_codec.specs.dcd_base.specs.declared.steps.Actor.{Actor}
use Rattle.journal_core.specs.declared.acts.Act.{Act}
use Rattle.extent_list.specs.dcd_codes.specs.declared.refusals.Refusal.{Refusal}
use Rattle.control_core.{specs.Deciding.IsDecidedBy, specs.Managing.Manages, specs.declared.decided.Decided.Decided, proofs.Managed.refused_manager}
use Rattle.control_core.proofs.manager_steps.manager_decided.Goals as goal

pub returns-in-Err-Broken : goal.returns-in-Err-Broken
returns-in-Err-Broken c =
    let cfg = c.args.config.now in
    let q = c.args.request.now in
    let is : c.args.managed ≡ Err (Refusal.Broken c.in-Err-Broken.rule) = search rules in
    let broke = subst (λ (r : Result Decided Refusal). Manages cfg c.args.state.now q r) is c.requires.managed in
    λ before legal kept.
    subst (λ (d : Decided). IsDecidedBy cfg before Actor.Manager (Act.Command q) d) (sym c.only.ensures)
    (refused_manager cfg before q c.in-Err-Broken.rule (broke before legal kept) c.refused.result [] c.refused.ensures refl)
