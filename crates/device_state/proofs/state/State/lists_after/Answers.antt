use Rattle.std.{proofs.Common.◌∙◌, proofs.Common.ap, proofs.Common.subst, proofs.Common.sym, specs.Prelude.fold}
use Rattle.extent_list.specs.HostLists.{Lists}
use Rattle.device_state.{specs.EnteredLists.OwnFits, specs.EnteredLists.lists_by, specs.EnteredLists.lists_of, specs.declared.parts.HostPart.HostPart, proofs.OwnEffects.own_fits}
use Rattle.device_state.proofs.state.State.lists_after.Goals as goal

pub enter_all_in-requires-clause-fits : goal.enter_all_in-requires-clause-fits
enter_all_in-requires-clause-fits c =
    let conf = c.args.config.now in
    let h = c.args.host in
    let stands = c.in_ok-stand_as.ensures ∙ ap (λ (p : HostPart). p.lists) c.part.ensures in
    subst (λ (l : Lists). OwnFits conf h l c.args.effects.now) (sym stands) (own_fits conf (lists_of c.args.self.now) 1 h c.args.effects.now c.requires.fits)

pub returns : goal.returns
returns c =
    let conf = c.args.config.now in
    let h = c.args.host in
    c.enter_all_in.ensures ∙ ap (λ (l : Lists). fold (lists_by conf h) l c.args.effects.now) (c.in_ok-stand_as.ensures ∙ ap (λ (p : HostPart). p.lists) c.part.ensures)
