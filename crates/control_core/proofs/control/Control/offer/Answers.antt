use Rattle.std.{proofs.Common.◌≡◌, proofs.Common.◌<◌, proofs.Common.List, proofs.Common.length, proofs.Common.Some, proofs.Common.sym, proofs.Common.subst, specs.Prelude.slice_get}
use Rattle.cci_codec.specs.dcd_base.specs.declared.capacity.Extent.{Extent}
use Rattle.journal_core.specs.Entries.{effects}
use Rattle.device_commands.specs.device_rules.specs.Hosts.{offers_of}
use Rattle.control_core.{specs.Steps.Controlled, proofs.Entering.past_held, proofs.Reading.offers_told}
use Rattle.control_core.proofs.control.Control.offer.Goals as goal

pub offer-requires-clause-index : goal.offer-requires-clause-index
offer-requires-clause-index c =
    let live = c.self.inside.live in
    let host = subst (λ (d : Controlled). c.args.host < d.config.hosts) (sym c.self.view_is) c.requires.host in
    let below = subst (λ (d : Controlled). c.args.index < length (offers_of c.args.host (effects d.entries))) (sym c.self.view_is) c.requires.index in
    subst (λ (offers : List (List Extent)). c.args.index < length offers) (sym (offers_told live.config c.self.inside.entries.entries live.state c.self.invariant.kept c.args.host host)) below

pub returns : goal.returns
returns c = subst (λ (d : Controlled). slice_get (offers_of c.args.host (effects d.entries)) c.args.index ≡ Some c.offer.result.now) c.self.view_is
    (c.offer.ensures c.self.inside.entries.entries (past_held c.self.inside.live.config c.self.inside.entries.entries c.self.inside.live.state c.self.invariant))
