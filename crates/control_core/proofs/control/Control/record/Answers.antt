use Rattle.std.{proofs.Common.◌≡◌, proofs.Common.◌<◌, proofs.Common.List, proofs.Common.length, proofs.Common.Some, proofs.Common.sym, proofs.Common.subst, specs.Prelude.slice_get}
use Rattle.event_records.specs.declared.events.Event.{Event}
use Rattle.journal_core.specs.Entries.{effects}
use Rattle.device_commands.specs.device_rules.specs.Counts.{records_of}
use Rattle.manager_commands.specs.device_state.specs.Updates.{IsOfLog}
use Rattle.control_core.{specs.Steps.Controlled, proofs.Entering.past_held, proofs.Reading.records_told}
use Rattle.control_core.proofs.control.Control.record.Goals as goal

pub record-requires-clause-index : goal.record-requires-clause-index
record-requires-clause-index c =
    let live = c.self.inside.live in
    let known = subst (λ (d : Controlled). IsOfLog d.config.hosts c.args.log) (sym c.self.view_is) c.requires.log in
    let below = subst (λ (d : Controlled). c.args.index < length (records_of c.args.log (effects d.entries))) (sym c.self.view_is) c.requires.index in
    subst (λ (records : List Event). c.args.index < length records) (sym (records_told live.config c.self.inside.entries.entries live.state c.self.invariant.kept c.args.log known)) below

pub returns : goal.returns
returns c = subst (λ (d : Controlled). slice_get (records_of c.args.log (effects d.entries)) c.args.index ≡ Some c.record.result) c.self.view_is
    (c.record.ensures c.self.inside.entries.entries (past_held c.self.inside.live.config c.self.inside.entries.entries c.self.inside.live.state c.self.invariant))
