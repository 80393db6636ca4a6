use Rattle.std.proofs.{Common.sym, Common.ap, Common.◌∙◌, Common.length, lemmas.List.nil_from_length, lemmas.Bool.eqb-true}
use Rattle.device_plain.{specs.Devices.Plain, proofs.Merged.control_rises, proofs.Merged.without_accesses}
use Rattle.device_plain.proofs.device.Device.commands.Goals as goal

pub returns-then-is_empty-clause-all : goal.returns-then-is_empty-clause-all
returns-then-is_empty-clause-all c =
    let in_it = c.self.inside in
    c.lend.ensures ∙ c.entries.ensures.value
    ∙ sym (without_accesses in_it.control.entries in_it.accesses.items
    (sym c.as_slice.ensures.value ∙ nil_from_length c.as_slice.result.now (eqb-true (length c.as_slice.result.now) 0 (sym c.if-is_empty.ensures)))
    (control_rises in_it.control.config in_it.control.entries in_it.accesses.items in_it.words in_it.since c.self.invariant))
    ∙ ap (λ (d : Plain). d.journal) c.self.view_is
