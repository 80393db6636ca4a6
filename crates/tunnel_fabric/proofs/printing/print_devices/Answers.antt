use Rattle.std.proofs.Common.{rules, ◌≡◌, ℕ, ◌<◌, List, [], length, get_or, sym, ap, ◌∙◌, subst}
use Rattle.std.proofs.lemmas.Result.{err_from_is_err_and}
use Rattle.dcd_base.{specs.Streams.Passes, proofs.Passing.passes_both, proofs.Passing.risen_before}
use Rattle.tunnel_fabric.{specs.Printing.device_lines, proofs.Printed.first_texts, proofs.Printed.texts_all, proofs.Printed.texts_front, proofs.Printed.texts_more}
use Rattle.tunnel_fabric.proofs.printing.print_devices.Goals as goal

pub loop-i-preserved : goal.loop-i-preserved
loop-i-preserved g c =
    let within : c.loop-i.i < length c.args.devices.now = search rules in
    let is : c.index-devices-i.result ≡ get_or c.args.devices.now c.loop-i.i c.index-devices-i.result = search rules in
    let whole : Passes (g.K.Sink.taken c.loop-i.sink) (g.K.Sink.taken c.print_device.new.sink) [] (device_lines (c.loop-i.i, c.index-devices-i.result)) = search rules in
    record {
      passes = subst (λ text. Passes (g.K.Sink.taken c.args.sink.now) (g.K.Sink.taken c.print_device.new.sink) [] text)
          (sym (texts_more c.loop-i.i c.args.devices.now c.index-devices-i.result within is)) (passes_both c.loop-i.invariant.passes whole);
      never_falls = search rules;
    }

-- A write failed in the text of a device.
pub returns-in_err-print_device-clause-front : goal.returns-in_err-print_device-clause-front
returns-in_err-print_device-clause-front g c =
    let p = err_from_is_err_and c.from_residual.result c.from_residual.ensures.1 in
    let within : c.loop-i.i < length c.args.devices.now = search rules in
    let is : c.index-devices-i.result ≡ get_or c.args.devices.now c.loop-i.i c.index-devices-i.result = search rules in
    let left : (rest : List ℕ) × Passes (g.K.Sink.taken c.loop-i.sink) (g.K.Sink.taken c.print_device.new.sink) rest (device_lines (c.loop-i.i, c.index-devices-i.result)) = search rules in
    rw p.1 (texts_front c.loop-i.i c.args.devices.now c.index-devices-i.result within is c.loop-i.invariant.passes left)

pub returns-in_err-print_device-clause-failed : goal.returns-in_err-print_device-clause-failed
returns-in_err-print_device-clause-failed g c =
    let p = err_from_is_err_and c.from_residual.result c.from_residual.ensures.1 in
    rw p.1 (risen_before c.loop-i.invariant.never_falls c.in_err-print_device.ensures.failed)

pub returns-clause-whole : goal.returns-clause-whole
returns-clause-whole g c =
    let all : c.loop-i.i ≡ length c.args.devices.now = search rules in
    subst (λ text. Passes (g.K.Sink.taken c.args.sink.now) (g.K.Sink.taken c.loop-i.sink) [] text)
    (ap (λ n. first_texts n c.args.devices.now) all ∙ texts_all c.args.devices.now) c.loop-i.invariant.passes
