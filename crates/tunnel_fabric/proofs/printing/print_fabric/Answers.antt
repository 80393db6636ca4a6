use Rattle.std.proofs.lemmas.Result.{err_from_is_err_and}
use Rattle.dcd_base.proofs.Passing.{passes_both, passes_front, risen_before}
use Rattle.tunnel_fabric.specs.Printing.{devices_text}
use Rattle.tunnel_fabric.proofs.printing.print_fabric.Goals as goal

pub returns-clause-whole : goal.returns-clause-whole
returns-clause-whole g c = passes_both c.in_ok-write_all.ensures.whole c.in_ok-print_devices.ensures.whole

-- A write failed in the replies.
pub returns-in_err-write_all-clause-front : goal.returns-in_err-write_all-clause-front
returns-in_err-write_all-clause-front g c =
    let p = err_from_is_err_and c.from_residual.result c.from_residual.ensures.1 in
    rw p.1 (passes_front (devices_text c.args.devices.now) c.in_err-write_all.ensures.front.1)

-- A write failed behind them.
pub returns-in_err-print_devices-clause-front : goal.returns-in_err-print_devices-clause-front
returns-in_err-print_devices-clause-front g c =
    let p = err_from_is_err_and c.from_residual-in_err-print_devices.result c.from_residual-in_err-print_devices.ensures.1 in
    let left = c.in_err-print_devices.ensures.front in
    rw p.1 (left.0, passes_both c.in_ok-write_all.ensures.whole left.1)

pub returns-in_err-print_devices-clause-failed : goal.returns-in_err-print_devices-clause-failed
returns-in_err-print_devices-clause-failed g c =
    let p = err_from_is_err_and c.from_residual-in_err-print_devices.result c.from_residual-in_err-print_devices.ensures.1 in
    rw p.1 (risen_before c.write_all.ensures.never_falls c.in_err-print_devices.ensures.failed)
