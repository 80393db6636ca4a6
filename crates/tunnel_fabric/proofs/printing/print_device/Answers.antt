use Rattle.std.proofs.{Common.rules, Common.◌≡◌, Common.ℕ, Common.List, Common.[], Common.subst, lemmas.Result.err_from_is_err_and}
use Rattle.dcd_base.{specs.Streams.Passes, proofs.Passing.passes_both, proofs.Passing.passes_front}
use Rattle.report.specs.Texts.{text}
use Rattle.tunnel_fabric.specs.Printing.{device_head}
use Rattle.tunnel_fabric.proofs.printing.print_device.Goals as goal

-- A write failed in the line before the text.
pub returns-in_err-write_all-clause-front : goal.returns-in_err-write_all-clause-front
returns-in_err-write_all-clause-front g c =
    let p = err_from_is_err_and c.from_residual.result c.from_residual.ensures.1 in
    let piece : c.as_slice.result.now ≡ device_head c.args.number = search rules in
    let left = subst (λ line. (rest : List ℕ) × Passes (g.K.Sink.taken c.args.sink.now) (g.K.Sink.taken c.write_all.new.sink) rest line) piece c.in_err-write_all.ensures.front in
    rw p.1 (passes_front (text c.args.device.now.config c.args.device.now.journal) left.1)

-- A write failed in the text.
pub returns-in_err-print_journal-clause-front : goal.returns-in_err-print_journal-clause-front
returns-in_err-print_journal-clause-front g c =
    let p = err_from_is_err_and c.from_residual-in_err-print_journal.result c.from_residual-in_err-print_journal.ensures.1 in
    let piece : c.as_slice.result.now ≡ device_head c.args.number = search rules in
    let left = c.in_err-print_journal.ensures.front in
    let line = subst (λ line. Passes (g.K.Sink.taken c.args.sink.now) (g.K.Sink.taken c.write_all.new.sink) [] line) piece c.in_ok-write_all.ensures.whole in
    rw p.1 (left.0, passes_both line left.1)
