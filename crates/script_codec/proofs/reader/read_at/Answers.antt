use Rattle.std.proofs.{Common.◌-◌, Common.arith, Common.rules, Common.◌∙◌, lemmas.Result.err_from_is_err_and}
use Rattle.script_codec.proofs.{Lists.no_kind, Lists.at_end, Lists.bad_line, Lists.too_many, NextLines.takes_at}
use Rattle.script_codec.proofs.reader.read_at.Goals as goal

pub returns-in_err-kind-clause-next : goal.returns-in_err-kind-clause-next
returns-in_err-kind-clause-next c =
    let p = err_from_is_err_and c.from_residual.result c.from_residual.ensures.1 in
    rw (p.1, p.2) (λ real. no_kind c.args.left c.args.hosts c.args.lanes c.args.bytes.now c.args.at _ (c.in_err-kind.ensures.value real))

pub returns-in_err-end_at-clause-next : goal.returns-in_err-end_at-clause-next
returns-in_err-end_at-clause-next c =
    let p = err_from_is_err_and c.from_residual-in_err-end_at.result c.from_residual-in_err-end_at.ensures.1 in
    rw (p.1, p.2) (λ real. at_end c.args.left c.args.hosts c.args.lanes c.args.bytes.now c.args.at (c.in_ok-kind.kind, c.in_ok-kind.next) c.in_ok-kind.ensures.value c.if-kind-eq0.true ∙ c.in_err-end_at.ensures.value real)

pub returns-then-kind-eq0-clause-next : goal.returns-then-kind-eq0-clause-next
returns-then-kind-eq0-clause-next c = at_end c.args.left c.args.hosts c.args.lanes c.args.bytes.now c.args.at (c.in_ok-kind.kind, c.in_ok-kind.next) c.in_ok-kind.ensures.value c.if-kind-eq0.true ∙ c.in_ok-end_at.ensures.value

pub returns-then-left-eq0-clause-next : goal.returns-then-left-eq0-clause-next
returns-then-left-eq0-clause-next c = λ real. too_many c.args.left c.args.hosts c.args.lanes c.args.bytes.now c.args.at (c.in_ok-kind.kind, c.in_ok-kind.next) c.if-left-eq0.true c.in_ok-kind.ensures.value (search rules)

pub returns-in_err-next-clause-next : goal.returns-in_err-next-clause-next
returns-in_err-next-clause-next c =
    let p = err_from_is_err_and c.from_residual-in_err-next.result c.from_residual-in_err-next.ensures.1 in
    rw (p.1, p.2) (λ real. bad_line c.args.left (c.args.left - 1) c.args.hosts c.args.lanes c.args.bytes.now c.args.at (c.in_ok-kind.kind, c.in_ok-kind.next) _ (omega (arith, c.if-left-eq0.false)) c.in_ok-kind.ensures.value (search rules) (c.in_err-next.ensures.value real))

pub returns-clause-next : goal.returns-clause-next
returns-clause-next c = takes_at c.args.left c.args.hosts c.args.lanes c.args.bytes.now (λ i. omega (arith, c.type_inv.bytes i)) c.args.at (c.in_ok-kind.kind, c.in_ok-kind.next) (c.fill_line.new.line, c.in_ok-next.next) (omega (arith, c.if-left-eq0.false)) c.in_ok-kind.ensures.value (search rules) c.in_ok-next.ensures.value c.in_ok-next.ensures.within
