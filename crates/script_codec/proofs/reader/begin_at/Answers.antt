use Rattle.std.proofs.{Common.arith, Common.refl, lemmas.Result.err_from_is_err_and}
use Rattle.script_codec.proofs.Beginnings.{too_long, head_fails, begins}
use Rattle.script_codec.proofs.reader.begin_at.Goals as goal

pub returns-then-bytes-gt-MOST_BYTES-clause-begun : goal.returns-then-bytes-gt-MOST_BYTES-clause-begun
returns-then-bytes-gt-MOST_BYTES-clause-begun c = λ real. too_long c.args.bytes.now (omega (arith, c.if-bytes-gt-MOST_BYTES.true))

pub returns-in_err-head-clause-begun : goal.returns-in_err-head-clause-begun
returns-in_err-head-clause-begun c =
    let p = err_from_is_err_and c.from_residual.result c.from_residual.ensures.1 in
    rw (p.1, p.2) (λ real. head_fails c.args.bytes.now _ (omega (arith, c.if-bytes-gt-MOST_BYTES.false)) (c.in_err-head.ensures.value real))

pub returns-clause-begun : goal.returns-clause-begun
returns-clause-begun c = begins c.args.bytes.now (λ i. omega (arith, c.type_inv.bytes i)) c.in_ok-head.head c.in_ok-head.place c.in_ok-head.head.config.hosts (omega (arith, c.if-bytes-gt-MOST_BYTES.false)) c.in_ok-head.ensures.value refl
