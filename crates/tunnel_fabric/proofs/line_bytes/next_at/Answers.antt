use Rattle.std.proofs.{Common.◌-◌, Common.arith, Common.rules, Common.◌∙◌, lemmas.Result.err_from_is_err_and}
use Rattle.tunnel_fabric.proofs.FabricLists.{no_fabric_kind, at_fabric_end, bad_fabric_line, one_fabric_line, too_many_fabric_lines}
use Rattle.tunnel_fabric.proofs.line_bytes.next_at.Goals as goal

pub returns-in_err-kind : goal.returns-in_err-kind
returns-in_err-kind c =
    let p = err_from_is_err_and c.from_residual.result c.from_residual.ensures.1 in
    rw (p.1, p.2) (λ real. no_fabric_kind c.args.left c.args.configs.now c.args.bytes.now c.args.at _ (c.in_err-kind.ensures.value real))

pub returns-in_err-end_at : goal.returns-in_err-end_at
returns-in_err-end_at c =
    let p = err_from_is_err_and c.from_residual-in_err-end_at.result c.from_residual-in_err-end_at.ensures.1 in
    rw (p.1, p.2) (λ real. at_fabric_end c.args.left c.args.configs.now c.args.bytes.now c.args.at (c.in_ok-kind.kind, c.in_ok-kind.next) c.in_ok-kind.ensures.value c.if-kind-eq0.true ∙ c.in_err-end_at.ensures real)

pub returns-then-kind-eq0 : goal.returns-then-kind-eq0
returns-then-kind-eq0 c = at_fabric_end c.args.left c.args.configs.now c.args.bytes.now c.args.at (c.in_ok-kind.kind, c.in_ok-kind.next) c.in_ok-kind.ensures.value c.if-kind-eq0.true ∙ c.in_ok-end_at.ensures

pub returns-then-left-eq0 : goal.returns-then-left-eq0
returns-then-left-eq0 c = λ real. too_many_fabric_lines c.args.left c.args.configs.now c.args.bytes.now c.args.at (c.in_ok-kind.kind, c.in_ok-kind.next) c.if-left-eq0.true c.in_ok-kind.ensures.value (search rules)

pub returns-in_err-line : goal.returns-in_err-line
returns-in_err-line c =
    let p = err_from_is_err_and c.from_residual-in_err-line.result c.from_residual-in_err-line.ensures.1 in
    rw (p.1, p.2) (λ real. bad_fabric_line c.args.left (c.args.left - 1) c.args.configs.now c.args.bytes.now c.args.at (c.in_ok-kind.kind, c.in_ok-kind.next) _ (omega (arith, c.if-left-eq0.false)) c.in_ok-kind.ensures.value (search rules) (c.in_err-line.ensures.value real))

pub returns : goal.returns
returns c = record {
  is = one_fabric_line c.args.left (c.args.left - 1) c.args.configs.now c.args.bytes.now c.args.at (c.in_ok-kind.kind, c.in_ok-kind.next) (c.in_ok-line.line, c.in_ok-line.next) (omega (arith, c.if-left-eq0.false)) c.in_ok-kind.ensures.value (search rules) c.in_ok-line.ensures.value;
  some = omega (arith, c.if-left-eq0.false);
  within = c.in_ok-line.ensures.within;
}
