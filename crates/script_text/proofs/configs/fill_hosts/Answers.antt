use Rattle.std.proofs.Common.{◌≡◌, ◌+◌, ◌*◌, Ok, suc, sym, ap, ◌∙◌, arith}
use Rattle.std.proofs.{Math.Nat.suc-mul, lemmas.Result.err_from_is_err_and}
use Rattle.text_lines.specs.Unread.{Ahead}
use Rattle.script_text.proofs.LineLoops.{hosts_end, hosts_fail, hosts_go_on}
use Rattle.script_text.proofs.configs.fill_hosts.Goals as goal

pub returns-in_err-host_line-clause-value : goal.returns-in_err-host_line-clause-value
returns-in_err-host_line-clause-value c =
    let p = err_from_is_err_and c.from_residual.result c.from_residual.ensures.1 in
    rw (p.1, p.2) (λ real.
    hosts_fail c.args.regions c.loop-words.hosts c.loop-words.bases.items c.in-Some.words c.loop-words.lines.lines c.next_if.new.lines.lines _ _ c.in-Some.ensures.0 c.in-Some.ensures.1
    (c.in_err-host_line.ensures.value real) c.loop-words.invariant.read)

pub loop-words-preserved : goal.loop-words-preserved
loop-words-preserved c =
    let next : suc c.loop-words.hosts ≡ c.loop-words.hosts + 1 = omega arith in
    let times : (c.loop-words.hosts + 1) * c.args.regions ≡ c.loop-words.hosts * c.args.regions + c.args.regions = ap (λ n. n * c.args.regions) (sym next) ∙ suc-mul c.loop-words.hosts c.args.regions in
    record {
      few = omega (arith, c.in_ok-host_line.ensures.small);
      end = c.in-Some.ensures.2 ∙ c.loop-words.invariant.end;
      count = omega (arith, c.in_ok-host_line.ensures.count, c.loop-words.invariant.count, times);
      read = hosts_go_on c.args.regions c.loop-words.hosts c.loop-words.bases.items c.host_line.new.out.items c.in-Some.words c.loop-words.lines.lines c.next_if.new.lines.lines _ c.in-Some.ensures.0 c.in-Some.ensures.1
          c.in_ok-host_line.ensures.value c.loop-words.invariant.read;
    }

pub returns-clause-value : goal.returns-clause-value
returns-clause-value c =
    hosts_end c.args.regions c.loop-words.hosts c.loop-words.bases.items c.loop-words.lines.lines _ c.in_default.ensures.0 c.loop-words.invariant.read
    ∙ ap (λ (a : Ahead). Ok ((c.loop-words.hosts, c.loop-words.bases.items), a.lines)) (sym c.in_default.ensures.1)
