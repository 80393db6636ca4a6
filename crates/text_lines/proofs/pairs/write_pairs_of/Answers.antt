use Rattle.std.proofs.Common.{ap, sym, ◌∙◌}
use Rattle.text_lines.{specs.Pairs.pairs_said, proofs.PairLaws.pair_fails, proofs.PairLaws.pairs_behind, proofs.PairLaws.pair_goes_on, proofs.PairLaws.said_all, proofs.PairLaws.said_nothing}
use Rattle.text_lines.proofs.pairs.write_pairs_of.Goals as goal

pub returns-in_default : goal.returns-in_default
returns-in_default c =
    said_nothing c.args.out.now c.loop-rest.out c.loop-rest.out _
    (pair_fails c.loop-rest.out c.split_at.result.0.now c.loop-rest.rest.now _ c.loop-rest-test.true c.split_at.ensures.front (sym c.pair_of.ensures ∙ c.in_default.is) c.loop-rest.invariant)

pub loop-rest-preserved : goal.loop-rest-preserved
loop-rest-preserved c =
    ap (λ out. pairs_behind out (pairs_said c.split_at.result.1.now)) c.in_ok-push.ensures.pushed
    ∙ pair_goes_on c.loop-rest.out c.split_at.result.0.now c.split_at.result.1.now c.loop-rest.rest.now c.in-Some.byte _ c.loop-rest-test.true c.split_at.ensures.front c.split_at.ensures.back (sym c.pair_of.ensures ∙ c.in-Some.is) c.loop-rest.invariant

pub returns : goal.returns
returns c = rw c.is_empty.ensures (said_all c.args.out.now c.loop-rest.out c.loop-rest.rest.now (pairs_said c.args.word.now) c.loop-rest-test.false c.loop-rest.invariant)
