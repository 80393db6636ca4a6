use Rattle.std.proofs.{Common.ap, Common.◌∙◌, Common.arith, Common.◌≡◌, Common.◌+◌, Common.suc, Common.drop, Math.Seq.drop-length}
use Rattle.journal_check.proofs.Reading.{found_behind, none_behind}
use Rattle.journal_check.proofs.claims.behind.Goals as goal

pub returns-in-Some : goal.returns-in-Some
returns-in-Some c =
    let place : c.in-Some.at + 1 ≡ suc c.in-Some.at = omega arith in
    c.split_at.ensures.back ∙ ap (λ n. drop n c.args.bytes.now) place
    ∙ found_behind c.args.mark c.args.bytes.now c.in-Some.at c.in-Some.ensures.0.high (λ j less its. c.in-Some.ensures.0.before j (omega arith) less its) c.in-Some.ensures.1

pub returns-in-None : goal.returns-in-None
returns-in-None c =
    c.split_at-in-None.ensures.back ∙ drop-length c.args.bytes.now ∙ none_behind c.args.mark c.args.bytes.now (λ j less its. c.in-None.ensures j (omega arith) less its)
