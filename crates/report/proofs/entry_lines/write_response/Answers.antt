use Rattle.std.proofs.Common.{[], ◌∷◌, refl, ap, ◌∙◌}
use Rattle.journal_core.specs.Seen.{seen_response}
use Rattle.report.proofs.Parts.{prints_as, prints_then, response_digits}
use Rattle.report.proofs.entry_lines.write_response.Goals as goal

pub returns : goal.returns
returns g c =
    let digits = response_digits (seen_response c.args.response.now) c.as_slice.result.now c.args.response.now.payload.now (10 ∷ [])
    (c.as_slice.ensures ∙ c.response_head-head.ensures) refl in
    prints_as (prints_then c.put.ensures (prints_then c.write_hex.ensures (prints_then c.write_hex-2.ensures c.end_line.ensures)))
    (ap (λ ys. 32 ∷ ys) digits)
