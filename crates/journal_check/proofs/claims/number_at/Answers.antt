use Rattle.std.proofs.Common.{◌≡◌, ◌+◌, ◌-◌, ◌*◌, min, get_or, drop, ℕ, sym, ap, ◌∙◌, arith}
use Rattle.std.proofs.lemmas.{Bool.ne_eqb, List.drop_more}
use Rattle.journal_check.{specs.Claims.first_word, proofs.Reading.number_after, proofs.Reading.one_digit}
use Rattle.journal_check.proofs.claims.number_at.Goals as goal

pub loop-byte-preserved : goal.loop-byte-preserved
loop-byte-preserved c =
    let bytes = c.args.bytes.now in
    let i = c.loop-byte.byte-index in
    let byte : ℕ = get_or bytes i 0 in
    let is : c.min-number.result ≡ min 65537 (10 * c.loop-byte.number + (byte - 48)) = omega (arith, c.min-number.ensures, c.from.ensures, c.saturating_sub.ensures) in
    record {
      few = omega (arith, is);
      value = ap (λ n. min 65537 (number_after n (first_word (drop (i + 1) bytes)))) is
          ∙ one_digit c.loop-byte.number byte (drop (i + 1) bytes) (ne_eqb byte 32 c.if-byte-eq32.false)
          ∙ ap (λ xs. min 65537 (number_after c.loop-byte.number (first_word xs))) (sym (drop_more bytes i 0 (omega arith)))
          ∙ c.loop-byte.invariant.value;
    }
