use Rattle.std.proofs.{Common.◌≡◌, Common.Ok, Common.length, Common.sym, Common.ap, Common.◌∙◌, Common.arith, lemmas.List.length_push, lemmas.Result.err_from_is_err_and}
use Rattle.std.specs.Prelude.{vec_len}
use Rattle.text_lines.specs.Unread.{Ahead}
use Rattle.script_text.{specs.Heads.region_ahead, proofs.LineLoops.regions_end, proofs.LineLoops.regions_fail, proofs.LineLoops.regions_go_on}
use Rattle.script_text.proofs.configs.fill_regions.Goals as goal

pub returns-in_err-region-clause-value : goal.returns-in_err-region-clause-value
returns-in_err-region-clause-value c =
    let size : length c.loop-words.regions.items ≡ vec_len c.loop-words.regions = omega (arith, c.loop-words.regions.ok) in
    let p = err_from_is_err_and c.from_residual.result c.from_residual.ensures.1 in
    rw (p.1, p.2) (λ real.
    regions_fail (length c.loop-words.regions.items) c.loop-words.regions.items c.in-Some.words c.loop-words.lines.lines c.next_if.new.lines.lines _ _ c.in-Some.ensures.0 c.in-Some.ensures.1
    (ap (λ n. region_ahead n c.in-Some.words) size ∙ rw c.len.ensures at c.in_err-region.ensures.value real) c.loop-words.invariant.read)

pub loop-words-preserved : goal.loop-words-preserved
loop-words-preserved c =
    let size : length c.loop-words.regions.items ≡ vec_len c.loop-words.regions = omega (arith, c.loop-words.regions.ok) in
    let pushed = c.in_ok-push.ensures.items in
    let more = length_push c.loop-words.regions.items c.in_ok-region.region in
    record {
      few = omega (arith, ap length pushed, more, size, c.in_ok-region.ensures.small, c.len.ensures);
      end = c.in-Some.ensures.2 ∙ c.loop-words.invariant.end;
      read = regions_go_on (length c.loop-words.regions.items) _ c.loop-words.regions.items _ c.in-Some.words c.loop-words.lines.lines c.next_if.new.lines.lines c.in_ok-region.region _ c.in-Some.ensures.0 c.in-Some.ensures.1
          (ap (λ n. region_ahead n c.in-Some.words) size ∙ rw c.len.ensures at c.in_ok-region.ensures.value) (omega (arith, ap length pushed, more)) pushed c.loop-words.invariant.read;
    }

pub returns-clause-value : goal.returns-clause-value
returns-clause-value c =
    regions_end (length c.loop-words.regions.items) c.loop-words.regions.items c.loop-words.lines.lines _ c.in_default.ensures.0 c.loop-words.invariant.read
    ∙ ap (λ (a : Ahead). Ok (c.loop-words.regions.items, a.lines)) (sym c.in_default.ensures.1)
