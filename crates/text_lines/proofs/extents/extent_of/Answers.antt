use Rattle.std.proofs.Common.{◌≡◌, ◌+◌, ◌-◌, ◌^◌, take, drop, sym, ap, ◌∙◌}
use Rattle.std.proofs.lemmas.List.{drop-drop}
use Rattle.text_lines.proofs.ExtentLaws.{no_sign, parts_limited}
use Rattle.text_lines.specs.{Extents.after, Extents.before, Extents.extent_of_parts, Extents.extent_said, Extents.limited_extent, Numbers.limited, Numbers.number_said}
use Rattle.text_lines.proofs.extents.extent_of.Goals as goal

pub returns-then-place-word-clause-value : goal.returns-then-place-word-clause-value
returns-then-place-word-clause-value c = sym (ap limited_extent (no_sign c.args.word.now (sym c.place_of-place.ensures.value ∙ c.if-place-word.true)))

pub returns-clause-value : goal.returns-clause-value
unfolding extent_said
returns-clause-value c =
    let place = c.place_of-place.ensures.value in
    let start : c.split_at.result.0.now ≡ before 43 c.args.word.now = c.split_at.ensures.front ∙ ap (λ n. take n c.args.word.now) place in
    let size : c.split_at-2.result.1.now ≡ after 43 c.args.word.now =
    c.split_at-2.ensures.back ∙ ap (drop 1) c.split_at.ensures.back ∙ drop-drop 1 c.place_of-place.result c.args.word.now ∙ ap (λ n. drop (n + 1) c.args.word.now) place in
    c.untagged.ensures.value
    ∙ (λ i. extent_of_parts ((c.number_of.ensures ∙ ap (λ w. limited (2 ^ 64 - 1) (number_said w)) start) i) ((c.number_of-2.ensures ∙ ap (λ w. limited (2 ^ 64 - 1) (number_said w)) size) i))
    ∙ parts_limited (number_said (before 43 c.args.word.now)) (number_said (after 43 c.args.word.now))
