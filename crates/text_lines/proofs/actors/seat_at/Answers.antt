use Rattle.std.proofs.{Common.ap, Common.◌∙◌, Common.drop, lemmas.List.drop-drop}
use Rattle.text_lines.specs.{Numbers.digits_said, Numbers.under, Actors.host_said, Actors.seat_of_parts}
use Rattle.text_lines.proofs.actors.seat_at.Goals as goal

pub returns : goal.returns
returns c =
    let host = c.host_below.ensures ∙ ap (λ w. under c.args.frame.hosts (host_said w)) c.split_at.ensures.front in
    let lane = c.lane_below.ensures ∙ ap (λ w. under c.args.frame.lanes (digits_said 10 w)) (c.split_at-2.ensures.back ∙ ap (drop 1) c.split_at.ensures.back ∙ drop-drop 1 c.args.place c.args.word.now) in
    c.seat_of.ensures ∙ (λ i. seat_of_parts (host i) (lane i))
