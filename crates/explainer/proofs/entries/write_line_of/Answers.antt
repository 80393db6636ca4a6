use Rattle.std.{proofs.Common.◌≡◌, proofs.Common.Some, proofs.Common.sym, proofs.Common.ap, proofs.Common.subst, proofs.Common.◌∙◌, specs.Option.option_copied}
use Rattle.std.specs.Prelude.{IsTrue, slice_get}
use Rattle.script_text.specs.script_codec.specs.{Scripts.are_lanes, Scripts.is_sound_line, Writing.has_short_message}
use Rattle.explainer.proofs.Lists.{member_has}
use Rattle.explainer.proofs.entries.write_line_of.Goals as goal

pub write_known_line-requires-clause-lanes : goal.write_known_line-requires-clause-lanes
write_known_line-requires-clause-lanes c = subst (λ frame. IsTrue (are_lanes frame.version frame.lanes)) (sym c.frame_of-frame.ensures) c.requires.script.versioned

pub write_known_line-requires-clause-sound : goal.write_known_line-requires-clause-sound
write_known_line-requires-clause-sound c =
    let s = c.args.script.now in
    let line = c.in-Some.line.now in
    let found : slice_get s.lines c.saturating_sub.result ≡ Some line = sym c.get.ensures ∙ ap option_copied c.in-Some.is in
    subst (λ frame. IsTrue (is_sound_line frame.hosts frame.lanes line)) (sym c.frame_of-frame.ensures)
    (member_has (is_sound_line s.config.hosts s.lanes) s.lines c.saturating_sub.result line c.requires.script.sound found)

pub write_known_line-requires-clause-short : goal.write_known_line-requires-clause-short
write_known_line-requires-clause-short c =
    let s = c.args.script.now in
    let line = c.in-Some.line.now in
    let found : slice_get s.lines c.saturating_sub.result ≡ Some line = sym c.get.ensures ∙ ap option_copied c.in-Some.is in
    member_has has_short_message s.lines c.saturating_sub.result line c.requires.messages found
