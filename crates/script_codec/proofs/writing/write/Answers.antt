use Rattle.std.proofs.{Common.◌≡◌, Common.◌++◌, Common.refl, Common.ap, Common.◌∙◌, lemmas.Result.on_ok_weaker}
use Rattle.script_codec.{specs.Writing.WritesScript, specs.Writing.script_bytes, proofs.WritingLaws.reads_back}
use Rattle.script_codec.proofs.writing.write.Goals as goal

pub returns-clause-appended : goal.returns-clause-appended
unfolding script_bytes
returns-clause-appended c =
    on_ok_weaker c.extend_from_slice.result
    (λ (added : c.extend_from_slice.new.self ≡ c.args.out.now ++ c.as_slice.result.now).
    added ∙ ap (λ bytes. c.args.out.now ++ bytes) (c.as_slice.ensures ∙ c.in_ok-write_script.ensures.is ∙ ap (λ front. front ++ script_bytes c.args.script.now) c.new-bytes.ensures))
    c.extend_from_slice.ensures.extended

pub returns-clause-spelled : goal.returns-clause-spelled
unfolding WritesScript script_bytes
returns-clause-spelled c =
    on_ok_weaker c.extend_from_slice.result
    (λ (added : c.extend_from_slice.new.self ≡ c.args.out.now ++ c.as_slice.result.now).
    record { fits = c.in_ok-write_script.ensures.fits; spelled = refl })
    c.extend_from_slice.ensures.extended

pub returns-clause-reads_back : goal.returns-clause-reads_back
returns-clause-reads_back c =
    on_ok_weaker c.extend_from_slice.result
    (λ (writes : WritesScript c.args.script.now (script_bytes c.args.script.now)). reads_back c.args.script.now c.requires writes)
    (returns-clause-spelled c)
