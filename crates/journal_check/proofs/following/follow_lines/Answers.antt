use Rattle.std.proofs.Common.{◌≡◌, ◌≢◌, ◌+◌, ◌-◌, ◌++◌, length, count_by, take, drop, ap, refl, sym, subst, ◌∙◌, arith}
use Rattle.std.proofs.lemmas.List.{length_push}
use Rattle.journal_core.specs.declared.entries.Entry.{Entry}
use Rattle.report.specs.script_codec.specs.Covering.{is_line}
use Rattle.journal_check.{proofs.Claiming.IsClaimedTo, proofs.Claiming.one_claimed, proofs.Followed.followed_some, proofs.Followed.written_back, specs.Claims.behind_line}
use Rattle.journal_check.specs.{Following.IsNextInPass, Following.without_line, Fronts.IsDue, Fronts.undone_of}
use Rattle.journal_check.proofs.following.follow_lines.Goals as goal

pub returns-in-None-clause-followed : goal.returns-in-None-clause-followed
returns-in-None-clause-followed c =
    let s = c.args.script.now in
    followed_some s c.requires.sound c.requires.few c.args.text.now c.loop.device.journal c.loop.fronts.items c.loop.rest.now c.loop.invariant.claimed
    c.claim-number.result c.claim-number.ensures
    (subst (λ fronts. (e : Entry) → IsNextInPass (undone_of s fronts) e → e.line ≢ c.claim-number.result) c.as_slice-in-loop.ensures.value c.in-None.ensures.none)
    (omega (arith, c.loop.invariant.count, c.loop-test.true, c.entries_of-end.ensures, ap (count_by is_line) c.as_slice.ensures))

pub loop-preserved : goal.loop-preserved
loop-preserved c =
    let s = c.args.script.now in
    let text = c.args.text.now in
    let step = c.in_ok-step-in-Some.ensures in
    let old = c.loop.fronts.items in
    let new = c.pass_on.new.fronts in
    let due : IsDue s old c.claim-number.result c.in-Some.pass =
    subst (λ fronts. IsDue s fronts c.claim-number.result c.in-Some.pass) c.as_slice-in-loop.ensures.value c.in-Some.ensures.due in
    let done : (undone_of s new).lines ≡ without_line (undone_of s old).lines (c.claim-number.result - 1) =
    c.pass_on.ensures.done ∙ ap (λ fronts. without_line (undone_of s fronts).lines (c.claim-number.result - 1)) c.as_mut_slice.ensures.value in
    let claimed : IsClaimedTo s text c.step.new.device.journal new (behind_line c.loop.rest.now) =
    one_claimed s text c.loop.device.journal old new c.loop.rest.now c.claim-number.result c.in-Some.pass c.loop.device c.step.new.device
    c.requires.few c.loop.invariant.claimed due c.claim-number.ensures refl step c.pass_on.ensures.fronts done in
    let back : take c.loop.fronts.len (new ++ drop (length new) old) ≡ new =
    written_back c.loop.fronts.len old new (sym c.as_mut_slice.ensures.len ∙ ap length c.as_mut_slice.ensures.value) (c.pass_on.ensures.fronts.count ∙ sym c.loop.invariant.claimed.are.count) in
    record {
      config = step.config ∙ c.loop.invariant.config;
      count = ap length step.journal ∙ length_push c.loop.device.journal step.entry ∙ ap (λ n. n + 1) c.loop.invariant.count;
      claimed = subst (λ fronts. IsClaimedTo s text c.step.new.device.journal fronts c.behind-rest.result.now) (sym back)
          (subst (IsClaimedTo s text c.step.new.device.journal new) (sym c.behind-rest.ensures) claimed);
    }
