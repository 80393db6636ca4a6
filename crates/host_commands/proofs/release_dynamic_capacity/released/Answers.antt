use Rattle.std.proofs.Common.{◌++◌, ◌∙◌, List, ap, false, map}
use Rattle.journal_core.specs.declared.outcome.{Effect.Effect, HeldKind.HeldKind}
use Rattle.device_commands.specs.{device_rules.specs.ReleaseOutcomes.removals, device_rules.specs.ResponseOutcomes.unhold, Drafts.as_records}
use Rattle.host_commands.proofs.release_dynamic_capacity.released.Goals as goal

pub returns : goal.returns
returns c =
    let h = c.args.host in
    let unheld = c.in_ok-append_unhold.ensures ∙ (λ i. c.new-changes.ensures i ++ unhold h HeldKind.Releases (c.releases.ensures i)) in
    record {
      payload = c.new.ensures;
      changes_are = c.in_ok-append_leaves.ensures ∙ ap (λ (es : List Effect). es ++ removals c.args.present.now h false c.args.leaving.now) unheld;
      tags_are = c.in_ok-tags.ensures;
      log_records = λ w. ap (map (as_records w)) c.in_ok-log_records.ensures;
    }
