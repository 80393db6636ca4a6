use Rattle.std.proofs.Common.{◌<◌, ◌∷◌, [], ◌++◌, List, map, arith, ap, subst, sym, ◌∙◌}
use Rattle.std.specs.{Prelude.All, List.range_with_len}
use Rattle.journal_core.specs.declared.outcome.Effect.{Effect}
use Rattle.device_commands.specs.{Drafts.as_records, declared.log_records.LogRecords.LogRecords}
use Rattle.manager_commands.{specs.SetDcRegionConfiguration.told_to_all, proofs.SetDcRegionConfiguration.told_known, proofs.SetDcRegionConfiguration.told_records}
use Rattle.manager_commands.proofs.set_dc_region_configuration.region_draft.Goals as goal

pub returns : goal.returns
returns c = λ view_for.
    let n = c.args.state.now.present.hosts in
    let r = c.args.region in
    let hosts = c.hosts.ensures.value in
    let told = c.in_ok-log_records.ensures ∙ ap (λ m. told_to_all r (range_with_len 0 m)) hosts in
    record {
      payload = c.new.ensures;
      changes = c.in_ok-push.ensures.pushed ∙ ap (λ (es : List Effect). es ++ Effect.Block r c.args.block ∷ []) c.new-changes.ensures;
      tags = c.new-2.ensures;
      log_records = ap (map (λ (t : LogRecords). as_records (view_for t.host) t)) told ∙ told_records view_for r (range_with_len 0 n);
      known = subst (λ (ts : List LogRecords). All (λ (t : LogRecords). t.host < n) ts) (sym told) (told_known r n 0 n (omega arith));
    }
