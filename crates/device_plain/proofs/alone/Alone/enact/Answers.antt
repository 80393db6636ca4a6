use Rattle.std.{proofs.Common.◌∙◌, proofs.Common.List, proofs.Common.ap, specs.Prelude.fold, specs.Prelude.if◌then◌else◌, specs.List.list_any}
use Rattle.dcd_base.specs.declared.steps.LogId.{LogId}
use Rattle.granule_mem.specs.Contents.{word_among}
use Rattle.journal_core.specs.declared.outcome.Effect.{Effect}
use Rattle.control_core.specs.device_state.specs.{Entered.log_by, EnteredLists.counted, EnteredLists.lists_by}
use Rattle.isolation_laws.specs.Solo.{accepts_byte}
use Rattle.device_plain.proofs.alone.Alone.enact.Goals as goal

pub returns-clause-changed : goal.returns-clause-changed
returns-clause-changed c =
    let conf = c.args.config.now in
    let h = c.args.host in
    let told = c.change.ensures in
    record {
      present_stays = told.present_stays;
      lists_are = c.in_ok-change_lists.ensures.lists
          ∙ (λ i. counted h (c.as_slice-2.ensures i) (fold (lists_by conf h) (told.lists_stay i) (c.as_slice-2.ensures i)));
      few = c.in_ok-change_lists.ensures.few;
      log_by_all = told.log_by_all ∙ ap (fold (log_by (LogId.Host h)) c.args.self.now.log) c.as_slice.ensures;
      words_by = λ d. told.words_by d ∙ ap (λ (es : List Effect). if list_any (accepts_byte d) es then 0 else word_among c.args.self.now.words.entries d) c.as_slice.ensures;
    }
