-- A command of the host of a device that has it alone: what is kept is what the host sees after it.
use Rattle.std.proofs.Common.{◌≡◌, ℕ, Bool, true, false, List, [], ◌∷◌, Result, Ok, Err, refl, sym, ap, subst, ◌∙◌}
use Rattle.std.specs.{Prelude.◌==◌, Prelude.IfOk, Prelude.OnOk, Prelude.fold, Prelude.if◌then◌else◌, List.list_any}
use Rattle.cci_codec.specs.declared.messages.Request.{Request}
use Rattle.dcd_base.specs.declared.{capacity.Extent.Extent, ids.HostId.HostId, steps.LogId.LogId}
use Rattle.extent_list.specs.{dcd_codes.specs.Rules.code_of, dcd_codes.specs.declared.codes.Code.Code, dcd_codes.specs.declared.rules.Rule.Rule, HostLists.Lists}
use Rattle.control_core.specs.{device_commands.specs.declared.draft.Draft.Draft, device_rules.proofs.ViewCommands.after_refusal, device_rules.proofs.ViewCommands.view_after-dropped}
use Rattle.control_core.specs.device_rules.specs.Answers.{dropped, host_outcome, host_result, host_result_in, reply_with, response, unless}
use Rattle.control_core.specs.device_rules.specs.{Outcomes.Outcome, ResponseOutcomes.unhold, Views.View, Views.view_after}
use Rattle.control_core.specs.{device_state.proofs.Keeping.lists_right, device_state.specs.EnteredLists.counted, device_state.specs.EnteredLists.lists_by, host_commands.specs.HostMessages.IsDraft}
use Rattle.event_log.specs.Logs.{IsLogOf}
use Rattle.journal_core.specs.declared.{acts.Act.Act, acts.Reply.Reply, outcome.HeldKind.HeldKind}
use Rattle.region_config.specs.Configurations.{Configuration}
use Rattle.device_plain.proofs.OwnChanges.{blocks_stay, history_after, log_stays, own_changes}
use Rattle.device_plain.specs.{Acting.ChangesAlone, Acting.without_held, Alone.DoesAlone, Alone.IsAlone, declared.alone.Alone.Alone}
use Rattle.isolation_laws.specs.{Solo.accepts_byte, Solo.changes_with, declared.items.SoloReply.SoloReply}

module _ (c : Configuration) (h : HostId) (q : Request) (old new : Alone) where
  abbrev Did : View → (ℕ → ℕ) → Reply → Result Outcome Rule → Type 0
  Did v word reply result =
      (SoloReply.Said reply ≡ SoloReply.Said (reply_with q result))
      × IsAlone c h (view_after c h v (changes_with h v q result)) (λ d. if list_any (accepts_byte d) (changes_with h v q result) then 0 else word d) new

  -- what a command does that breaks no rule
  module _ (draft : Draft) (is : ChangesAlone c h draft.changes old new) where
    pub command_done : ((v : View) (word : ℕ → ℕ) → IsAlone c h v word old → IsDraft c h v q draft) → DoesAlone c h (Act.Command q) old new (SoloReply.Said (response q Code.Success draft.payload))
    command_done drafted v word was =
        let d : IsDraft c h v q draft = drafted v word was in
        let o : Outcome = host_outcome c h v d.request in
        let own = own_changes c h v d.request in
        let by : ChangesAlone c h o.changes old new = subst (λ es. ChangesAlone c h es old new) d.drafts.changes is in
        let fine : host_result_in c h v q ≡ Ok o = ap (host_result c h v) d.asked ∙ ap (λ rule. unless rule o) d.row in
        subst (Did v word (response q Code.Success draft.payload)) (sym fine) (
          ap (λ bytes. SoloReply.Said (response q Code.Success bytes)) d.drafts.payload,
          record {
            present_is = by.present_stays ∙ was.present_is ∙ blocks_stay c h v o.changes own;
            lists_are = by.lists_are ∙ ap (λ (l : Lists). counted h o.changes (fold (lists_by c h) l o.changes)) was.lists_are ∙ lists_right c h v o.changes;
            few = by.few;
            log_is = subst (IsLogOf (LogId.Host h) (view_after c h v o.changes).log) (sym by.log_by_all)
                (log_stays c h v old.log o.changes was.log_is own (history_after c h v d.request d.row was.log_is.told));
            words_are = λ a. by.words_by a ∙ ap (λ n. if list_any (accepts_byte a) o.changes then 0 else n) (was.words_are a);
          },
        )

  -- what a command does that breaks a rule: the held list of its kind goes
  no_answer : (kind : HeldKind) (xs : List Extent) (d : ℕ) → list_any (accepts_byte d) (unhold h kind xs) ≡ false
  no_answer kind [] d = refl
  no_answer kind (x ∷ xs) d = refl

  without : (v : View) (word : ℕ → ℕ) → IsAlone c h v word old → (a b : Bool) →
      IsAlone c h (if a then record v { responses = [] } else if b then record v { releases = [] } else v)
      (λ d. if list_any (accepts_byte d) (if a then unhold h HeldKind.Responses v.responses else if b then unhold h HeldKind.Releases v.releases else []) then 0 else word d)
      (record old { lists = if a then record old.lists { responses = [] } else if b then record old.lists { releases = [] } else old.lists })
  without v word was true b = record {
    present_is = was.present_is;
    lists_are = ap (λ (l : Lists). record l { responses = [] }) was.lists_are;
    few = was.few;
    log_is = was.log_is;
    words_are = λ d. was.words_are d ∙ ap (λ (answered : Bool). if answered then 0 else word d) (sym (no_answer HeldKind.Responses v.responses d));
  }
  without v word was false true = record {
    present_is = was.present_is;
    lists_are = ap (λ (l : Lists). record l { releases = [] }) was.lists_are;
    few = was.few;
    log_is = was.log_is;
    words_are = λ d. was.words_are d ∙ ap (λ (answered : Bool). if answered then 0 else word d) (sym (no_answer HeldKind.Releases v.releases d));
  }
  without v word was false false = was

  pub command_refused : new ≡ record old { lists = without_held q.opcode old.lists } → (rule : Rule) →
      ((v : View) (word : ℕ → ℕ) → IsAlone c h v word old → host_result_in c h v q ≡ Err rule) → DoesAlone c h (Act.Command q) old new (SoloReply.Said (response q (code_of rule) []))
  command_refused is rule broken v word was =
      let words : ℕ → ℕ = λ d. if list_any (accepts_byte d) (dropped h v q.opcode) then 0 else word d in
      let kept : IsAlone c h (after_refusal q.opcode v) words (record old { lists = without_held q.opcode old.lists }) = without v word was (q.opcode == 0x4802) (q.opcode == 0x4803) in
      subst (Did v word (response q (code_of rule) [])) (sym (broken v word was)) (
        refl,
        subst (λ (seen : View). IsAlone c h seen words new) (sym (view_after-dropped c h v q.opcode))
            (subst (λ (a : Alone). IsAlone c h (after_refusal q.opcode v) words a) (sym is) kept),
      )

-- a command that is done replies so
pub does_enacted : {E : Type 0} (c : Configuration) (h : HostId) (q : Request) (old new : Alone) (draft : Draft) (r : Result Reply E) → IfOk r (λ reply. reply ≡ response q Code.Success draft.payload) →
    OnOk r (ChangesAlone c h draft.changes old new) → ((v : View) (word : ℕ → ℕ) → IsAlone c h v word old → IsDraft c h v q draft) →
    IfOk r (λ reply. DoesAlone c h (Act.Command q) old new (SoloReply.Said reply))
does_enacted c h q old new draft (Ok reply) is changes drafted =
    subst (λ (x : Reply). DoesAlone c h (Act.Command q) old new (SoloReply.Said x)) (sym is) (command_done c h q old new draft changes drafted)
does_enacted c h q old new draft (Err e) is changes drafted = tt
