-- What is answered of a host's accepted extents, 4801h.
use Rattle.std.specs.{Prelude.◌≡◌, Prelude.ℕ, Prelude.length, declared.result.Result.Result}
use Rattle.extent_list.specs.{dcd_codes.specs.Rules.ByRow, dcd_codes.specs.declared.refusals.Refusal.Refusal, HostLists.Lists}
use Rattle.device_commands.specs.{Drafts.IsOutcome, declared.draft.Draft.Draft, device_rules.specs.Outcomes.only, device_rules.specs.Settings.extents_reply, device_rules.specs.Settings.past_end}
use Rattle.device_commands.specs.device_rules.specs.Views.{View, lists_in}

-- By its row, for each view that the lists show.
abbrev pub AnswersExtents : Lists → ℕ → ℕ → Result Draft Refusal → Type 0
AnswersExtents lists count first result = (v : View) → lists ≡ lists_in v →
    ByRow (past_end first (length v.accepted)) (IsOutcome (only (extents_reply v count first))) result
