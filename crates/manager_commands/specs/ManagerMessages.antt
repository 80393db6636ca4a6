-- What a request of the Fabric Manager is drafted as, by what the device keeps.
use Rattle.std.specs.{Prelude.◌≤◌, Prelude.List, Prelude.length, Prelude.Option, declared.result.Result.Result}
use Rattle.extent_list.specs.dcd_codes.specs.{Rules.ByRow, declared.refusals.Refusal.Refusal, declared.rules.Rule.Rule}
use Rattle.extent_list.specs.media_map.specs.region_config.specs.Configurations.{Configuration}
use Rattle.fm_payloads.specs.declared.requests.FmRequest.{FmRequest}
use Rattle.journal_core.specs.{Entries.effects, declared.entries.Entry.Entry}
use Rattle.device_state.specs.{StateAfter.IsStateAfter, declared.state.State.State, device_rules.specs.Answers.manager_outcome, device_rules.specs.Answers.manager_rule, device_rules.specs.Legal.Legal}
use Rattle.device_state.specs.device_rules.specs.{Outcomes.Outcome, Views.view_of}
use Rattle.device_commands.specs.{Drafts.Drafts, Drafts.Informs, Drafts.IsOutcome, declared.draft.Draft.Draft}

-- the first rule that a request breaks after these entries, and what it does where it breaks none
abbrev pub rule_after : Configuration → List Entry → FmRequest → Option Rule
rule_after c journal q = manager_rule c (effects journal) (λ h. view_of c h journal) q

abbrev pub outcome_after : Configuration → List Entry → FmRequest → Outcome
outcome_after c journal q = manager_outcome c (effects journal) (λ h. view_of c h journal) q

-- The draft is this outcome of the request: an offer and a removal change the lists of their host, and no other request
-- changes lists.
abbrev pub DraftsFor : Configuration → List Entry → FmRequest → Outcome → Draft → Type 0
DraftsFor c journal (FmRequest.Add h policy r bytes tag list) o = Drafts c h (view_of c h journal) o
DraftsFor c journal (FmRequest.Remove h flags r bytes tag list) o = Drafts c h (view_of c h journal) o
DraftsFor c journal (FmRequest.SetRegion r sanitize size) o = Informs c.hosts (λ h. view_of c h journal) o
DraftsFor c journal q o = IsOutcome o

-- By every legal journal that leads to what is kept, the request is refused by its row, or drafted as its outcome.
abbrev pub ManagerAnswers : Configuration → State → FmRequest → Result Draft Refusal → Type 0
ManagerAnswers c s q result = (journal : List Entry) → Legal c journal → IsStateAfter c journal s →
    ByRow (rule_after c journal q) (DraftsFor c journal q (outcome_after c journal q)) result

-- A request to clear records lists so many at most.
abbrev pub FewCleared : FmRequest → Type 0
FewCleared (FmRequest.ClearEvents log all handles) = length handles ≤ 255
FewCleared q = Unit {0}
