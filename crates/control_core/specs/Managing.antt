-- What a message of the Fabric Manager comes to.
use Rattle.std.specs.Prelude.{◌≡◌, ℕ, false, not, List, [], ◌∷◌, None, Option, Some, if◌then◌else◌}
use Rattle.std.specs.declared.result.Result.{Result, TheVariants.Ok, TheVariants.Err}
use Rattle.cci_codec.specs.{declared.messages.Request.Request, dcd_base.specs.declared.capacity.Tag.Tag, dcd_base.specs.declared.steps.Actor.Actor}
use Rattle.extent_list.specs.{dcd_codes.specs.declared.refusals.Refusal.Refusal, media_map.specs.region_config.specs.Configurations.Configuration}
use Rattle.fm_payloads.specs.{ManagerPayloads.manager_request, declared.requests.FmRequest.FmRequest}
use Rattle.journal_core.specs.{Entries.effects, declared.acts.Act.Act, declared.entries.Entry.Entry}
use Rattle.device_commands.specs.{Drafts.Informs, declared.draft.Draft.Draft, device_rules.specs.Answers.manager_result, device_rules.specs.Legal.Legal}
use Rattle.device_commands.specs.device_rules.specs.{Outcomes.Outcome, Outcomes.ended, Views.view_of}
use Rattle.tag_refs.specs.{Tables.is_used, Tables.passes, Tables.with_reference, declared.entries.TagEntry.TagEntry}
use Rattle.control_core.specs.{Deciding.IsDecided, Doing.IsDone, declared.decided.Decided.Decided}
use Rattle.manager_commands.specs.device_state.specs.{StateAfter.IsStateAfter, declared.state.State.State}

-- The message comes to this, or breaks this rule first.
abbrev pub Manages : Configuration → State → Request → Result Decided Refusal → Type 0
Manages c s q (Ok d) = IsDecided c s Actor.Manager (Act.Command q) d
Manages c s q (Err (Refusal.Broken rule)) = (before : List Entry) → Legal c before → IsStateAfter c before s → manager_result c before (manager_request q.opcode q.payload) ≡ Err rule
Manages c s q (Err Refusal.NoMemory) = Unit {0}

-- ---- the manager's drafts

-- the host whose lists an offer or a removal changes
abbrev pub changed_host : FmRequest → Option ℕ
changed_host (FmRequest.Add h policy r bytes tag list) = Some h
changed_host (FmRequest.Remove h flags r bytes tag list) = Some h
changed_host q = None

-- the tag that ends by a request which changes no lists: one that nothing else keeps, where its reference goes
abbrev pub ended_by : List TagEntry → FmRequest → List Tag
ended_by entries (FmRequest.RemoveReference tag) = if passes tag (λ e. not (is_used (with_reference false e))) entries then tag ∷ [] else []
ended_by entries q = []

-- The draft is done: for each outcome that it is and by which just these tags end, by every journal that leads to what is kept.
abbrev pub EntersDraft : State → Request → Draft → List Tag → Decided → Type 0
EntersDraft s q draft over d = (c : Configuration) (before : List Entry) (o : Outcome) → IsStateAfter c before s → ended c (effects before) o.changes o.tags ≡ over →
    Informs c.hosts (λ h. view_of c h before) o draft → IsDone c before q o d
