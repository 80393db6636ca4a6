-- What the commands of a host draft is the outcome of its request.
use Rattle.std.proofs.Common.{◌≡◌, ℕ, List, Option, ap, map, refl, sym, ◌∙◌}
use Rattle.std.specs.declared.result.Result.{Result, TheVariants.Ok, TheVariants.Err}
use Rattle.cci_codec.specs.{declared.messages.Request.Request, dcd_base.specs.declared.ids.HostId.HostId}
use Rattle.extent_list.specs.dcd_codes.specs.{Rules.ByRow, declared.refusals.Refusal.Refusal, declared.rules.Rule.Rule}
use Rattle.extent_list.specs.media_map.specs.region_config.specs.Configurations.{Configuration}
use Rattle.host_payloads.specs.{HostPayloads.host_request, declared.requests.HostRequest.HostRequest}
use Rattle.device_commands.specs.{Drafts.Drafts, Drafts.IsOutcome, Drafts.as_records, declared.draft.Draft.Draft, device_rules.specs.Answers.host_outcome, device_rules.specs.Answers.host_rule}
use Rattle.device_commands.specs.device_rules.specs.{Outcomes.Outcome, Outcomes.only, Views.View, Views.view_after}
use Rattle.host_commands.specs.HostMessages.{IsDrafted}

-- what is made is made more
pub by_row : {X : Type 0} (P Q : X → Type 0) → ((x : X) → P x → Q x) → (row : Option Rule) (r : Result X Refusal) → ByRow row P r → ByRow row Q r
by_row P Q more row (Ok x) is = (is.0, more x is.1)
by_row P Q more row (Err (Refusal.Broken rule)) is = is
by_row P Q more row (Err Refusal.NoMemory) is = tt

-- an outcome that tells nothing
pub outcome_drafts : (c : Configuration) (h : HostId) (v : View) (o : Outcome) (d : Draft) → IsOutcome o d → Drafts c h v o d
outcome_drafts c h v o d is = record {
  payload = is.payload;
  changes = is.changes;
  tags = is.tags;
  log_records = ap (map (as_records (view_after c h v o.changes))) is.log_records ∙ sym is.untold;
}

-- a reply alone
pub only_drafts : (c : Configuration) (h : HostId) (v : View) (payload : List ℕ) (row : Option Rule) (r : Result Draft Refusal) → ByRow row (IsOutcome (only payload)) r → ByRow row (Drafts c h v (only payload)) r
only_drafts c h v payload row r is = by_row (IsOutcome (only payload)) (Drafts c h v (only payload)) (outcome_drafts c h v (only payload)) row r is

-- the draft of what a message asks is that of the message
pub message_drafted : (c : Configuration) (h : HostId) (v : View) (q : Request) (request : HostRequest) → host_request q.opcode q.payload ≡ Ok request → (r : Result Draft Refusal)
    → ByRow (host_rule c h v request) (Drafts c h v (host_outcome c h v request)) r → IsDrafted c h v q r
message_drafted c h v q request asked (Ok d) is = record { request = request; asked = asked; row = is.0; drafts = is.1 }
message_drafted c h v q request asked (Err (Refusal.Broken rule)) is = rw (asked, is) refl
message_drafted c h v q request asked (Err Refusal.NoMemory) is = tt
