-- Drafts of one kind of thing alone.
use Rattle.std.proofs.Common.{◌≡◌, ℕ, List, [], refl, sym, subst}
use Rattle.journal_core.specs.declared.outcome.Effect.{Effect}
use Rattle.device_commands.specs.{Drafts.IsOutcome, declared.draft.Draft.Draft}
use Rattle.device_state.specs.device_rules.specs.Outcomes.{only}

-- of changes
pub changes_alone : (changes new : List Effect) (d : Draft) → d ≡ record { payload = []; changes = changes; tags = []; log_records = [] } → changes ≡ new →
    IsOutcome (record { payload = []; changes = new; tags = []; log_records = [] }) d
changes_alone changes new d is same =
    subst (IsOutcome (record { payload = []; changes = new; tags = []; log_records = [] })) (sym is) (record { payload = refl; changes = same; tags = refl; log_records = refl; untold = refl })

-- of a payload
pub payload_alone : (bytes payload : List ℕ) (d : Draft) → d ≡ record { payload = bytes; changes = []; tags = []; log_records = [] } → bytes ≡ payload →
    IsOutcome (only payload) d
payload_alone bytes payload d is same =
    subst (IsOutcome (only payload)) (sym is) (record { payload = same; changes = refl; tags = refl; log_records = refl; untold = refl })
