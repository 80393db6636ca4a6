-- The records of a log, as its journal says.
use Rattle.std.proofs.Common.{◌≡◌, List, refl, sym, ap, subst, ◌∙◌}
use Rattle.dcd_base.specs.declared.steps.LogId.{LogId}
use Rattle.event_log.specs.{LogStates.LogState, Logs.places_in, Logs.state_of}
use Rattle.region_config.specs.Configurations.{Configuration}
use Rattle.journal_core.specs.{Entries.effects, declared.outcome.Effect.Effect}
use Rattle.device_plain.specs.{Lives.ByEveryLife, Lives.Living, control_core.specs.Pasts.ByEveryPast, control_core.specs.Pasts.IsPast, control_core.specs.Pasts.LiveControlled}
use Rattle.device_plain.specs.device_rules.specs.{Counts.records_of, Logs.log_of}

records_are : (l : LogId) (past : List Effect) → (state_of (places_in l) (log_of l past)).records ≡ records_of l past
unfolding records_of
records_are l past = refl

-- those of a kept log are the ones of every journal
pub log_told : (d : Living) (k : LiveControlled) → k.config ≡ d.config → ByEveryLife d (λ life. IsPast d.config life k.state) → (l : LogId) (log : LogState)
    → ByEveryPast k (λ past. log ≡ state_of (places_in l) (log_of l (effects past))) → ByEveryLife d (λ life. log.records ≡ records_of l (effects life))
log_told d k config pasts l log told life leads =
    ap (λ (s : LogState). s.records) (told life (subst (λ (c : Configuration). IsPast c life k.state) (sym config) (pasts life leads)))
    ∙ records_are l (effects life)
