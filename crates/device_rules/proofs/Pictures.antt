-- The picture after more effects, and after a command.
use Rattle.std.proofs.Common.{◌≡◌, Bool, true, false, List, [], ◌∷◌, ◌++◌, map, refl, ap, ◌∙◌}
use Rattle.std.{specs.Prelude.flat_map, specs.Prelude.fold, specs.Prelude.None, specs.Prelude.if◌then◌else◌, proofs.lemmas.List.Sums.fold-append}
use Rattle.cci_codec.specs.dcd_base.specs.declared.steps.LogId.{LogId}
use Rattle.event_records.specs.declared.events.Event.{Event}
use Rattle.extent_list.specs.media_map.specs.region_config.specs.{Configurations.Configuration, Granules.region_spec}
use Rattle.journal_core.specs.{declared.outcome.Effect.Effect, Holders.holding_after}
use Rattle.event_log.specs.Logs.{Log}
use Rattle.device_rules.{proofs.OutcomeSteps.after-outcome, proofs.TagSteps.tags-ends, proofs.TagSteps.without_tags, specs.Hosts.accepted_after, specs.Hosts.block_after, specs.Hosts.offers_after}
use Rattle.device_rules.specs.{Logs.log_after, Logs.log_of, Outcomes.Outcome, Outcomes.effects_of, Outcomes.ended, Outcomes.entered, Outcomes.entered_all, Pictures.picture_after, Pictures.picture_of}
use Rattle.device_rules.specs.Tags.{last_offer_after, reference_after, tags_after}

-- records leave what minds none
module _ {B : Type 0} (f : B → Effect → B)
    (no_record : (b : B) (l : LogId) (e : Event) → f b (Effect.Logged l e) ≡ b)
    (no_miss : (b : B) (l : LogId) → f b (Effect.Missed l) ≡ b) where
  over-entered : (b : B) (full : Bool) (l : LogId) (e : Event) → f b (if full then Effect.Missed l else Effect.Logged l e) ≡ b
  over-entered b true l e = no_miss b l
  over-entered b false l e = no_record b l e

  over-records : (b : B) (l : LogId) (log : Log) (events : List Event) → fold f b (entered_all l log events) ≡ b
  over-records b l log [] = refl
  over-records b l log (e ∷ events) =
      ap (λ a. fold f a (entered_all l (log_after l log (entered l log e)) events)) (over-entered b _ l _)
      ∙ over-records b l (log_after l log (entered l log e)) events

  over-log_records : (b : B) (past : List Effect) (log_records : List (LogId × List Event)) → fold f b (flat_map (λ n. entered_all n.0 (log_of n.0 past) n.1) log_records) ≡ b
  over-log_records b past [] = refl
  over-log_records b past (n ∷ log_records) =
      fold-append f b (entered_all n.0 (log_of n.0 past) n.1) (flat_map (λ n. entered_all n.0 (log_of n.0 past) n.1) log_records)
      ∙ ap (λ a. fold f a (flat_map (λ n. entered_all n.0 (log_of n.0 past) n.1) log_records)) (over-records b n.0 (log_of n.0 past) n.1)
      ∙ over-log_records b past log_records

-- one step from the picture before
pub picture-append : (c : Configuration) (past new : List Effect) → picture_of c (past ++ new) ≡ picture_after c (picture_of c past) new
picture-append c past new = λ i. record {
  accepted = λ h. fold-append (accepted_after c h) [] past new i;
  offers = λ h. fold-append (offers_after h) [] past new i;
  holds = λ h g. fold-append (holding_after h g) false past new i;
  block = λ r. fold-append (block_after r) (region_spec c r).block past new i;
  tags = fold-append (tags_after c) [] past new i;
  last = λ t. fold-append (last_offer_after t) None past new i;
  referenced = λ t. fold-append (reference_after t) false past new i;
}

-- the ends of a command's tags change the open tags alone, and its records change nothing
pub picture-outcome : (c : Configuration) (past : List Effect) (o : Outcome) → picture_of c (past ++ effects_of c past o)
    ≡ record (picture_after c (picture_of c past) o.changes) { tags = without_tags (picture_after c (picture_of c past) o.changes).tags (ended c past o.changes o.tags) }
picture-outcome c past o =
    let ends : List Effect = map Effect.TagEnd (ended c past o.changes o.tags) in
    let records : List Effect = flat_map (λ n. entered_all n.0 (log_of n.0 past) n.1) o.log_records in
    let tags =
    fold-append (tags_after c) [] past (effects_of c past o)
    ∙ fold-append (tags_after c) (picture_of c past).tags (o.changes ++ ends) records
    ∙ over-log_records (tags_after c) (λ b l e. refl) (λ b l. refl) (fold (tags_after c) (picture_of c past).tags (o.changes ++ ends)) past o.log_records
    ∙ fold-append (tags_after c) (picture_of c past).tags o.changes ends
    ∙ tags-ends c (picture_after c (picture_of c past) o.changes).tags (ended c past o.changes o.tags) in
    λ i. record {
      accepted = λ h. after-outcome (accepted_after c h) (λ b t. refl) (λ b l e. refl) (λ b l. refl) c [] past o i;
      offers = λ h. after-outcome (offers_after h) (λ b t. refl) (λ b l e. refl) (λ b l. refl) c [] past o i;
      holds = λ h g. after-outcome (holding_after h g) (λ b t. refl) (λ b l e. refl) (λ b l. refl) c false past o i;
      block = λ r. after-outcome (block_after r) (λ b t. refl) (λ b l e. refl) (λ b l. refl) c (region_spec c r).block past o i;
      tags = tags i;
      last = λ t. after-outcome (last_offer_after t) (λ b t. refl) (λ b l e. refl) (λ b l. refl) c None past o i;
      referenced = λ t. after-outcome (reference_after t) (λ b t. refl) (λ b l e. refl) (λ b l. refl) c false past o i;
    }
