-- What goes over the effects of a command goes over its changes alone, where ends of tags and records leave it.
use Rattle.std.proofs.Common.{◌≡◌, Bool, true, false, List, [], ◌∷◌, ◌++◌, refl, ap, ◌∙◌}
use Rattle.std.{specs.Prelude.fold, specs.Prelude.map, specs.Prelude.flat_map, specs.Prelude.if◌then◌else◌, proofs.lemmas.List.Sums.fold-append}
use Rattle.extent_list.specs.media_map.specs.region_config.specs.Configurations.{Configuration}
use Rattle.cci_codec.specs.dcd_base.specs.declared.{steps.LogId.LogId, capacity.Tag.Tag}
use Rattle.event_records.specs.declared.events.Event.{Event}
use Rattle.journal_core.specs.declared.outcome.Effect.{Effect}
use Rattle.event_log.specs.Logs.{Log}
use Rattle.device_rules.specs.{Logs.log_of, Logs.log_after, Outcomes.Outcome, Outcomes.effects_of, Outcomes.entered, Outcomes.entered_all, Outcomes.ended}

module _ {B : Type 0} (f : B → Effect → B)
    (no_end : (b : B) (t : Tag) → f b (Effect.TagEnd t) ≡ b)
    (no_record : (b : B) (l : LogId) (e : Event) → f b (Effect.Logged l e) ≡ b)
    (no_miss : (b : B) (l : LogId) → f b (Effect.Missed l) ≡ b) where
  over-ends : (b : B) (tags : List Tag) → fold f b (map Effect.TagEnd tags) ≡ b
  over-ends b [] = refl
  over-ends b (t ∷ tags) = ap (λ a. fold f a (map Effect.TagEnd tags)) (no_end b t) ∙ over-ends b tags

  over-entered : (b : B) (full : Bool) (l : LogId) (e : Event) → f b (if full then Effect.Missed l else Effect.Logged l e) ≡ b
  over-entered b true l e = no_miss b l
  over-entered b false l e = no_record b l e

  over-records : (b : B) (l : LogId) (log : Log) (events : List Event) → fold f b (entered_all l log events) ≡ b
  over-records b l log [] = refl
  over-records b l log (e ∷ events) =
      ap (λ a. fold f a (entered_all l (log_after l log (entered l log e)) events)) (over-entered b _ l _)
      ∙ over-records b l (log_after l log (entered l log e)) events

  over-log_records : (b : B) (past : List Effect) (log_records : List (LogId × List Event)) → fold f b (flat_map (λ n. entered_all n.0 (log_of n.0 past) n.1) log_records) ≡ b
  over-log_records b past [] = refl
  over-log_records b past (n ∷ log_records) =
      fold-append f b (entered_all n.0 (log_of n.0 past) n.1) (flat_map (λ n. entered_all n.0 (log_of n.0 past) n.1) log_records)
      ∙ ap (λ a. fold f a (flat_map (λ n. entered_all n.0 (log_of n.0 past) n.1) log_records)) (over-records b n.0 (log_of n.0 past) n.1)
      ∙ over-log_records b past log_records

  -- only the changes count
  pub over-outcome : (c : Configuration) (b : B) (past : List Effect) (o : Outcome) → fold f b (effects_of c past o) ≡ fold f b o.changes
  over-outcome c b past o =
      let ends : List Effect = map Effect.TagEnd (ended c past o.changes o.tags) in
      let records : List Effect = flat_map (λ n. entered_all n.0 (log_of n.0 past) n.1) o.log_records in
      fold-append f b (o.changes ++ ends) records
      ∙ over-log_records (fold f b (o.changes ++ ends)) past o.log_records
      ∙ fold-append f b o.changes ends
      ∙ over-ends (fold f b o.changes) (ended c past o.changes o.tags)

  -- and so from the beginning
  pub after-outcome : (c : Configuration) (b : B) (past : List Effect) (o : Outcome) → fold f b (past ++ effects_of c past o) ≡ fold f (fold f b past) o.changes
  after-outcome c b past o = fold-append f b past (effects_of c past o) ∙ over-outcome c (fold f b past) past o
