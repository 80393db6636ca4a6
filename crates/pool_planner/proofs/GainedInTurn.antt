-- Demands that are gained one after another.
use Rattle.std.proofs.Common.{◌≡◌, ℕ, ◌+◌, ◌<◌, ◌≤◌, List, [], ◌∷◌, ◌++◌, length, get_or, drop, Some, sym, ap, ◌∙◌, append_assoc, add-one, arith, drop-cons}
use Rattle.std.{specs.Prelude.flat_map, specs.Prelude.slice_get, proofs.lemmas.List.length-append, proofs.lemmas.Option.none-some, proofs.lemmas.Option.same_Some}
use Rattle.dcd_base.specs.declared.capacity.Extent.{Extent}
use Rattle.region_config.specs.Configurations.{Configuration}
use Rattle.journal_core.specs.declared.outcome.Effect.{Effect}
use Rattle.plan_rules.specs.{declared.demands.Demand.Demand, Holding.Step, Holding.stepped, Listing.gained, Listing.gaining}
use Rattle.pool_planner.{specs.Trials.GoesOnTo, specs.Trials.TriesMore, specs.declared.trial.Trial.Trial, proofs.Taking.takes_then}

pub goes_more : (c : Configuration) (past : List Effect) (old now new : Trial) (whole : List Step) (xs : List Demand) (i : ℕ) (z : Demand) →
    now.control.config ≡ c → i < length xs → GoesOnTo old now whole (gaining c past now.control.entries (drop i xs)) →
    TriesMore now new (gained c past now.control.entries (get_or xs i z)) → GoesOnTo old new whole (gaining c past new.control.entries (drop (i + 1) xs))
goes_more c past old now new whole xs i z config below on takes = record {
  done = on.done ++ gained c past now.control.entries (get_or xs i z);
  takes = takes_then on.takes takes;
  parts = on.parts
      ∙ ap (λ rest. on.done ++ gaining c past now.control.entries rest) (drop-cons xs i z below ∙ ap (λ k. get_or xs i z ∷ drop k xs) (sym (add-one i)))
      ∙ sym (append_assoc on.done (gained c past now.control.entries (get_or xs i z)) (gaining c past (stepped c now.control.entries (gained c past now.control.entries (get_or xs i z))) (drop (i + 1) xs)))
      ∙ ap (λ journal. (on.done ++ gained c past now.control.entries (get_or xs i z)) ++ gaining c past journal (drop (i + 1) xs))
      (sym (takes.entries ∙ ap (λ d. stepped d now.control.entries (gained c past now.control.entries (get_or xs i z))) config));
}

pub offer_short : (offers : List (List Extent)) (o : List Extent) → slice_get offers 0 ≡ Some o → length o ≤ length (flat_map (λ (xs : List Extent). xs) offers)
offer_short [] o is = absurd (none-some o is)
offer_short (x ∷ offers) o is = omega (arith, ap length (same_Some x o is), length-append x (flat_map (λ (xs : List Extent). xs) offers))
