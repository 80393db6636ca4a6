-- A log that is cleared as its row allows stays one that its history tells.
use Rattle.std.proofs.Common.{◌≡◌, ℕ, ◌≤◌, Bool, true, false, List, [], ◌∷◌, ◌++◌, length, Option, Some, None, inl, inr, refl, sym, ap, subst, ◌∙◌, arith}
use Rattle.std.{proofs.lemmas.Bool.cases_Bool, proofs.lemmas.List.Sums.fold-append, proofs.lemmas.Option.none-some, specs.List.list_all}
use Rattle.std.specs.Prelude.{fold, not, option_map, ◌==◌, if◌then◌else◌}
use Rattle.cci_codec.specs.dcd_base.specs.declared.steps.LogId.{LogId}
use Rattle.extent_list.specs.{dcd_codes.specs.Rules.◌breaks◌, dcd_codes.specs.declared.rules.Rule.Rule, media_map.specs.region_config.proofs.Searches.or_parts}
use Rattle.event_log.{proofs.Histories.stays, specs.LogStates.clear_fault, specs.LogStates.handle_fault}
use Rattle.event_log.specs.{Logs.IsHistory, Logs.Log, Logs.cleared_of, Logs.empty_log, Logs.records_in, Logs.reset, declared.faults.ClearFault.ClearFault}
use Rattle.event_records.specs.declared.events.Event.{Event}
use Rattle.journal_core.specs.declared.outcome.Effect.{Effect}
use Rattle.device_rules.proofs.{LogHistories.one_log, LogSteps.same_log-self}
use Rattle.device_rules.specs.EventCommands.{clear_changes, clear_rule, cleared, handles_rule, no_such_log, rule_of}
use Rattle.device_rules.specs.{LogLaws.spares_hosts, Logs.log_after, Logs.log_of, Logs.same_log}

-- a fault breaks a rule
no_fault : (fault : Option ClearFault) → option_map rule_of fault ≡ None → fault ≡ None
no_fault None none = refl
no_fault (Some fault) none = absurd (none-some (rule_of fault) (sym none))

-- handles of the oldest records, in order, are no more than there are records
in_place_few : (handles : List ℕ) (records : List Event) → clear_fault handles records ≡ None → length handles ≤ length records
in_place_few [] records none = omega arith
in_place_few (h ∷ handles) [] none = absurd (none-some (ClearFault.UnknownHandle h) (sym none))
in_place_few (h ∷ handles) (e ∷ records) none = elim (cases_Bool (h == e.handle)) [
  | inl same ↦ omega (arith, in_place_few handles records (sym (ap (λ b. if b then clear_fault handles records else Some other) same) ∙ none))
  | inr apart ↦ absurd (none-some other (sym none ∙ ap (λ b. if b then clear_fault handles records else Some other) apart))
]
  where
    other : ClearFault
    other = handle_fault h e.handle (e ∷ records)

-- ---- the log that is cleared

cleared-history : (l : LogId) (log : Log) (n : ℕ) → IsHistory log → n ≤ length (records_in log) → IsHistory (fold (log_after l) log (cleared l n))
cleared-history l log n is few = by (n == 0)
  where
    by : (none : Bool) → IsHistory (fold (log_after l) log (if none then [] else Effect.Cleared l n ∷ []))
    by true = is
    by false = subst (λ own. IsHistory (if own then cleared_of n log else log)) (sym (same_log-self l)) ((stays log is).cleared n few)

reset-history : (l : LogId) (log : Log) → IsHistory log → IsHistory (log_after l log (Effect.Reset l))
reset-history l log is = subst (λ own. IsHistory (if own then reset log else log)) (sym (same_log-self l)) (stays log is).reset_too

-- ---- another one

cleared-other : (k l : LogId) (log : Log) (n : ℕ) → same_log k l ≡ false → fold (log_after l) log (cleared k n) ≡ log
cleared-other k l log n apart = by (n == 0)
  where
    by : (none : Bool) → fold (log_after l) log (if none then [] else Effect.Cleared k n ∷ []) ≡ log
    by true = refl
    by false = ap (λ own. if own then cleared_of n log else log) apart

-- ---- what the command changes

abbrev changes_by : LogId → Log → Bool → Bool → List ℕ → List Effect
changes_by l own fourth all handles =
    if not fourth then []
    else if all then cleared l (length (records_in own)) ++ Effect.Reset l ∷ []
    else cleared l (length handles)

-- of the log that it names
own_history : (l : LogId) (log : Log) (fourth all : Bool) (handles : List ℕ) → IsHistory log → (fourth ≡ true → all ≡ false → length handles ≤ length (records_in log)) →
    IsHistory (fold (log_after l) log (changes_by l log fourth all handles))
own_history l log false all handles is few = is
own_history l log true true handles is few =
    subst IsHistory (sym (fold-append (log_after l) log (cleared l (length (records_in log))) (Effect.Reset l ∷ [])))
    (reset-history l (fold (log_after l) log (cleared l (length (records_in log)))) (cleared-history l log (length (records_in log)) is (omega arith)))
own_history l log true false handles is few = cleared-history l log (length handles) is (few refl refl)

-- and of another
other_same : (k l : LogId) (log own : Log) (fourth all : Bool) (handles : List ℕ) → same_log k l ≡ false → fold (log_after l) log (changes_by k own fourth all handles) ≡ log
other_same k l log own false all handles apart = refl
other_same k l log own true true handles apart =
    fold-append (log_after l) log (cleared k (length (records_in own))) (Effect.Reset k ∷ [])
    ∙ ap (λ a. log_after l a (Effect.Reset k)) (cleared-other k l log (length (records_in own)) apart)
    ∙ ap (λ b. if b then reset log else log) apart
other_same k l log own true false handles apart = cleared-other k l log (length handles) apart

-- the row says that no more handles are given than there are records
few_handles : (number : ℕ) (own : Log) (all : Bool) (handles : List ℕ) → clear_rule number own all handles ≡ None →
    (number == 4) ≡ true → all ≡ false → length handles ≤ length (records_in own)
few_handles number own all handles rule fourth listed =
    let parts = or_parts (no_such_log number) (checked all (number == 4)) rule in
    in_place_few handles (records_in own) (no_fault _ (sym (λ i. checked (listed i) (fourth i)) ∙ parts.1))
  where
    checked : Bool → Bool → Option Rule
    checked all fourth = let log = if fourth then own else empty_log in
        if all then (log.missed == 0) breaks Rule.NotOverflowed else handles_rule handles log

-- The log that is cleared stays one that its history tells.
pub own_clear-history : (l : LogId) (log : Log) (number : ℕ) (all : Bool) (handles : List ℕ) → IsHistory log → clear_rule number log all handles ≡ None →
    IsHistory (fold (log_after l) log (clear_changes l number log all handles))
own_clear-history l log number all handles is rule = own_history l log (number == 4) all handles is (few_handles number log all handles rule)

-- And so does each log.
pub clear-history : (past : List Effect) (k : LogId) (number : ℕ) (all : Bool) (handles : List ℕ) → clear_rule number (log_of k past) all handles ≡ None →
    (l : LogId) → IsHistory (log_of l past) → IsHistory (fold (log_after l) (log_of l past) (clear_changes k number (log_of k past) all handles))
clear-history past k number all handles rule l is = elim (cases_Bool (same_log k l)) [
  | inr apart ↦ subst IsHistory (sym (other_same k l (log_of l past) (log_of k past) (number == 4) all handles apart)) is
  | inl same ↦ subst (λ m. IsHistory (fold (log_after l) (log_of l past) (clear_changes m number (log_of m past) all handles))) (sym (one_log k l same))
      (own_clear-history l (log_of l past) number all handles is (subst (λ m. clear_rule number (log_of m past) all handles ≡ None) (one_log k l same) rule))
]

-- and no record finds one full
pub clear-spares : (k : LogId) (number : ℕ) (own : Log) (all : Bool) (handles : List ℕ) → list_all spares_hosts (clear_changes k number own all handles) ≡ true
clear-spares k number own all handles = by (number == 4) all
  where
    some : (n : ℕ) (rest : List Effect) → list_all spares_hosts rest ≡ true → list_all spares_hosts (cleared k n ++ rest) ≡ true
    some n rest fine = one (n == 0)
      where
        one : (none : Bool) → list_all spares_hosts ((if none then [] else Effect.Cleared k n ∷ []) ++ rest) ≡ true
        one true = fine
        one false = fine

    alone : (n : ℕ) → list_all spares_hosts (cleared k n) ≡ true
    alone n = one (n == 0)
      where
        one : (none : Bool) → list_all spares_hosts (if none then [] else Effect.Cleared k n ∷ []) ≡ true
        one true = refl
        one false = refl

    by : (fourth all : Bool) → list_all spares_hosts (changes_by k own fourth all handles) ≡ true
    by false all = refl
    by true true = some (length (records_in own)) (Effect.Reset k ∷ []) refl
    by true false = alone (length handles)
