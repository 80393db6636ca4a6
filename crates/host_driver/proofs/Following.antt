-- What a driver keeps in every legal journal whose records are spelled.
use Rattle.std.proofs.Common.{◌≡◌, ℕ, ◌<◌, Bool, true, false, List, [], ◌∷◌, ◌++◌, length, drop, refl, sym, ap, subst, ◌∙◌, arith, length-append}
use Rattle.std.{proofs.lemmas.List.nil_from_length, proofs.lemmas.List.take-append-drop, proofs.lemmas.List.Sums.fold_push, specs.List.AllByRecursion}
use Rattle.std.specs.Prelude.{fold, if◌then◌else◌, take}
use Rattle.dcd_base.specs.declared.{ids.HostId.HostId, steps.LogId.LogId}
use Rattle.event_log.specs.Logs.{Log, cleared_of, empty_log, missed_by, records_in, reset}
use Rattle.journal_core.{proofs.EachSteps.Each-front, proofs.EachSteps.Each-push, proofs.EachSteps.EachFrom-at, proofs.JournalSteps.effects-push, specs.Entries.Each, specs.Entries.effects}
use Rattle.journal_core.specs.declared.{entries.Entry.Entry, outcome.Effect.Effect}
use Rattle.region_config.specs.{Configurations.Configuration, Soundness.IsSound}
use Rattle.device_plain.specs.device_rules.{proofs.LegalSteps.by_steps, proofs.ListSteps.each-append, proofs.ListSteps.each-back, proofs.ListSteps.each-front, specs.Counts.records_of}
use Rattle.device_plain.specs.device_rules.specs.{Hosts.accepted_of, Legal.Legal, Legal.Meets, Logs.log_after, Logs.log_of, Logs.same_log, Views.view_of}
use Rattle.device_plain.specs.isolation_laws.specs.Solo.{acts_for}
use Rattle.host_driver.proofs.{Lawful.Keeps, Lawful.keeps_first, Lawful.keeps_on, Passing.without_all, Pending.forced_in}
use Rattle.host_driver.specs.Journals.{IsDriven, IsDrivenStep, IsUnrefused, KeepsTable, driver_of, ends_with}
use Rattle.host_driver.specs.Spelling.{AreSpelled, IsSpelled, IsSpelledIn}

-- ---- records that are spelled

one_more : (l : LogId) (log : Log) (e : Effect) → AllByRecursion IsSpelled log.ever → IsSpelledIn e → AllByRecursion IsSpelled (log_after l log e).ever
one_more l log (Effect.Logged k event) all here = by (same_log k l)
  where
    by : (b : Bool) → AllByRecursion IsSpelled (if b then record log { ever = log.ever ++ event ∷ [] } else log).ever
    by true = each-append IsSpelled log.ever (event ∷ []) all (here, tt)
    by false = all
one_more l log (Effect.Cleared k n) all here = by (same_log k l)
  where
    by : (b : Bool) → AllByRecursion IsSpelled (if b then cleared_of n log else log).ever
    by true = all
    by false = all
one_more l log (Effect.Missed k) all here = by (same_log k l)
  where
    by : (b : Bool) → AllByRecursion IsSpelled (if b then missed_by log else log).ever
    by true = all
    by false = all
one_more l log (Effect.Reset k) all here = by (same_log k l)
  where
    by : (b : Bool) → AllByRecursion IsSpelled (if b then reset log else log).ever
    by true = all
    by false = all
one_more l log e all here = all

ever_spelled : (l : LogId) (log : Log) (new : List Effect) → AllByRecursion IsSpelled log.ever → AllByRecursion IsSpelledIn new → AllByRecursion IsSpelled (fold (log_after l) log new).ever
ever_spelled l log [] all each = all
ever_spelled l log (e ∷ new) all (here, each) = ever_spelled l (log_after l log e) new (one_more l log e all here) each

pub log_spelled : (l : LogId) (past : List Effect) → AllByRecursion IsSpelledIn past → AllByRecursion IsSpelled (records_in (log_of l past))
log_spelled l past each =
    let log : Log = log_of l past in
    each-back IsSpelled (take log.cleared log.ever) (drop log.cleared log.ever)
    (subst (AllByRecursion IsSpelled) (sym (take-append-drop log.cleared log.ever)) (ever_spelled l empty_log past tt each))

-- ---- the law

pub ends_with-push : (h : HostId) (journal : List Entry) (e : Entry) → ends_with h (journal ++ e ∷ []) ≡ acts_for h e.actor
ends_with-push h journal e = fold_push (λ (b : Bool) (x : Entry). acts_for h x.actor) true journal e

module _ (c : Configuration) (sound : IsSound c) (h : HostId) (known : h < c.hosts) (most : ℕ) where
  -- Driver and device agree, no command but a release was refused, and where the driver acted last and is idle the log is empty.
  pub record Holding (journal : List Entry) : Type 0 where
    pub keeps : Keeps c sound h known most journal
    pub unrefused : Each (IsUnrefused h) journal
    pub rested : ends_with h journal ≡ true → (driver_of h most journal).idle ≡ true → records_in (view_of c h journal).log ≡ []

  abbrev Holds : List Entry → Type 0
  Holds journal = IsDriven h most journal → AreSpelled journal → Holding journal

  step : (before : List Entry) (e : Entry) → Legal c before → Holds before → Meets c before e → Holds (before ++ e ∷ [])
  step before e legal held meets is_driven spelled =
      let past = each-front IsSpelledIn (effects before) e.effects (subst (AllByRecursion IsSpelledIn) (effects-push before e) spelled) in
      let was = held (Each-front (IsDrivenStep h most) before (e ∷ []) is_driven) past in
      let now = keeps_on c sound h known most before legal was.keeps (log_spelled (LogId.Host h) (effects before) past) e meets (EachFrom-at [] (IsDrivenStep h most) before e [] is_driven) in
      record {
        keeps = now.agrees;
        unrefused = Each-push (IsUnrefused h) before e was.unrefused now.unrefused;
        rested = λ last. now.rested (sym (ends_with-push h before e) ∙ last);
      }

  pub all_hold : (journal : List Entry) → Legal c journal → IsDriven h most journal → AreSpelled journal → Holding journal
  all_hold = by_steps c Holds (λ is_driven spelled. record { keeps = keeps_first c sound h known most; unrefused = tt; rested = λ last idle. refl }) step

  -- where the log is empty no removal is pending
  pub table_is : (journal : List Entry) → Keeps c sound h known most journal → records_of (LogId.Host h) (effects journal) ≡ []
      → (driver_of h most journal).table ≡ accepted_of c h (effects journal)
  unfolding records_of
  table_is journal a none =
      let d = driver_of h most journal in
      let counted : length (a.done ++ (d.records ++ a.unread)) ≡ 0 = ap length (sym a.log ∙ none) in
      let rest : d.records ++ a.unread ≡ [] = nil_from_length (d.records ++ a.unread) (omega (arith, counted, length-append a.done (d.records ++ a.unread))) in
      sym (a.goes.accepted ∙ ap (λ es. without_all (forced_in es) d.table) rest)

  pub follows : (journal : List Entry) → Legal c journal → IsDriven h most journal → AreSpelled journal → KeepsTable c h most journal
  follows journal legal is_driven spelled =
      let held = all_hold journal legal is_driven spelled in
      record { table = table_is journal held.keeps; unrefused = held.unrefused }
