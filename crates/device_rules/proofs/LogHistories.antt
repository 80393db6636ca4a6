-- A log that gets more records stays one that its history tells, and no record of a host's log finds it full.
use Rattle.std.proofs.Common.{◌≡◌, ◌<◌, ◌≤◌, Bool, true, false, ◌&&◌, List, [], ◌∷◌, ◌++◌, length, inl, inr, refl, sym, ap, subst, ◌∙◌, arith, append-nil}
use Rattle.std.{proofs.lemmas.Bool.and_parts, proofs.lemmas.Bool.cases_Bool, proofs.lemmas.Bool.eqb-true, proofs.lemmas.Bool.false≢true, specs.List.list_all}
use Rattle.std.specs.Prelude.{fold, flat_map, ◌==◌, if◌then◌else◌}
use Rattle.cci_codec.specs.dcd_base.specs.declared.{ids.HostId.HostId, steps.LogId.LogId}
use Rattle.event_log.proofs.Histories.{stays}
use Rattle.event_log.specs.Logs.{IsHistory, Log, cleared_of, missed_by, next_handle, recorded, reset, room_in}
use Rattle.event_records.specs.declared.events.Event.{Event}
use Rattle.journal_core.specs.declared.outcome.Effect.{Effect}
use Rattle.device_rules.proofs.LogSteps.{IsSound, IsSound-recorded, entered-room, room-recorded, same_log-self}
use Rattle.device_rules.specs.{LogLaws.spares_hosts, Logs.log_after, Logs.log_of, Logs.same_log, Outcomes.entered, Outcomes.entered_all}

-- no log changes
abbrev pub leaves_logs : Effect → Bool
leaves_logs (Effect.Logged l event) = false
leaves_logs (Effect.Missed l) = false
leaves_logs (Effect.Cleared l n) = false
leaves_logs (Effect.Reset l) = false
leaves_logs e = true

pub log-left : (l : LogId) (log : Log) (e : Effect) → leaves_logs e ≡ true → log_after l log e ≡ log
log-left l log (Effect.Logged k event) left = absurd (false≢true left)
log-left l log (Effect.Missed k) left = absurd (false≢true left)
log-left l log (Effect.Cleared k n) left = absurd (false≢true left)
log-left l log (Effect.Reset k) left = absurd (false≢true left)
log-left l log e left = refl

pub spares-left : (e : Effect) → leaves_logs e ≡ true → spares_hosts e ≡ true
spares-left (Effect.Missed l) left = absurd (false≢true left)
spares-left e left = refl

-- logs that are the same are one
pub one_log : (k l : LogId) → same_log k l ≡ true → k ≡ l
one_log (LogId.Host h) (LogId.Host i) same = ap LogId.Host (eqb-true h i same)
one_log LogId.Manager LogId.Manager same = refl
one_log (LogId.Host h) LogId.Manager same = absurd (false≢true same)
one_log LogId.Manager (LogId.Host h) same = absurd (false≢true same)

-- ---- its own records

pub entered-history : (l : LogId) (log : Log) (e : Event) → IsHistory log → IsHistory (log_after l log (entered l log e))
entered-history l log e is = by (room_in l log == 0)
  where
    by : (full : Bool) → IsHistory (log_after l log (if full then Effect.Missed l else Effect.Logged l (record e { handle = next_handle log })))
    by true = subst (λ own. IsHistory (if own then missed_by log else log)) (sym (same_log-self l)) (stays log is).missed
    by false = subst (λ own. IsHistory (if own then recorded log e else log)) (sym (same_log-self l)) ((stays log is).put e)

pub entered_all-history : (l : LogId) (log : Log) (events : List Event) → IsHistory log → IsHistory (fold (log_after l) log (entered_all l log events))
entered_all-history l log [] is = is
entered_all-history l log (e ∷ events) is = entered_all-history l (log_after l log (entered l log e)) events (entered-history l log e is)

-- ---- those of another log

pub entered-other : (k l : LogId) (log other : Log) (e : Event) → same_log k l ≡ false → log_after l log (entered k other e) ≡ log
entered-other k l log other e apart = by (room_in k other == 0)
  where
    by : (full : Bool) → log_after l log (if full then Effect.Missed k else Effect.Logged k (record e { handle = next_handle other })) ≡ log
    by true = ap (λ own. if own then missed_by log else log) apart
    by false = ap (λ own. if own then record log { ever = log.ever ++ (record e { handle = next_handle other }) ∷ [] } else log) apart

pub entered_all-other : (k l : LogId) (log other : Log) (events : List Event) → same_log k l ≡ false → fold (log_after l) log (entered_all k other events) ≡ log
entered_all-other k l log other [] apart = refl
entered_all-other k l log other (e ∷ events) apart =
    ap (λ a. fold (log_after l) a (entered_all k (log_after k other (entered k other e)) events)) (entered-other k l log other e apart)
    ∙ entered_all-other k l log (log_after k other (entered k other e)) events apart

-- ---- what is told to one log

-- the records that a command tells
abbrev pub told : List Effect → List (LogId × List Event) → List Effect
told past log_records = flat_map (λ n. entered_all n.0 (log_of n.0 past) n.1) log_records

pub told_one : (past : List Effect) (k : LogId) (events : List Event) → told past ((k, events) ∷ []) ≡ entered_all k (log_of k past) events
told_one past k events = append-nil (entered_all k (log_of k past) events)

pub told_one-history : (past : List Effect) (k : LogId) (events : List Event) (l : LogId) → IsHistory (log_of l past) →
    IsHistory (fold (log_after l) (log_of l past) (entered_all k (log_of k past) events))
told_one-history past k events l is = elim (cases_Bool (same_log k l)) [
  | inl same ↦ subst (λ m. IsHistory (fold (log_after l) (log_of l past) (entered_all m (log_of m past) events))) (sym (one_log k l same)) (entered_all-history l (log_of l past) events is)
  | inr apart ↦ subst IsHistory (sym (entered_all-other k l (log_of l past) (log_of k past) events apart)) is
]

-- ---- no record finds the log full that has room

pub entered_all-spares : (l : LogId) (log : Log) (events : List Event) → IsSound log → length events ≤ room_in l log → list_all spares_hosts (entered_all l log events) ≡ true
entered_all-spares l log [] sound room = refl
entered_all-spares l log (e ∷ events) sound room =
    let some : 0 < room_in l log = omega (arith, room) in
    let rest : length events ≤ room_in l (recorded log e) = rw (room-recorded l log e sound) (omega (arith, room)) in
    ap (λ effect. spares_hosts effect && list_all spares_hosts (entered_all l (log_after l log effect) events)) (entered-room l log e some)
    ∙ ap (λ own. list_all spares_hosts (entered_all l (if own then recorded log e else log) events)) (same_log-self l)
    ∙ entered_all-spares l (recorded log e) events (IsSound-recorded log e sound) rest

-- and the manager's is no host's
pub entered_all-manager : (log : Log) (events : List Event) → list_all spares_hosts (entered_all LogId.Manager log events) ≡ true
entered_all-manager log [] = refl
entered_all-manager log (e ∷ events) =
    ap (λ b. b && list_all spares_hosts (entered_all LogId.Manager (log_after LogId.Manager log (entered LogId.Manager log e)) events)) (by (room_in LogId.Manager log == 0))
    ∙ entered_all-manager (log_after LogId.Manager log (entered LogId.Manager log e)) events
  where
    by : (full : Bool) → spares_hosts (if full then Effect.Missed LogId.Manager else Effect.Logged LogId.Manager (record e { handle = next_handle log })) ≡ true
    by true = refl
    by false = refl

-- ---- so none was missed there

missed_after : (h : HostId) (log : Log) (e : Effect) → spares_hosts e ≡ true → log.missed ≡ 0 → (log_after (LogId.Host h) log e).missed ≡ 0
missed_after h log (Effect.Logged k event) spared none = by (same_log k (LogId.Host h))
  where
    by : (own : Bool) → (if own then record log { ever = log.ever ++ event ∷ [] } else log).missed ≡ 0
    by true = none
    by false = none
missed_after h log (Effect.Missed (LogId.Host k)) spared none = absurd (false≢true spared)
missed_after h log (Effect.Missed LogId.Manager) spared none = none
missed_after h log (Effect.Cleared k n) spared none = by (same_log k (LogId.Host h))
  where
    by : (own : Bool) → (if own then cleared_of n log else log).missed ≡ 0
    by true = none
    by false = none
missed_after h log (Effect.Reset k) spared none = by (same_log k (LogId.Host h))
  where
    by : (own : Bool) → (if own then reset log else log).missed ≡ 0
    by true = refl
    by false = none
missed_after h log e spared none = none

pub none_missed : (h : HostId) (log : Log) (new : List Effect) → list_all spares_hosts new ≡ true → log.missed ≡ 0 → (fold (log_after (LogId.Host h)) log new).missed ≡ 0
none_missed h log [] spared none = none
none_missed h log (e ∷ new) spared none =
    let parts = and_parts (spares_hosts e) (list_all spares_hosts new) spared in
    none_missed h (log_after (LogId.Host h) log e) new parts.1 (missed_after h log e parts.0 none)
