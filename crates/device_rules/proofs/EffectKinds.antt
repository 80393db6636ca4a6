-- A test that all effects of some kinds pass is passed by all effects of the commands that have no others.
use Rattle.std.proofs.Common.{◌≡◌, ℕ, Bool, true, false, ◌&&◌, not, List, [], ◌∷◌, ◌++◌, length, refl, ap}
use Rattle.std.{specs.Prelude.map, specs.Prelude.flat_map, specs.Prelude.◌==◌, specs.Prelude.if◌then◌else◌, specs.List.list_all, proofs.lemmas.Bool.and_parts, proofs.lemmas.Bool.false≢true}
use Rattle.cci_codec.specs.dcd_base.specs.declared.{capacity.Extent.Extent, capacity.Tag.Tag, ids.HostId.HostId, media.Run.Run, steps.LogId.LogId}
use Rattle.event_log.specs.Logs.{Log, next_handle, records_in, room_in}
use Rattle.event_records.specs.declared.events.Event.{Event}
use Rattle.extent_list.specs.{ExtentLists.marked, media_map.specs.Places.run_of, media_map.specs.region_config.specs.Configurations.Configuration}
use Rattle.extent_list.specs.media_map.specs.region_config.specs.Granules.{same_region}
use Rattle.granule_map.specs.Choices.{joined}
use Rattle.host_payloads.specs.declared.requests.HostRequest.{HostRequest}
use Rattle.journal_core.specs.declared.outcome.{Effect.Effect, HeldKind.HeldKind}
use Rattle.device_rules.{proofs.Leaving.both_pass, proofs.Leaving.map_passes, specs.Answers.dropped, specs.Answers.host_outcome, specs.Answers.zeroes}
use Rattle.device_rules.specs.{EventCommands.clear_changes, EventCommands.cleared, Logs.log_after, Logs.log_of}
use Rattle.device_rules.specs.Outcomes.{Outcome, effects_of, ended, entered, entered_all}
use Rattle.device_rules.specs.ReleaseOutcomes.{give_back_changes, leaves, removals}
use Rattle.device_rules.specs.ResponseOutcomes.{answered, hold, respond_changes, response_records, unhold}
use Rattle.device_rules.specs.Views.{View, view_after}

-- records of a log, and its clearing
pub record PassRecords (p : Effect → Bool) (l : LogId) : Type 0 where
  pub logged : (event : Event) → p (Effect.Logged l event) ≡ true
  pub missed : p (Effect.Missed l) ≡ true

pub record PassClearing (p : Effect → Bool) (l : LogId) : Type 0 where
  pub cleared : (n : ℕ) → p (Effect.Cleared l n) ≡ true
  pub reset : p (Effect.Reset l) ≡ true

-- what changes a host's held lists, and its others
pub record PassHeld (p : Effect → Bool) (h : HostId) : Type 0 where
  pub hold : (kind : HeldKind) (xs : List Extent) → p (Effect.Hold h kind xs) ≡ true
  pub unhold : (kind : HeldKind) → p (Effect.Unhold h kind) ≡ true

pub record PassLists (p : Effect → Bool) (h : HostId) : Type 0 where
  pub answer : (xs : List Extent) → p (Effect.Answer h xs) ≡ true
  pub take : (run : Run) → p (Effect.Take h run) ≡ true
  pub leave : (run : Run) → p (Effect.Leave h run) ≡ true

-- ---- records

module _ (p : Effect → Bool) (l : LogId) (records : PassRecords p l) where
  entered_passes : (log : Log) (event : Event) → p (entered l log event) ≡ true
  entered_passes log event = by (room_in l log == 0)
    where
      by : (full : Bool) → p (if full then Effect.Missed l else Effect.Logged l (record event { handle = next_handle log })) ≡ true
      by true = records.missed
      by false = records.logged (record event { handle = next_handle log })

  pub entered_all_passes : (log : Log) (events : List Event) → list_all p (entered_all l log events) ≡ true
  entered_all_passes log [] = refl
  entered_all_passes log (event ∷ events) = λ i. entered_passes log event i && entered_all_passes (log_after l log (entered l log event)) events i

-- the records of a command go to logs of a kind
abbrev pub tells : (LogId → Bool) → List (LogId × List Event) → Bool
tells q log_records = list_all (λ n. q n.0) log_records

abbrev pub any_log : LogId → Bool
any_log l = true

pub tells_any : (log_records : List (LogId × List Event)) → tells any_log log_records ≡ true
tells_any [] = refl
tells_any (n ∷ log_records) = tells_any log_records

module _ (p : Effect → Bool) (q : LogId → Bool) (records : (l : LogId) → q l ≡ true → PassRecords p l) where
  pub told_passes : (past : List Effect) (log_records : List (LogId × List Event)) → tells q log_records ≡ true → list_all p (flat_map (λ n. entered_all n.0 (log_of n.0 past) n.1) log_records) ≡ true
  told_passes past [] told = refl
  told_passes past (n ∷ log_records) told =
      let parts = and_parts (q n.0) (tells q log_records) told in
      both_pass p (entered_all n.0 (log_of n.0 past) n.1) (flat_map (λ m. entered_all m.0 (log_of m.0 past) m.1) log_records)
      (entered_all_passes p n.0 (records n.0 parts.0) (log_of n.0 past) n.1) (told_passes past log_records parts.1)

  -- where the changes of a command pass, and ends of tags, all its effects do
  pub outcome_passes : (end : (t : Tag) → p (Effect.TagEnd t) ≡ true) (c : Configuration) (past : List Effect) (o : Outcome) →
      list_all p o.changes ≡ true → tells q o.log_records ≡ true → list_all p (effects_of c past o) ≡ true
  outcome_passes end c past o changes told =
      both_pass p (o.changes ++ map Effect.TagEnd (ended c past o.changes o.tags)) (flat_map (λ n. entered_all n.0 (log_of n.0 past) n.1) o.log_records)
      (both_pass p o.changes (map Effect.TagEnd (ended c past o.changes o.tags)) changes (map_passes p Effect.TagEnd end (ended c past o.changes o.tags)))
      (told_passes past o.log_records told)

-- ---- the changes of each command

pub clear_passes : (p : Effect → Bool) (l : LogId) → PassClearing p l → (number : ℕ) (own : Log) (all : Bool) (handles : List ℕ) → list_all p (clear_changes l number own all handles) ≡ true
clear_passes p l clears number own all handles = by (number == 4) all
  where
    alone : (n : ℕ) → list_all p (cleared l n) ≡ true
    alone n = one (n == 0)
      where
        one : (none : Bool) → list_all p (if none then [] else Effect.Cleared l n ∷ []) ≡ true
        one true = refl
        one false = ap (λ b. b && true) (clears.cleared n)

    by : (fourth all : Bool) → list_all p (if not fourth then [] else if all then cleared l (length (records_in own)) ++ Effect.Reset l ∷ [] else cleared l (length handles)) ≡ true
    by false all = refl
    by true true = both_pass p (cleared l (length (records_in own))) (Effect.Reset l ∷ []) (alone (length (records_in own))) (ap (λ b. b && true) clears.reset)
    by true false = alone (length handles)

module _ (p : Effect → Bool) (h : HostId) (held : PassHeld p h) where
  pub unhold_passes : (kind : HeldKind) (xs : List Extent) → list_all p (unhold h kind xs) ≡ true
  unhold_passes kind [] = refl
  unhold_passes kind (x ∷ xs) = ap (λ b. b && true) (held.unhold kind)

  pub hold_passes : (kind : HeldKind) (xs : List Extent) → list_all p (hold h kind xs) ≡ true
  hold_passes kind [] = refl
  hold_passes kind (x ∷ xs) = ap (λ b. b && true) (held.hold kind (x ∷ xs))

  -- a refusal
  pub dropped_passes : (v : View) (opcode : ℕ) → list_all p (dropped h v opcode) ≡ true
  dropped_passes v opcode = by (opcode == 0x4802) (opcode == 0x4803)
    where
      by : (a b : Bool) → list_all p (if a then unhold h HeldKind.Responses v.responses else if b then unhold h HeldKind.Releases v.releases else []) ≡ true
      by true b = unhold_passes HeldKind.Responses v.responses
      by false true = unhold_passes HeldKind.Releases v.releases
      by false false = refl

  module _ (lists : PassLists p h) where
    pub respond_passes : (c : Configuration) (offers : List (List Extent)) (before : List Extent) (more : Bool) (xs : List Extent) → list_all p (respond_changes c h offers before more xs) ≡ true
    respond_passes c offers before true xs = hold_passes HeldKind.Responses xs
    respond_passes c offers before false xs = both_pass p (unhold h HeldKind.Responses before) (answered c h offers (before ++ xs)) (unhold_passes HeldKind.Responses before) (by offers)
      where
        by : (offers : List (List Extent)) → list_all p (answered c h offers (before ++ xs)) ≡ true
        by [] = refl
        by (offer ∷ later) = λ i. lists.answer (map (marked offer) (before ++ xs)) i && map_passes p (λ x. Effect.Take h (run_of c h x)) (λ x. lists.take (run_of c h x)) (before ++ xs) i

    pub give_back_passes : (c : Configuration) (before : List Extent) (more : Bool) (xs : List Extent) → list_all p (give_back_changes c h before more xs) ≡ true
    give_back_passes c before true xs = hold_passes HeldKind.Releases xs
    give_back_passes c before false xs = both_pass p (unhold h HeldKind.Releases before) (leaves c h (before ++ xs)) (unhold_passes HeldKind.Releases before)
        (map_passes p (λ x. Effect.Leave h (run_of c h x)) (λ x. lists.leave (run_of c h x)) (before ++ xs))

-- a removal, by force or not
pub removals_pass : (p : Effect → Bool) (h : HostId) (leave : (run : Run) → p (Effect.Leave h run) ≡ true) (soil : (run : Run) → p (Effect.Soil run) ≡ true)
    (c : Configuration) (forced clean : Bool) (xs : List Extent) → list_all p (if forced then removals c h clean xs else []) ≡ true
removals_pass p h leave soil c false clean xs = refl
removals_pass p h leave soil c true clean [] = refl
removals_pass p h leave soil c true true (x ∷ xs) = λ i. leave (run_of c h x) i && (soil (run_of c h x) i && removals_pass p h leave soil c true true xs i)
removals_pass p h leave soil c true false (x ∷ xs) = λ i. leave (run_of c h x) i && removals_pass p h leave soil c true false xs i

-- a reference that may be there already
pub reference_passes : (p : Effect → Bool) (tag : Tag) → p (Effect.Ref tag true) ≡ true → (on : Bool) → list_all p (if on then [] else Effect.Ref tag true ∷ []) ≡ true
reference_passes p tag pass true = refl
reference_passes p tag pass false = ap (λ b. b && true) pass

pub zeroes_pass : (p : Effect → Bool) → ((run : Run) → p (Effect.Zero run) ≡ true) → (c : Configuration) (gs : List ℕ) → list_all p (zeroes c gs) ≡ true
zeroes_pass p zero c gs = map_passes p (λ (r : ℕ × ℕ). Effect.Zero (record { first = r.0; count = r.1 })) (λ r. zero (record { first = r.0; count = r.1 })) (joined (same_region c) gs)

-- ---- a host's command

-- its records go to the manager's log
response_tells : (q : LogId → Bool) → q LogId.Manager ≡ true → (c : Configuration) (h : HostId) (v : View) (offers : List (List Extent)) (taken : List Extent) → tells q (response_records c h v offers taken) ≡ true
response_tells q manager c h v [] taken = refl
response_tells q manager c h v (offer ∷ later) [] = ap (λ b. b && true) manager
response_tells q manager c h v (offer ∷ later) (x ∷ xs) = ap (λ b. b && true) manager

-- All its effects are ends of tags, records for the manager, clearings of its own log, or changes of its lists.
pub host_passes : (p : Effect → Bool) (h : HostId) → ((t : Tag) → p (Effect.TagEnd t) ≡ true) → PassRecords p LogId.Manager → PassClearing p (LogId.Host h) → PassHeld p h → PassLists p h →
    (c : Configuration) (past : List Effect) (v : View) (q : HostRequest) → list_all p (effects_of c past (host_outcome c h v q)) ≡ true
host_passes p h end records clears held lists c past v q = by q
  where
    manager : LogId → Bool
    manager (LogId.Host k) = false
    manager LogId.Manager = true

    its : (l : LogId) → manager l ≡ true → PassRecords p l
    its (LogId.Host k) is = absurd (false≢true is)
    its LogId.Manager is = records

    by : (q : HostRequest) → list_all p (effects_of c past (host_outcome c h v q)) ≡ true
    by (HostRequest.GetEvents log) = refl
    by (HostRequest.GetConfiguration count first) = refl
    by (HostRequest.GetExtents count first) = refl
    by (HostRequest.ClearEvents number all handles) =
        outcome_passes p manager its end c past (host_outcome c h v (HostRequest.ClearEvents number all handles)) (clear_passes p (LogId.Host h) clears number v.log all handles) refl
    by (HostRequest.AddResponse true xs) =
        outcome_passes p manager its end c past (host_outcome c h v (HostRequest.AddResponse true xs)) (respond_passes p h held lists c v.offers v.responses true xs) refl
    by (HostRequest.AddResponse false xs) =
        outcome_passes p manager its end c past (host_outcome c h v (HostRequest.AddResponse false xs)) (respond_passes p h held lists c v.offers v.responses false xs)
        (response_tells manager refl c h (view_after c h v (respond_changes c h v.offers v.responses false xs)) v.offers (v.responses ++ xs))
    by (HostRequest.GiveBack true xs) =
        outcome_passes p manager its end c past (host_outcome c h v (HostRequest.GiveBack true xs)) (give_back_passes p h held lists c v.releases true xs) refl
    by (HostRequest.GiveBack false xs) =
        outcome_passes p manager its end c past (host_outcome c h v (HostRequest.GiveBack false xs)) (give_back_passes p h held lists c v.releases false xs) refl
