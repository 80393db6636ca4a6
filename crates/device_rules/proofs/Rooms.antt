-- The records of every legal step find room: one that finds a log full is only counted.
use Rattle.std.proofs.Common.{◌≡◌, ◌≢◌, ℕ, zero, suc, ◌+◌, ◌<◌, Bool, true, false, List, [], ◌∷◌, ◌++◌, inl, inr, refl, sym, subst, ◌∙◌, arith}
use Rattle.std.proofs.lemmas.Bool.{and_parts, cases_Bool, eqb-false, false≢true, ne_eqb}
use Rattle.std.specs.{List.AllByRecursion, List.list_all, List.range_with_len, Prelude.fold, Prelude.map, Prelude.◌==◌, Prelude.if◌then◌else◌}
use Rattle.cci_codec.specs.dcd_base.specs.declared.{capacity.Extent.Extent, ids.HostId.HostId, steps.LogId.LogId}
use Rattle.event_log.specs.Logs.{IsHistory, Log, next_handle, room_in}
use Rattle.event_records.specs.declared.events.{Event.Event, EventKind.EventKind}
use Rattle.fm_payloads.specs.declared.requests.FmRequest.{FmRequest}
use Rattle.host_payloads.specs.declared.requests.HostRequest.{HostRequest}
use Rattle.journal_core.specs.{Entries.effects, declared.entries.Entry.Entry, declared.outcome.Effect.Effect}
use Rattle.extent_list.specs.media_map.specs.region_config.specs.Configurations.{Configuration}
use Rattle.device_rules.proofs.EffectKinds.{clear_passes, give_back_passes, reference_passes, removals_pass, respond_passes, unhold_passes, zeroes_pass}
use Rattle.device_rules.proofs.{Leaving.all_pass, Leaving.both_pass, Leaving.map_passes, Leaving.over-leaving, LegalLogs.legal_logs, LegalSteps.step_case}
use Rattle.device_rules.proofs.LogHistories.{entered-history, entered_all-other, leaves_logs, log-left, one_log, told}
use Rattle.device_rules.{proofs.LogOutcomes.held_leaves, proofs.LogOutcomes.lists_leave, specs.Answers.host_outcome, specs.Answers.manager_outcome, specs.Answers.scrubbed, specs.Answers.zeroes}
use Rattle.device_rules.specs.{EventCommands.clear_changes, EventCommands.clear_outcome, Legal.Legal, Legal.Meets, Logs.log_after, Logs.log_of, Logs.same_log}
use Rattle.device_rules.specs.Outcomes.{Outcome, effects_of, ended, entered, entered_all, no_extent, record_for}
use Rattle.device_rules.specs.{ReleaseOutcomes.is_cleaning, ReleaseOutcomes.is_forced, ReleaseOutcomes.removed, ResponseOutcomes.response_records, ResponseOutcomes.unhold}
use Rattle.device_rules.specs.{ResponseOutcomes.respond_changes, Rooms.HasRoom, Rooms.HaveRoom, Rooms.RoomFor, Tags.is_referenced, Views.View, Views.view_after, Views.view_of}

-- ---- effects without records

abbrev pub records_none : Effect → Bool
records_none (Effect.Logged l event) = false
records_none e = true

none_left : (e : Effect) → leaves_logs e ≡ true → records_none e ≡ true
none_left (Effect.Logged l event) left = absurd (false≢true left)
none_left e left = refl

room_none : (l : LogId) (log : Log) (e : Effect) → records_none e ≡ true → HasRoom l log e
room_none l log (Effect.Logged k event) none = absurd (false≢true none)
room_none l log (Effect.Offer h xs) none = tt
room_none l log (Effect.Answer h xs) none = tt
room_none l log (Effect.Take h run) none = tt
room_none l log (Effect.Leave h run) none = tt
room_none l log (Effect.Zero run) none = tt
room_none l log (Effect.Soil run) none = tt
room_none l log (Effect.Hold h kind xs) none = tt
room_none l log (Effect.Unhold h kind) none = tt
room_none l log (Effect.Missed k) none = tt
room_none l log (Effect.Cleared k n) none = tt
room_none l log (Effect.Reset k) none = tt
room_none l log (Effect.Ref t on) none = tt
room_none l log (Effect.TagEnd t) none = tt
room_none l log (Effect.Block r size) none = tt

pub rooms_none : (l : LogId) (log : Log) (new : List Effect) → list_all records_none new ≡ true → HaveRoom l log new
rooms_none l log [] none = tt
rooms_none l log (e ∷ new) none =
    let parts = and_parts (records_none e) (list_all records_none new) none in
    (room_none l log e parts.0, rooms_none l (log_after l log e) new parts.1)

-- and with some behind them
rooms-append : (l : LogId) (log : Log) (xs ys : List Effect) → HaveRoom l log xs → HaveRoom l (fold (log_after l) log xs) ys → HaveRoom l log (xs ++ ys)
rooms-append l log [] ys first second = second
rooms-append l log (e ∷ xs) ys first second = (first.0, rooms-append l (log_after l log e) xs ys first.1 second)

-- ---- the records of one log

entered_rooms : (l : LogId) (log : Log) (events : List Event) → IsHistory log → HaveRoom l log (entered_all l log events)
entered_rooms l log [] is = tt
entered_rooms l log (e ∷ events) is =
    (by (room_in l log == 0) refl, entered_rooms l (log_after l log (entered l log e)) events (entered-history l log e is))
  where
    by : (full : Bool) → (room_in l log == 0) ≡ full → HasRoom l log (if full then Effect.Missed l else Effect.Logged l (record e { handle = next_handle log }))
    by true here = tt
    by false here = λ own. record {
      told = is;
      room = let some : room_in l log ≢ 0 = eqb-false (room_in l log) 0 here in omega (arith, some);
      handle = refl;
    }

-- and of another
other_rooms : (k l : LogId) (log other : Log) (events : List Event) → same_log k l ≡ false → HaveRoom l log (entered_all k other events)
other_rooms k l log other [] apart = tt
other_rooms k l log other (e ∷ events) apart =
    (by (room_in k other == 0), other_rooms k l (log_after l log (entered k other e)) (log_after k other (entered k other e)) events apart)
  where
    by : (full : Bool) → HasRoom l log (if full then Effect.Missed k else Effect.Logged k (record e { handle = next_handle other }))
    by true = tt
    by false = λ own. absurd (false≢true (sym apart ∙ own))

-- ---- the records of a command, where no log is told twice

abbrev pub Others : LogId → List (LogId × List Event) → Type 0
Others l log_records = AllByRecursion (λ n. same_log n.0 l ≡ false) log_records

abbrev pub Apart : List (LogId × List Event) → Type 0
Apart [] = Unit {0}
Apart (n ∷ log_records) = Others n.0 log_records × Apart log_records

others_rooms : (past : List Effect) (l : LogId) (log : Log) (log_records : List (LogId × List Event)) → Others l log_records → HaveRoom l log (told past log_records)
others_rooms past l log [] others = tt
others_rooms past l log (n ∷ log_records) others =
    rooms-append l log (entered_all n.0 (log_of n.0 past) n.1) (told past log_records) (other_rooms n.0 l log (log_of n.0 past) n.1 others.0)
    (others_rooms past l (fold (log_after l) log (entered_all n.0 (log_of n.0 past) n.1)) log_records others.1)

told_rooms : (past : List Effect) (l : LogId) (log_records : List (LogId × List Event)) → IsHistory (log_of l past) → Apart log_records → HaveRoom l (log_of l past) (told past log_records)
told_rooms past l [] is apart = tt
told_rooms past l (n ∷ log_records) is apart = elim (cases_Bool (same_log n.0 l)) [
  | inl same ↦ (let it : n.0 ≡ l = one_log n.0 l same in
      rooms-append l (log_of l past) (entered_all n.0 (log_of n.0 past) n.1) (told past log_records)
      (subst (λ k. HaveRoom l (log_of l past) (entered_all k (log_of k past) n.1)) (sym it) (entered_rooms l (log_of l past) n.1 is))
      (others_rooms past l (fold (log_after l) (log_of l past) (entered_all n.0 (log_of n.0 past) n.1)) log_records (subst (λ k. Others k log_records) it apart.0)))
  | inr other ↦
      rooms-append l (log_of l past) (entered_all n.0 (log_of n.0 past) n.1) (told past log_records) (other_rooms n.0 l (log_of l past) (log_of n.0 past) n.1 other)
      (subst (λ log. HaveRoom l log (told past log_records)) (sym (entered_all-other n.0 l (log_of l past) (log_of n.0 past) n.1 other)) (told_rooms past l log_records is apart.1))
]

-- a record for each host
each_other : (event : HostId → Event) (h : HostId) (a n : ℕ) → h < a → Others (LogId.Host h) (map (λ k. (LogId.Host k, event k ∷ [])) (range_with_len a n))
each_other event h a zero below = tt
each_other event h a (suc n) below = (ne_eqb a h (λ same. absurd (omega (arith, same, below))), each_other event h (a + 1) n (omega (arith, below)))

each_apart : (event : HostId → Event) (a n : ℕ) → Apart (map (λ h. (LogId.Host h, event h ∷ [])) (range_with_len a n))
each_apart event a zero = tt
each_apart event a (suc n) = (each_other event a (a + 1) n (omega arith), each_apart event (a + 1) n)

-- ---- each command

module _ (c : Configuration) (past : List Effect) (all : (l : LogId) → IsHistory (log_of l past)) where
  quiet_room : (new : List Effect) → list_all records_none new ≡ true → RoomFor past new
  quiet_room new none l = rooms_none l (log_of l past) new none

  still_room : (new : List Effect) → list_all leaves_logs new ≡ true → RoomFor past new
  still_room new left = quiet_room new (all_pass leaves_logs records_none none_left new left)

  outcome_room : (o : Outcome) → list_all leaves_logs o.changes ≡ true → Apart o.log_records → RoomFor past (effects_of c past o)
  outcome_room o left apart l =
      let ends : List Effect = map Effect.TagEnd (ended c past o.changes o.tags) in
      let still : list_all leaves_logs (o.changes ++ ends) ≡ true = both_pass leaves_logs o.changes ends left (map_passes leaves_logs Effect.TagEnd (λ t. refl) (ended c past o.changes o.tags)) in
      rooms-append l (log_of l past) (o.changes ++ ends) (told past o.log_records) (still_room (o.changes ++ ends) still l)
      (subst (λ log. HaveRoom l log (told past o.log_records)) (sym (over-leaving (log_after l) leaves_logs (log-left l) (log_of l past) (o.changes ++ ends) still)) (told_rooms past l o.log_records (all l) apart))

  clear_room : (k : LogId) (number : ℕ) (own : Log) (whole : Bool) (handles : List ℕ) → RoomFor past (effects_of c past (clear_outcome k number own whole handles))
  clear_room k number own whole handles =
      let changes : List Effect = clear_changes k number own whole handles in
      quiet_room (effects_of c past (clear_outcome k number own whole handles))
      (both_pass records_none (changes ++ []) [] (both_pass records_none changes [] (clear_passes records_none k (record { cleared = λ n. refl; reset = refl }) number own whole handles) refl) refl)

  host_room : (h : HostId) (v : View) (q : HostRequest) → RoomFor past (effects_of c past (host_outcome c h v q))
  host_room h v (HostRequest.GetEvents log) = λ l. tt
  host_room h v (HostRequest.ClearEvents number whole handles) = clear_room (LogId.Host h) number v.log whole handles
  host_room h v (HostRequest.GetConfiguration count first) = λ l. tt
  host_room h v (HostRequest.GetExtents count first) = λ l. tt
  host_room h v (HostRequest.AddResponse true xs) =
      outcome_room (host_outcome c h v (HostRequest.AddResponse true xs)) (respond_passes leaves_logs h (held_leaves h) (lists_leave h) c v.offers v.responses true xs) tt
  host_room h v (HostRequest.AddResponse false xs) =
      outcome_room (host_outcome c h v (HostRequest.AddResponse false xs)) (respond_passes leaves_logs h (held_leaves h) (lists_leave h) c v.offers v.responses false xs)
      (by (view_after c h v (respond_changes c h v.offers v.responses false xs)) v.offers (v.responses ++ xs))
    where
      by : (w : View) (offers : List (List Extent)) (taken : List Extent) → Apart (response_records c h w offers taken)
      by w [] taken = tt
      by w (offer ∷ later) [] = (tt, tt)
      by w (offer ∷ later) (x ∷ ys) = (tt, tt)
  host_room h v (HostRequest.GiveBack true xs) =
      outcome_room (host_outcome c h v (HostRequest.GiveBack true xs)) (give_back_passes leaves_logs h (held_leaves h) (lists_leave h) c v.releases true xs) tt
  host_room h v (HostRequest.GiveBack false xs) =
      outcome_room (host_outcome c h v (HostRequest.GiveBack false xs)) (give_back_passes leaves_logs h (held_leaves h) (lists_leave h) c v.releases false xs) (tt, tt)

  manager_room : (view_for : HostId → View) (q : FmRequest) → RoomFor past (effects_of c past (manager_outcome c past view_for q))
  manager_room view_for (FmRequest.GetEvents log) = λ l. tt
  manager_room view_for (FmRequest.ClearEvents number whole handles) = clear_room LogId.Manager number (log_of LogId.Manager past) whole handles
  manager_room view_for FmRequest.GetInfo = λ l. tt
  manager_room view_for (FmRequest.GetRegions host count first) = λ l. tt
  manager_room view_for (FmRequest.SetRegion r sanitize size) =
      outcome_room (manager_outcome c past view_for (FmRequest.SetRegion r sanitize size)) refl
      (each_apart (λ h. record (record_for h (view_for h) EventKind.RegionUpdated false no_extent) { region = r }) 0 c.hosts)
  manager_room view_for (FmRequest.GetExtentLists host count first) = λ l. tt
  manager_room view_for (FmRequest.Add host policy r bytes tag xs) = outcome_room (manager_outcome c past view_for (FmRequest.Add host policy r bytes tag xs)) refl (tt, tt)
  manager_room view_for (FmRequest.Remove host flags r bytes tag xs) =
      outcome_room (manager_outcome c past view_for (FmRequest.Remove host flags r bytes tag xs))
      (removals_pass leaves_logs host (λ run. refl) (λ run. refl) c (is_forced flags) (is_cleaning flags) (removed (view_for host).accepted flags tag xs)) (tt, tt)
  manager_room view_for (FmRequest.AddReference tag) =
      outcome_room (manager_outcome c past view_for (FmRequest.AddReference tag)) (reference_passes leaves_logs tag refl (is_referenced tag past)) tt
  manager_room view_for (FmRequest.RemoveReference tag) = outcome_room (manager_outcome c past view_for (FmRequest.RemoveReference tag)) refl tt
  manager_room view_for (FmRequest.ListTags first count) = λ l. tt

-- The records of each legal step find room.
pub room_for : (c : Configuration) (before : List Entry) (e : Entry) → Legal c before → Meets c before e → RoomFor (effects before) e.effects
room_for c before e legal meets =
    let all = (legal_logs c before legal).history in
    let past : List Effect = effects before in
    step_case c before (RoomFor past) (record {
      nothing = λ l. tt;
      refused = λ h kind xs. still_room c past all (unhold h kind xs) (unhold_passes leaves_logs h (held_leaves h) kind xs);
      host = λ h q known rule. host_room c past all h (view_of c h before) q;
      manager = λ q rule. manager_room c past all (λ h. view_of c h before) q;
      scrub = λ n. still_room c past all (zeroes c (scrubbed c past n)) (zeroes_pass leaves_logs (λ run. refl) c (scrubbed c past n));
    }) e meets
