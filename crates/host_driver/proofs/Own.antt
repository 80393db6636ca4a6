-- The driver's own commands: what each replies and changes.
use Rattle.std.proofs.Common.{◌≡◌, ℕ, ◌<◌, ◌≤◌, Bool, true, false, not, ◌&&◌, ◌==◌, List, [], ◌∷◌, ◌++◌, Option, Some, None, Ok, Err, length, map, take, drop, refl, sym, ap, subst, ◌∙◌, arith, length-append}
use Rattle.std.proofs.lemmas.{Bool.eq-eqb, Bool.ne_eqb, List.drop-drop, List.length-drop, List.length-map, List.length-take, List.nil_from_length, List.take_all}
use Rattle.std.specs.{List.AllByRecursion, Prelude.if◌then◌else◌, Prelude.nat_lt, Prelude.option_map, declared.result.Result.Result}
use Rattle.dcd_base.specs.{declared.capacity.Extent.Extent, Words.is_empty, declared.ids.HostId.HostId, declared.steps.LogId.LogId, EventCommands.FitsHandle}
use Rattle.dcd_codes.specs.{Rules.code_of, Rules.number_of, declared.rules.Rule.Rule}
use Rattle.cci_codec.specs.declared.messages.Response.{Response}
use Rattle.event_log.specs.{LogStates.clear_fault, Logs.cleared_of, Logs.records_in}
use Rattle.event_records.specs.declared.events.Event.{Event}
use Rattle.extent_list.specs.ExtentLists.{cut_all, marked}
use Rattle.host_payloads.specs.{HostPayloads.FitsListed, HostPayloads.host_opcode, declared.requests.HostRequest.HostRequest}
use Rattle.journal_core.specs.declared.{acts.Reply.Reply, outcome.Effect.Effect, outcome.HeldKind.HeldKind}
use Rattle.media_map.specs.Places.{run_of}
use Rattle.region_config.specs.Configurations.{Configuration}
use Rattle.device_plain.specs.device_rules.proofs.ListSteps.{each-front, each-map}
use Rattle.device_plain.specs.device_rules.specs.Answers.{dropped, host_outcome, host_result, host_result_in, host_rule, reply_with, unless}
use Rattle.device_plain.specs.device_rules.specs.EventCommands.{clear_changes, cleared, events_reply, rule_of}
use Rattle.device_plain.specs.device_rules.specs.{Hosts.accepted_after, Hosts.held_after, Hosts.offers_after, Logs.log_after, Outcomes.Outcome}
use Rattle.device_plain.specs.device_rules.specs.{ReleaseOutcomes.give_back_changes, ReleaseOutcomes.leaves, ResponseOutcomes.respond_changes, ResponseOutcomes.unhold, Views.View, Views.view_after}
use Rattle.device_plain.specs.isolation_laws.{proofs.RemovalViews.IsOwnRun, specs.Solo.changes_with}
use Rattle.host_driver.proofs.Heard.{Hears, clear_heard, page_heard, release_heard, response_heard}
use Rattle.host_driver.proofs.Midway.{Agrees, Seen, handles_of, seen_in, treated-idle, treated-phase}
use Rattle.host_driver.proofs.{OwnEffects.cut_bare, OwnEffects.cuts, OwnEffects.over_leaves, OwnEffects.over_takes, OwnEffects.refused_code, Pending.AreBeside, Pending.forced_in, Pending.offers_in}
use Rattle.host_driver.{proofs.ReadBack.ReadsPage, proofs.ReadBack.page_back, proofs.ReadBack.spelled_handle, specs.Journals.refuses, specs.Running.due_weight, specs.Running.to_do}
use Rattle.host_driver.specs.{Spelling.IsSpelled, declared.due.Due.Due, declared.faults.DriverFault.DriverFault}
use Rattle.host_driver.specs.Driving.{Driven, answered_by, asked_by, bare, cut_all_out, due_fault, given_by, gives, gone_on, is_refusal, driver_message, replied, reply_fault, taken_by, with_page}
use Rattle.host_driver.proofs.Answered.{CanGive, cleared_count, cleared_front, each-take, empty_is, handles_some, not_page, offer_answered, oldest, page_cleared, page_read, release_done, release_refused, some_is}

-- handles of the records in front can be cleared
clear_front : (done rest : List Event) → clear_fault (handles_of done) (done ++ rest) ≡ None
clear_front [] rest = refl
clear_front (e ∷ done) rest = rw (eq-eqb e.handle e.handle refl) (clear_front done rest)

and-false : (b : Bool) → (b && false) ≡ false
and-false true = refl
and-false false = refl

-- ---- the answer to a request that is heard

module _ (c : Configuration) (h : HostId) (v : View) (most : ℕ) (d : Driven) where
  -- the driver once it has the reply
  abbrev pub after : Reply → Driven
  after (Reply.Answer s) = replied most d s
  after reply = d

  -- why it would not take the reply
  abbrev pub fault : Reply → Option DriverFault
  fault (Reply.Answer s) = reply_fault most d s
  fault reply = None

  -- After a command with this result the driver and the device agree; the reply is no refusal and is taken; the driver is idle
  -- only where the log is empty, and else there is less to do.
  pub record GoesOn (result : Result Outcome Rule) : Type 0 where
    pub agrees : Agrees (seen_in (view_after c h v (changes_with h v (gives most d) result))) (after (reply_with (gives most d) result))
    pub unrefused : refuses (reply_with (gives most d) result) ≡ false
    pub taken : fault (reply_with (gives most d) result) ≡ None
    pub rested : (after (reply_with (gives most d) result)).idle ≡ true → records_in (view_after c h v (changes_with h v (gives most d) result)).log ≡ []
    pub less : (after (reply_with (gives most d) result)).idle ≡ false
        → to_do (records_in (view_after c h v (changes_with h v (gives most d) result)).log) (after (reply_with (gives most d) result)) < to_do (records_in v.log) d

  -- The same of the view and of the driver as they are then.
  pub record Comes (w : View) (e : Driven) : Type 0 where
    pub agrees : Agrees (seen_in w) e
    pub rested : e.idle ≡ true → records_in w.log ≡ []
    pub less : e.idle ≡ false → to_do (records_in w.log) e < to_do (records_in v.log) d

  -- the reply to a command that breaks no rule
  abbrev pub done : List ℕ → Response
  done payload = record { tag = 0; opcode = (gives most d).opcode; code = 0; payload = payload }

  -- it is taken
  no_fault : (payload : List ℕ) → due_fault payload d.due ≡ None → reply_fault most d (done payload) ≡ None
  no_fault payload sound = rw (eq-eqb (gives most d).opcode (gives most d).opcode refl, sound) refl

  pub takes : (s : Response) → reply_fault most d s ≡ None → replied most d s ≡ answered_by most d s d.due
  takes s none = rw none refl

  -- where it breaks none
  pub allowed : (due : Due) → d.due ≡ due → (o : Outcome) → due_fault o.payload due ≡ None
      → Comes (view_after c h v o.changes) (answered_by most d (done o.payload) due) → GoesOn (Ok o)
  allowed due is o sound comes =
      let none : reply_fault most d (done o.payload) ≡ None = no_fault o.payload (ap (due_fault o.payload) is ∙ sound) in
      let changed : Comes (view_after c h v o.changes) (replied most d (done o.payload)) =
      subst (Comes (view_after c h v o.changes)) (sym (takes (done o.payload) none ∙ ap (answered_by most d (done o.payload)) is)) comes in
      record { agrees = changed.agrees; unrefused = refl; taken = none; rested = changed.rested; less = changed.less }

  -- the result of what was asked
  pub result_of : (due : Due) → d.due ≡ due → Hears (asked_by most d due)
      → host_result_in c h v (gives most d) ≡ unless (host_rule c h v (asked_by most d due)) (host_outcome c h v (asked_by most d due))
  result_of due is hears = ap (λ k. host_result_in c h v (driver_message (asked_by most d k))) is ∙ ap (host_result c h v) hears

  -- so it goes on where the request is heard and breaks no rule
  pub allowed_by : (due : Due) → d.due ≡ due → Hears (asked_by most d due) → host_rule c h v (asked_by most d due) ≡ None
      → due_fault (host_outcome c h v (asked_by most d due)).payload due ≡ None
      → Comes (view_after c h v (host_outcome c h v (asked_by most d due)).changes) (answered_by most d (done (host_outcome c h v (asked_by most d due)).payload) due)
      → GoesOn (host_result_in c h v (gives most d))
  allowed_by due is hears row sound comes =
      subst GoesOn (sym (result_of due is hears ∙ ap (λ rule. unless rule (host_outcome c h v (asked_by most d due))) row))
      (allowed due is (host_outcome c h v (asked_by most d due)) sound comes)

  -- ---- a page

  module _ (a : Agrees (seen_in v) d) where
    pub page_asked : d.due ≡ Due.Page → AllByRecursion IsSpelled (records_in v.log) → GoesOn (host_result_in c h v (gives most d))
    page_asked is spelled =
        allowed_by Due.Page is page_heard refl back.sound (subst (λ events. Comes v (with_page d events)) (sym back.read) read_page)
      where
        page : List Event
        page = take 15 (records_in v.log)

        back : ReadsPage (take 15 (records_in v.log)) (events_reply v.log)
        back = page_back v.log.missed (nat_lt 15 (length (records_in v.log))) (take 15 (records_in v.log)) (omega (arith, length-take 15 (records_in v.log)))
            (each-take IsSpelled 15 (records_in v.log) spelled)

        d1 : Driven
        d1 = record d { records = take 15 (records_in v.log); handles = handles_of (take 15 (records_in v.log)); idle = is_empty (take 15 (records_in v.log)) }

        idle_is : (with_page d (take 15 (records_in v.log))).idle ≡ is_empty (take 15 (records_in v.log))
        idle_is = treated-idle (take 15 (records_in v.log)) d1

        read_page : Comes v (with_page d (take 15 (records_in v.log)))
        read_page = record {
          agrees = page_read (seen_in v) d a is spelled;
          rested = λ idle. nil_from_length (records_in v.log) (omega (arith, ap length (empty_is (take 15 (records_in v.log)) (sym idle_is ∙ idle)), length-take 15 (records_in v.log)));
          less = λ busy.
              let some : 0 < length (take 15 (records_in v.log)) = some_is (take 15 (records_in v.log)) (sym idle_is ∙ busy) in
              let after_page = treated-phase (take 15 (records_in v.log)) d1 (omega (arith, some, length-map (take 15 (records_in v.log)) (λ (e : Event). e.handle))) in
              omega (arith, after_page, length-take 15 (records_in v.log), ap (λ k. due_weight k d.records) is);
        }

    -- ---- the records of a page are cleared

    pub clear_asked : d.due ≡ Due.Clear → AllByRecursion IsSpelled (records_in v.log) → GoesOn (host_result_in c h v (gives most d))
    clear_asked is spelled =
        allowed_by Due.Clear is (subst (λ hs. Hears (HostRequest.ClearEvents 4 false hs)) (sym all) (clear_heard d.handles (omega (arith, count.1)) handles_fit))
        (ap (option_map rule_of) (ap (λ hs. clear_fault hs (records_in v.log)) all ∙ ap (λ hs. clear_fault hs (records_in v.log)) front.1 ∙ ap (clear_fault (handles_of a.done)) front.0 ∙ clear_front a.done a.unread))
        refl
        (record {
          agrees = subst (λ s. Agrees s (record d { due = Due.Page; handles = [] })) (sym seen) (page_cleared (seen_in v) d a is);
          rested = λ idle. absurd (not_page (seen_in v) d a Due.Clear is refl idle);
          less = λ busy. omega (arith, ap (λ (s : Seen). length s.records) seen, length-drop (length d.handles) (records_in v.log), count.0, enough, ap (λ k. due_weight k d.records) is);
        })
      where
        count : (0 < length d.handles) × (length d.handles ≤ 15)
        count = cleared_count (seen_in v) d a is

        front : (records_in v.log ≡ a.done ++ a.unread) × (d.handles ≡ handles_of a.done)
        front = cleared_front (seen_in v) d a is

        enough : length d.handles ≤ length (records_in v.log)
        enough = omega (arith, ap length front.1, length-map a.done (λ (e : Event). e.handle), ap length front.0, length-append a.done a.unread)

        all : take 255 d.handles ≡ d.handles
        all = take_all 255 d.handles (omega (arith, count.1))

        handles_fit : AllByRecursion FitsHandle d.handles
        handles_fit = subst (AllByRecursion FitsHandle) (sym front.1)
            (each-map IsSpelled FitsHandle (λ (e : Event). e.handle) spelled_handle a.done (each-front IsSpelled a.done a.unread (subst (AllByRecursion IsSpelled) front.0 spelled)))

        n : ℕ
        n = length (take 255 d.handles)

        changes_are : clear_changes (LogId.Host h) 4 v.log false (take 255 d.handles) ≡ Effect.Cleared (LogId.Host h) (length d.handles) ∷ []
        changes_are = ap (λ hs. cleared (LogId.Host h) (length hs)) all ∙ rw (ne_eqb (length d.handles) 0 (λ none. omega (arith, none, count.0))) refl

        log_is : log_after (LogId.Host h) v.log (Effect.Cleared (LogId.Host h) (length d.handles)) ≡ cleared_of (length d.handles) v.log
        log_is = rw (eq-eqb h h refl) refl

        seen : seen_in (view_after c h v (clear_changes (LogId.Host h) 4 v.log false (take 255 d.handles))) ≡ record (seen_in v) { records = drop (length d.handles) (records_in v.log) }
        seen =
            ap (λ es. seen_in (view_after c h v es)) changes_are
            ∙ ap (λ log. record (seen_in v) { records = records_in log }) log_is
            ∙ ap (λ rs. record (seen_in v) { records = rs }) (sym (drop-drop (length d.handles) v.log.cleared v.log.ever))

    -- ---- an offer is answered

    module _ (is : d.due ≡ Due.Response) (xs : List Extent) (taken : taken_by most d ≡ xs) (few : length xs ≤ 64) (fits : AllByRecursion FitsListed xs)
        (row : host_rule c h v (HostRequest.AddResponse false (map bare xs)) ≡ None)
        (back : map (marked d.offered) (map bare xs) ≡ xs) (beside : AllByRecursion (λ p. AreBeside p xs) (forced_in (d.records ++ a.unread))) where
      first : v.offers ≡ d.offered ∷ offers_in [] (d.records ++ a.unread)
      first = oldest (seen_in v) d a is

      changes_are : respond_changes c h v.offers v.responses false (map bare xs)
          ≡ Effect.Answer h (map (marked d.offered) (map bare xs)) ∷ map (λ x. Effect.Take h (run_of c h x)) (map bare xs)
      changes_are = λ i. respond_changes c h (first i) (a.goes.no_responses i) false (map bare xs)

      offers_are : offers_after h v.offers (Effect.Answer h (map (marked d.offered) (map bare xs))) ≡ drop 1 v.offers
      offers_are = rw (eq-eqb h h refl) refl

      accepted_are : accepted_after c h v.accepted (Effect.Answer h (map (marked d.offered) (map bare xs))) ≡ v.accepted ++ map (marked d.offered) (map bare xs)
      accepted_are = rw (eq-eqb h h refl) refl

      seen : seen_in (view_after c h v (Effect.Answer h (map (marked d.offered) (map bare xs)) ∷ map (λ x. Effect.Take h (run_of c h x)) (map bare xs)))
          ≡ record (seen_in v) { offers = offers_in [] (d.records ++ a.unread); accepted = v.accepted ++ xs }
      seen = λ i. record {
        offers = (over_takes c h (offers_after h) (λ b run. refl) (map bare xs) (offers_after h v.offers (Effect.Answer h (map (marked d.offered) (map bare xs))))
            ∙ offers_are ∙ ap (drop 1) first) i;
        accepted = (over_takes c h (accepted_after c h) (λ b run. refl) (map bare xs) (accepted_after c h v.accepted (Effect.Answer h (map (marked d.offered) (map bare xs))))
            ∙ accepted_are ∙ ap (λ ys. v.accepted ++ ys) back) i;
        responses = over_takes c h (held_after h HeldKind.Responses) (λ b run. refl) (map bare xs) v.responses i;
        releases = over_takes c h (held_after h HeldKind.Releases) (λ b run. refl) (map bare xs) v.releases i;
        records = records_in (over_takes c h (log_after (LogId.Host h)) (λ b run. refl) (map bare xs) v.log i);
      }

      changed : seen_in (view_after c h v (respond_changes c h v.offers v.responses false (map bare xs))) ≡ record (seen_in v) { offers = offers_in [] (d.records ++ a.unread); accepted = v.accepted ++ xs }
      changed = ap (λ es. seen_in (view_after c h v es)) changes_are ∙ seen

      pub response_asked : GoesOn (host_result_in c h v (gives most d))
      response_asked =
          allowed_by Due.Response is
          (subst (λ ys. Hears (HostRequest.AddResponse false (map bare ys))) (sym taken) (response_heard xs few fits))
          (subst (λ ys. host_rule c h v (HostRequest.AddResponse false (map bare ys)) ≡ None) (sym taken) row)
          refl
          (subst (λ ys. Comes (view_after c h v (respond_changes c h v.offers v.responses false (map bare ys))) (gone_on (record d { table = d.table ++ ys; offered = [] }))) (sym taken)
          (record {
            agrees = subst (λ s. Agrees s (gone_on (record d { table = d.table ++ xs; offered = [] }))) (sym changed) (offer_answered (seen_in v) d a is xs beside);
            rested = λ idle. absurd (not_page (seen_in v) d a Due.Response is refl (sym (treated-idle d.records (record d { table = d.table ++ xs; offered = [] })) ∙ idle));
            less = λ busy. omega (
              arith,
              ap (λ (s : Seen). length s.records) changed,
              treated-phase d.records (record d { table = d.table ++ xs; offered = [] }) (handles_some (seen_in v) d a Due.Response is refl),
              ap (λ k. due_weight k d.records) is,
            );
          }))

    -- ---- a request to release is met

    module _ (is : d.due ≡ Due.Release) where
      opcode_is : (gives most d).opcode ≡ 0x4803
      opcode_is = ap (λ k. host_opcode (asked_by most d k)) is

      -- where it is refused nothing changes
      pub release_broken : (rule : Rule) → GoesOn (Err rule)
      release_broken rule = record {
        agrees = changed.agrees;
        unrefused = excused;
        taken = none;
        rested = changed.rested;
        less = changed.less;
      }
        where
          refusal : Response
          refusal = record { tag = 0; opcode = (gives most d).opcode; code = number_of (code_of rule); payload = [] }

          none_dropped : dropped h v (gives most d).opcode ≡ []
          none_dropped = ap (dropped h v) opcode_is ∙ ap (unhold h HeldKind.Releases) a.goes.no_releases

          excused : is_refusal refusal ≡ false
          excused = ap (λ o. not (number_of (code_of rule) == 0) && not (o == 0x4803)) opcode_is ∙ and-false (not (number_of (code_of rule) == 0))

          none : reply_fault most d refusal ≡ None
          none = rw (eq-eqb (gives most d).opcode (gives most d).opcode refl, excused, ap (due_fault []) is) refl

          after_is : replied most d refusal ≡ gone_on (record d { asked = [] })
          after_is =
              takes refusal none ∙ ap (answered_by most d refusal) is
              ∙ ap (λ b. gone_on (record d { table = if b then cut_all_out (given_by d) d.table else d.table; asked = [] })) (refused_code rule)

          unchanged : Comes v (gone_on (record d { asked = [] }))
          unchanged = record {
            agrees = release_refused (seen_in v) d a is;
            rested = λ idle. absurd (not_page (seen_in v) d a Due.Release is refl (sym (treated-idle d.records (record d { asked = [] })) ∙ idle));
            less = λ busy. omega (arith, treated-phase d.records (record d { asked = [] }) (handles_some (seen_in v) d a Due.Release is refl), ap (λ k. due_weight k d.records) is);
          }

          changed : Comes (view_after c h v (dropped h v (gives most d).opcode)) (replied most d refusal)
          changed = subst (λ e. Comes (view_after c h v e) (replied most d refusal)) (sym none_dropped) (subst (Comes v) (sym after_is) unchanged)

      module _ (xs : List Extent) (given : given_by d ≡ xs) (few : length xs ≤ 64) (fits : AllByRecursion FitsListed xs)
          (going : host_rule c h v (HostRequest.GiveBack false (map bare xs)) ≡ None → CanGive (seen_in v) xs × AllByRecursion (IsOwnRun c h) (map bare xs)) where
        gives_are : give_back_changes c h v.releases false (map bare xs) ≡ leaves c h (map bare xs)
        gives_are = ap (λ held. give_back_changes c h held false (map bare xs)) a.goes.no_releases

        seen_given : AllByRecursion (IsOwnRun c h) (map bare xs) → seen_in (view_after c h v (leaves c h (map bare xs))) ≡ record (seen_in v) { accepted = cut_all xs v.accepted }
        seen_given own = λ i. record {
          offers = over_leaves c h (offers_after h) (λ b run. refl) (map bare xs) v.offers i;
          accepted = (cuts c h (map bare xs) v.accepted own ∙ cut_bare xs v.accepted) i;
          responses = over_leaves c h (held_after h HeldKind.Responses) (λ b run. refl) (map bare xs) v.responses i;
          releases = over_leaves c h (held_after h HeldKind.Releases) (λ b run. refl) (map bare xs) v.releases i;
          records = records_in (over_leaves c h (log_after (LogId.Host h)) (λ b run. refl) (map bare xs) v.log i);
        }

        met : CanGive (seen_in v) xs → AllByRecursion (IsOwnRun c h) (map bare xs)
            → Comes (view_after c h v (give_back_changes c h v.releases false (map bare xs))) (gone_on (record d { table = cut_all_out xs d.table; asked = [] }))
        met can own =
            let changed = ap (λ es. seen_in (view_after c h v es)) gives_are ∙ seen_given own in
            let d1 : Driven = record d { table = cut_all_out xs d.table; asked = [] } in
            record {
              agrees = subst (λ s. Agrees s (gone_on (record d { table = cut_all_out xs d.table; asked = [] }))) (sym changed) (release_done (seen_in v) d a is xs can);
              rested = λ idle. absurd (not_page (seen_in v) d a Due.Release is refl (sym (treated-idle d.records d1) ∙ idle));
              less = λ busy. omega (arith, ap (λ (s : Seen). length s.records) changed, treated-phase d.records d1 (handles_some (seen_in v) d a Due.Release is refl), ap (λ k. due_weight k d.records) is);
            }

        by_rule : (rule : Option Rule) → host_rule c h v (HostRequest.GiveBack false (map bare xs)) ≡ rule
            → GoesOn (unless rule (host_outcome c h v (HostRequest.GiveBack false (map bare xs))))
        by_rule None row =
            let can = going row in
            allowed Due.Release is (host_outcome c h v (HostRequest.GiveBack false (map bare xs))) refl
            (subst (λ ys. Comes (view_after c h v (give_back_changes c h v.releases false (map bare xs))) (gone_on (record d { table = cut_all_out ys d.table; asked = [] }))) (sym given)
            (met can.0 can.1))
        by_rule (Some rule) row = release_broken rule

        pub release_asked : GoesOn (host_result_in c h v (gives most d))
        release_asked =
            subst GoesOn (sym (result_of Due.Release is (subst (λ ys. Hears (HostRequest.GiveBack false (map bare ys))) (sym given) (release_heard xs few fits))))
            (subst (λ ys. GoesOn (unless (host_rule c h v (HostRequest.GiveBack false (map bare ys))) (host_outcome c h v (HostRequest.GiveBack false (map bare ys))))) (sym given)
            (by_rule (host_rule c h v (HostRequest.GiveBack false (map bare xs))) refl))
