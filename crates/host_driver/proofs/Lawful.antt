-- After every legal journal in which the host is driven, its driver and the device agree.
use Rattle.std.proofs.Common.{◌≡◌, ◌⊎◌, ℕ, ◌<◌, true, false, List, [], ◌∷◌, ◌++◌, length, map, None, Ok, Err, inl, inr, refl, sym, ap, subst, ◌∙◌, append-nil, arith}
use Rattle.std.proofs.lemmas.{Bool.cases_Bool, Bool.false≢true, Grind.flat_map-append, List.length-map, List.Sums.fold-append}
use Rattle.std.specs.{List.AllByRecursion, Prelude.IsFalse, Prelude.IsTrue, Prelude.fold, Prelude.if◌then◌else◌, declared.result.Result.Result}
use Rattle.dcd_codes.specs.declared.rules.Rule.{Rule}
use Rattle.dcd_base.specs.declared.{capacity.Extent.Extent, ids.HostId.HostId, steps.Actor.Actor, steps.LogId.LogId}
use Rattle.cci_codec.specs.declared.messages.{Request.Request, Response.Response}
use Rattle.event_log.specs.Logs.{records_in}
use Rattle.offer_core.specs.InOrder.{AreSome, SameAddresses}
use Rattle.host_payloads.specs.declared.requests.HostRequest.{HostRequest}
use Rattle.journal_core.specs.{Entries.effects, declared.acts.Act.Act, declared.acts.Reply.Reply, declared.entries.Entry.Entry, declared.outcome.Effect.Effect}
use Rattle.region_config.specs.{Configurations.Configuration, Soundness.IsSound}
use Rattle.device_plain.specs.device_rules.proofs.{InOrderResponses.legal_allows, LegalLogs.legal_logs, LegalSound.legal_is_sound, LogSteps.IsSound as IsSoundLog, ViewSteps.view_of-push}
use Rattle.device_plain.specs.device_rules.specs.{Answers.host_result_in, Answers.host_rule, Answers.reply_with, Legal.Legal, Legal.Meets, Legal.right_answer, Logs.log_of, Outcomes.Outcome}
use Rattle.device_plain.specs.device_rules.specs.{Pictures.picture_of, Standing.Sound, Views.View, Views.view_after, Views.view_of}
use Rattle.device_plain.specs.isolation_laws.proofs.{AllSee.steps_alone, BroughtItems.actor_is, OneItem.BringsItems, OwnSteps.own_step}
use Rattle.device_plain.specs.isolation_laws.specs.{Solo.changes_with, Solo.delivered, Solo.acts_for, declared.items.Item.Item}
use Rattle.host_driver.proofs.{Answered.beside_all, Answered.beside_none, Answered.oldest, Heard.given_is, Heard.taken_is, Held.all_same, Held.extents_apart, Held.none_same, Held.offer_marked}
use Rattle.host_driver.proofs.{Midway.Agrees, Midway.seen_in, Others.brought, Own.GoesOn, Own.after, Own.clear_asked, Own.fault, Own.page_asked, Own.release_asked, Own.response_asked}
use Rattle.host_driver.{proofs.Released.released, proofs.Removals.others_take, specs.Driving.Driven, specs.Driving.bare, specs.Driving.driven, specs.Driving.gives, specs.Driving.replied}
use Rattle.host_driver.specs.{Journals.IsDrivenStep, Journals.driver_of, Journals.pair_of, Journals.pairs_of, Journals.refuses, Running.to_do, Spelling.IsSpelled, declared.due.Due.Due}

-- ---- a journal with one more entry

pairs_of-push : (h : HostId) (journal : List Entry) (e : Entry) → pairs_of h (journal ++ e ∷ []) ≡ pairs_of h journal ++ (if acts_for h e.actor then pair_of e.act e.reply else [])
pairs_of-push h journal e =
    let own : Entry → List (Request × Response) = λ (e : Entry). if acts_for h e.actor then pair_of e.act e.reply else [] in
    flat_map-append own journal (e ∷ []) ∙ ap (λ new. pairs_of h journal ++ new) (append-nil (own e))

abbrev pub next_by : ℕ → Driven → Request × Response → Driven
next_by most d pair = replied most d pair.1

pub driver_of-push : (h : HostId) (most : ℕ) (journal : List Entry) (e : Entry)
    → driver_of h most (journal ++ e ∷ []) ≡ fold (next_by most) (driver_of h most journal) (if acts_for h e.actor then pair_of e.act e.reply else [])
driver_of-push h most journal e =
    ap (driven most) (pairs_of-push h journal e) ∙ fold-append (next_by most) _ (pairs_of h journal) (if acts_for h e.actor then pair_of e.act e.reply else [])

module _ (c : Configuration) (sound : IsSound c) (h : HostId) (known : h < c.hosts) (most : ℕ) where
  -- Driver and device agree.
  abbrev pub Keeps : List Entry → Type 0
  Keeps journal = Agrees (seen_in (view_of c h journal)) (driver_of h most journal)

  pub keeps_first : Keeps []
  keeps_first = record {
    done = [];
    unread = [];
    log = refl;
    page = (refl, refl, refl);
    goes = record {
      accepted = refl;
      lies = tt;
      removals = tt;
      behind = tt;
      no_responses = refl;
      no_releases = refl;
      offered_fits = tt;
      asked_fits = tt;
    };
    offers = refl;
    whole = refl;
    spelled = tt;
    awake = λ idle. refl;
  }

  -- After the entry driver and device agree; and where it is the host's own, its reply is no refusal and is taken, the driver is
  -- idle only where the log is empty, and else there is less to do.
  pub record Goes (before : List Entry) (e : Entry) : Type 0 where
    pub agrees : Keeps (before ++ e ∷ [])
    pub unrefused : IsTrue (acts_for h e.actor) → IsFalse (refuses e.reply)
    pub answered : IsTrue (acts_for h e.actor) → (s : Response) × (e.reply ≡ Reply.Answer s)
    pub taken : IsTrue (acts_for h e.actor) → fault c h (view_of c h before) most (driver_of h most before) e.reply ≡ None
    pub rested : IsTrue (acts_for h e.actor) → (driver_of h most (before ++ e ∷ [])).idle ≡ true → records_in (view_of c h (before ++ e ∷ [])).log ≡ []
    pub less : IsTrue (acts_for h e.actor) → (driver_of h most (before ++ e ∷ [])).idle ≡ false
        → to_do (records_in (view_of c h (before ++ e ∷ [])).log) (driver_of h most (before ++ e ∷ [])) < to_do (records_in (view_of c h before).log) (driver_of h most before)

  module _ (before : List Entry) (legal : Legal c before) (a : Agrees (seen_in (view_of c h before)) (driver_of h most before)) where
    abbrev v : View
    v = view_of c h before

    abbrev d : Driven
    d = driver_of h most before

    now : Sound c (picture_of c (effects before))
    now = legal_is_sound c sound before legal

    history : IsSoundLog (log_of (LogId.Host h) (effects before))
    history = ((legal_logs c before legal).history (LogId.Host h)).sound

    -- ---- another's entry

    other : (e : Entry) → Meets c before e → acts_for h e.actor ≡ false → Keeps (before ++ e ∷ [])
    other e meets not_own =
        let items = subst (λ b. BringsItems c h v e.effects (if b then Item.Own e.act ∷ [] else delivered h e.effects)) not_own (steps_alone c sound before now h known history e meets) in
        subst (Agrees (seen_in (view_of c h (before ++ e ∷ []))))
        (sym (driver_of-push h most before e ∙ ap (λ b. fold (next_by most) (driver_of h most before) (if b then pair_of e.act e.reply else [])) not_own))
        (subst (λ w. Agrees (seen_in w) (driver_of h most before)) (sym (view_of-push c h before e ∙ items.alone))
        (brought c h v d history a (extents_apart c sound (picture_of c (effects before)) now.stands h known) e.effects
        (others_take c sound before now h known history e meets not_own) items.few))

    -- ---- the host's own entry

    module _ (spelled : AllByRecursion IsSpelled (records_in (view_of c h before).log)) where
      -- a list of all or of none breaks no rule
      row_of : d.due ≡ Due.Response → (xs : List Extent) → (xs ≡ d.offered) ⊎ (xs ≡ []) → host_rule c h v (HostRequest.AddResponse false (map bare xs)) ≡ None
      row_of is xs (inl all) = legal_allows c sound before legal h (map bare xs) (record {
        offer = d.offered;
        later = _;
        oldest = oldest (seen_in v) d a is;
        alone = a.goes.no_responses;
        some = subst (λ ys. AreSome SameAddresses (map bare ys) d.offered) (sym all) (all_same d.offered);
        shared = λ shared. inr (length-map xs bare ∙ ap length all);
      })
      row_of is xs (inr none) = legal_allows c sound before legal h (map bare xs) (record {
        offer = d.offered;
        later = _;
        oldest = oldest (seen_in v) d a is;
        alone = a.goes.no_responses;
        some = subst (λ ys. AreSome SameAddresses (map bare ys) d.offered) (sym none) (none_same d.offered);
        shared = λ shared. inl (ap (map bare) none);
      })

      response : d.due ≡ Due.Response → GoesOn c h v most d (host_result_in c h v (gives most d))
      response is = elim (taken_is most d) [
        | inl all ↦ response_asked c h v most d a is d.offered all.0 all.1 a.goes.offered_fits (row_of is d.offered (inl refl))
            (offer_marked c sound (picture_of c (effects before)) now.stands h known d.offered _ (oldest (seen_in v) d a is)) (beside_all (seen_in v) d a)
        | inr none ↦ response_asked c h v most d a is [] none (omega arith) tt (row_of is [] (inr refl)) refl (beside_none (seen_in v) d a)
      ]

      release : d.due ≡ Due.Release → GoesOn c h v most d (host_result_in c h v (gives most d))
      release is = elim (given_is d) [
        | inl all ↦ release_asked c h v most d a is d.asked all.0 all.1 a.goes.asked_fits
            (released c sound (picture_of c (effects before)) now.stands h known v refl refl a.goes.no_releases d.asked)
        | inr none ↦ release_asked c h v most d a is [] none (omega arith) tt
            (released c sound (picture_of c (effects before)) now.stands h known v refl refl a.goes.no_releases [])
      ]

      by_due : (due : Due) → d.due ≡ due → GoesOn c h v most d (host_result_in c h v (gives most d))
      by_due Due.Page is = page_asked c h v most d a is spelled
      by_due Due.Clear is = clear_asked c h v most d a is spelled
      by_due Due.Response is = response is
      by_due Due.Release is = release is

      -- what the entry of a command makes of the driver
      after_is : (e : Entry) → e.act ≡ Act.Command (gives most d) → fold (next_by most) d (pair_of e.act e.reply) ≡ after c h v most d e.reply
      after_is e given = ap (λ act. fold (next_by most) d (pair_of act e.reply)) given ∙ by e.reply
        where
          by : (reply : Reply) → fold (next_by most) d (pair_of (Act.Command (gives most d)) reply) ≡ after c h v most d reply
          by (Reply.Answer s) = refl
          by (Reply.Word word) = refl
          by Reply.Stored = refl
          by (Reply.Refused fault) = refl
          by (Reply.Scrubbed count) = refl

      -- a command is answered
      answer_in : (q : Request) (result : Result Outcome Rule) → (s : Response) × (reply_with q result ≡ Reply.Answer s)
      answer_in q (Ok o) = (_, refl)
      answer_in q (Err rule) = (_, refl)

      -- what the entry is
      right_is : (e : Entry) → Meets c before e → acts_for h e.actor ≡ true → e.act ≡ Act.Command (gives most d)
          → (e.reply ≡ reply_with (gives most d) (host_result_in c h v (gives most d))) × (view_of c h (before ++ e ∷ []) ≡ view_after c h v (changes_with h v (gives most d) (host_result_in c h v (gives most d))))
      right_is e meets is_own given =
          let right : right_answer c before e.actor e.act ≡ right_answer c before (Actor.Host h) (Act.Command (gives most d)) = λ i. right_answer c before (actor_is h e.actor is_own i) (given i) in (
            meets.reply ∙ ap (λ (a : Reply × List Effect). a.0) right,
            view_of-push c h before e ∙ ap (view_after c h v) (meets.effects ∙ ap (λ (a : Reply × List Effect). a.1) right) ∙ own_step c h before (Act.Command (gives most d)),
          )

      own : (e : Entry) → Meets c before e → acts_for h e.actor ≡ true → e.act ≡ Act.Command (gives most d) → Goes before e
      own e meets is_own given =
          let goes = by_due d.due refl in
          let is = right_is e meets is_own given in
          let driver_is : driver_of h most (before ++ e ∷ []) ≡ after c h v most d (reply_with (gives most d) (host_result_in c h v (gives most d))) =
          driver_of-push h most before e ∙ ap (λ b. fold (next_by most) d (if b then pair_of e.act e.reply else [])) is_own ∙ after_is e given ∙ ap (after c h v most d) is.0 in
          let P : View → Driven → Type 0 = λ w k. Agrees (seen_in w) k × (k.idle ≡ true → records_in w.log ≡ []) × (k.idle ≡ false → to_do (records_in w.log) k < to_do (records_in v.log) d) in
          let changed : P (view_of c h (before ++ e ∷ [])) (driver_of h most (before ++ e ∷ [])) = subst (λ w. P w (driver_of h most (before ++ e ∷ []))) (sym is.1)
          (subst (P (view_after c h v (changes_with h v (gives most d) (host_result_in c h v (gives most d))))) (sym driver_is) (goes.agrees, goes.rested, goes.less)) in
          record {
            agrees = changed.0;
            unrefused = λ again. ap refuses is.0 ∙ goes.unrefused;
            answered = λ again. (let answer = answer_in (gives most d) (host_result_in c h v (gives most d)) in (answer.0, is.0 ∙ answer.1));
            taken = λ again. ap (fault c h v most d) is.0 ∙ goes.taken;
            rested = λ again. changed.1;
            less = λ again. changed.2;
          }

      -- ---- either

      pub keeps_on : (e : Entry) → Meets c before e → IsDrivenStep h most before e → Goes before e
      keeps_on e meets given = elim (cases_Bool (acts_for h e.actor)) [
        | inl is_own ↦ own e meets is_own (given is_own)
        | inr not_own ↦ record {
          agrees = other e meets not_own;
          unrefused = λ is_own. absurd (false≢true (sym not_own ∙ is_own));
          answered = λ is_own. absurd (false≢true (sym not_own ∙ is_own));
          taken = λ is_own. absurd (false≢true (sym not_own ∙ is_own));
          rested = λ is_own. absurd (false≢true (sym not_own ∙ is_own));
          less = λ is_own. absurd (false≢true (sym not_own ∙ is_own));
        }
      ]
