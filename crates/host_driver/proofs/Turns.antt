-- A step of the driver, and a step of another, in turns.
use Rattle.std.proofs.Common.{◌≡◌, ℕ, ◌<◌, Bool, true, false, not, ◌&&◌, ◌||◌, List, [], ◌∷◌, ◌++◌, None, refl, sym, ap, subst, ◌∙◌, append-nil}
use Rattle.std.proofs.lemmas.{Bool.eq-eqb, Bool.false≢true, Grind.flat_map-append}
use Rattle.std.specs.Prelude.{IsFalse, IsTrue, fold, if◌then◌else◌}
use Rattle.dcd_base.specs.{Words.is_empty, declared.ids.HostId.HostId, declared.steps.Actor.Actor, declared.steps.LogId.LogId}
use Rattle.cci_codec.specs.declared.messages.Response.{Response}
use Rattle.device_plain.specs.{Devices.Plain, device_rules.specs.Legal.Legal, device_rules.specs.Legal.Meets, device_rules.specs.Views.view_of, isolation_laws.specs.Solo.acts_for}
use Rattle.journal_core.{proofs.EachSteps.Each-push, proofs.EachSteps.EachFrom-at, specs.Entries.Each, specs.Entries.effects, specs.declared.acts.Act.Act, specs.declared.acts.Reply.Reply}
use Rattle.journal_core.specs.declared.entries.Entry.{Entry}
use Rattle.region_config.specs.{Configurations.Configuration, Soundness.IsSound}
use Rattle.report.specs.script_codec.specs.Covering.{pass_of}
use Rattle.host_driver.proofs.{Following.Holding, Following.all_hold, Following.ends_with-push, Following.log_spelled, Lawful.Goes, Lawful.driver_of-push, Lawful.keeps_on, Lawful.next_by, Own.fault}
use Rattle.host_driver.{proofs.Spelled.spelled-push, specs.Driving.gives, specs.Driving.replied, specs.Driving.reply_fault, specs.Running.GoInTurns, specs.Running.HasAsked, specs.Running.work_of}
use Rattle.host_driver.specs.{Spelling.AreSpelled, Spelling.AreSpelledIn, Standing.Standing, Standing.taking}
use Rattle.host_driver.specs.Journals.{IsDriven, IsDrivenStep, IsTurn, IsUnlined, driver_of, ends_with, entries_of_others, entry_of_others, is_at_rest, pair_of}

-- ---- one entry more

others-push : (h : HostId) (journal : List Entry) (e : Entry) → entries_of_others h (journal ++ e ∷ []) ≡ entries_of_others h journal ++ entry_of_others h e
others-push h journal e = flat_map-append (entry_of_others h) journal (e ∷ []) ∙ ap (λ new. entries_of_others h journal ++ new) (append-nil (entry_of_others h e))

some_entries : (journal : List Entry) (e : Entry) → is_empty (journal ++ e ∷ []) ≡ false
some_entries [] e = refl
some_entries (x ∷ journal) e = refl

-- behind an entry of a host the driver is at rest where it acted and is idle
pub rest-push : (h : HostId) (most : ℕ) (journal : List Entry) (e : Entry)
    → is_at_rest h most (journal ++ e ∷ []) ≡ (acts_for h e.actor && (driver_of h most (journal ++ e ∷ [])).idle)
rest-push h most journal e = λ i. some_entries journal e i || (ends_with-push h journal e i && (driver_of h most (journal ++ e ∷ [])).idle)

-- What a device's entry is: behind these entries it is legal, and its records are spelled.
pub record IsEntry (old new : Plain) (e : Entry) : Type 0 where
  pub config : new.config ≡ old.config
  pub journal : new.journal ≡ old.journal ++ e ∷ []
  pub legal : Legal new.config new.journal
  pub spelled : AreSpelledIn e.effects

module _ (h : HostId) (most : ℕ) (old new : Plain) (driver : Standing) (t : GoInTurns h most old driver) (e : Entry) (is : IsEntry old new e) where
  legal_now : Legal old.config (old.journal ++ e ∷ [])
  legal_now = subst (Legal old.config) is.journal (subst (λ k. Legal k new.journal) is.config is.legal)

  meets : Meets old.config old.journal e
  meets = EachFrom-at [] (Meets old.config) old.journal e [] legal_now

  -- what goes on behind it
  goes_on : IsDrivenStep h most old.journal e → IsTurn h most old.journal e → IsUnlined old.config.hosts h old.journal e
      → (next : Standing) → next ≡ record { host = h; most = most; out = false; driven = driver_of h most (old.journal ++ e ∷ []) } → GoInTurns h most new next
  goes_on given turn unlined next standing = record {
    known = subst (λ (k : Configuration). h < k.hosts) (sym is.config) t.known;
    legal = is.legal;
    driven = subst (IsDriven h most) (sym is.journal) (Each-push (IsDrivenStep h most) old.journal e t.driven given);
    turns = subst (Each (IsTurn h most)) (sym is.journal) (Each-push (IsTurn h most) old.journal e t.turns turn);
    own = subst (λ (k : Configuration). Each (IsUnlined k.hosts h) new.journal) (sym is.config)
        (subst (Each (IsUnlined old.config.hosts h)) (sym is.journal) (Each-push (IsUnlined old.config.hosts h) old.journal e t.own unlined));
    spelled = subst AreSpelled (sym is.journal) (spelled-push old.journal e t.spelled is.spelled);
    standing = subst (λ j. next ≡ record { host = h; most = most; out = false; driven = driver_of h most j }) (sym is.journal) standing;
  }

  -- ---- the driver's

  module _ (sound : IsSound old.config) (actor : e.actor ≡ Actor.Host h) (given : e.act ≡ Act.Command (gives most (driver_of h most old.journal))) where
    own : acts_for h e.actor ≡ true
    own = ap (acts_for h) actor ∙ eq-eqb h h refl

    held : Holding old.config sound h t.known most old.journal
    held = all_hold old.config sound h t.known most old.journal t.legal t.driven t.spelled

    goes : Goes old.config sound h t.known most old.journal e
    goes = keeps_on old.config sound h t.known most old.journal t.legal held.keeps (log_spelled (LogId.Host h) (effects old.journal) t.spelled) e meets (λ again. given)

    -- its reply is an answer, which has no fault
    pub is_answered : (s : Response) × (e.reply ≡ Reply.Answer s)
    is_answered = goes.answered own

    pub has_no_fault : (s : Response) → e.reply ≡ Reply.Answer s → reply_fault most (driver_of h most old.journal) s ≡ None
    has_no_fault s reply = sym (ap (fault old.config h (view_of old.config h old.journal) most (driver_of h most old.journal)) reply) ∙ goes.taken own

    next_is : (s : Response) → e.reply ≡ Reply.Answer s → driver_of h most (old.journal ++ e ∷ []) ≡ replied most (driver_of h most old.journal) s
    next_is s reply =
        driver_of-push h most old.journal e
        ∙ (λ i. fold (next_by most) (driver_of h most old.journal) (if own i then pair_of (given i) (reply i) else []))

    pub has_asked : IsFalse (is_at_rest h most old.journal) → (e.line ≡ 0) × (e.pass ≡ pass_of old.config.hosts 1 (Actor.Host h) 0)
        → (s : Response) → e.reply ≡ Reply.Answer s → (next : Standing) → next ≡ taking (record driver { out = true }) s → HasAsked h most old new next
    has_asked busy unlined s reply next took = record {
      gone = record {
        turns = goes_on (λ again. given) (busy ∙ ap not (sym own)) (λ again. (unlined.0, unlined.1 ∙ ap (λ a. pass_of old.config.hosts 1 a 0) (sym actor))) next standing;
        config = is.config;
        others =
            ap (entries_of_others h) is.journal ∙ others-push h old.journal e
            ∙ ap (λ b. entries_of_others h old.journal ++ (if b then [] else (record { pass = e.pass; line = e.line; actor = e.actor; act = e.act }) ∷ [])) own
            ∙ append-nil (entries_of_others h old.journal);
        some = ap is_empty is.journal ∙ some_entries old.journal e;
        last = ap (ends_with h) is.journal ∙ ends_with-push h old.journal e ∙ own;
      };
      less = λ idle. subst (λ j. work_of h most j < work_of h most old.journal) (sym is.journal) (goes.less own (sym (ap (λ (k : Standing). k.driven.idle) standing) ∙ idle));
    }
      where
        standing : next ≡ record { host = h; most = most; out = false; driven = driver_of h most (old.journal ++ e ∷ []) }
        standing =
            took ∙ ap (λ (k : Standing). taking (record k { out = true }) s) t.standing
            ∙ ap (λ k. record { host = h; most = most; out = false; driven = k }) (sym (next_is s reply))

  -- ---- another's

  module _ (other : acts_for h e.actor ≡ false) (rest : IsTrue (is_at_rest h most old.journal)) where
    same_driver : driver_of h most (old.journal ++ e ∷ []) ≡ driver_of h most old.journal
    same_driver = driver_of-push h most old.journal e ∙ ap (λ b. fold (next_by most) (driver_of h most old.journal) (if b then pair_of e.act e.reply else [])) other

    pub other_goes : GoInTurns h most new driver
    other_goes = goes_on (λ own. absurd (false≢true (sym other ∙ own))) (rest ∙ ap not (sym other)) (λ own. absurd (false≢true (sym other ∙ own))) driver
        (t.standing ∙ ap (λ k. record { host = h; most = most; out = false; driven = k }) (sym same_driver))

    pub then_busy : is_at_rest h most new.journal ≡ false
    then_busy = ap (is_at_rest h most) is.journal ∙ rest-push h most old.journal e ∙ ap (λ b. b && (driver_of h most (old.journal ++ e ∷ [])).idle) other

    pub other_ran : entries_of_others h new.journal
        ≡ entries_of_others h old.journal ++ (record { pass = e.pass; line = e.line; actor = e.actor; act = e.act }) ∷ []
    other_ran =
        ap (entries_of_others h) is.journal ∙ others-push h old.journal e
        ∙ ap (λ b. entries_of_others h old.journal ++ (if b then [] else (record { pass = e.pass; line = e.line; actor = e.actor; act = e.act }) ∷ [])) other

-- ---- the driver until it is idle

-- it is at rest once it has acted and is idle
pub rests : (h : HostId) (most : ℕ) (new : Plain) (driver : Standing) → GoInTurns h most new driver → ends_with h new.journal ≡ true → IsTrue driver.driven.idle
    → IsTrue (is_at_rest h most new.journal)
rests h most new driver t last idle =
    let here : (driver_of h most new.journal).idle ≡ true = sym (ap (λ (k : Standing). k.driven.idle) t.standing) ∙ idle in
    (λ i. is_empty new.journal || (last i && here i)) ∙ or_true (is_empty new.journal)
  where
    or_true : (b : Bool) → (b || true) ≡ true
    or_true true = refl
    or_true false = refl
