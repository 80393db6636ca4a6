-- The driver asks until it is idle, and the others have their lines between.
use Rattle.std.proofs.Common.{◌≡◌, ℕ, ◌+◌, ◌<◌, Bool, true, false, List, [], ◌∷◌, ◌++◌, None, length, get_or, take, refl, sym, ap, subst, ◌∙◌, append-nil, inl, inr}
use Rattle.std.proofs.lemmas.{Bool.and_from, Bool.and_parts, Bool.cases_Bool, Bool.false≢true, List.take_more, List.Folds.list_all_at}
use Rattle.std.specs.{List.list_all, Prelude.IsFalse, Prelude.IsTrue, Prelude.if◌then◌else◌}
use Rattle.dcd_base.specs.declared.{ids.HostId.HostId, steps.Actor.Actor, steps.LogId.LogId}
use Rattle.cci_codec.specs.declared.messages.{Request.Request, Response.Response}
use Rattle.device_plain.specs.{Devices.Enters, Devices.Plain, device_rules.specs.Counts.records_of, device_rules.specs.Legal.Legal, device_rules.specs.Views.view_of}
use Rattle.device_plain.specs.isolation_laws.specs.Solo.{acts_for}
use Rattle.event_log.specs.Logs.{records_in}
use Rattle.journal_core.specs.{Entries.Each, Entries.effects, Entries.fits, declared.acts.Act.Act, declared.acts.Reply.Reply, declared.entries.Entry.Entry}
use Rattle.region_config.specs.{Configurations.Configuration, Soundness.IsSound}
use Rattle.report.specs.script_codec.specs.{Covering.pass_of, Scripts.is_lane, Scripts.is_sound_line, declared.script_line.Line.Line}
use Rattle.host_driver.proofs.{Following.Holding, Following.all_hold, Following.table_is, Lines.lines-push}
use Rattle.host_driver.proofs.Turns.{IsEntry, has_asked, has_no_fault, is_answered, other_goes, other_ran, then_busy}
use Rattle.host_driver.specs.{Driving.gives, Driving.reply_fault, Running.EndsSpelled, Running.GoInTurns, Running.HasAsked, Running.HasGone, Running.HasLine, Running.HasLines}
use Rattle.host_driver.specs.Standing.{Standing, first_standing, taking, took_fault}
use Rattle.host_driver.specs.Journals.{IsDrive, IsUnlined, driver_of, ends_with, entries_of_others, is_at_rest, is_fitting, line_of_others, lines_of_others}

-- what was entered is the entry behind the others
entry_of : (old new : Plain) (pass line : ℕ) (actor : Actor) (act : Act) (reply : Reply) (x : Enters old new pass line actor act reply) → EndsSpelled new → IsEntry old new x.entry
entry_of old new pass line actor act reply x ends = record {
  config = x.config;
  journal = x.journal;
  legal = ends.legal;
  spelled = ends.spelled old.journal x.entry x.journal;
}

-- ---- the names of the host and of its most are the driver's own

pub as_own : (h : HostId) (most : ℕ) (device : Plain) (driver : Standing) → GoInTurns h most device driver → GoInTurns driver.host driver.most device driver
as_own h most device driver t = subst (λ (k : Standing). GoInTurns k.host k.most device driver) (sym t.standing) t

pub rest_own : (h : HostId) (most : ℕ) (device : Plain) (driver : Standing) → GoInTurns h most device driver → IsTrue (is_at_rest h most device.journal)
    → IsTrue (is_at_rest driver.host driver.most device.journal)
rest_own h most device driver t rest = subst (λ (k : Standing). IsTrue (is_at_rest k.host k.most device.journal)) (sym t.standing) rest

line_own : (h : HostId) (most : ℕ) (line : ℕ × Line) (old new : Plain) (driver next : Standing) → GoInTurns h most old driver
    → HasLine driver.host driver.most line old new next → HasLine h most line old new next
line_own h most line old new driver next t has = subst (λ (k : Standing). HasLine k.host k.most line old new next) t.standing has

-- ---- a request

module _ (old new : Plain) (driver : Standing) (t : GoInTurns driver.host driver.most old driver) (sound : IsSound old.config)
    (q : Request) (asked : q ≡ gives driver.most driver.driven) (reply : Reply)
    (x : Enters old new (pass_of old.config.hosts 1 (Actor.Host driver.host) 0) 0 (Actor.Host driver.host) (Act.Command q) reply) (ends : EndsSpelled new) where
  is : IsEntry old new x.entry
  is = entry_of old new (pass_of old.config.hosts 1 (Actor.Host driver.host) 0) 0 (Actor.Host driver.host) (Act.Command q) reply x ends

  given : x.entry.act ≡ Act.Command (gives driver.most (driver_of driver.host driver.most old.journal))
  given = x.act ∙ ap (λ p. Act.Command p) (asked ∙ ap (λ (k : Standing). gives driver.most k.driven) t.standing)

  pub answers : (s : Response) × (reply ≡ Reply.Answer s)
  answers = let a = is_answered driver.host driver.most old new driver t x.entry is sound x.actor given in (a.0, sym x.reply ∙ a.1)

  pub takes_it : (s : Response) → reply ≡ Reply.Answer s → took_fault (record driver { out = true }) s ≡ None
  takes_it s at =
      ap (λ (k : Standing). reply_fault driver.most k.driven s) t.standing
      ∙ has_no_fault driver.host driver.most old new driver t x.entry is sound x.actor given s (x.reply ∙ at)

  pub asks : IsFalse (is_at_rest driver.host driver.most old.journal) → (s : Response) → reply ≡ Reply.Answer s
      → (next : Standing) → next ≡ taking (record driver { out = true }) s → HasAsked driver.host driver.most old new next
  asks busy s at next took =
      has_asked driver.host driver.most old new driver t x.entry is sound x.actor given busy (x.line, x.pass) s (x.reply ∙ at) next took

-- ---- requests until it is idle

-- how much is left to do, where it is idle or not
abbrev pub left_to_do : ℕ → Bool → ℕ
left_to_do work true = 0
left_to_do work false = work + 1

-- ---- a line of the others

module _ (old mid : Plain) (driver : Standing) (t : GoInTurns driver.host driver.most old driver) (line : ℕ) (actor : Actor) (act : Act) (reply : Reply)
    (x : Enters old mid (pass_of old.config.hosts 1 actor 0) line actor act reply) (ends : EndsSpelled mid)
    (other : acts_for driver.host actor ≡ false) (rest : IsTrue (is_at_rest driver.host driver.most old.journal)) where
  is_other : IsEntry old mid x.entry
  is_other = entry_of old mid (pass_of old.config.hosts 1 actor 0) line actor act reply x ends

  not_own : acts_for driver.host x.entry.actor ≡ false
  not_own = ap (acts_for driver.host) x.actor ∙ other

  pub turns_then : GoInTurns driver.host driver.most mid driver
  turns_then = other_goes driver.host driver.most old mid driver t x.entry is_other not_own rest

  pub busy_then : IsFalse (is_at_rest driver.host driver.most mid.journal)
  busy_then = then_busy driver.host driver.most old mid driver t x.entry is_other not_own rest

  -- the line, where the driver goes on behind it
  pub line_done : (lane : ℕ) (new : Plain) (next : Standing) → HasGone driver.host driver.most mid new next → HasLine driver.host driver.most (line, Line.Do actor lane act) old new next
  line_done lane new next gone = record {
    turns = gone.turns;
    config = gone.config ∙ x.config;
    others =
        gone.others ∙ other_ran driver.host driver.most old mid driver t x.entry is_other not_own rest
        ∙ (λ i. entries_of_others driver.host old.journal ++ (record { pass = x.pass i; line = x.line i; actor = x.actor i; act = x.act i }) ∷ [])
        ∙ ap (λ b. entries_of_others driver.host old.journal ++ (if b then [] else (record { pass = pass_of old.config.hosts 1 actor 0; line = line; actor = actor; act = act }) ∷ [])) (sym other);
  }

-- a line of the host itself, or a mark
module _ (device : Plain) (driver : Standing) (t : GoInTurns driver.host driver.most device driver) (number : ℕ) where
  no_line : (line : Line) → line_of_others device.config.hosts driver.host (number, line) ≡ [] → HasLine driver.host driver.most (number, line) device device driver
  no_line line none = record {
    turns = t;
    config = refl;
    others = sym (ap (λ new. entries_of_others driver.host device.journal ++ new) none ∙ append-nil (entries_of_others driver.host device.journal));
  }

  pub own_line : (actor : Actor) (lane : ℕ) (act : Act) → acts_for driver.host actor ≡ true → HasLine driver.host driver.most (number, Line.Do actor lane act) device device driver
  own_line actor lane act own =
      no_line (Line.Do actor lane act) (ap (λ b. if b then [] else (record { pass = pass_of device.config.hosts 1 actor 0; line = number; actor = actor; act = act }) ∷ []) own)

-- ---- all lines

module _ (c : Configuration) (h : HostId) (most : ℕ) where
  pub lines_first : h < c.hosts → (device : Plain) (driver : Standing) → device.config ≡ c → device.journal ≡ [] → driver ≡ first_standing h most → HasLines c h most [] device driver
  lines_first known device driver config fresh standing =
      subst (λ (d : Plain). HasLines c h most [] d driver) (λ i. record { config = sym config i; journal = sym fresh i }) (record {
        turns = record {
          known = known;
          legal = tt;
          driven = tt;
          turns = tt;
          own = tt;
          spelled = tt;
          standing = standing;
        };
        config = refl;
        rest = refl;
        others = refl;
      })

  pub lines_more : (done : List Line) (line : Line) (number : ℕ) (old new : Plain) (driver next : Standing) → number ≡ length done → HasLines c h most done old driver
      → HasLine driver.host driver.most (number + 1, line) old new next → IsTrue (is_at_rest driver.host driver.most new.journal)
      → HasLines c h most (done ++ line ∷ []) new next
  lines_more done line number old new driver next count so_far has rest =
      let own : HasLine h most (number + 1, line) old new next = line_own h most (number + 1, line) old new driver next so_far.turns has in
      record {
        turns = own.turns;
        config = own.config ∙ so_far.config;
        rest = subst (λ (k : Standing). IsTrue (is_at_rest k.host k.most new.journal)) so_far.turns.standing rest;
        others =
            own.others ∙ ap (λ front. front ++ line_of_others old.config.hosts h (number + 1, line)) so_far.others
            ∙ (λ i. lines_of_others c.hosts h done ++ line_of_others (so_far.config i).hosts h (count i + 1, line))
            ∙ sym (lines-push c.hosts h done line);
      }

  -- the log of an empty journal is empty
  log_empty : (sound : IsSound c) (known : h < c.hosts) (journal : List Entry) → Holding c sound h known most journal → IsTrue (is_at_rest h most journal)
      → records_in (view_of c h journal).log ≡ []
  log_empty sound known [] holding rest = refl
  log_empty sound known (e ∷ journal) holding rest =
      let both = and_parts (ends_with h (e ∷ journal)) (driver_of h most (e ∷ journal)).idle rest in
      holding.rested both.0 both.1

  -- what driving ends with
  pub all_driven : IsSound c → (lines : List Line) (device : Plain) (driver : Standing) → HasLines c h most lines device driver → IsDrive c lines h most device.journal driver.driven.table
  unfolding records_of
  all_driven sound lines device driver all =
      let t : GoInTurns h most device driver = all.turns in
      let known : h < c.hosts = subst (λ (k : Configuration). h < k.hosts) all.config t.known in
      let legal = subst (λ k. Legal k device.journal) all.config t.legal in
      let holding : Holding c sound h known most device.journal = all_hold c sound h known most device.journal legal t.driven t.spelled in
      let log : records_of (LogId.Host h) (effects device.journal) ≡ [] = log_empty sound known device.journal holding all.rest in
      let table : driver.driven.table ≡ (driver_of h most device.journal).table = ap (λ (k : Standing). k.driven.table) t.standing in
      record {
        legal = legal;
        driven = t.driven;
        turns = record { each = t.turns; last = all.rest };
        others = all.others;
        own = subst (λ (k : Configuration). Each (IsUnlined k.hosts h) device.journal) all.config t.own;
        unrefused = holding.unrefused;
        log = log;
        table_is = table;
        accepted = table ∙ table_is c sound h known most device.journal holding.keeps log;
      }

-- ---- lines that fit

-- an act of a sound line fits its actor
pub lines_fit : (hosts lanes : ℕ) (lines : List Line) → IsTrue (list_all (is_sound_line hosts lanes) lines) → IsTrue (list_all (is_fitting hosts) lines)
lines_fit hosts lanes [] sound = refl
lines_fit hosts lanes (Line.Do actor lane act ∷ lines) sound =
    let parts = and_parts (is_sound_line hosts lanes (Line.Do actor lane act)) (list_all (is_sound_line hosts lanes) lines) sound in
    let first = and_parts (fits hosts actor act) (is_lane lanes actor lane) parts.0 in
    and_from (fits hosts actor act) (list_all (is_fitting hosts) lines) first.0 (lines_fit hosts lanes lines parts.1)
lines_fit hosts lanes (Line.Mark ∷ lines) sound = lines_fit hosts lanes lines sound

-- the line of an index fits
pub line_fits : (hosts : ℕ) (lines : List Line) (i : ℕ) (line : Line) → i < length lines → line ≡ get_or lines i line → IsTrue (list_all (is_fitting hosts) lines) → IsTrue (is_fitting hosts line)
line_fits hosts lines i line within found all = elim (cases_Bool (is_fitting hosts line)) [
  | inl fitting ↦ fitting
  | inr other ↦ absurd (false≢true (sym (list_all_at (is_fitting hosts) lines i line within (ap (is_fitting hosts) (sym found) ∙ other)) ∙ all))
]

-- one line more of them
pub one_line_more : (lines : List Line) (i : ℕ) (line : Line) → i < length lines → line ≡ get_or lines i line → take (i + 1) lines ≡ take i lines ++ line ∷ []
one_line_more lines i line within found = take_more lines i line within ∙ ap (λ (x : Line). take i lines ++ x ∷ []) (sym found)
