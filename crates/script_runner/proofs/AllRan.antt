-- The journal of a device whose passes have run the lines of a script.
use Rattle.std.proofs.Common.{◌≡◌, ℕ, ◌<◌, List, map, sym, ap, ◌∙◌, subst, arith, IsTrue}
use mathlib.Core.Option.{some, some-injective}
use lib.ListN.{get_elem?}
use Rattle.dcd_base.specs.declared.steps.Actor.{Actor}
use Rattle.device_plain.specs.{device_rules.specs.Legal.Exclusive, device_rules.specs.Legal.Legal, isolation_laws.specs.Solo.Isolated}
use Rattle.journal_core.{specs.declared.acts.Act.Act, specs.declared.entries.Entry.Entry, specs.Merging.calls_of, specs.Merging.merged, proofs.Splits.all_from_places}
use Rattle.region_config.specs.{Configurations.Configuration, Soundness.IsSound}
use Rattle.shared_device.specs.{Closing.AreAllPasses, Closing.IsClosed, Commanding.actors_of, Passing.pass_actor, declared.pass.Pass.Pass, declared.shared.Shared.Shared}
use Rattle.shared_device.specs.ruled_cells.{proofs.Places.at_there, specs.Calls.seats_of}
use Rattle.script_gen.specs.script_codec.specs.{declared.script_line.Line.Line, declared.scripts.Script.Script, Covering.Covers, Covering.pass_of, Scripts.IsScript, Scripts.is_sound_line}
use Rattle.script_runner.{specs.ThreadRuns.HasDone, specs.ThreadRuns.IsTakenApart, specs.ThreadRuns.IsThreadRun, proofs.LineActors.line_actor}
use Rattle.workers.specs.{Phases.task_of, Phases.tasks, Served.AllServed, Served.passes_of}

module _ (s : Shared) (script : Script) (passes : List Pass) (done : HasDone s script passes) where
  pub are_all_passes : AreAllPasses s passes
  are_all_passes = record {
    some_pass = let count = done.count in omega (arith, count);
    of = λ k p at. (done.ran k p at).of;
    each = λ i under.
        let seats = done.seats in
        let found = at_there passes i (omega (arith, under, seats)) in
        (i, found.0, found.1, (done.ran i found.0 found.1).number);
  }

  module _ (control : List Entry) (shards : List (List Entry)) (closed : IsClosed s.config (seats_of s.cells) passes control shards) where
    abbrev journal : List Entry
    journal = merged control shards

    -- the entry has the actor of its pass's lines
    abbrev HasLineActor : Entry → Type 0
    HasLineActor e = (actor : Actor) (lane : ℕ) (act : Act) → IsTrue (is_sound_line script.config.hosts script.lanes (Line.Do actor lane act))
        → pass_of script.config.hosts script.lanes actor lane ≡ e.pass → e.actor ≡ actor

    has_line_actor : (k : ℕ) (e : Entry) → get_elem? journal k ≡ some e → HasLineActor e
    has_line_actor k e at = λ actor lane act sound is.
        let seats = done.seats in
        let low = closed.no_others k e at in
        let found = at_there passes e.pass (omega (arith, low, seats)) in
        let ran = done.ran e.pass found.0 found.1 in
        (closed.each e.pass found.0 found.1).actor k e at (sym ran.number)
        ∙ some-injective (pass_actor found.0) actor
        (sym ran.actor ∙ ((λ i. get_elem? (actors_of (done.config i) script.lanes) (sym is i)) ∙ line_actor script.config script.lanes actor lane act sound))

    all_served : IsScript script → AllServed script journal
    all_served is_script = record {
      each = λ k under.
          let count = done.count in
          let found = at_there passes k (omega (arith, under, count)) in
          let ran = done.ran k found.0 found.1 in
          ap (λ n. map task_of (calls_of n journal)) (sym ran.number)
          ∙ (ap (λ calls. map task_of calls) (closed.each k found.0 found.1).calls
          ∙ (ran.calls ∙ ap (λ (c : Configuration). tasks c.hosts script.lanes k 1 script.lines) done.config));
      inside = all_from_places (λ (e : Entry). e.pass < passes_of script) journal
          (λ k e at. let low = closed.no_others k e at in let seats = done.seats in let count = done.count in omega (arith, low, seats, count));
      actors = all_from_places HasLineActor journal has_line_actor;
      sound = is_script.sound;
    }

    pub thread_run : IsScript script → IsSound script.config
        → ((c : Configuration) → IsSound c → (entries : List Entry) → Legal c entries → Isolated c entries)
        → ((z : Script) (entries : List Entry) → AllServed z entries → Covers entries z)
        → IsThreadRun script journal
    thread_run is_script sound isolates covers =
        let legal = subst (λ c. Legal c journal) done.config closed.legal in
        record {
          legal = legal;
          exclusive = subst (λ c. Exclusive c journal) done.config closed.exclusive;
          numbered = closed.numbered;
          isolated = isolates script.config sound journal legal;
          covers = covers script journal (all_served is_script);
        }

    -- and the control has the device's configuration
    pub taken_apart : (c : Configuration) → c ≡ s.config → IsTakenApart c control shards
    taken_apart c same = (seats_of s.cells, passes, subst (λ d. IsClosed d (seats_of s.cells) passes control shards) (sym same) closed)
