-- Desks before and after a phase.
use Rattle.std.proofs.Common.{◌≡◌, ℕ, suc, ◌+◌, ◌*◌, ◌/◌, ◌<◌, ◌≤◌, ◌^◌, List, [], ◌∷◌, ◌++◌, length, map, refl, ap, sym, subst, ◌∙◌, arith, IsTrue, OnOk}
use Rattle.std.proofs.Math.Nat.{div-lt_iff_lt-mul, mul_comm}
use Rattle.std.proofs.lemmas.{Bool.and_from, Bool.and_parts, Bool.eq-eqb, Bool.le-ltb, Bool.lt-ltb, Bool.ltb-true, Bool.ne_eqb, List.length-append, List.length-map, List.Folds.list_all-append}
use Rattle.std.{proofs.lemmas.Nat.div-mul-add, proofs.lemmas.Nat.mul-add-lt, specs.List.list_all}
use Rattle.std.specs.{Prelude.◌==◌, Prelude.nat_lt, Prelude.Bool, Prelude.true, Prelude.if◌then◌else◌, declared.result.Result.Result}
use Rattle.std.specs.declared.result.Result.TheVariants.{Ok, Err}
use Rattle.dcd_base.specs.declared.steps.Actor.{Actor}
use Rattle.journal_core.specs.{Entries.fits, declared.acts.Act.Act}
use Rattle.script_runner.{proofs.LineActors.host_fits, proofs.NewPassesReady.tasks_few, specs.script_codec.specs.Covering.pass_of, specs.script_codec.specs.Scripts.is_sound_line}
use Rattle.script_runner.specs.{script_codec.specs.declared.script_line.Line.Line, workers.specs.Phases.task_of, workers.specs.Phases.phase}
use Rattle.script_runner.specs.workers.specs.Serving.{EachReady, EachServed, IsReady}
use Rattle.threads_tests.specs.Desks.{AreDesks, DeskState, IsDesk, actor_at, desk_reads}

pub host_below : (hosts lanes number : ℕ) → 0 < lanes → hosts < 256 → number < hosts * lanes → number / lanes < 256
host_below hosts lanes number some few low =
    let below : number / lanes < hosts = (div-lt_iff_lt-mul some).1 low in
    omega (arith, below, few)

pub desk_pushed : (hosts lanes most k : ℕ) (desks : List DeskState) (d : DeskState) → AreDesks hosts lanes most k desks → IsDesk hosts lanes most (k + length desks) d → AreDesks hosts lanes most k (desks ++ d ∷ [])
desk_pushed hosts lanes most k [] d are is = (subst (λ n. IsDesk hosts lanes most n d) (omega arith) is, tt)
desk_pushed hosts lanes most k (x ∷ desks) d are is = (are.0, desk_pushed hosts lanes most (suc k) desks d are.1 (subst (λ n. IsDesk hosts lanes most n d) (omega arith) is))

pub more_calls : (hosts lanes most more k : ℕ) (desks : List DeskState) → most ≤ more → AreDesks hosts lanes most k desks → AreDesks hosts lanes more k desks
more_calls hosts lanes most more k [] low are = tt
more_calls hosts lanes most more k (d ∷ desks) low are =
    let few = are.0.few in (record { number = are.0.number; actor = are.0.actor; few = omega (arith, few, low) }, more_calls hosts lanes most more (suc k) desks low are.1)

pub sound_pushed : (test : Line → Bool) (lines : List Line) (line : Line) → IsTrue (list_all test lines) → IsTrue (test line) → IsTrue (list_all test (lines ++ line ∷ []))
sound_pushed test lines line all one = list_all-append test lines (line ∷ []) ∙ and_from (list_all test lines) (list_all test (line ∷ [])) all (and_from (test line) true one refl)

pub sound_front : (test : Line → Bool) (lines front back : List Line) → lines ≡ front ++ back → IsTrue (list_all test lines) → IsTrue (list_all test front)
sound_front test lines front back is all = (and_parts (list_all test front) (list_all test back) (sym (ap (list_all test) is ∙ list_all-append test front back) ∙ all)).0

pub sound_back : (test : Line → Bool) (lines front back : List Line) → lines ≡ front ++ back → IsTrue (list_all test lines) → IsTrue (list_all test back)
sound_back test lines front back is all = (and_parts (list_all test front) (list_all test back) (sym (ap (list_all test) is ∙ list_all-append test front back) ∙ all)).1

-- a sound line is of the actor of its pass
actor_right : (hosts lanes : ℕ) (actor : Actor) (lane : ℕ) (act : Act) → IsTrue (is_sound_line hosts lanes (Line.Do actor lane act)) → actor_at hosts lanes (pass_of hosts lanes actor lane) ≡ actor
actor_right hosts lanes (Actor.Host h) lane act sound =
    let parts = and_parts (fits hosts (Actor.Host h) act) (nat_lt lane lanes) sound in
    let narrow = ltb-true lane lanes parts.1 in
    let place = mul-add-lt h lanes lane hosts (host_fits hosts h act parts.0) narrow in
    let turned = mul_comm lanes hosts in
    ap (λ b. if b then Actor.Host ((h * lanes + lane) / lanes) else if (h * lanes + lane) == hosts * lanes then Actor.Manager else Actor.Sanitizer) (lt-ltb (h * lanes + lane) (hosts * lanes) (omega (arith, place, turned)))
    ∙ ap (λ n. Actor.Host n) (div-mul-add h lanes lane narrow)
actor_right hosts lanes Actor.Manager lane act sound =
    ap (λ b. if b then Actor.Host (hosts * lanes / lanes) else if hosts * lanes == hosts * lanes then Actor.Manager else Actor.Sanitizer) (le-ltb (hosts * lanes) (hosts * lanes) (omega arith))
    ∙ ap (λ b. if b then Actor.Manager else Actor.Sanitizer) (eq-eqb (hosts * lanes) (hosts * lanes) refl)
actor_right hosts lanes Actor.Sanitizer lane act sound =
    ap (λ b. if b then Actor.Host ((hosts * lanes + 1) / lanes) else if (hosts * lanes + 1) == hosts * lanes then Actor.Manager else Actor.Sanitizer) (le-ltb (hosts * lanes + 1) (hosts * lanes) (omega arith))
    ∙ ap (λ b. if b then Actor.Manager else Actor.Sanitizer) (ne_eqb (hosts * lanes + 1) (hosts * lanes) (λ e. absurd (omega (arith, e))))

desk_ready : {H : Type 0} (hosts : H → ℕ) (keeper : H) (h lanes most first k : ℕ) (lines : List Line) (d : DeskState) → most + length lines < 2 ^ 32 → IsDesk h lanes most k d
    → IsReady (desk_reads hosts) keeper (phase h lanes first lines) k d
desk_ready hosts keeper h lanes most first k lines d room is =
    let few = is.few in
    let tasks_fit = tasks_few h lanes k first lines in
    record {
      mine = tt;
      number = is.number;
      actor = λ actor lane act sound at. is.actor ∙ (ap (λ n. actor_at h lanes n) (sym at) ∙ actor_right h lanes actor lane act sound);
      room = omega (arith, few, tasks_fit, room);
    }

all_ready : {H : Type 0} (hosts : H → ℕ) (keeper : H) (h lanes most first k : ℕ) (lines : List Line) (desks : List DeskState) → most + length lines < 2 ^ 32 → AreDesks h lanes most k desks
    → EachReady (desk_reads hosts) keeper (phase h lanes first lines) k desks
all_ready hosts keeper h lanes most first k lines [] room are = tt
all_ready hosts keeper h lanes most first k lines (d ∷ desks) room are =
    (desk_ready hosts keeper h lanes most first k lines d room are.0, all_ready hosts keeper h lanes most first (suc k) lines desks room are.1)

pub desks_ready : {H : Type 0} (hosts : H → ℕ) (keeper : H) (most first : ℕ) (lines : List Line) (desks : List DeskState) → hosts keeper ≡ 2 → most + length lines < 2 ^ 32 → AreDesks 2 2 most 0 desks
    → EachReady (desk_reads hosts) keeper (phase (hosts keeper) 2 first lines) 0 desks
desks_ready hosts keeper most first lines desks is room are =
    subst (λ h. EachReady (desk_reads hosts) keeper (phase h 2 first lines) 0 desks) (sym is) (all_ready hosts keeper 2 2 most first 0 lines desks room are)

all_after : {H : Type 0} (hosts : H → ℕ) (keeper : H) (h lanes most first k : ℕ) (lines : List Line) (old new : List DeskState) → AreDesks h lanes most k old
    → EachServed (desk_reads hosts) keeper (phase h lanes first lines) k old new → AreDesks h lanes (most + length lines) k new
all_after hosts keeper h lanes most first k lines [] [] are served = tt
all_after hosts keeper h lanes most first k lines [] (q ∷ new) are served = absurd served
all_after hosts keeper h lanes most first k lines (p ∷ old) [] are served = absurd served
all_after hosts keeper h lanes most first k lines (p ∷ old) (q ∷ new) are served =
    let grown = served.0.grown in
    let more = ap length grown.grown ∙ length-append p.calls grown.more in
    let each = ap length (sym grown.each) ∙ length-append (map task_of grown.more) [] in
    let mapped = length-map grown.more task_of in
    let tasks_fit = tasks_few h lanes k first lines in
    let few = are.0.few in (
      record { number = served.0.same.number ∙ are.0.number; actor = served.0.same.actor ∙ are.0.actor; few = omega (arith, more, each, mapped, tasks_fit, few) },
      all_after hosts keeper h lanes most first (suc k) lines old new are.1 served.1,
    )

pub desks_after : {H E : Type 0} (r : Result (Unit {0}) E) (hosts : H → ℕ) (keeper : H) (most first : ℕ) (lines : List Line) (old new : List DeskState) → hosts keeper ≡ 2 → AreDesks 2 2 most 0 old
    → OnOk r (EachServed (desk_reads hosts) keeper (phase (hosts keeper) 2 first lines) 0 old new) → OnOk r (AreDesks 2 2 (most + length lines) 0 new)
desks_after (Ok u) hosts keeper most first lines old new is are served =
    all_after hosts keeper 2 2 most first 0 lines old new are (subst (λ h. EachServed (desk_reads hosts) keeper (phase h 2 first lines) 0 old new) is served)
desks_after (Err e) hosts keeper most first lines old new is are served = tt
