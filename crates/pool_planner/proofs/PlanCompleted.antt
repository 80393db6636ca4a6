-- An input with which nothing is wrong is not refused.
use Rattle.std.proofs.Common.{◌≡◌, ℕ, ◌<◌, ◌≤◌, List, [], Some, Ok, Err, length, refl, sym, ap, subst, ◌∙◌, arith}
use Rattle.std.{proofs.lemmas.Option.none-some, proofs.lemmas.Option.same_Some, specs.Prelude.IfOk, specs.Result.result_ok, specs.declared.result.Result.Result}
use Rattle.dcd_base.specs.declared.failures.NoMemory.{NoMemory}
use Rattle.edge_io.specs.{Ends.IsDecided, Meanings.Decides}
use Rattle.report.specs.script_codec.{proofs.ScriptLaws.script_is, specs.Frames.script_part, specs.Frames.text_part, specs.Reading.fault_of, specs.Reading.first_fault, specs.Scripts.ReadsScript}
use Rattle.report.specs.script_codec.specs.declared.{faults.ScriptFault.ScriptFault, scripts.Script.Script}
use Rattle.plan_rules.specs.{Planning.plan_fault, declared.faults.PlanFault.PlanFault}
use Rattle.pool_planner.proofs.OneReading.{no_fault, one_reading}
use Rattle.pool_planner.specs.{PlanEnds.IsFrameEnd, PlanEnds.IsPlanEnd, PlanEnds.IsScriptJournal, PlanEnds.IsSoundInput, PlanEnds.most_of_frame, PlanEnds.planner, PlanStatuses.plan_end}
use Rattle.pool_planner.specs.declared.status.PlanStatus.{PlanStatus}

not_refused : (bytes : List ℕ) (fault : ScriptFault) (s : Script) → ReadsScript bytes s → first_fault bytes ≡ Some fault → ⊥
not_refused bytes fault s reads e = none-some fault (sym (ap fault_of (script_is bytes s reads)) ∙ e)

one_script : (bytes : List ℕ) (s t : Script) → ReadsScript bytes s → ReadsScript bytes t → s ≡ t
one_script bytes s t a b = same_Some s t (sym (ap result_ok (script_is bytes s a)) ∙ ap result_ok (script_is bytes t b))

refused : (input : List ℕ) (fault : PlanFault) (printed : List ℕ) → IsFrameEnd input (PlanStatus.Plan fault) printed → IsSoundInput input → ⊥
refused input fault printed e sound =
    let q = e.ends.0 in
    let end = e.ends.2 in
    let script : e.script ≡ sound.script = one_script (script_part input) e.script sound.script e.reads sound.reads_as in
    let demands : q ≡ sound.q = one_reading (text_part input) q sound.q e.ends.1 sound.states in
    none-some fault (sym (sound.planned end.journal (subst (λ (s : Script). IsScriptJournal s end.journal) script end.runs))
    ∙ sym (λ i. plan_fault (script i).config end.journal (demands i)) ∙ end.ends.0)

decided_so : (input : List ℕ) (status : PlanStatus) (printed : List ℕ) → IsPlanEnd input status printed → IsDecided (plan_end status) (IsSoundInput input)
decided_so input PlanStatus.Done printed e = tt
decided_so input PlanStatus.Usage printed e = e
decided_so input (PlanStatus.ScriptRefused fault) printed e = λ sound. not_refused (script_part input) fault sound.script sound.reads_as e.faulty
decided_so input PlanStatus.NoMemory printed e = e
decided_so input PlanStatus.ReadFault printed e = e
decided_so input PlanStatus.WriteFault printed e = e
decided_so input (PlanStatus.InputShort need have) printed e = λ sound. omega (arith, e.fewer, e.need_is, e.have_is, sound.frame.whole)
decided_so input PlanStatus.InputLong printed e = λ sound. omega (arith, e.0, sound.frame.few)
decided_so input (PlanStatus.Demands fault) printed e = λ sound. no_fault (text_part input) sound.q fault e.ends.known sound.states e.ends.states
decided_so input (PlanStatus.Plan fault) printed e = refused input fault printed e

-- What an input comes to is decided upon it.
pub plan_decides : (input : List ℕ) (status : PlanStatus) (printed : List ℕ) → IsPlanEnd input status printed → Decides planner tt input status printed
plan_decides input status printed e = record { plan = e; decided = decided_so input status printed e }

pub all_decide : (input bytes : List ℕ) → bytes ≡ input → (decided : Result (PlanStatus × List ℕ) NoMemory) → IfOk decided (λ e. IsPlanEnd bytes e.0 e.1) → IfOk decided (λ e. Decides planner tt input e.0 e.1)
all_decide input bytes same (Ok e) end = plan_decides input e.0 e.1 (subst (λ all. IsPlanEnd all e.0 e.1) same end)
all_decide input bytes same (Err e) end = tt

-- More was left than a frame may have.
pub long_decides : (input : List ℕ) (most : ℕ) → Some most_of_frame ≡ Some most → most < length input → Decides planner tt input PlanStatus.InputLong []
long_decides input most same long =
    plan_decides input PlanStatus.InputLong [] (subst (λ n. n < length input) (sym (same_Some most_of_frame most same)) long, refl)

pub all_short : (input bytes : List ℕ) → bytes ≡ input → length input ≤ most_of_frame → length bytes ≤ most_of_frame
all_short input bytes same short = subst (λ all. length all ≤ most_of_frame) (sym same) short
