-- From what comes of an input to what is decided upon it.
use Rattle.std.proofs.Common.{◌≡◌, ℕ, ◌<◌, ◌≤◌, List, [], Option, Some, None, Ok, Err, length, refl, sym, ap, subst, ◌∙◌, arith}
use Rattle.std.{proofs.lemmas.Option.none-some, proofs.lemmas.Option.same_Some, specs.Prelude.IfOk, specs.declared.result.Result.Result}
use Rattle.dcd_base.specs.declared.failures.NoMemory.{NoMemory}
use Rattle.edge_io.specs.{Ends.IsDecided, Meanings.Decides}
use Rattle.report.specs.script_codec.{proofs.ScriptLaws.script_is, specs.Frames.script_part, specs.Frames.text_part, specs.Reading.fault_of, specs.Reading.first_fault, specs.Scripts.ReadsScript}
use Rattle.report.specs.script_codec.specs.declared.{faults.ScriptFault.ScriptFault, scripts.Script.Script}
use Rattle.journal_check.specs.CheckPlanning.{IsAnswer, IsAnswered, IsCheckPlannedFor, IsRefusedFrame, IsSoundInput, bytes_of, checker}
use Rattle.journal_check.specs.{CheckStatuses.check_end, FirstWrong.IsChecked, Frames.IsFrame, Frames.most_input, declared.printing.Printed.Printed, declared.status.CheckStatus.CheckStatus}

abbrev Decided : Type 0
Decided = Result (CheckStatus × Printed) NoMemory

not_refused : (bytes : List ℕ) (fault : ScriptFault) (s : Script) → ReadsScript bytes s → first_fault bytes ≡ Some fault → ⊥
not_refused bytes fault s reads e = none-some fault (sym (ap fault_of (script_is bytes s reads)) ∙ e)

decided_so : (input : List ℕ) (status : CheckStatus) (printed : List ℕ) → IsCheckPlannedFor input status printed → IsDecided (check_end status) (IsSoundInput input)
decided_so input CheckStatus.Yes printed e = tt
decided_so input (CheckStatus.No line) printed e = tt
decided_so input CheckStatus.Usage printed e = e
decided_so input (CheckStatus.ScriptRefused fault) printed e = λ sound. not_refused (script_part input) fault sound.script sound.reads_as e.0.faulty
decided_so input CheckStatus.NoMemory printed e = e
decided_so input CheckStatus.ReadFault printed e = e
decided_so input CheckStatus.WriteFault printed e = e
decided_so input (CheckStatus.InputShort need have) printed e = λ sound. omega (arith, e.0.fewer, e.0.need_is, e.0.have_is, sound.frame.whole)
decided_so input CheckStatus.InputLong printed e = λ sound. omega (arith, e.0, sound.frame.short)

planned_decides : (input : List ℕ) (status : CheckStatus) (printed : List ℕ) → IsCheckPlannedFor input status printed → Decides checker tt input status printed
planned_decides input status printed e = record { plan = e; decided = decided_so input status printed e }

-- the input as a slice
pub all_decide : (input bytes : List ℕ) → bytes ≡ input → (decided : Decided) → IfOk decided (λ end. IsCheckPlannedFor bytes end.0 (bytes_of end.1))
    → IfOk decided (λ end. Decides checker tt input end.0 (bytes_of end.1))
all_decide input bytes same (Ok end) e = planned_decides input end.0 (bytes_of end.1) (subst (λ all. IsCheckPlannedFor all end.0 (bytes_of end.1)) same e)
all_decide input bytes same (Err failure) e = tt

-- one that is longer than a frame
pub long_decides : (input : List ℕ) (most : ℕ) → Some most_input ≡ Some most → most < length input → Decides checker tt input CheckStatus.InputLong []
long_decides input most same long =
    planned_decides input CheckStatus.InputLong [] (subst (λ n. n < length input) (sym (same_Some most_input most same)) long, refl)

-- ---- a frame of a script

pub refused_frame : (input bytes : List ℕ) (fault : ScriptFault) → IsFrame input → bytes ≡ script_part input → first_fault bytes ≡ Some fault → IsRefusedFrame input fault
refused_frame input bytes fault frame is bad = record { frame = frame; faulty = ap first_fault (sym is) ∙ bad }

answered : (input : List ℕ) (s : Script) → IsFrame input → ReadsScript (script_part input) s → (status : CheckStatus) (printed : List ℕ) (first : Option ℕ)
    → IsChecked s (text_part input) first → IsAnswer first status printed → IsCheckPlannedFor input status printed
answered input s frame reads status printed None checked (is, line) =
    subst (λ x. IsCheckPlannedFor input x printed) (sym is) (record { frame = frame; script = s; reads = reads; checked = checked }, line)
answered input s frame reads status printed (Some n) checked (is, line) =
    subst (λ x. IsCheckPlannedFor input x printed) (sym is) (record { frame = frame; script = s; reads = reads; checked = checked }, line)

pub answered_ends : (input bytes text : List ℕ) (s : Script) → IsFrame input → bytes ≡ script_part input → text ≡ text_part input → ReadsScript bytes s
    → (decided : Decided) → IfOk decided (λ end. IsAnswered s text end.0 (bytes_of end.1)) → IfOk decided (λ end. IsCheckPlannedFor input end.0 (bytes_of end.1))
answered_ends input bytes text s frame is_script is_text reads (Ok end) a =
    answered input s frame (subst (λ b. ReadsScript b s) is_script reads) end.0 (bytes_of end.1) a.first (subst (λ t. IsChecked s t a.first) is_text a.checked) a.answer
answered_ends input bytes text s frame is_script is_text reads (Err failure) a = tt

pub all_short : (input bytes : List ℕ) → bytes ≡ input → length input ≤ most_input → length bytes ≤ most_input
all_short input bytes same short = subst (λ all. length all ≤ most_input) (sym same) short
