-- From how the line on a refusal ends to how the run of the input ends.
use Rattle.std.{proofs.Common.ℕ, proofs.Common.List, proofs.Common.Option, proofs.Common.refl, specs.Prelude.◌≢◌}
use Rattle.explainer.specs.{Converting.IsRefused, Runs.EndsLine, Runs.EndsOf, Runs.IsSaid, Runs.refusal_text, declared.converting.Refusal.Refusal, declared.converting.Task.Task}
use Rattle.explainer.specs.declared.status.Status.{Status}

pub refused_ends : (name : List ℕ) (task : Task) (input : List ℕ) (refusal : Refusal) (old : Option (List ℕ)) (faults : ℕ) (new : Option (List ℕ)) (count : ℕ) (status : Status) → (refusal ≢ Refusal.NoMemory) → IsRefused task input refusal
    → EndsLine (refusal_text name refusal) old faults new count status → EndsOf name task input old faults new count status
refused_ends name task input refusal old faults new count Status.Done real is ends = absurd ends
refused_ends name task input refusal old faults new count Status.Usage real is ends = absurd ends
refused_ends name task input refusal old faults new count Status.Refused real is ends = record { output = refusal_text name refusal; planned = (refusal, real, is, refl); took = ends }
refused_ends name task input refusal old faults new count Status.NoMemory real is ends = ends
refused_ends name task input refusal old faults new count Status.ReadFault real is ends = absurd ends
refused_ends name task input refusal old faults new count Status.WriteFault real is ends =
    (record { status = Status.Refused; output = refusal_text name refusal; rest = ends.0.0; planned = (refusal, real, is, refl); took = ends.0.1 }, ends.1)

-- a refusal that comes of an input is told, unless memory was wanted
pub told : (task : Task) (input : List ℕ) (refusal : Refusal) → (refusal ≢ Refusal.NoMemory) → IsRefused task input refusal → IsSaid refusal
told Task.ToScript input (Refusal.Text place cause) real is = tt
told Task.ToScript input (Refusal.Script fault) real is = absurd is
told Task.ToScript input (Refusal.Cut need have) real is = tt
told Task.ToScript input (Refusal.Stopped line) real is = tt
told Task.ToText input (Refusal.Text place cause) real is = tt
told Task.ToText input (Refusal.Script fault) real is = is.real
told Task.ToText input (Refusal.Cut need have) real is = tt
told Task.ToText input (Refusal.Stopped line) real is = tt
told Task.Explain input (Refusal.Text place cause) real is = tt
told Task.Explain input (Refusal.Script fault) real is = is.1.real
told Task.Explain input (Refusal.Cut need have) real is = tt
told Task.Explain input (Refusal.Stopped line) real is = tt
told task input Refusal.NoMemory real is = real refl
