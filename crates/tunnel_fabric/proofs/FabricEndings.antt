-- From what is decided upon an input to what is planned for it.
use Rattle.std.proofs.Common.{◌≡◌, ℕ, ◌<◌, ◌≤◌, true, not, List, [], ◌∷◌, Some, Ok, Err, length, take, refl, sym, ap, subst, ◌∙◌, arith}
use Rattle.std.{proofs.lemmas.Bool.and_parts, proofs.lemmas.List.length-take, proofs.lemmas.List.take_all, specs.List.list_all, specs.Prelude.IfOk, specs.Prelude.slice_get}
use Rattle.std.specs.declared.result.Result.{Result}
use Rattle.dcd_base.specs.declared.failures.NoMemory.{NoMemory}
use Rattle.edge_io.specs.Meanings.{Decides}
use Rattle.region_config.specs.Configurations.{Configuration}
use Rattle.tunnel_fabric.proofs.FabricLaws.{fabric_is, fabric_too_long}
use Rattle.tunnel_fabric.specs.{FabricLayout.fits_there, FabricLayout.is_manager, FabricLayout.is_sound_fabric_line, FabricLayout.ReadsFabric, FabricReading.fabric_in}
use Rattle.tunnel_fabric.specs.{Planning.HasFewDevices, Planning.IsTextOfRun, Planning.bytes_of, Planning.fabric_program, Planning.most_bytes, Planning.most_of_fabric, Printing.fabric_refusal}
use Rattle.tunnel_fabric.specs.{Sending.CanRun, Sending.fits_fabric_line, declared.fabric_lines.FabricLine.FabricLine, declared.fabric_scripts.FabricScript.FabricScript}
use Rattle.tunnel_fabric.specs.declared.{faults.FabricFault.FabricFault, status.FabricStatus.FabricStatus, texts.FabricText.FabricText}

abbrev Decided : Type 0
Decided = Result (FabricStatus × FabricText) NoMemory

-- the end of an input with this fault
abbrev refused_end : FabricFault → FabricStatus × FabricText
refused_end fault = (FabricStatus.Refused fault, FabricText.Line (fabric_refusal fault))

-- ---- an input with a fault

not_sound : (input : List ℕ) (fault : FabricFault) → fabric_in input ≡ Err fault → (fabric : FabricScript) × ReadsFabric input fabric → ⊥
not_sound input fault is f = let bad : Ok f.0 ≡ Err fault = sym (fabric_is input f.0 f.1) ∙ is in cc

pub refused_decided : (input : List ℕ) (fault : FabricFault) → length input ≤ 16777216 → fabric_in input ≡ Err fault → (decided : Decided)
    → IfOk decided (λ end. end ≡ refused_end fault) → IfOk decided (λ end. Decides fabric_program tt input end.0 (bytes_of end.1))
refused_decided input fault short is (Err e) ends = tt
refused_decided input fault short is (Ok end) ends =
    subst (λ e. Decides fabric_program tt input e.0 (bytes_of e.1)) (sym ends) (record {
      plan = (ap fabric_in (take_all most_of_fabric input (omega (arith, short))) ∙ is, refl);
      decided = not_sound input fault is;
    })

pub refused_ready : (fault : FabricFault) (decided : Decided) → IfOk decided (λ end. end ≡ refused_end fault) → IfOk decided (λ end. HasFewDevices end.1)
refused_ready fault (Err e) ends = tt
refused_ready fault (Ok end) ends = subst (λ e. HasFewDevices e.1) (sym ends) tt

-- ---- one that is too long

long_end : (input : List ℕ) (most : ℕ) → Some most_bytes ≡ Some most → most < length input → Decides fabric_program tt input (FabricStatus.Refused FabricFault.TooLong) (fabric_refusal FabricFault.TooLong)
long_end input most same below =
    let long : most_bytes < length input = subst (λ n. n < length input) (sym (inner most_bytes most same)) below in
    record {
      plan = (fabric_too_long (take most_of_fabric input) (omega (arith, length-take most_of_fabric input, long)), refl);
      decided = λ f. absurd (omega (arith, f.1.short, long));
    }
  where
    inner : (a b : ℕ) → Some a ≡ Some b → a ≡ b
    inner a b e = cc

pub long_decided : (decided : Decided) → IfOk decided (λ end. end ≡ refused_end FabricFault.TooLong)
    → IfOk decided (λ end. (input : List ℕ) (most : ℕ) → Some most_bytes ≡ Some most → most < length input → Decides fabric_program tt input end.0 (bytes_of end.1))
long_decided (Err e) ends = tt
long_decided (Ok end) ends = λ input most same below. subst (λ e. Decides fabric_program tt input e.0 (bytes_of e.1)) (sym ends) (long_end input most same below)

-- ---- a fabric

pub ran_decided : (input : List ℕ) (f : FabricScript) → ReadsFabric input f → (decided : Decided) → IfOk decided (λ end. end.0 ≡ FabricStatus.Done) → IfOk decided (λ end. IsTextOfRun f end.1)
    → IfOk decided (λ end. Decides fabric_program tt input end.0 (bytes_of end.1))
ran_decided input f reads (Err e) done text = tt
ran_decided input f reads (Ok end) done text =
    subst (λ status. Decides fabric_program tt input status (bytes_of end.1)) (sym done) (record {
      plan = record { fabric = f; ran = text.ran; reads = reads; runs = text.runs; is = text.is };
      decided = tt;
    })

-- each line that is read fits on its device
fits_all : (configs : List Configuration) (lines : List FabricLine) → list_all (is_sound_fabric_line configs) lines ≡ true → list_all (fits_fabric_line configs) lines ≡ true
fits_all configs [] sound = refl
fits_all configs (FabricLine.Local device actor act ∷ lines) sound =
    let parts = and_parts (is_sound_fabric_line configs (FabricLine.Local device actor act)) (list_all (is_sound_fabric_line configs) lines) sound in
    rw ((and_parts (fits_there (slice_get configs device) actor act) (not (is_manager actor)) parts.0).0, fits_all configs lines parts.1) refl
fits_all configs (FabricLine.Tunnel q ∷ lines) sound = fits_all configs lines sound

pub can_run : (bytes : List ℕ) (f : FabricScript) → ReadsFabric bytes f → CanRun f
can_run bytes f reads = record {
  some = reads.fabric.some;
  few = reads.fabric.few;
  fits = fits_all f.configs f.lines reads.fabric.sound;
  few_lines = reads.fabric.few_lines;
}

-- ---- the input as a slice

pub all_decide : (input bytes : List ℕ) → bytes ≡ input → (decided : Decided) → IfOk decided (λ end. Decides fabric_program tt bytes end.0 (bytes_of end.1))
    → IfOk decided (λ end. Decides fabric_program tt input end.0 (bytes_of end.1))
all_decide input bytes same decided e = subst (λ all. IfOk decided (λ end. Decides fabric_program tt all end.0 (bytes_of end.1))) same e

pub all_short : (input bytes : List ℕ) → bytes ≡ input → length input ≤ most_bytes → length bytes ≤ most_bytes
all_short input bytes same short = subst (λ all. length all ≤ most_bytes) (sym same) short
