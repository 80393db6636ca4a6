-- From how a run over an input ends to what is planned for it.
use Rattle.std.proofs.Common.{◌≡◌, ℕ, ◌<◌, ◌≤◌, List, ◌++◌, Some, Ok, Err, length, take, refl, sym, ap, subst, ◌∙◌, arith}
use Rattle.std.{proofs.lemmas.List.length-take, proofs.lemmas.List.take_all, proofs.lemmas.Option.none-some, proofs.lemmas.Option.same_Some, specs.Prelude.IfOk, specs.declared.result.Result.Result}
use Rattle.dcd_base.specs.declared.{failures.NoMemory.NoMemory, capacity.Extent.Extent}
use Rattle.edge_io.specs.Meanings.{Decides}
use Rattle.region_config.specs.Configurations.{Configuration}
use Rattle.journal_core.specs.declared.entries.Entry.{Entry}
use Rattle.report.specs.{Refusals.refusal_line, Texts.text, script_codec.proofs.Beginnings.too_long, script_codec.proofs.ScriptLaws.script_is}
use Rattle.report.specs.script_codec.specs.{Reading.fault_of, Reading.first_fault, Reading.script_in, Scripts.ReadsScript, declared.faults.ScriptFault.ScriptFault, declared.scripts.Script.Script}
use Rattle.host_driver.specs.Journals.{IsDrive}
use Rattle.host_driver.specs.Planning.{EndsOn, IsDrivenText, IsSoundInput, bytes_of, driver_program, extent_lines, most_bytes, most_of_input}
use Rattle.host_driver.specs.declared.{printed.Printed.Printed, status.DriveStatus.DriveStatus, words.DriveChoice.DriveChoice}

abbrev Decided : Type 0
Decided = Result (DriveStatus × Printed) NoMemory

-- what reads as one script reads as no other
ok_script : (s t : Script) (read : Result Script ScriptFault) → read ≡ Ok s → read ≡ Ok t → s ≡ t
ok_script s t read first second = cc

not_refused : (input : List ℕ) (fault : ScriptFault) → first_fault input ≡ Some fault → (s : Script) → ReadsScript input s → ⊥
not_refused input fault e s reads = none-some fault (sym (ap fault_of (script_is input s reads)) ∙ e)

-- ---- an input with a fault

pub refused_decides : (choice : DriveChoice) (input : List ℕ) (fault : ScriptFault) → length input ≤ most_bytes → first_fault input ≡ Some fault
    → Decides driver_program choice input (DriveStatus.ScriptRefused fault) (refusal_line fault)
refused_decides choice input fault short is = record {
  plan = (ap first_fault (take_all most_of_input input (omega (arith, short))) ∙ is, refl);
  decided = λ sound. not_refused input fault is sound.script sound.is_script;
}

-- one that is longer than a script
pub long_decides : (choice : DriveChoice) (input : List ℕ) (most : ℕ) → Some most_bytes ≡ Some most → most < length input
    → Decides driver_program choice input (DriveStatus.ScriptRefused ScriptFault.TooLong) (refusal_line ScriptFault.TooLong)
long_decides choice input most same below =
    let long : most_bytes < length input = subst (λ n. n < length input) (sym (same_Some most_bytes most same)) below in
    record {
      plan = (ap fault_of (too_long (take most_of_input input) (omega (arith, length-take most_of_input input, long))).1, refl);
      decided = λ sound. absurd (omega (arith, sound.is_script.short, long));
    }

-- ---- a script

without_host : (choice : DriveChoice) (input : List ℕ) (s : Script) → ReadsScript input s → s.config.hosts ≤ choice.host → IsSoundInput choice input → ⊥
without_host choice input s reads unknown sound =
    let same : s ≡ sound.script = ok_script s sound.script (script_in input) (script_is input s reads) (script_is input sound.script sound.is_script) in
    let hosts : s.config.hosts ≡ sound.script.config.hosts = ap (λ (x : Script). x.config.hosts) same in
    omega (arith, hosts, unknown, sound.known)

ends_on : (choice : DriveChoice) (input : List ℕ) (s : Script) → ReadsScript input s → (status : DriveStatus) (printed : List ℕ) → EndsOn s choice status printed → Decides driver_program choice input status printed
ends_on choice input s reads DriveStatus.Done printed (known, e) = record {
  plan = record { script = s; journal = e.journal; table = e.table; reads = reads; known = known; drive = e.drive; is = e.is };
  decided = tt;
}
ends_on choice input s reads DriveStatus.NoSuchHost printed (unknown, is) = record {
  plan = (record { script = s; reads = reads; unknown = unknown }, is);
  decided = without_host choice input s reads unknown;
}
ends_on choice input s reads DriveStatus.Usage printed e = absurd e
ends_on choice input s reads (DriveStatus.ScriptRefused fault) printed e = absurd e
ends_on choice input s reads DriveStatus.NoMemory printed e = absurd e
ends_on choice input s reads DriveStatus.ReadFault printed e = absurd e
ends_on choice input s reads DriveStatus.WriteFault printed e = absurd e

pub on_script : (choice : DriveChoice) (input : List ℕ) (s : Script) → ReadsScript input s → (decided : Decided) → IfOk decided (λ end. EndsOn s choice end.0 (bytes_of end.1))
    → IfOk decided (λ end. Decides driver_program choice input end.0 (bytes_of end.1))
on_script choice input s reads (Ok end) e = ends_on choice input s reads end.0 (bytes_of end.1) e
on_script choice input s reads (Err failure) e = tt

-- what is printed of a device and a driver's table
pub driven_text : (s : Script) (host most : ℕ) (c : Configuration) (journal : List Entry) (table shown : List Extent) (lines : List ℕ) → c ≡ s.config
    → IsDrive s.config s.lines host most journal table → shown ≡ table → lines ≡ extent_lines shown → IsDrivenText s host most (text c journal ++ lines)
driven_text s host most c journal table shown lines same drive is_table is_lines = record {
  journal = journal;
  table = table;
  drive = drive;
  is = ap (λ k. text k journal ++ lines) same ∙ ap (λ l. text s.config journal ++ l) (is_lines ∙ ap extent_lines is_table);
}

-- the script has the host
pub known_so : (host wide few hosts : ℕ) → host < wide → wide ≡ few → few ≡ hosts → host < hosts
known_so host wide few hosts under widened counted = omega (arith, under, widened, counted)

-- ---- the input as a slice

pub all_decide : (choice : DriveChoice) (input bytes : List ℕ) → bytes ≡ input → (decided : Decided) → IfOk decided (λ end. Decides driver_program choice bytes end.0 (bytes_of end.1))
    → IfOk decided (λ end. Decides driver_program choice input end.0 (bytes_of end.1))
all_decide choice input bytes same decided e = subst (λ all. IfOk decided (λ end. Decides driver_program choice all end.0 (bytes_of end.1))) same e

pub all_short : (input bytes : List ℕ) → bytes ≡ input → length input ≤ most_bytes → length bytes ≤ most_bytes
all_short input bytes same short = subst (λ all. length all ≤ most_bytes) (sym same) short
