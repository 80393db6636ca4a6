-- What is written reads back.
use Rattle.std.proofs.Common.{◌≡◌, ℕ, ◌==◌, ◌≤◌, Bool, true, false, cond, List, [], ◌∷◌, ◌++◌, length, map, Result, Ok, Err, refl, sym, ap, ◌∙◌, subst, arith, lit<}
use Rattle.std.{specs.Prelude.flat_map, specs.Prelude.IfOk, specs.List.AllByRecursion, specs.List.list_all, proofs.lemmas.Bool.le-leb, specs.Int.w8, specs.Int.w64}
use Rattle.script_codec.proofs.{FieldLaws.ok_is, LineLaws.both, ScriptLaws.script_is, ScriptLaws.script_sound}
use Rattle.script_codec.specs.Reading.{script_in, fault_of, IsScriptRead, IsReadAs}
use Rattle.script_codec.specs.Scripts.{region_fields, start_fields, script_head, line_fields, script_fields, IsScript, ReadsScript}
use Rattle.script_codec.specs.{Writing.IsWritable, Writing.WritesScript, Writing.script_bytes, Writing.has_short_message, declared.faults.ScriptFault.ScriptFault, declared.script_line.Line.Line}
use Rattle.script_codec.specs.declared.scripts.Script.{Script}
use Rattle.cci_codec.specs.dcd_base.proofs.Fields.{IsOfBytes, spelled_reads, length_of_fields, IsBytes}
use Rattle.cci_codec.specs.dcd_base.specs.Layouts.{Field, Number, Reserved, Reads, FitsField}
use Rattle.region_config.specs.declared.region_spec.RegionSpec.{RegionSpec}
use Rattle.journal_core.specs.declared.acts.Act.{Act}

abbrev AreOfBytes : List Field → Type 0
AreOfBytes fields = AllByRecursion IsOfBytes fields

and_then : (fs gs : List Field) → AreOfBytes fs → AreOfBytes gs → AreOfBytes (fs ++ gs)
and_then [] gs a b = b
and_then (f ∷ fs) gs a b = (a.0, and_then fs gs a.1 b)

each_of : {X : Type 0} (layout : X → List Field) → ((x : X) → AreOfBytes (layout x)) → (xs : List X) → AreOfBytes (flat_map layout xs)
each_of layout each [] = tt
each_of layout each (x ∷ xs) = and_then (layout x) (flat_map layout xs) (each x) (each_of layout each xs)

lanes_of_bytes : (test : Bool) (lanes : ℕ) → AreOfBytes (cond test (Number w8 lanes ∷ Reserved 5 ∷ []) (Reserved 6 ∷ []))
lanes_of_bytes true lanes = (tt, (tt, tt))
lanes_of_bytes false lanes = (tt, tt)

bases_of_bytes : (bases : List ℕ) → AreOfBytes (map (λ base. Number w64 base) bases)
bases_of_bytes [] = tt
bases_of_bytes (base ∷ bases) = (tt, bases_of_bytes bases)

region_of_bytes : (spec : RegionSpec) → AreOfBytes (region_fields spec)
region_of_bytes spec = (tt, (tt, (tt, (tt, (tt, (lit< tt, (tt, tt)))))))

line_of_bytes : (line : Line) → AreOfBytes (line_fields line)
line_of_bytes Line.Mark = (tt, tt)
line_of_bytes (Line.Do actor lane (Act.Command q)) = (tt, (tt, (tt, (lit< tt, (tt, (tt, (tt, (tt, (lit< tt, (tt, (tt, tt)))))))))))
line_of_bytes (Line.Do actor lane (Act.Load d)) = (tt, (tt, (tt, tt)))
line_of_bytes (Line.Do actor lane (Act.Store d value)) = (tt, (tt, (tt, (tt, tt))))
line_of_bytes (Line.Do actor lane (Act.Scrub n)) = (tt, (tt, tt))

script_of_bytes : (s : Script) → AreOfBytes (script_fields s)
script_of_bytes s =
    and_then (script_head s ++ flat_map line_fields s.lines) (Number w8 0 ∷ [])
    (and_then (script_head s) (flat_map line_fields s.lines)
    (and_then (start_fields s ++ flat_map region_fields s.config.regions) (map (λ base. Number w64 base) s.config.bases)
    (and_then (start_fields s) (flat_map region_fields s.config.regions)
    (tt, (tt, (tt, (tt, (tt, lanes_of_bytes (s.version == 2) s.lanes)))))
    (each_of region_fields region_of_bytes s.config.regions))
    (bases_of_bytes s.config.bases))
    (each_of line_fields line_of_bytes s.lines))
    (tt, tt)

-- the spelling of a script reads as it
pub spelled_script : (s : Script) (bytes : List ℕ) → IsScript s → WritesScript s bytes → length bytes ≤ 16777216 → ReadsScript bytes s
unfolding WritesScript
spelled_script s bytes script writes short = record {
  script = script;
  reads = subst (λ b. Reads b (script_fields s)) (sym writes.spelled) (spelled_reads (script_fields s) writes.fits (script_of_bytes s));
  short = short;
}

pub reads_back : (s : Script) → IsWritable s → WritesScript s (script_bytes s) → script_in (script_bytes s) ≡ Ok s
reads_back s may writes = script_is (script_bytes s) s (spelled_script s (script_bytes s) may.script writes may.short)

-- ---- what the answer of reading says
pub read_reads : (bytes : List ℕ) (r : Result Script ScriptFault) → IsBytes bytes → IsScriptRead bytes r → IfOk r (λ script. ReadsScript bytes script)
read_reads bytes (Ok found) small is = script_sound bytes found small is
read_reads bytes (Err fault) small is = tt

other_fault : (fault : ScriptFault) → ((fault ≡ ScriptFault.NoMemory → ⊥) → ⊥) → fault ≡ ScriptFault.NoMemory
other_fault ScriptFault.NoMemory un = refl
other_fault ScriptFault.BadMagic un = absurd (un (λ e. cc))
other_fault (ScriptFault.BadVersion n) un = absurd (un (λ e. cc))
other_fault (ScriptFault.BadConfig fault) un = absurd (un (λ e. cc))
other_fault (ScriptFault.Truncated at) un = absurd (un (λ e. cc))
other_fault (ScriptFault.UnknownKind at) un = absurd (un (λ e. cc))
other_fault (ScriptFault.UnknownActor at) un = absurd (un (λ e. cc))
other_fault (ScriptFault.BadMessage at fault) un = absurd (un (λ e. cc))
other_fault ScriptFault.TooLong un = absurd (un (λ e. cc))
other_fault (ScriptFault.AfterEnd at) un = absurd (un (λ e. cc))
other_fault (ScriptFault.TooManyLines at) un = absurd (un (λ e. cc))
other_fault (ScriptFault.BadLanes n) un = absurd (un (λ e. cc))

pub read_only : (bytes : List ℕ) (r : Result Script ScriptFault) → IsScriptRead bytes r → (script : Script) → ReadsScript bytes script → IsReadAs script r
read_only bytes (Ok found) is script reads = ok_is found script (sym is ∙ script_is bytes script reads)
read_only bytes (Err fault) is script reads =
    other_fault fault (λ real. let e = sym (ap fault_of (script_is bytes script reads)) ∙ is real in cc)

-- ---- what is read may be written
fits_front : (fs gs : List Field) → AllByRecursion FitsField (fs ++ gs) → AllByRecursion FitsField fs
fits_front [] gs fits = tt
fits_front (f ∷ fs) gs fits = (fits.0, fits_front fs gs fits.1)

fits_back : (fs gs : List Field) → AllByRecursion FitsField (fs ++ gs) → AllByRecursion FitsField gs
fits_back [] gs fits = fits
fits_back (f ∷ fs) gs fits = fits_back fs gs fits.1

short_line : (line : Line) → AllByRecursion FitsField (line_fields line) → has_short_message line ≡ true
short_line Line.Mark fits = refl
short_line (Line.Do actor lane (Act.Command q)) fits = le-leb (length q.payload) 65523 (omega (arith, fits.1.1.0))
short_line (Line.Do actor lane (Act.Load d)) fits = refl
short_line (Line.Do actor lane (Act.Store d value)) fits = refl
short_line (Line.Do actor lane (Act.Scrub n)) fits = refl

short_lines : (lines : List Line) → AllByRecursion FitsField (flat_map line_fields lines) → list_all has_short_message lines ≡ true
short_lines [] fits = refl
short_lines (line ∷ lines) fits =
    both (has_short_message line) (list_all has_short_message lines)
    (short_line line (fits_front (line_fields line) (flat_map line_fields lines) fits))
    (short_lines lines (fits_back (line_fields line) (flat_map line_fields lines) fits))

pub may_be_written : (bytes : List ℕ) (s : Script) → ReadsScript bytes s → IsWritable s
unfolding script_bytes
may_be_written bytes s reads =
    let fits = fits_back (script_head s) (flat_map line_fields s.lines) (fits_front (script_head s ++ flat_map line_fields s.lines) (Number w8 0 ∷ []) reads.reads.fits) in
    let long = length_of_fields bytes (script_fields s) reads.reads.agrees in
    record { script = reads.script; messages = short_lines s.lines fits; short = omega (arith, long, reads.short) }

pub read_writable : (bytes : List ℕ) (r : Result Script ScriptFault) → IsBytes bytes → IsScriptRead bytes r → IfOk r (λ script. IsWritable script)
read_writable bytes (Ok found) small is = may_be_written bytes found (script_sound bytes found small is)
read_writable bytes (Err fault) small is = tt
