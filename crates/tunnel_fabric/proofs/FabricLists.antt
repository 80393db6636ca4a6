-- What a loop over devices, or over lines of a fabric, has read so far.
use Rattle.std.proofs.Common.{◌≡◌, ℕ, zero, suc, List, [], ◌∷◌, ◌++◌, Result, Ok, Err, refl, sym, ap, ◌∙◌, append-nil, append_assoc, eqb, false}
use Rattle.region_config.specs.Configurations.{Configuration}
use Rattle.report.specs.script_codec.specs.declared.faults.ScriptFault.{ScriptFault}
use Rattle.tunnel_fabric.specs.FabricLines.{fabric_end_from, fabric_kind_from, fabric_line_from, fabric_line_then, fabric_lines_from}
use Rattle.tunnel_fabric.specs.{FabricReading.◌▸◌, FabricReading.device_script_from, FabricReading.devices_from, declared.fabric_lines.FabricLine.FabricLine, declared.faults.FabricFault.FabricFault}

-- ---- lines

-- the kind of the next line is read first
pub no_fabric_kind : (n : ℕ) (configs : List Configuration) (bytes : List ℕ) (place : ℕ) (fault : ScriptFault) → fabric_kind_from bytes place ≡ Err fault → fabric_lines_from n configs bytes place ≡ Err fault
unfolding fabric_lines_from
no_fabric_kind zero configs bytes place fault e = rw e refl
no_fabric_kind (suc left) configs bytes place fault e = rw e refl

-- what stands behind the end word decides
pub at_fabric_end : (n : ℕ) (configs : List Configuration) (bytes : List ℕ) (place : ℕ) (kind : ℕ × ℕ) → fabric_kind_from bytes place ≡ Ok kind → kind.0 ≡ 0 → fabric_lines_from n configs bytes place ≡ fabric_end_from bytes kind.1
unfolding fabric_lines_from
at_fabric_end zero configs bytes place kind e is = rw (e, is) refl
at_fabric_end (suc left) configs bytes place kind e is = rw (e, is) refl

pub bad_fabric_line : (n left : ℕ) (configs : List Configuration) (bytes : List ℕ) (place : ℕ) (kind : ℕ × ℕ) (fault : ScriptFault) → n ≡ suc left → fabric_kind_from bytes place ≡ Ok kind → eqb kind.0 0 ≡ false → fabric_line_from kind.0 configs bytes kind.1 ≡ Err fault → fabric_lines_from n configs bytes place ≡ Err fault
unfolding fabric_lines_from
bad_fabric_line n left configs bytes place kind fault more e goes bad = ap (λ m. fabric_lines_from m configs bytes place) more ∙ rw (e, goes, bad) refl

pub one_fabric_line : (n left : ℕ) (configs : List Configuration) (bytes : List ℕ) (place : ℕ) (kind : ℕ × ℕ) (line : FabricLine × ℕ) → n ≡ suc left → fabric_kind_from bytes place ≡ Ok kind → eqb kind.0 0 ≡ false → fabric_line_from kind.0 configs bytes kind.1 ≡ Ok line → fabric_lines_from n configs bytes place ≡ fabric_line_then line.0 (fabric_lines_from left configs bytes line.1)
unfolding fabric_lines_from
one_fabric_line n left configs bytes place kind line more e goes here = ap (λ m. fabric_lines_from m configs bytes place) more ∙ rw (e, goes, here) refl

pub too_many_fabric_lines : (n : ℕ) (configs : List Configuration) (bytes : List ℕ) (place : ℕ) (kind : ℕ × ℕ) → n ≡ 0 → fabric_kind_from bytes place ≡ Ok kind → eqb kind.0 0 ≡ false → fabric_lines_from n configs bytes place ≡ Err (ScriptFault.TooManyLines place)
unfolding fabric_lines_from
too_many_fabric_lines n configs bytes place kind none e goes = ap (λ m. fabric_lines_from m configs bytes place) none ∙ rw (e, goes) refl

-- these lines before those that are still to come
abbrev pub with_fabric_lines : List FabricLine → Result (List FabricLine) ScriptFault → Result (List FabricLine) ScriptFault
with_fabric_lines lines (Ok rest) = Ok (lines ++ rest)
with_fabric_lines lines (Err fault) = Err fault

-- ---- devices

-- these devices before those that are still to come
abbrev pub with_devices : List Configuration → Result (List Configuration × ℕ) FabricFault → Result (List Configuration × ℕ) FabricFault
with_devices xs (Ok rest) = Ok (xs ++ rest.0, rest.1)
with_devices xs (Err fault) = Err fault

pub devices_go_on : (xs : List Configuration) (x : Configuration × ℕ) (n left : ℕ) (bytes : List ℕ) (place : ℕ) (whole : Result (List Configuration × ℕ) FabricFault) → n ≡ suc left → device_script_from bytes place ≡ Ok x → with_devices xs (devices_from n bytes place) ≡ whole → with_devices (xs ++ x.0 ∷ []) (devices_from left bytes x.1) ≡ whole
unfolding devices_from
devices_go_on xs x n left bytes place whole more here is =
    by (devices_from left bytes x.1)
    ∙ sym (ap (λ r. with_devices xs (r ▸ (λ first. devices_from left bytes first.1 ▸ (λ rest. Ok (first.0 ∷ rest.0, rest.1))))) here)
    ∙ sym (ap (λ m. with_devices xs (devices_from m bytes place)) more)
    ∙ is
  where
    by : (r : Result (List Configuration × ℕ) FabricFault) → with_devices (xs ++ x.0 ∷ []) r ≡ with_devices xs (r ▸ (λ rest. Ok (x.0 ∷ rest.0, rest.1)))
    by (Ok rest) = ap (λ ys. Ok (ys, rest.1)) (append_assoc xs (x.0 ∷ []) rest.0)
    by (Err fault) = refl

pub devices_fail : (xs : List Configuration) (fault : FabricFault) (n left : ℕ) (bytes : List ℕ) (place : ℕ) (whole : Result (List Configuration × ℕ) FabricFault) → n ≡ suc left → device_script_from bytes place ≡ Err fault → with_devices xs (devices_from n bytes place) ≡ whole → whole ≡ Err fault
unfolding devices_from
devices_fail xs fault n left bytes place whole more here is =
    sym is ∙ ap (λ m. with_devices xs (devices_from m bytes place)) more
    ∙ ap (λ r. with_devices xs (r ▸ (λ first. devices_from left bytes first.1 ▸ (λ rest. Ok (first.0 ∷ rest.0, rest.1))))) here

pub devices_done : (xs : List Configuration) (n : ℕ) (bytes : List ℕ) (place : ℕ) (whole : Result (List Configuration × ℕ) FabricFault) → n ≡ 0 → with_devices xs (devices_from n bytes place) ≡ whole → whole ≡ Ok (xs, place)
unfolding devices_from
devices_done xs n bytes place whole none is =
    sym is ∙ ap (λ m. with_devices xs (devices_from m bytes place)) none ∙ ap (λ ys. Ok (ys, place)) (append-nil xs)
