-- Why a head is refused, in words.
use Rattle.std.specs.Prelude.{◌≡◌, ℕ, ◌==◌, if◌then◌else◌, List, [], ◌++◌, codes, decimal, Result, Err}
use Rattle.dcd_c.specs.{Words.PutsName, declared.faults.Fault.Fault, declared.head_faults.HeadFault.HeadFault}

abbrev pub region_words : ℕ → List ℕ
region_words region = codes "region " ++ decimal region ++ codes " "

abbrev pub place_words : ℕ → ℕ → List ℕ
place_words host region = codes "for host " ++ decimal host ++ codes " region " ++ decimal region ++ codes " "

-- what the fault of a configuration says
unfoldable pub cause_text : ℕ → ℕ → ℕ → List ℕ
cause_text n host region =
    if n == 1 then codes "there are not 1 to 16 hosts and 1 to 8 regions"
    else if n == 2 then place_words host region ++ codes "has a base that is no multiple of 256 MiB, or ends above 2^52"
    else if n == 3 then region_words region ++ codes "has a block that it does not support, or supports none or one that is not 2^6 to 2^40"
    else if n == 4 then region_words region ++ codes "has no whole number of its largest blocks, or more than it decodes"
    else if n == 5 then place_words host region ++ codes "begins below the end of the region before it"
    else if n == 6 then codes "there are more than 4096 granules"
    else []

unfoldable pub fault_words : ℕ → ℕ → ℕ → ℕ → List ℕ
fault_words n cause host region =
    if n == 1 then codes "the head does not begin with the bytes DCDS"
    else if n == 2 then codes "the version is neither 1 nor 2"
    else if n == 3 then cause_text cause host region
    else if n == 4 then codes "the head ends too early"
    else if n == 8 then codes "there are more than 16777216 bytes"
    else if n == 12 then codes "there are not 1 to 4 lanes for each host"
    else []

-- what a head's fault says, nothing where it is none
abbrev pub fault_text : HeadFault → List ℕ
fault_text f = fault_words f.number f.cause f.host f.region

-- What putting a text that took memory answers.
abbrev pub PutsText : List ℕ → List ℕ → List ℕ → Result ℕ Fault → Type 0
PutsText text was is (Err Fault.NoMemory) = is ≡ was
PutsText text was is outcome = PutsName text was is outcome
