-- What is to come of a fabric, and how it is printed.
use Rattle.std.specs.Prelude.{◌≡◌, ℕ, ◌≤◌, List, ◌++◌, length, take, Some, Err}
use Rattle.edge_io.specs.Meanings.{Meaning, asks_nothing}
use Rattle.tunnel_fabric.specs.{FabricLayout.ReadsFabric, FabricReading.fabric_in, Printing.devices_text, Printing.fabric_refusal, Printing.fabric_text, Printing.fabric_usage_line}
use Rattle.tunnel_fabric.specs.{Sending.IsFabricRun, Sending.RanFabric, Statuses.fabric_end, declared.fabric_scripts.FabricScript.FabricScript, declared.status.FabricStatus.FabricStatus}
use Rattle.tunnel_fabric.specs.declared.texts.FabricText.{FabricText}

-- the most bytes that a fabric has, and the most that are read
abbrev pub most_bytes : ℕ
most_bytes = 16777216

abbrev pub most_of_fabric : ℕ
most_of_fabric = 16777217

-- The input reads as a fabric, and the text is that of its run.
pub record IsFabricText (input printed : List ℕ) : Type 0 where
  pub fabric : FabricScript
  pub ran : RanFabric
  pub reads : ReadsFabric input fabric
  pub runs : IsFabricRun fabric ran
  pub is : printed ≡ fabric_text ran

-- A run over an input is to end so, and to write this. A fault is that of the input, or of its front where that is more than a
-- fabric may have.
abbrev pub IsFabricPlanned : List ℕ → FabricStatus → List ℕ → Type 0
IsFabricPlanned input FabricStatus.Done printed = IsFabricText input printed
IsFabricPlanned input (FabricStatus.Refused fault) printed = (fabric_in (take most_of_fabric input) ≡ Err fault) × (printed ≡ fabric_refusal fault)
IsFabricPlanned input FabricStatus.Usage printed = ⊥
IsFabricPlanned input FabricStatus.NoMemory printed = ⊥
IsFabricPlanned input FabricStatus.ReadFault printed = ⊥
IsFabricPlanned input FabricStatus.WriteFault printed = ⊥

-- The program: it takes no words, and each fabric is sound.
abbrev pub fabric_program : Meaning (Unit {0}) FabricStatus
fabric_program = record {
  asks = asks_nothing;
  usage = fabric_usage_line;
  most = λ task. Some most_bytes;
  plan = λ task. IsFabricPlanned;
  sound = λ task input. (fabric : FabricScript) × ReadsFabric input fabric;
  end = fabric_end;
}

-- ---- what is printed

abbrev pub bytes_of : FabricText → List ℕ
bytes_of (FabricText.Ran lines fabric) = lines ++ devices_text fabric.devices
bytes_of (FabricText.Line line) = line

-- There are no more devices than a fabric has.
abbrev pub HasFewDevices : FabricText → Type 0
HasFewDevices (FabricText.Ran lines fabric) = length fabric.devices ≤ 8
HasFewDevices (FabricText.Line line) = Unit {0}

-- It is what is printed of a run of the fabric.
pub record IsTextOfRun (f : FabricScript) (text : FabricText) : Type 0 where
  pub ran : RanFabric
  pub runs : IsFabricRun f ran
  pub is : bytes_of text ≡ fabric_text ran
