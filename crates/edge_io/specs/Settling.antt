-- What comes of a task before anything is written.
use Rattle.std.specs.{Prelude.ℕ, Prelude.List, Prelude.Option, declared.result.Result.Result, declared.result.Result.TheVariants.Ok, declared.result.Result.TheVariants.Err}
use Rattle.dcd_base.specs.declared.failures.NoMemory.{NoMemory}
use Rattle.edge_io.specs.{declared.ends.Stop.Stop, Meanings.Decides, Meanings.Meaning, Runs.IsRead, Runs.IsUnread}

-- what was decided, or for want of memory nothing
abbrev pub or_stop : {A : Type 0} → Result A NoMemory → Result A Stop
or_stop (Ok decided) = Ok decided
or_stop (Err e) = Err Stop.NoMemory

-- Nothing was decided: a read failed, or memory was wanted.
abbrev pub IsStopped : Option ℕ → ℕ → ℕ → Stop → Type 0
IsStopped most reads now Stop.ReadFault = IsUnread most reads now
IsStopped most reads now Stop.NoMemory = Unit {0}
IsStopped most reads now Stop.Usage = ⊥
IsStopped most reads now Stop.WriteFault = ⊥

-- An input was read, and it ends so.
abbrev pub IsSettled : {T E : Type 0} → Meaning T E → T → Option (List ℕ) → Option (List ℕ) → E → List ℕ → Type 0
IsSettled m task left now status printed = (input : List ℕ) × IsRead (m.most task) left now input × Decides m task input status printed

-- What comes of it. Left and now are what the source has left before and after, reads and count how many reads failed.
abbrev pub Settles : {T E X : Type 0} → Meaning T E → (X → List ℕ) → T → Option (List ℕ) → Option (List ℕ) → ℕ → ℕ → Result (E × X) Stop → Type 0
Settles m bytes task left now reads count (Ok end) = IsSettled m task left now end.0 (bytes end.1)
Settles m bytes task left now reads count (Err stop) = IsStopped (m.most task) reads count stop
