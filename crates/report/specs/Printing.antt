-- How a printer passes a text on to a sink, a part at a time.
use Rattle.std.specs.Prelude.{ℕ, ◌≤◌, List, ◌++◌, Option, Some, None}
use Rattle.dcd_base.specs.Streams.{HasRisen, Passes}

-- A write failed, and a front of the text was taken.
pub record IsCut (start : Option (List ℕ)) (faults : ℕ) (taken : Option (List ℕ)) (count : ℕ) (text : List ℕ) : Type 0 where
  pub risen : HasRisen faults count
  pub rest : List ℕ
  pub took : Passes start taken rest text

-- What became of a text since the sink had taken `start` and had counted `faults` faults: all of it but what waits in
-- the printer was taken; or a write failed.
abbrev pub Printed : Option (List ℕ) → ℕ → Option (List ℕ) → ℕ → Option (List ℕ) → List ℕ → Type 0
Printed start faults taken count (Some waits) text = (faults ≤ count) × Passes start taken waits text
Printed start faults taken count None text = (faults ≤ count) × IsCut start faults taken count text

-- These bytes were put behind what was put before, whatever that was. What the sink took, its count of faults and what
-- waits in the printer are given before and after.
pub record Prints (taken : Option (List ℕ)) (count : ℕ) (waits : Option (List ℕ))
    (new_taken : Option (List ℕ)) (new_count : ℕ) (new_waits : Option (List ℕ)) (bytes : List ℕ) : Type 0 where
  pub onto : (start : Option (List ℕ)) (faults : ℕ) (text : List ℕ) → Printed start faults taken count waits text
      → Printed start faults new_taken new_count new_waits (text ++ bytes)

-- The same of a sink and of what waits in the printer, before and after: what the sink took and its count of faults are read from it.
abbrev pub Puts : {K : Type 0} → (K → Option (List ℕ)) → (K → ℕ) → K → Option (List ℕ) → K → Option (List ℕ) → List ℕ → Type 0
Puts taken faults old waits new new_waits bytes = Prints (taken old) (faults old) waits (taken new) (faults new) new_waits bytes

-- more bytes wait
abbrev pub with_bytes : List ℕ → Option (List ℕ) → Option (List ℕ)
with_bytes bytes None = None
with_bytes bytes (Some waits) = Some (waits ++ bytes)

-- how many bytes a piece has; the last piece of a text may have fewer
abbrev pub piece_length : ℕ
piece_length = 4096
