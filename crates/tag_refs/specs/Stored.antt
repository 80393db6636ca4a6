-- How the table is stored: each entry under its tag.
use Rattle.std.specs.{Prelude.◌≡◌, Prelude.ℕ, Prelude.List, Prelude.if◌then◌else◌, Prelude.map, Prelude.min, Prelude.nat_le, Map.values_of}
use Rattle.dcd_base.specs.declared.capacity.Tag.{Tag}
use Rattle.tag_refs.specs.declared.entries.TagEntry.{TagEntry}

abbrev pub stored : List TagEntry → List (Tag × TagEntry)
stored entries = map (λ e. (e.tag, e)) entries

abbrev pub IsStored : List (Tag × TagEntry) → Type 0
IsStored pairs = pairs ≡ stored (values_of pairs)

-- how many tags more can be opened without memory, by the memory for runs and the spare of the table: one or none
abbrev pub spare_with : ℕ → ℕ → ℕ
spare_with runs places = if nat_le 64 runs then min 1 places else 0
