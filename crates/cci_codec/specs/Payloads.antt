-- The bytes of a payload.
use Rattle.std.specs.Prelude.{ℕ, List}
use Rattle.cci_codec.specs.declared.held.Held.{Held}

-- the bytes, wherever they lie
abbrev pub held_bytes : Held → List ℕ
held_bytes (Held.Inline bytes) = bytes
held_bytes (Held.Block alloc bytes) = bytes.value
held_bytes (Held.Apart bytes) = bytes.value
