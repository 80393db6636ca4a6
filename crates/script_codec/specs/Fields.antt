-- How a field is read: its value and the place behind it, or the fault that ends the reading.
use Rattle.std.specs.Prelude.{◌≡◌, ◌≢◌, ℕ, zero, suc, ◌+◌, nat_lt, List, [], ◌∷◌, length, take, drop, Result, Ok, Err, if◌then◌else◌}
use Rattle.std.specs.Int.{Width, from_le_bytes, byte_len}
use Rattle.script_codec.specs.declared.faults.ScriptFault.{ScriptFault}

-- What is read next, unless there was a fault.
infixl 10 ◌>>=◌
abbrev pub ◌>>=◌ : {A B : Type 0} → Result A ScriptFault → (A → Result B ScriptFault) → Result B ScriptFault
Ok x >>= next = next x
Err fault >>= next = Err fault

-- The call answers what the definition reads, seen by view. Memory may be wanting at any time.
abbrev pub GivesField : {A B : Type 0} → (A → B) → Result A ScriptFault → Result B ScriptFault → Type 0
GivesField view (Ok x) read = read ≡ Ok (view x)
GivesField view (Err fault) read = fault ≢ ScriptFault.NoMemory → read ≡ Err fault

-- The place behind so many bytes. Where they are not all there, the place of the fault is the number of bytes there are.
unfoldable pub skip : ℕ → List ℕ → ℕ → Result ℕ ScriptFault
skip n bytes at = if nat_lt (length bytes) (at + n) then Err (ScriptFault.Truncated (length bytes)) else Ok (at + n)

-- so many bytes from a place on
abbrev pub part : ℕ → List ℕ → ℕ → List ℕ
part n bytes at = take n (drop at bytes)

-- a number, low byte first, and the place behind it
unfoldable pub number_from : Width → List ℕ → ℕ → Result (ℕ × ℕ) ScriptFault
number_from w bytes at = do
  next ← skip (byte_len w) bytes at
  Ok (from_le_bytes w (part (byte_len w) bytes at), next)

-- so many fields of one form, and the place behind them
unfoldable pub many_from : {A : Type 0} → (List ℕ → ℕ → Result (A × ℕ) ScriptFault) → ℕ → List ℕ → ℕ → Result (List A × ℕ) ScriptFault
many_from field zero bytes at = Ok ([], at)
many_from field (suc n) bytes at = do
  first ← field bytes at
  rest ← many_from field n bytes first.1
  Ok (first.0 ∷ rest.0, rest.1)
