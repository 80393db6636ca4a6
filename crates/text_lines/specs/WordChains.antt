-- What was read, and what is made of it.
use Rattle.std.specs.Prelude.{Option, Some, None}

-- what comes next, where there was something
infixl 10 ◌>>?◌
abbrev pub ◌>>?◌ : {A B : Type 0} → Option A → (A → Option B) → Option B
None >>? next = None
(Some x) >>? next = next x
