-- What standard input and output tell of their content.
use Rattle.std.specs.Prelude.{ℕ, List, Option, None}

-- nothing
abbrev pub told_nothing : Option (List ℕ)
told_nothing = None
