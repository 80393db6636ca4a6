-- What a program is: T are its tasks, which words ask for, and E the statuses at its end.
use Rattle.std.specs.Prelude.{◌≡◌, ◌≢◌, ℕ, List, [], Option, Some, None}
use Rattle.edge_io.specs.{declared.ends.End.End, Ends.IsDecided}

pub record Meaning (T E : Type 0) : Type 1 where
  -- it is what the words ask for, or nothing where they are refused
  pub asks : List (List ℕ) → Option T → Type 0
  -- the line on words that are refused
  pub usage : List ℕ
  -- how many bytes of input a task has at most, or nothing where none is read
  pub most : T → Option ℕ
  -- a task over this input is to end so, and to write this
  pub plan : T → List ℕ → E → List ℕ → Type 0
  -- the input is one that a task is not to refuse
  pub sound : T → List ℕ → Type 0
  -- which end a status is
  pub end : E → End

-- The task over the input is to end so, and to write this.
pub record Decides {T E : Type 0} (m : Meaning T E) (task : T) (input : List ℕ) (status : E) (printed : List ℕ) : Type 0 where
  pub plan : m.plan task input status printed
  pub decided : IsDecided (m.end status) (m.sound task input)

-- ---- what words ask for where none is taken: the one task that there is

abbrev pub asks_nothing : {T : Type 0} → List (List ℕ) → Option T → Type 0
asks_nothing words (Some task) = words ≡ []
asks_nothing words None = words ≢ []
