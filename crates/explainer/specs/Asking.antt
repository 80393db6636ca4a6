-- What the words of the command line ask for.
use Rattle.std.specs.Prelude.{ℕ, ◌==◌, List, [], ◌∷◌, Option, Some, None, if◌then◌else◌, codes}
use lib.Pointwise.{pointwise}
use Rattle.explainer.specs.declared.converting.Task.{Task}

-- one word alone
abbrev pub lone_task : List ℕ → Option Task
lone_task word =
    if pointwise ◌==◌ word (codes "to-script") then Some Task.ToScript
    else if pointwise ◌==◌ word (codes "to-text") then Some Task.ToText
    else if pointwise ◌==◌ word (codes "explain") then Some Task.Explain
    else None

-- a word before a name, which a text alone may have
abbrev pub named_task : List ℕ → Option Task
named_task word = if pointwise ◌==◌ word (codes "to-script") then Some Task.ToScript else None

abbrev pub task_asked : List (List ℕ) → Option Task
task_asked [] = None
task_asked (word ∷ []) = lone_task word
task_asked (word ∷ name ∷ []) = named_task word
task_asked (word ∷ name ∷ other ∷ words) = None

unfoldable pub no_name : List ℕ
no_name = codes "text"

abbrev pub told_name : List ℕ → List ℕ
told_name name = if pointwise ◌==◌ name (codes "-") then no_name else name

-- what faults of the text call it
abbrev pub name_asked : List (List ℕ) → List ℕ
name_asked [] = no_name
name_asked (word ∷ []) = no_name
name_asked (word ∷ name ∷ []) = told_name name
name_asked (word ∷ name ∷ other ∷ words) = no_name
