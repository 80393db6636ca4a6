-- How the entries of a journal are numbered.
use Rattle.std.specs.Prelude.{◌≡◌, ℕ, ◌+◌, ◌≤◌, List, filter, fold, if◌then◌else◌, not}
use Rattle.dcd_base.specs.declared.steps.Stamp.{Stamp}
use Rattle.journal_core.specs.{declared.acts.Act.Act, declared.entries.Entry.Entry, Entries.is_control, Merging.commands_in}

-- the commands and scrubs, in order
abbrev pub commands_of : List Entry → List Entry
commands_of journal = filter (λ (e : Entry). is_control e.act) journal

-- the loads and stores, in order
abbrev pub accesses_of : List Entry → List Entry
accesses_of journal = filter (λ (e : Entry). not (is_control e.act)) journal

-- how many loads and stores came since the last command or scrub
abbrev pub accesses_since : List Entry → ℕ
accesses_since journal = fold (λ n (e : Entry). if is_control e.act then 0 else n + 1) 0 journal

-- the stamp of the act behind these entries: commands and scrubs are numbered from 1; an access has the number of the
-- last of them, or 0, and its count is one more than that of the accesses since
abbrev pub stamp_behind : List Entry → Act → Stamp
stamp_behind before act =
    if is_control act then record { number = commands_in before + 1; count = 0 }
    else record { number = commands_in before; count = accesses_since before + 1 }

-- The entry has it.
abbrev pub IsCounted : List Entry → Entry → Type 0
IsCounted before e = e.stamp ≡ stamp_behind before e.act

-- The stamp is not later than so many commands and so many accesses since.
pub record IsReachedBy (number since : ℕ) (s : Stamp) : Type 0 where
  pub below : s.number ≤ number
  pub count : s.number ≡ number → s.count ≤ since
