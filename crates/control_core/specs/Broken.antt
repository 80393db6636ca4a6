-- The rule of a row, by what a command is drafted as.
use Rattle.std.specs.{Prelude.◌≡◌, Prelude.Option, Prelude.Some, Prelude.None, declared.result.Result.Result, declared.result.Result.TheVariants.Ok, declared.result.Result.TheVariants.Err}
use Rattle.extent_list.specs.dcd_codes.specs.declared.{refusals.Refusal.Refusal, rules.Rule.Rule}
use Rattle.device_commands.specs.declared.draft.Draft.{Draft}

-- The first broken rule of the row is the one that it was refused for, and it was drafted where there is none.
abbrev pub HasRow : Option Rule → Result Draft Refusal → Type 0
HasRow row (Ok draft) = row ≡ None
HasRow row (Err (Refusal.Broken rule)) = row ≡ Some rule
HasRow row (Err Refusal.NoMemory) = Unit {0}
